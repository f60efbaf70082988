-- What a plan needs of its input and of its next decision.
use Rattle.std.proofs.Common.{◌≡◌, ◌∙◌, ◌+◌, ◌≤◌, ◌++◌, ◌∷◌, ℕ, List, [], length, reverse, Bool, true, false, suc, arith, refl, sym, ap, subst, Option, Some, None}
use Rattle.std.specs.Prelude.{nat_lt}
use Rattle.std.proofs.lemmas.Bool.{ltb-false}
use Rattle.cluster_types.specs.declared.event.Event.{Event}
use Rattle.cluster_types.specs.declared.entry.Input.{Input as InputType}
use Rattle.cluster_types.specs.declared.entry.Entry.{Entry}
use Rattle.cluster_types.specs.declared.entry.Entry.TheVariants.{Input}
use Rattle.cluster_defs.specs.Facts.{event_in}
use Rattle.cluster_defs.specs.Scheduling.{due, Allowed, is_kept, is_kept_as}
use Rattle.cluster_defs.specs.Histories.{History, facts, is_stopping}
use Rattle.cluster_defs.specs.Outs.{outs_as}
use Rattle.cluster_laws.proofs.Kept.{not_kept_same}
use Rattle.entry_outs.specs.Reached.{IsNext}
use Rattle.cluster_state.specs.Plain.{Plain, InTime, facts_in, plain_after}
use Rattle.cluster_core.specs.Steps.{PlanView, IsReadOff, planned, IsGrown, RestsUnkept, kept_one, stops_after, entry_place}
use Rattle.cluster_core.proofs.Growing.{due_allowed, due_in_time, due_place, plain_time, grown_first, facts_told}
use Rattle.cluster_core.proofs.Plans.{place_is}

pub next_is : (old : History) (p : PlanView) (d : Entry) → IsGrown old p → due (facts (planned old p)) ≡ Some d → IsNext p.plain d
next_is old p d g is = record {
  history = planned old p;
  legal = (due_allowed (facts (planned old p)) d is, g.stands.legal);
  is = g.stands.data_are;
}

pub next_time : (old : History) (p : PlanView) (d : Entry) → due (facts (planned old p)) ≡ Some d → InTime d
next_time old p d is = due_in_time (facts (planned old p)) d is

pub now_time : (old : History) (p : PlanView) → IsGrown old p → p.plain.moment ≤ 253402300799999
now_time old p g = plain_time (planned old p) p.plain p.place g.stands

pub next_place : (old : History) (p : PlanView) (d : Entry) → IsGrown old p → due (facts (planned old p)) ≡ Some d → entry_place d p.place ≡ p.place + 1
next_place old p d g is =
    let one : suc p.place ≡ p.place + 1 = omega arith in
    ap (entry_place d) g.stands.place_is ∙ sym (place_is (planned old p) d) ∙ due_place (planned old p) d is ∙ ap suc (sym g.stands.place_is) ∙ one

-- a plan that has an input alone
pub record Begun (old : History) (before : Plain) (at : ℕ) (p : PlanView) (input : InputType) (event : Option Event) : Type 0 where
  pub allowed : Allowed (facts old) (Input input)
  pub time : InTime (Input input)
  pub event_is : event ≡ event_in (facts old) (Input input)
  pub alone : p.decisions ≡ []
  pub place : p.place ≡ entry_place (Input input) at
  pub plain : p.plain ≡ plain_after (facts_in before) (Input input) event before
  pub outs : p.outs ≡ outs_as p.place (facts_in before) (Input input) event
  pub kept : p.kept ≡ kept_one (is_kept_as (facts_in before) (Input input) event) (Input input)
  pub stops : p.stops ≡ stops_after (is_stopping old) input event

grown_begun : (old : History) (before : Plain) (at : ℕ) (p : PlanView) (input : InputType) (event : Option Event) → IsReadOff old before at → p.input ≡ input → Begun old before at p input event → IsGrown old p
grown_begun old before at p input event s same begun =
    let b : Begun old before at p p.input event = subst (λ (i : InputType). Begun old before at p i event) (sym same) begun in
    grown_first old before at p event s b.allowed b.time b.event_is b.alone (b.place ∙ ap (entry_place (Input p.input)) s.place_is ∙ sym (place_is old (Input p.input))) b.plain b.outs b.kept b.stops

off_at : (b : Bool) (e : Entry) → kept_one b e ≡ [] → b ≡ false
off_at true e is = cc
off_at false e is = refl

-- an input that isn't kept changes nothing, and no decision was due before it
rests_begun : (old : History) (before : Plain) (at : ℕ) (p : PlanView) (input : InputType) (event : Option Event) → IsReadOff old before at → p.input ≡ input → Begun old before at p input event →
    p.kept ≡ [] → due (facts (planned old p)) ≡ None
rests_begun old before at p input event s same begun none =
    let f = facts old in
    let kept_is : p.kept ≡ kept_one (is_kept f (Input input)) (Input input) =
    begun.kept
    ∙ ap (λ g. kept_one (is_kept_as g (Input input) event) (Input input)) (facts_told old before at s)
    ∙ ap (λ o. kept_one (is_kept_as f (Input input) o) (Input input)) begun.event_is in
    let off : is_kept f (Input input) ≡ false = off_at (is_kept f (Input input)) (Input input) (sym kept_is ∙ none) in
    let shape : planned old p ≡ Input input ∷ old =
    ap (λ (ds : List Entry). reverse ds ++ Input p.input ∷ old) begun.alone ∙ ap (λ (i : InputType). Input i ∷ old) same in
    ap (λ (h : History). due (facts h)) shape ∙ ap due (not_kept_same f (Input input) off) ∙ begun.allowed.0

pub begun_rests : (old : History) (before : Plain) (at : ℕ) (p : PlanView) (input : InputType) (event : Option Event) → IsReadOff old before at → p.input ≡ input → Begun old before at p input event → RestsUnkept old p
begun_rests old before at p input event s same begun =
    record { grown = grown_begun old before at p input event s same begun; rests = rests_begun old before at p input event s same begun }

-- what keeps nothing rests
pub nothing_kept : (p : PlanView) → nat_lt 0 (length p.kept) ≡ false → p.kept ≡ []
nothing_kept p off = empty p.kept off
  where
    empty : (es : List Entry) → nat_lt 0 (length es) ≡ false → es ≡ []
    empty [] h = refl
    empty (e ∷ es) h = absurd (let le = ltb-false 0 (suc (length es)) h in omega (arith, le))
