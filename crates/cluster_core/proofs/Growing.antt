-- How a plan grows by an entry.
use Rattle.std.proofs.Common.{◌≡◌, ℕ, suc, ◌+◌, ◌<◌, ◌≤◌, List, [], ◌∷◌, ◌++◌, length, true, false, Bool, cond, refl, sym, ap, subst, ◌∙◌, arith, Option, Some, None, reverse}
use Rattle.std.specs.Prelude.{nat_lt}
use Rattle.std.proofs.lemmas.Bool.{le-ltb, lt-ltb}
use Rattle.std.proofs.lemmas.List.{length-append, reverse-append}
use Rattle.cluster_types.specs.declared.event.Event.{Event}
use Rattle.cluster_types.specs.declared.entry.Input.TheVariants.{Open, Up, Down, In, Beat, Time}
use Rattle.cluster_types.specs.declared.entry.Input.{Input as InputType}
use Rattle.cluster_types.specs.declared.entry.Entry.{Entry}
use Rattle.cluster_types.specs.declared.entry.Entry.TheVariants.{Input, Hand, Settle, Lose}
use Rattle.cluster_defs.specs.Facts.{Facts, event_in, event_on}
use Rattle.cluster_defs.specs.Steps.{changes}
use Rattle.cluster_defs.specs.Scheduling.{due, Allowed, is_kept, is_kept_as, open_work}
use Rattle.cluster_defs.specs.Histories.{History, facts, place, is_stopping, decide_all}
use Rattle.cluster_defs.specs.Outs.{outs, outs_as, outs_from}
use Rattle.cluster_defs.proofs.Decide.{decide_all_more}
use Rattle.cluster_defs.proofs.Falls.{due_falls}
use Rattle.cluster_defs.proofs.Says.{due_says}
use Rattle.cluster_state.specs.Plain.{Plain, facts_in, plain_after, InTime}
use Rattle.cluster_state.proofs.Exact.{exact}
use Rattle.cluster_state.proofs.Steps.{taken_is}
use Rattle.cluster_core.specs.More.{IsMore}
use Rattle.cluster_core.specs.Steps.{PlanView, planned, AllInTime, kept_one, kept_from, IsReadOff, IsGrown, stops_after}

-- ENTRIES

-- a due decision is no input
pub due_allowed : (f : Facts) (d : Entry) → due f ≡ Some d → Allowed f d
due_allowed f (Input input) h = absurd (due_says f (Input input) h)
due_allowed f (Hand id n) h = h
due_allowed f (Settle id v c) h = h
due_allowed f (Lose n) h = h

pub due_in_time : (f : Facts) (d : Entry) → due f ≡ Some d → InTime d
due_in_time f (Input input) h = absurd (due_says f (Input input) h)
due_in_time f (Hand id n) h = tt
due_in_time f (Settle id v c) h = tt
due_in_time f (Lose n) h = tt

pub due_no_event : (f : Facts) (d : Entry) → due f ≡ Some d → event_in f d ≡ None
due_no_event f (Input input) h = absurd (due_says f (Input input) h)
due_no_event f (Hand id n) h = refl
due_no_event f (Settle id v c) h = refl
due_no_event f (Lose n) h = refl

pub due_place : (h : History) (d : Entry) → due (facts h) ≡ Some d → place (d ∷ h) ≡ suc (place h)
due_place h (Input input) is = absurd (due_says (facts h) (Input input) is)
due_place h (Hand id n) is = refl
due_place h (Settle id v c) is = refl
due_place h (Lose n) is = refl

pub due_kept : (f : Facts) (d : Entry) → due f ≡ Some d → is_kept f d ≡ true
due_kept f (Input input) h = absurd (due_says f (Input input) h)
due_kept f (Hand id n) h = refl
due_kept f (Settle id v c) h = refl
due_kept f (Lose n) h = refl

due_stops : (h : History) (d : Entry) → due (facts h) ≡ Some d → is_stopping (d ∷ h) ≡ is_stopping h
due_stops h (Input input) is = absurd (due_says (facts h) (Input input) is)
due_stops h (Hand id n) is = refl
due_stops h (Settle id v c) is = refl
due_stops h (Lose n) is = refl

-- whether a shutdown was asked, after an input
stops_is : (h : History) (input : InputType) → is_stopping (Input input ∷ h) ≡ stops_after (is_stopping h) input (event_in (facts h) (Input input))
stops_is h (Open moment scheme hwm misses) = refl
stops_is h (Up conn channel moment word identity) = refl
stops_is h (Down conn moment word) = refl
stops_is h (In conn moment word m) = refl
stops_is h (Beat moment word) = refl
stops_is h (Time moment word) = refl

-- the last moment of a history in time is in time
noted_time : (b : Bool) (x y : ℕ) → x ≤ 253402300799999 → y ≤ 253402300799999 → cond b x y ≤ 253402300799999
noted_time true x y h k = h
noted_time false x y h k = k

pub moment_time : (h : History) → AllInTime h → (facts h).moment ≤ 253402300799999
moment_time [] time = omega arith
moment_time (Input (Open moment scheme hwm misses) ∷ older) time = time.0
moment_time (Input (Up conn channel moment word identity) ∷ older) time = time.0
moment_time (Input (Down conn moment word) ∷ older) time = time.0
moment_time (Input (In conn moment word m) ∷ older) time = noted_time (changes (facts older) conn m (event_on (facts older) conn m)) moment (facts older).moment time.0 (moment_time older time.1)
moment_time (Input (Beat moment word) ∷ older) time = time.0
moment_time (Input (Time moment word) ∷ older) time = time.0
moment_time (Hand id n ∷ older) time = moment_time older time.1
moment_time (Settle id v c ∷ older) time = moment_time older time.1
moment_time (Lose n ∷ older) time = moment_time older time.1

-- data that stand are in time
pub plain_time : (h : History) (p : Plain) (at : ℕ) → IsReadOff h p at → p.moment ≤ 253402300799999
plain_time h p at s = subst (λ (q : Plain). q.moment ≤ 253402300799999) (sym s.data_are) (moment_time h s.time)

-- an entry more
pub stands_more : (h : History) (p q : Plain) (at next_at : ℕ) (e : Entry) (event : Option Event) → IsReadOff h p at → Allowed (facts h) e → InTime e → event ≡ event_in (facts h) e →
    q ≡ plain_after (facts_in p) e event p → next_at ≡ place (e ∷ h) → IsReadOff (e ∷ h) q next_at
stands_more h p q at next_at e event s allowed time meant is placed = record {
  legal = (allowed, s.legal);
  time = (time, s.time);
  data_are = taken_is h e p q (allowed, s.legal) s.data_are (is ∙ ap (λ o. plain_after (facts_in p) e o p) meant);
  place_is = placed;
}

-- what is read of data that stand is what is read of the history
pub facts_told : (h : History) (p : Plain) (at : ℕ) → IsReadOff h p at → facts_in p ≡ facts h
facts_told h p at s = ap facts_in s.data_are ∙ exact h s.legal

-- OUTS AND KEPT ENTRIES

no_outs : (at : ℕ) (h : History) → length h ≤ at → outs_from at h ≡ []
no_outs at [] le = refl
no_outs at (e ∷ older) le =
    let lt : nat_lt (length older) at ≡ true = lt-ltb _ _ (omega arith) in rw lt refl

no_kept : (at : ℕ) (h : History) → length h ≤ at → kept_from at h ≡ []
no_kept at [] le = refl
no_kept at (e ∷ older) le =
    let lt : nat_lt (length older) at ≡ true = lt-ltb _ _ (omega arith) in rw lt refl

pub outs_more : (at : ℕ) (e : Entry) (older : History) → at ≤ length older → outs_from at (e ∷ older) ≡ outs_from at older ++ outs (e ∷ older)
outs_more at e older le =
    let off : nat_lt (length older) at ≡ false = le-ltb _ _ le in rw off refl

pub kept_more : (at : ℕ) (e : Entry) (older : History) → at ≤ length older → kept_from at (e ∷ older) ≡ kept_from at older ++ kept_one (is_kept (facts older) e) e
kept_more at e older le =
    let off : nat_lt (length older) at ≡ false = le-ltb _ _ le in rw off refl

pub outs_first : (e : Entry) (older : History) → outs_from (length older) (e ∷ older) ≡ outs (e ∷ older)
outs_first e older = outs_more (length older) e older (omega arith) ∙ ap (λ os. os ++ outs (e ∷ older)) (no_outs (length older) older (omega arith))

pub kept_first : (e : Entry) (older : History) → kept_from (length older) (e ∷ older) ≡ kept_one (is_kept (facts older) e) e
kept_first e older = kept_more (length older) e older (omega arith) ∙ ap (λ es. es ++ kept_one (is_kept (facts older) e) e) (no_kept (length older) older (omega arith))

pub planned_more : (old : History) (input : InputType) (ds : List Entry) (d : Entry) → reverse (ds ++ d ∷ []) ++ Input input ∷ old ≡ d ∷ (reverse ds ++ Input input ∷ old)
planned_more old input ds d = ap (λ (xs : List Entry). xs ++ Input input ∷ old) (reverse-append ds (d ∷ []))

planned_length : (old : History) (input : InputType) (ds : List Entry) → length old ≤ length (reverse ds ++ Input input ∷ old)
planned_length old input ds =
    let a : length (reverse ds ++ Input input ∷ old) ≡ length (reverse ds) + length (Input input ∷ old) = length-append (reverse ds) (Input input ∷ old) in
    omega (arith, a)

-- a plan with an input alone
pub grown_first : (old : History) (before : Plain) (at : ℕ) (p : PlanView) (event : Option Event) → IsReadOff old before at → Allowed (facts old) (Input p.input) → InTime (Input p.input) →
    event ≡ event_in (facts old) (Input p.input) → p.decisions ≡ [] → p.place ≡ place (Input p.input ∷ old) → p.plain ≡ plain_after (facts_in before) (Input p.input) event before →
    p.outs ≡ outs_as p.place (facts_in before) (Input p.input) event → p.kept ≡ kept_one (is_kept_as (facts_in before) (Input p.input) event) (Input p.input) →
    p.stops ≡ stops_after (is_stopping old) p.input event → IsGrown old p
grown_first old before at p event s allowed time meant none placed data_is sends keeps stops =
    let alone : planned old p ≡ Input p.input ∷ old = ap (λ (ds : List Entry). reverse ds ++ Input p.input ∷ old) none in
    let told : facts_in before ≡ facts old = facts_told old before at s in
    record {
      stands = subst (λ (h : History). IsReadOff h p.plain p.place) (sym alone) (stands_more old before p.plain at p.place (Input p.input) event s allowed time meant data_is placed);
      outs_are = sends ∙ ap (λ n. outs_as n (facts_in before) (Input p.input) event) placed ∙ ap (λ f. outs_as (place (Input p.input ∷ old)) f (Input p.input) event) told
          ∙ ap (λ o. outs_as (place (Input p.input ∷ old)) (facts old) (Input p.input) o) meant ∙ sym (outs_first (Input p.input) old) ∙ ap (outs_from (length old)) (sym alone);
      kept_are = keeps ∙ ap (λ f. kept_one (is_kept_as f (Input p.input) event) (Input p.input)) told ∙ ap (λ o. kept_one (is_kept_as (facts old) (Input p.input) o) (Input p.input)) meant
          ∙ sym (kept_first (Input p.input) old) ∙ ap (kept_from (length old)) (sym alone);
      stops_is = stops ∙ ap (stops_after (is_stopping old) p.input) meant ∙ sym (stops_is old p.input) ∙ ap is_stopping (sym alone);
    }

more_planned : (old : History) (p q : PlanView) (d : Entry) → IsMore p q d → planned old q ≡ d ∷ planned old p
more_planned old p q d more =
    ap (λ (i : InputType). reverse q.decisions ++ Input i ∷ old) more.input ∙ ap (λ (ds : List Entry). reverse ds ++ Input p.input ∷ old) more.decisions ∙ planned_more old p.input p.decisions d

pub grown_more : (old : History) (p q : PlanView) (d : Entry) → IsGrown old p → due (facts (planned old p)) ≡ Some d → IsMore p q d → IsGrown old q
grown_more old p q d g is more =
    let h = planned old p in
    let further = more_planned old p q d more in
    let le = planned_length old p.input p.decisions in
    let told : facts_in p.plain ≡ facts (planned old p) = facts_told (planned old p) p.plain p.place g.stands in
    let no_event = due_no_event (facts (planned old p)) d is in
    let placed : q.place ≡ place (d ∷ planned old p) = more.place ∙ ap suc g.stands.place_is ∙ sym (due_place (planned old p) d is) in
    record {
      stands = subst (λ (k : History). IsReadOff k q.plain q.place) (sym further)
          (stands_more (planned old p) p.plain q.plain p.place q.place d None g.stands (due_allowed (facts (planned old p)) d is) (due_in_time (facts (planned old p)) d is) (sym no_event) more.plain placed);
      outs_are = more.outs ∙ ap (λ os. os ++ outs_as q.place (facts_in p.plain) d None) g.outs_are
          ∙ ap (λ n. outs_from (length old) (planned old p) ++ outs_as n (facts_in p.plain) d None) placed
          ∙ ap (λ f. outs_from (length old) (planned old p) ++ outs_as (place (d ∷ planned old p)) f d None) told
          ∙ ap (λ o. outs_from (length old) (planned old p) ++ outs_as (place (d ∷ planned old p)) (facts (planned old p)) d o) (sym no_event)
          ∙ sym (outs_more (length old) d (planned old p) le) ∙ ap (outs_from (length old)) (sym further);
      kept_are = more.kept ∙ ap (λ es. es ++ d ∷ []) g.kept_are
          ∙ ap (λ b. kept_from (length old) (planned old p) ++ kept_one b d) (sym (due_kept (facts (planned old p)) d is))
          ∙ sym (kept_more (length old) d (planned old p) le) ∙ ap (kept_from (length old)) (sym further);
      stops_is = more.stops ∙ g.stops_is ∙ sym (due_stops (planned old p) d is) ∙ ap is_stopping (sym further);
    }

-- a decision that is due leaves the decisions that come
pub all_more : (old : History) (p q : PlanView) (d : Entry) → due (facts (planned old p)) ≡ Some d → IsMore p q d → decide_all (planned old q) ≡ decide_all (planned old p)
all_more old p q d is more = ap decide_all (more_planned old p q d more) ∙ sym (decide_all_more (planned old p) d is)

pub work_less : (old : History) (p q : PlanView) (d : Entry) → due (facts (planned old p)) ≡ Some d → IsMore p q d → open_work (facts (planned old q)) < open_work (facts (planned old p))
work_less old p q d is more = subst (λ (h : History). open_work (facts h) < open_work (facts (planned old p))) (sym (more_planned old p q d more)) (due_falls (facts (planned old p)) d is)

pub begun_is : (old : History) (p q : PlanView) (input : InputType) → p.input ≡ input → p.decisions ≡ [] → planned old q ≡ decide_all (planned old p) → planned old q ≡ decide_all (Input input ∷ old)
begun_is old p q input same none all =
    all ∙ ap (λ (ds : List Entry). decide_all (reverse ds ++ Input p.input ∷ old)) none ∙ ap (λ (i : InputType). decide_all (Input i ∷ old)) same
