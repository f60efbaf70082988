-- What is within the limits of records: each due decision, and so all of a history whose inputs are.
use Rattle.std.proofs.Common.{◌≡◌, ℕ, zero, suc, ◌≤◌, List, [], ◌∷◌, ◌++◌, length, Bool, true, false, cond, refl, sym, ap, ◌∙◌, subst, arith, Some, None}
use Rattle.std.specs.Prelude.{All, find}
use Rattle.std.specs.List.{AllByRecursion as Each}
use Rattle.std.proofs.lemmas.List.Elements.{All-from_recursion, recursion_from_All}
use Rattle.cluster_types.specs.declared.entry.Input.{Input as InputType}
use Rattle.cluster_types.specs.declared.entry.Entry.{Entry}
use Rattle.cluster_types.specs.declared.entry.Entry.TheVariants.{Input, Hand, Settle, Lose}
use Rattle.cluster_defs.specs.Scheduling.{due, is_kept, open_work}
use Rattle.cluster_defs.specs.Histories.{History, facts, Legal, kept, go_on, decided, decide_all}
use Rattle.cluster_defs.specs.Runs.{Decided}
use Rattle.cluster_defs.proofs.Says.{due_says}
use Rattle.cluster_core.specs.Steps.{kept_from, kept_one}
use Rattle.cluster_core.proofs.Growing.{kept_more, kept_first}
use Rattle.record_codec.specs.Spelling.{IsName, IsWithinLimits}
use Rattle.cluster_store.specs.Records.{InputFits}
use Rattle.cluster_store.proofs.Names.{each_append, each_names}

found_fits : {X : Type 0} (P : X → Type 0) (test : X → Bool) (xs : List X) (x : X) → Each P xs → find test xs ≡ Some x → P x
found_fits P test [] x all is = cc
found_fits {X} P test (y ∷ ys) x all is =
    (elim (test y) as (λ b. cond b (Some y) (find test ys) ≡ Some x → P x) [
      | true ↦ λ e. let same : y ≡ x = cc in subst P same all.0
      | false ↦ λ e. found_fits P test ys x all.1 e
    ]) is

pub due_fits : (history : History) (d : Entry) → due (facts history) ≡ Some d → IsWithinLimits d
due_fits history (Lose n) is = tt
due_fits history (Input input) is = absurd (due_says (facts history) (Input input) is)
due_fits history (Hand id n) is =
    let says = due_says (facts history) (Hand id n) is in
    found_fits IsName says.listed.test (facts history).known id (each_names history) says.listed.found
due_fits history (Settle id v c) is =
    let says = due_says (facts history) (Settle id v c) is in
    found_fits IsName says.listed.test (facts history).known id (each_names history) says.listed.found

one_fits : (older : History) (e : Entry) → Legal (e ∷ older) → InputFits e → IsWithinLimits e
one_fits older (Input input) legal fits = fits
one_fits older (Hand id n) legal fits = due_fits older (Hand id n) legal.0
one_fits older (Settle id v c) legal fits = due_fits older (Settle id v c) legal.0
one_fits older (Lose n) legal fits = tt

each_fits : (history : History) → Legal history → Each InputFits history → Each IsWithinLimits history
each_fits [] legal fits = tt
each_fits (e ∷ older) legal fits = (one_fits older e legal fits.0, each_fits older legal.1 fits.1)

pub legal_fits : (history : History) → Legal history → All InputFits history → All IsWithinLimits history
legal_fits history legal fits = All-from_recursion IsWithinLimits history (each_fits history legal (recursion_from_All InputFits history fits))

kept_of : (b : Bool) (e : Entry) (rest : List Entry) → IsWithinLimits e → Each IsWithinLimits rest → Each IsWithinLimits (cond b (e ∷ rest) rest)
kept_of true e rest h all = (h, all)
kept_of false e rest h all = all

each_kept : (history : History) → Each IsWithinLimits history → Each IsWithinLimits (kept history)
each_kept [] all = tt
each_kept (e ∷ older) all = kept_of (is_kept (facts older) e) e (kept older) all.0 (each_kept older all.1)

pub kept_fits : (history : History) → Legal history → All InputFits history → All IsWithinLimits (kept history)
kept_fits history legal fits =
    All-from_recursion IsWithinLimits (kept history) (each_kept history (each_fits history legal (recursion_from_All InputFits history fits)))

-- ALL DECISIONS

-- a history with the decisions that were due after it
pub record DecidesTo (old new : History) : Type 0 where
  pub decisions : List Entry
  pub appended : new ≡ decisions ++ old
  pub each_due : Decided old decisions

one_more : (old new : History) (d : Entry) → due (facts old) ≡ Some d → DecidesTo (d ∷ old) new → DecidesTo old new
one_more old new d is rest = record {
  decisions = rest.decisions ++ d ∷ [];
  appended = rest.appended ∙ sym (append_one rest.decisions d old);
  each_due = below rest.decisions rest.each_due;
}
  where
    append_one : (xs : List Entry) (x : Entry) (ys : List Entry) → (xs ++ x ∷ []) ++ ys ≡ xs ++ x ∷ ys
    append_one [] x ys = refl
    append_one (z ∷ xs) x ys = ap (λ (zs : List Entry). z ∷ zs) (append_one xs x ys)

    below : (ds : List Entry) → Decided (d ∷ old) ds → Decided old (ds ++ d ∷ [])
    below [] each = (is, tt)
    below (e ∷ ds) each = (subst (λ h. due (facts h) ≡ Some e) (sym (append_one ds d old)) each.0, below ds each.1)

decided_to : (n : ℕ) (h : History) → DecidesTo h (decided n h)
decided_to zero h = record { decisions = []; appended = refl; each_due = tt }
decided_to (suc n) h =
    elim (due (facts h)) as (λ o. due (facts h) ≡ o → DecidesTo h (go_on h o (decided n))) [
      | None ↦ λ is. record { decisions = []; appended = refl; each_due = tt }
      | (Some d) ↦ λ is. one_more h (decided n (d ∷ h)) d is (decided_to n (d ∷ h))
    ] refl

pub decides_to : (h : History) → DecidesTo h (decide_all h)
unfolding decide_all
decides_to h = decided_to (open_work (facts h)) h

one_kept : (b : Bool) (e : Entry) → IsWithinLimits e → Each IsWithinLimits (kept_one b e)
one_kept true e h = (h, tt)
one_kept false e h = tt

pub length_more : (ds : List Entry) (h : History) → length h ≤ length (ds ++ h)
length_more [] h = omega arith
length_more (d ∷ ds) h = let le = length_more ds h in omega (arith, le)

step_kept : (input : InputType) (h : History) (ds : List Entry) → Decided (Input input ∷ h) ds → IsWithinLimits (Input input) → Each IsWithinLimits (kept_from (length h) (ds ++ Input input ∷ h))
step_kept input h [] each fits = subst (Each IsWithinLimits) (sym (kept_first (Input input) h)) (one_kept (is_kept (facts h) (Input input)) (Input input) fits)
step_kept input h (d ∷ ds) each fits =
    let below = ds ++ Input input ∷ h in
    let le : length h ≤ length below = let more = length_more ds (Input input ∷ h) in omega (arith, more) in
    subst (Each IsWithinLimits) (sym (kept_more (length h) d below le))
    (each_append IsWithinLimits (kept_from (length h) below) (kept_one (is_kept (facts below) d) d) (step_kept input h ds each.1 fits) (one_kept (is_kept (facts below) d) d (due_fits below d each.0)))

pub step_fits : (h : History) (input : InputType) → IsWithinLimits (Input input) → All IsWithinLimits (kept_from (length h) (decide_all (Input input ∷ h)))
step_fits h input fits =
    let to = decides_to (Input input ∷ h) in
    All-from_recursion IsWithinLimits (kept_from (length h) (decide_all (Input input ∷ h)))
    (subst (λ new. Each IsWithinLimits (kept_from (length h) new)) (sym to.appended) (step_kept input h to.decisions to.each_due fits))
