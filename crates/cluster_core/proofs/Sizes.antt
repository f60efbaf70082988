-- The size of what came since the last Open, entry by entry.
use Rattle.std.proofs.Common.{◌≡◌, ℕ, zero, suc, ◌+◌, ◌-◌, ◌^◌, ◌==◌, min, List, [], ◌∷◌, ◌++◌, length, true, false, refl, sym, ap, ◌∙◌, arith, Option, Some, None, reverse}
use Rattle.std.specs.Prelude.{sum_by}
use Rattle.std.proofs.lemmas.Bool.{le-ltb, ne_eqb}
use Rattle.std.proofs.lemmas.List.{reverse-append, append_assoc}
use Rattle.std.proofs.lemmas.List.Sums.{sum_by-cons}
use Rattle.cluster_types.specs.declared.entry.Input.{Input as InputType}
use Rattle.cluster_types.specs.declared.entry.Input.TheVariants.{Open, Up, Down, In, Beat, Time}
use Rattle.cluster_types.specs.declared.entry.Entry.{Entry}
use Rattle.cluster_types.specs.declared.entry.Entry.TheVariants.{Input, Hand, Settle, Lose}
use Rattle.record_codec.specs.Sizes.{record_size}
use Rattle.cluster_defs.specs.Scheduling.{due, open_work}
use Rattle.cluster_defs.specs.Histories.{History, facts, go_on, decided, decide_all}
use Rattle.cluster_defs.specs.Lives.{is_open}
use Rattle.cluster_defs.proofs.Says.{due_says}
use Rattle.cluster_core.specs.declared.size.HistorySize.{HistorySize}
use Rattle.cluster_core.specs.Steps.{CoreView, PlanView, planned, IsPlan}
use Rattle.cluster_core.specs.Size.{is_past, next_since, since_open, capped, size_since}
use Rattle.cluster_core.specs.Growth.{nothing_more, with_record, size_next, sizes_next}

saturated : (a b : ℕ) → capped (capped a + b) ≡ capped (a + b)
saturated a b = omega arith

abbrev size_of : List Entry → HistorySize
size_of since = record { entries = capped (length since); bytes = capped (sum_by record_size since) }

one_more : (e : Entry) (since : List Entry) → size_of (e ∷ since) ≡ with_record (size_of since) (record_size e)
one_more e since =
    let count : capped (length (e ∷ since)) ≡ capped (capped (length since) + 1) = omega arith in
    let sum : sum_by record_size (e ∷ since) ≡ record_size e + sum_by record_size since = sum_by-cons record_size e since in
    let bytes : capped (sum_by record_size (e ∷ since)) ≡ capped (capped (sum_by record_size since) + record_size e) = omega (arith, sum) in
    ap (λ n. record { entries = n; bytes = capped (sum_by record_size (e ∷ since)) }) count ∙ ap (λ n. record { entries = capped (capped (length since) + 1); bytes = n }) bytes

-- what comes behind an input counts
counted : (e : Entry) (since : List Entry) → (capped (length (e ∷ since)) == 0) ≡ false
counted e since = ne_eqb (capped (length (e ∷ since))) 0 (λ none. omega (arith, none))

pub next_is : (h : History) (e : Entry) → size_since (e ∷ h) ≡ size_next (size_since h) e
next_is h (Input (Open moment scheme hwm misses)) = refl
next_is h (Input (Up conn channel moment word identity)) = one_more (Input (Up conn channel moment word identity)) (since_open h)
next_is h (Input (Down conn moment word)) = one_more (Input (Down conn moment word)) (since_open h)
next_is h (Input (In conn moment word m)) = one_more (Input (In conn moment word m)) (since_open h)
next_is h (Input (Beat moment word)) = one_more (Input (Beat moment word)) (since_open h)
next_is h (Input (Time moment word)) = one_more (Input (Time moment word)) (since_open h)
next_is h (Hand id n) = by (since_open h)
  where
    by : (since : List Entry) → size_of (next_since (Hand id n) since) ≡ size_next (size_of since) (Hand id n)
    by [] = refl
    by (e ∷ since) = rw (counted e since) (one_more (Hand id n) (e ∷ since))
next_is h (Settle id v c) = by (since_open h)
  where
    by : (since : List Entry) → size_of (next_since (Settle id v c) since) ≡ size_next (size_of since) (Settle id v c)
    by [] = refl
    by (e ∷ since) = rw (counted e since) (one_more (Settle id v c) (e ∷ since))
next_is h (Lose n) = by (since_open h)
  where
    by : (since : List Entry) → size_of (next_since (Lose n) since) ≡ size_next (size_of since) (Lose n)
    by [] = refl
    by (e ∷ since) = rw (counted e since) (one_more (Lose n) (e ∷ since))

-- entries one after another
pub sizes_are : (h : History) (es : List Entry) → sizes_next (size_since h) es ≡ size_since (reverse es ++ h)
sizes_are h [] = refl
sizes_are h (e ∷ es) =
    let turned : reverse (e ∷ es) ++ h ≡ reverse es ++ e ∷ h = ap (λ (xs : List Entry). xs ++ h) (reverse-append (e ∷ []) es) ∙ append_assoc (reverse es) (e ∷ []) h in
    ap (λ s. sizes_next s es) (sym (next_is h e)) ∙ sizes_are (e ∷ h) es ∙ ap size_since (sym turned)

-- the size behind a plan
pub planned_size : (old : History) (p : PlanView) → sizes_next (size_next (size_since old) (Input p.input)) p.decisions ≡ size_since (planned old p)
planned_size old p = ap (λ s. sizes_next s p.decisions) (sym (next_is old (Input p.input))) ∙ sizes_are (Input p.input ∷ old) p.decisions

-- the size behind a plan for a core is that behind the whole step
pub step_size : (core : CoreView) (p : PlanView) (input : InputType) → IsPlan core p → p.input ≡ input →
    sizes_next (size_next (size_since core.history) (Input p.input)) p.decisions ≡ size_since (decide_all (Input input ∷ core.history))
step_size core p input plan same = planned_size core.history p ∙ ap size_since (plan.all ∙ ap (λ (i : InputType). decide_all (Input i ∷ core.history)) same)

-- AN OPEN AND ITS DECISIONS COUNT NOTHING

none_since : (h : History) (d : Entry) → due (facts h) ≡ Some d → since_open h ≡ [] → since_open (d ∷ h) ≡ []
none_since h (Input input) is none = absurd (due_says (facts h) (Input input) is)
none_since h (Hand id n) is none = ap (next_since (Hand id n)) none
none_since h (Settle id v c) is none = ap (next_since (Settle id v c)) none
none_since h (Lose n) is none = ap (next_since (Lose n)) none

none_decided : (n : ℕ) (h : History) → since_open h ≡ [] → since_open (decided n h) ≡ []
none_decided zero h none = none
none_decided (suc n) h none =
    elim (due (facts h)) as (λ o. due (facts h) ≡ o → since_open (go_on h o (decided n)) ≡ []) [
      | None ↦ λ is. none
      | (Some d) ↦ λ is. none_decided n (d ∷ h) (none_since h d is none)
    ] refl

begins_anew : (h : History) (input : InputType) → is_open (Input input) ≡ true → since_open (Input input ∷ h) ≡ []
begins_anew h (Open moment scheme hwm misses) is = refl
begins_anew h (Up conn channel moment word identity) is = absurd cc
begins_anew h (Down conn moment word) is = absurd cc
begins_anew h (In conn moment word m) is = absurd cc
begins_anew h (Beat moment word) is = absurd cc
begins_anew h (Time moment word) is = absurd cc

pub opened_size : (h : History) (input : InputType) → is_open (Input input) ≡ true → size_since (decide_all (Input input ∷ h)) ≡ nothing_more
unfolding decide_all
opened_size h input is = ap size_of (none_decided (open_work (facts (Input input ∷ h))) (Input input ∷ h) (begins_anew h input is))

-- so an Open passes no limit
pub opened_fits : (h : History) (input : InputType) (limit : HistorySize) → is_open (Input input) ≡ true → is_past limit (size_since (decide_all (Input input ∷ h))) ≡ false
opened_fits h input limit is = ap (is_past limit) (opened_size h input is) ∙ none_past limit
  where
    none_past : (l : HistorySize) → is_past l nothing_more ≡ false
    none_past l = rw (le-ltb l.entries 0 (omega arith), le-ltb l.bytes 0 (omega arith)) refl
