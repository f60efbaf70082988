-- Lists whose steps are short.
use Rattle.std.proofs.Common.{◌≡◌, ℕ, zero, suc, ◌+◌, ◌≤◌, Bool, true, false, cond, List, [], ◌∷◌, ◌++◌, length, drop, sym, ap, subst, ◌∙◌, arith, append_assoc, length-append}
use Rattle.std.specs.Prelude.{All}
use Rattle.std.proofs.lemmas.Grind.{flat_map-append}
use Rattle.std.proofs.lemmas.List.Elements.{All-nil, All-cons, All-head, All-tail}
use Rattle.cluster_types.specs.declared.entry.Entry.{Entry}
use Rattle.record_codec.specs.Spelling.{spelling}
use Rattle.record_codec.specs.Records.{spellings}
use Rattle.journal_standby.specs.Steps.{is_input, steps_from, most_in_step, IsShortStep, HasShortSteps}

size_both : (a b : List Entry) → length (spellings (a ++ b)) ≡ length (spellings a) + length (spellings b)
size_both a b = ap length (flat_map-append spelling a b) ∙ length-append (spellings a) (spellings b)

abbrev AreShort : List (List Entry) → Type 0
AreShort ss = All IsShortStep ss

-- the steps where the next entry is an input or not
abbrev next_steps : Bool → List Entry → Entry → List Entry → List (List Entry)
next_steps b step e list = cond b (step ∷ steps_from (e ∷ []) list) (steps_from (step ++ e ∷ []) list)

-- all of a list is short, and so is each step
short_from : (step list : List Entry) → length (spellings (step ++ list)) ≤ most_in_step → AreShort (steps_from step list)
short_from step [] le =
    let size = size_both step [] in
    All-cons IsShortStep step [] (omega (arith, size, le)) (All-nil IsShortStep)
short_from step (e ∷ list) le =
    let size = size_both step (e ∷ list) in
    let more = short_from (step ++ e ∷ []) list (subst (λ (es : List Entry). length (spellings es) ≤ most_in_step) (sym (append_assoc step (e ∷ []) list)) le) in
    let behind = short_from (e ∷ []) list (omega (arith, size, le)) in
    let first : IsShortStep step = omega (arith, size, le) in
    elim (is_input e) as (λ b. AreShort (next_steps b step e list)) [
      | true ↦ All-cons IsShortStep step (steps_from (e ∷ []) list) first behind
      | false ↦ more
    ]

pub short_list : (list : List Entry) → length (spellings list) ≤ most_in_step → HasShortSteps list
short_list [] le = All-nil IsShortStep
short_list (e ∷ list) le = short_from (e ∷ []) list le

-- a first step with one entry less
lighter : (e : Entry) (step : List Entry) → IsShortStep (e ∷ step) → IsShortStep step
lighter e step le = let size = size_both (e ∷ []) step in omega (arith, size, le)

lighter_from : (e : Entry) (step list : List Entry) → AreShort (steps_from (e ∷ step) list) → AreShort (steps_from step list)
lighter_from e step [] all = All-cons IsShortStep step [] (lighter e step (All-head IsShortStep (e ∷ step) [] all)) (All-nil IsShortStep)
lighter_from e step (d ∷ list) all =
    (elim (is_input d) as (λ b. AreShort (next_steps b (e ∷ step) d list) → AreShort (next_steps b step d list)) [
      | true ↦ λ whole. All-cons IsShortStep step (steps_from (d ∷ []) list) (lighter e step (All-head IsShortStep (e ∷ step) (steps_from (d ∷ []) list) whole)) (All-tail IsShortStep (e ∷ step) (steps_from (d ∷ []) list) whole)
      | false ↦ λ whole. lighter_from e (step ++ d ∷ []) list whole
    ]) all

one_less : (e : Entry) (list : List Entry) → HasShortSteps (e ∷ list) → HasShortSteps list
one_less e [] all = All-nil IsShortStep
one_less e (d ∷ list) all =
    (elim (is_input d) as (λ b. AreShort (next_steps b (e ∷ []) d list) → AreShort (steps_from (d ∷ []) list)) [
      | true ↦ λ whole. All-tail IsShortStep (e ∷ []) (steps_from (d ∷ []) list) whole
      | false ↦ λ whole. lighter_from e (d ∷ []) list whole
    ]) all

-- what is left of a list behind some of its entries
pub short_left : (n : ℕ) (list : List Entry) → HasShortSteps list → HasShortSteps (drop n list)
short_left zero list all = all
short_left (suc n) [] all = all
short_left (suc n) (e ∷ list) all = short_left n list (one_less e list all)
