-- The decisions that are due come to an end, and it does not matter how many more are allowed.
use Rattle.std.proofs.Common.{◌≡◌, ℕ, zero, suc, ◌≤◌, ◌∷◌, Option, Some, None, refl, ◌∙◌, arith}
use Rattle.cluster_types.specs.declared.entry.Entry.{Entry}
use Rattle.cluster_defs.specs.Scheduling.{due, open_work}
use Rattle.cluster_defs.specs.Histories.{History, facts, go_on, decided, decide_all}
use Rattle.cluster_defs.proofs.Falls.{due_falls}

none_below : (history : History) → open_work (facts history) ≤ 0 → (o : Option Entry) → due (facts history) ≡ o → o ≡ None
none_below history few None is = refl
none_below history few (Some d) is = let falls = due_falls (facts history) d is in absurd (omega arith)

-- two bounds that are large enough lead to the same
pub same_decided : (n m : ℕ) (history : History) → open_work (facts history) ≤ n → open_work (facts history) ≤ m → decided n history ≡ decided m history
same_decided zero zero history a b = refl
same_decided zero (suc m) history a b = rw (none_below history a (due (facts history)) refl) refl
same_decided (suc n) zero history a b = rw (none_below history b (due (facts history)) refl) refl
same_decided (suc n) (suc m) history a b =
    elim (due (facts history)) as (λ o. due (facts history) ≡ o → go_on history o (decided n) ≡ go_on history o (decided m)) [
      | None ↦ λ _. refl
      | Some d ↦ λ is. let falls = due_falls (facts history) d is in same_decided n m (d ∷ history) (omega arith) (omega arith)
    ] refl

-- one decision more makes no difference to where it ends
pub decide_all_more : (history : History) (d : Entry) → due (facts history) ≡ Some d → decide_all history ≡ decide_all (d ∷ history)
unfolding decide_all
decide_all_more history d is =
    let falls = due_falls (facts history) d is in
    let n = open_work (facts history) in
    let step : decided (suc n) history ≡ decided n (d ∷ history) = rw is refl in
    same_decided n (suc n) history (omega arith) (omega arith) ∙ step ∙ same_decided n (open_work (facts (d ∷ history))) (d ∷ history) (omega arith) (omega arith)

-- it ends where none is due
pub decide_all_none : (history : History) → due (facts history) ≡ None → decide_all history ≡ history
unfolding decide_all
decide_all_none history none =
    let step : decided (suc (open_work (facts history))) history ≡ history = rw none refl in
    same_decided (open_work (facts history)) (suc (open_work (facts history))) history (omega arith) (omega arith) ∙ step
