-- One more copy.
use Rattle.std.proofs.Common.{◌≡◌, ◌+◌, ℕ, List, [], ◌∷◌, ◌++◌, length, suc, ap, ◌∙◌, arith}
use Rattle.cluster_defs.specs.Texts.{resubmit_id}
use Rattle.cluster_defs.specs.Words.{Id}
use Rattle.cluster_defs.specs.Purges.{Copy, copies_from}

abbrev pub copied : Id → ℕ → Copy
copied old number = record { old = old; new = resubmit_id number }

pub copies_more : (number : ℕ) (xs : List Id) (x : Id) → copies_from number (xs ++ x ∷ []) ≡ copies_from number xs ++ copied x (number + length xs) ∷ []
copies_more number [] x = let same : number ≡ number + 0 = omega arith in ap (λ n. copied x n ∷ []) same
copies_more number (y ∷ xs) x =
    let same : (number + 1) + length xs ≡ number + suc (length xs) = omega arith in
    ap (λ z. copied y number ∷ z) (copies_more (number + 1) xs x ∙ ap (λ n. copies_from (number + 1) xs ++ copied x n ∷ []) same)
