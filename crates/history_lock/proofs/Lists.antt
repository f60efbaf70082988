-- Lists of which one element is replaced, or that are one element longer.
use Rattle.std.proofs.Common.{◌≡◌, ℕ, zero, suc, List, [], ◌∷◌, ◌++◌, set, ⊎_elim, refl, sym, subst}
use mathlib.Core.Option.{some, some-ne-none}
use lib.ListN.{get_elem?}
use Rattle.atomic_table.proofs.Lists.{at_set, at_snoc}

module _ {A : Type 0} where
  pub set_at : (l : List A) (i : ℕ) (a b : A) → get_elem? l i ≡ some a → get_elem? (set l i b) i ≡ some b
  set_at [] i a b e = absurd (some-ne-none a (sym e))
  set_at (x ∷ xs) zero a b e = refl
  set_at (x ∷ xs) (suc i) a b e = set_at xs i a b e

  pub each_set : (P : A → Type 0) (l : List A) (i : ℕ) (w : A) → P w → ((j : ℕ) (v : A) → get_elem? l j ≡ some v → P v) → (j : ℕ) (v : A) → get_elem? (set l i w) j ≡ some v → P v
  each_set P l i w mine all j v e = ⊎_elim (λ t. subst P t.1 mine) (λ t. all j v t.1) (at_set l i j w v e)

  pub each_snoc : (P : A → Type 0) (l : List A) (w : A) → P w → ((j : ℕ) (v : A) → get_elem? l j ≡ some v → P v) → (j : ℕ) (v : A) → get_elem? (l ++ w ∷ []) j ≡ some v → P v
  each_snoc P l w mine all j v e = ⊎_elim (all j v) (λ t. subst P t mine) (at_snoc l w v j e)
