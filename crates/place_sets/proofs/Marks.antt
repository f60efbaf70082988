-- Marks after one is set.
use Rattle.std.proofs.Common.{◌≡◌, ap, ℕ, zero, suc, ◌<◌, List, [], ◌∷◌, ◌++◌, ◌||◌, length, set, Bool, true, false, refl, subst, arith}
use Rattle.std.specs.Prelude.{◌==◌}
use Rattle.std.proofs.lemmas.Bool.{both_ways, eqb-true, eq-eqb}
use Rattle.place_sets.specs.Flags.{is_set}

-- none more at the end
pub none_more : (fs : List Bool) (n : ℕ) → is_set (fs ++ false ∷ []) n ≡ is_set fs n
none_more [] zero = refl
none_more [] (suc n) = refl
none_more (f ∷ fs) zero = refl
none_more (f ∷ fs) (suc n) = none_more fs n

set_here : (fs : List Bool) (p : ℕ) → p < length fs → is_set (set fs p true) p ≡ true
set_here [] p lt = absurd (omega arith)
set_here (f ∷ fs) zero lt = refl
set_here (f ∷ fs) (suc p) lt = set_here fs p (omega arith)

set_other : (fs : List Bool) (p n : ℕ) → (p ≡ n → ⊥) → is_set (set fs p true) n ≡ is_set fs n
set_other [] p n other = refl
set_other (f ∷ fs) zero zero other = absurd (other refl)
set_other (f ∷ fs) zero (suc n) other = refl
set_other (f ∷ fs) (suc p) zero other = refl
set_other (f ∷ fs) (suc p) (suc n) other = set_other fs p n (λ e. other (ap suc e))

pub set_there : (fs : List Bool) (p : ℕ) → p < length fs → (n : ℕ) → is_set (set fs p true) n ≡ (p == n || is_set fs n)
set_there fs p lt n =
    elim (p == n) as (λ b. (p == n) ≡ b → is_set (set fs p true) n ≡ (b || is_set fs n)) [
      | true ↦ λ on. subst (λ k. is_set (set fs p true) k ≡ true) (eqb-true p n on) (set_here fs p lt)
      | false ↦ λ off. set_other fs p n (λ e. both_ways (p == n) off (eq-eqb p n e))
    ] refl
