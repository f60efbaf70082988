-- Counts after a change of one.
use Rattle.std.proofs.Common.{◌≡◌, ap, ℕ, zero, suc, ◌<◌, List, [], ◌∷◌, ◌++◌, length, set, cond, true, false, refl, subst, arith}
use Rattle.std.specs.Prelude.{◌==◌}
use Rattle.std.proofs.lemmas.Bool.{both_ways, eqb-true, eq-eqb}
use Rattle.place_sets.specs.Counts.{count_of}

-- a count of none at the end
pub none_more : (cs : List ℕ) (n : ℕ) → count_of (cs ++ 0 ∷ []) n ≡ count_of cs n
none_more [] zero = refl
none_more [] (suc n) = refl
none_more (c ∷ cs) zero = refl
none_more (c ∷ cs) (suc n) = none_more cs n

set_here : (cs : List ℕ) (p v : ℕ) → p < length cs → count_of (set cs p v) p ≡ v
set_here [] p v lt = absurd (omega arith)
set_here (c ∷ cs) zero v lt = refl
set_here (c ∷ cs) (suc p) v lt = set_here cs p v (omega arith)

set_other : (cs : List ℕ) (p v n : ℕ) → (p ≡ n → ⊥) → count_of (set cs p v) n ≡ count_of cs n
set_other [] p v n other = refl
set_other (c ∷ cs) zero v zero other = absurd (other refl)
set_other (c ∷ cs) zero v (suc n) other = refl
set_other (c ∷ cs) (suc p) v zero other = refl
set_other (c ∷ cs) (suc p) v (suc n) other = set_other cs p v n (λ e. other (ap suc e))

pub set_there : (cs : List ℕ) (p v : ℕ) → p < length cs → (n : ℕ) → count_of (set cs p v) n ≡ cond (p == n) v (count_of cs n)
set_there cs p v lt n =
    elim (p == n) as (λ b. (p == n) ≡ b → count_of (set cs p v) n ≡ cond b v (count_of cs n)) [
      | true ↦ λ on. subst (λ k. count_of (set cs p v) k ≡ v) (eqb-true p n on) (set_here cs p v lt)
      | false ↦ λ off. set_other cs p v n (λ e. both_ways (p == n) off (eq-eqb p n e))
    ] refl
