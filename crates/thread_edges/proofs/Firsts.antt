-- The first of a list, where there is one.
use Rattle.std.proofs.Common.{◌≡◌, ◌++◌, ◌∷◌, [], List, length, drop, Option, Some, None, MatchOption, All, arith, subst, refl, ap}
use Rattle.std.specs.Option.{option_to_list}

-- what was taken off the front of a list meets what all of the list does, and nothing was taken where it was empty
pub first_of : {A : Type 0} (P : A → Type 0) (taken : Option A) (old new : List A) → old ≡ option_to_list taken ++ new → All P old → new ≡ drop 1 old → MatchOption taken (old ≡ []) P
first_of P None [] new e h rest = refl
first_of P None (x ∷ xs) new e h rest = let a = ap length e in let b = ap length rest in absurd (omega (arith, a, b))
first_of P (Some a) old new e h rest = (subst (λ list. All P list) e h) 0 a (omega arith)
