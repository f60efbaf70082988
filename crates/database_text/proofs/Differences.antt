-- Where two texts differ, and what that says of pieces of them.
use Rattle.std.proofs.Common.{◌≡◌, ℕ, suc, zero, ◌+◌, ◌≤◌, min, Bool, true, false, cond, List, [], ◌∷◌, ◌++◌, length, take, drop, refl, sym, ap, ◌∙◌, arith, inl, inr}
use Rattle.std.specs.Prelude.{◌==◌, ◌⊎◌, Option, Some, None, option_map}
use Rattle.std.proofs.lemmas.Bool.{eq-eqb, eqb-true}
use Rattle.database_text.specs.Comparison.{first_difference, end_difference}
use Rattle.cluster_types.proofs.Numbers.{chosen, swapped}

-- ---- what is in front doesn't matter

pub first_behind : (at : ℕ) (front xs ys : List ℕ) → first_difference at (front ++ xs) (front ++ ys) ≡ first_difference (at + length front) xs ys
first_behind at [] xs ys = ap (λ (n : ℕ). first_difference n xs ys) (omega arith)
first_behind at (x ∷ front) xs ys = rw (eq-eqb x x refl) (first_behind (at + 1) front xs ys ∙ ap (λ (n : ℕ). first_difference n xs ys) (omega arith))

pub end_behind : (at : ℕ) (front xs ys : List ℕ) → end_difference at (front ++ xs) (front ++ ys) ≡ end_difference (at + length front) xs ys
end_behind at [] xs ys = ap (λ (n : ℕ). end_difference n xs ys) (omega arith)
end_behind at (x ∷ front) xs ys = rw (eq-eqb x x refl) (end_behind (at + 1) front xs ys ∙ ap (λ (n : ℕ). end_difference n xs ys) (omega arith))

-- ---- either text may come first

pub first_turned : (at : ℕ) (xs ys : List ℕ) → first_difference at xs ys ≡ first_difference at ys xs
first_turned at [] [] = refl
first_turned at [] (y ∷ ys) = refl
first_turned at (x ∷ xs) [] = refl
first_turned at (x ∷ xs) (y ∷ ys) = rw (swapped x y, first_turned (at + 1) xs ys) refl

-- ---- more behind a text

-- a test that is left out where it doesn't matter
either_way : {A : Type 0} (b : Bool) (x y z w : A) → (x ≡ z → y ≡ z) → cond b x w ≡ z → cond b y w ≡ z
either_way true x y z w h e = h e
either_way false x y z w h e = e

pub first_more : (at : ℕ) (xs ys more : List ℕ) (place : ℕ) → first_difference at xs ys ≡ Some place → first_difference at (xs ++ more) ys ≡ Some place
first_more at [] ys more place e = absurd cc
first_more at (x ∷ xs) [] more place e = absurd cc
first_more at (x ∷ xs) (y ∷ ys) more place e = either_way (x == y) (first_difference (at + 1) xs ys) (first_difference (at + 1) (xs ++ more) ys) (Some place) (Some at) (first_more (at + 1) xs ys more place) e

-- ---- the place where counting begins

shifted_test : (b : Bool) (k at : ℕ) (o p : Option ℕ) → o ≡ option_map (λ n. k + n) p → cond b o (Some (k + at)) ≡ option_map (λ n. k + n) (cond b p (Some at))
shifted_test true k at o p e = e
shifted_test false k at o p e = refl

pub first_shifted : (k at : ℕ) (xs ys : List ℕ) → first_difference (k + at) xs ys ≡ option_map (λ n. k + n) (first_difference at xs ys)
first_shifted k at [] ys = refl
first_shifted k at (x ∷ xs) [] = refl
first_shifted k at (x ∷ xs) (y ∷ ys) =
    shifted_test (x == y) k at (first_difference (k + at + 1) xs ys) (first_difference (at + 1) xs ys)
    (ap (λ (n : ℕ). first_difference n xs ys) (omega arith) ∙ first_shifted k (at + 1) xs ys)

-- ---- no difference, and the same octets

pub first_none : (at : ℕ) (xs ys : List ℕ) → first_difference at xs ys ≡ None → (n : ℕ) → n ≤ length xs → n ≤ length ys → take n xs ≡ take n ys
first_none at xs ys e zero le_xs le_ys = refl
first_none at [] ys e (suc n) le_xs le_ys = absurd (omega arith)
first_none at (x ∷ xs) [] e (suc n) le_xs le_ys = absurd (omega arith)
first_none at (x ∷ xs) (y ∷ ys) e (suc n) le_xs le_ys =
    elim (chosen (x == y) (first_difference (at + 1) xs ys) (Some at) None e) [
      | inl p ↦ rw (eqb-true x y p.0, first_none (at + 1) xs ys p.1 n (omega arith) (omega arith)) refl
      | inr p ↦ absurd (let q = p.1 in cc)
    ]

pub end_first : (at : ℕ) (xs ys : List ℕ) (place : ℕ) → first_difference at xs ys ≡ Some place → end_difference at xs ys ≡ Some place
end_first at [] ys place e = absurd cc
end_first at (x ∷ xs) [] place e = absurd cc
end_first at (x ∷ xs) (y ∷ ys) place e = either_way (x == y) (first_difference (at + 1) xs ys) (end_difference (at + 1) xs ys) (Some place) (Some at) (end_first (at + 1) xs ys place) e

pub end_none : (at : ℕ) (xs ys : List ℕ) → end_difference at xs ys ≡ None → xs ≡ ys
end_none at [] [] e = refl
end_none at [] (y ∷ ys) e = absurd cc
end_none at (x ∷ xs) [] e = absurd cc
end_none at (x ∷ xs) (y ∷ ys) e =
    elim (chosen (x == y) (end_difference (at + 1) xs ys) (Some at) None e) [
      | inl p ↦ rw (eqb-true x y p.0, end_none (at + 1) xs ys p.1) refl
      | inr p ↦ absurd (let q = p.1 in cc)
    ]

pub end_same : (at : ℕ) (xs : List ℕ) → end_difference at xs xs ≡ None
end_same at [] = refl
end_same at (x ∷ xs) = rw (eq-eqb x x refl) (end_same (at + 1) xs)

-- ---- where one of the texts has ended

pub first_empty : (at : ℕ) (xs : List ℕ) → first_difference at xs [] ≡ None
first_empty at [] = refl
first_empty at (x ∷ xs) = refl

pub first_ended : (at n : ℕ) (xs ys : List ℕ) → min (length xs) (length ys) ≤ n → first_difference at (drop n xs) (drop n ys) ≡ None
first_ended at zero [] ys le = refl
first_ended at zero (x ∷ xs) [] le = refl
first_ended at zero (x ∷ xs) (y ∷ ys) le = absurd (omega arith)
first_ended at (suc n) [] ys le = refl
first_ended at (suc n) (x ∷ xs) [] le = first_empty at (drop n xs)
first_ended at (suc n) (x ∷ xs) (y ∷ ys) le = first_ended at n xs ys (omega arith)
