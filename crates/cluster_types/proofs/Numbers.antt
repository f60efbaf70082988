-- Numbers.
use Rattle.std.proofs.Common.{◌≡◌, Bool, true, false, cond, refl, inl, inr, ℕ, ◌+◌, ◌-◌, arith, ◌<◌, ◌≤◌}
use Rattle.std.proofs.lemmas.Bool.Decides.{nat_tests}
use Rattle.std.specs.Prelude.{◌⊎◌, ◌==◌, nat_le, if◌then◌else◌}

pub above_zero : (n : ℕ) → (n == 0) ≡ false → 0 < n
above_zero n e = grind (arith, nat_tests)

pub apart : (m n : ℕ) → m < n → (n == m) ≡ false
apart m n lt = grind (arith, nat_tests, lt)

pub chosen : {A : Type 0} (b : Bool) (x y z : A) → cond b x y ≡ z → ((b ≡ true) × (x ≡ z)) ⊎ ((b ≡ false) × (y ≡ z))
chosen true x y z e = inl (refl, e)
chosen false x y z e = inr (refl, e)

pub le_from : (m n : ℕ) → nat_le m n ≡ true → m ≤ n
le_from m n is = grind (arith, nat_tests)

pub not_one : (n : ℕ) → 1 < n → (n == 1) ≡ false
not_one n lt = grind (arith, nat_tests)

pub not_zero : (n : ℕ) → 0 < n → (n == 0) ≡ false
not_zero n lt = grind (arith, nat_tests)

pub only_part : (a b : ℕ) → (a + b) - a ≡ b
only_part a b = omega arith

pub some_width : (b : Bool) (n : ℕ) → n ≡ (if b then 8 else 1) → n ≡ 0 → ⊥
some_width true n e z = omega arith
some_width false n e z = omega arith

pub swapped : (a b : ℕ) → (a == b) ≡ (b == a)
swapped a b = grind (arith, nat_tests)
