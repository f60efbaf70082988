-- The value of digits, digit by digit.
use Rattle.std.proofs.Common.{◌≡◌, ℕ, ◌+◌, ◌*◌, ◌^◌, ◌<◌, ◌≤◌, min, true, false, cond, List, [], ◌∷◌, ◌++◌, refl, sym, ap, ◌∙◌, arith, inl, inr}
use Rattle.std.specs.Prelude.{nat_lt}
use Rattle.std.proofs.lemmas.Bool.{cases_lt}
use Rattle.arith_syntax.specs.declared.token.Token.TheVariants.{Number, TooLarge}
use Rattle.arith_syntax.specs.Lexical.{digit_value, value_after, number}

pub value_after_more : (base n : ℕ) (xs : List ℕ) (c : ℕ) → value_after base n (xs ++ c ∷ []) ≡ value_after base n xs * base + digit_value c
value_after_more base n [] c = refl
value_after_more base n (x ∷ xs) c = value_after_more base (n * base + digit_value x) xs c

times_least : (v base : ℕ) → 1 ≤ base → v ≤ v * base
times_least v base h = grind arith

pub value_step : (base v d cap : ℕ) → 1 ≤ base → min (min v cap * base + d) cap ≡ min (v * base + d) cap
value_step base v d cap h =
    elim (cases_lt v cap) [
      | inl lt ↦ let e : min v cap ≡ v = omega arith in ap (λ m. min (m * base + d) cap) e
      | inr le ↦
          let e : min v cap ≡ cap = omega arith in
          ap (λ m. min (m * base + d) cap) e ∙ omega (arith, times_least cap base h, times_least v base h)
    ]

lt_yes : (m n : ℕ) → m < n → nat_lt m n ≡ true
lt_yes m n h = grind arith

lt_no : (m n : ℕ) → n ≤ m → nat_lt m n ≡ false
lt_no m n h = grind arith

pub number_small : (v w : ℕ) → w ≡ min v (2 ^ 63) → w < 2 ^ 63 → Number w ≡ number v
number_small v w e h =
    let is : w ≡ v = omega arith in
    let small : v < 2 ^ 63 = omega arith in
    ap Number is ∙ sym (ap (λ b. cond b (Number v) TooLarge) (lt_yes v (2 ^ 63) small))

pub number_large : (v w : ℕ) → w ≡ min v (2 ^ 63) → 2 ^ 63 ≤ w → TooLarge ≡ number v
number_large v w e h =
    let large : 2 ^ 63 ≤ v = omega arith in
    sym (ap (λ b. cond b (Number v) TooLarge) (lt_no v (2 ^ 63) large))
