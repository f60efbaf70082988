-- Decimal texts: their digits, their lengths, and the constants that they are.
use Rattle.std.proofs.Common.{◌≡◌, ℕ, zero, suc, ◌+◌, ◌-◌, ◌*◌, ◌^◌, ◌<◌, ◌≤◌, Bool, true, false, cond, List, [], ◌∷◌, length, get_or, refl, ap, subst, ◌∙◌, arith}
use Rattle.std.specs.Prelude.{nat_lt, nat_le, ◌==◌, ◌&&◌, ◌||◌}
use Rattle.std.specs.List.{list_all}
use Rattle.std.specs.Fmt.{decimal}
use Rattle.std.specs.Int.{IsInRange}
use Rattle.std.proofs.lemmas.Bool.Decides.{nat_tests}
use Rattle.std.proofs.lemmas.Bool.{and_parts, and_from}
use Rattle.std.proofs.lemmas.Fmt.{digits_decimal, digits_value-decimal, first_decimal, decimal_nonempty, decimal_digit, decimal_is_IsNumeral, length-decimal-le}
use Rattle.std.proofs.lemmas.Int.Digits.{digits_value-lt}
use Rattle.std.proofs.lemmas.Str.Parse.{IsNumeralModel, IsDigitsTest, FoldsDigits, numerals_by_fold}
use Rattle.cluster_types.proofs.Booleans.{or_true, and_false}
use Rattle.arith_syntax.specs.declared.token.Token.{Token}
use Rattle.arith_syntax.specs.declared.token.Token.TheVariants.{Number, TooLarge, Name, Bad}
use Rattle.arith_syntax.specs.Tree.{is_digit, is_letter, is_word}
use Rattle.arith_syntax.specs.Lexical.{value_after, number, begins_hexadecimal, constant, word}

digit_range : (c : ℕ) → is_digit c ≡ true → IsInRange 48 57 c
digit_range c h = grind (arith, nat_tests)

range_digit : (c : ℕ) → IsInRange 48 57 c → is_digit c ≡ true
range_digit c h = grind (arith, nat_tests)

digits_test : IsDigitsTest (λ ds. list_all is_digit ds ≡ true)
digits_test = record {
  empty = refl;
  parts = λ c cs h. let p = and_parts (is_digit c) (list_all is_digit cs) h in (digit_range c p.0, p.1);
  more = λ c cs h k. and_from (is_digit c) (list_all is_digit cs) (range_digit c h) k;
}

digits_fold : FoldsDigits (value_after 10)
digits_fold = record {
  empty = λ n. refl;
  more = λ n c cs h. ap (λ b. value_after 10 (n * 10 + cond b (c - 48) (cond (nat_le 97 c) (c - 87) (c - 55))) cs) (range_digit c h);
}

own : IsNumeralModel (λ ds. list_all is_digit ds ≡ true) (value_after 10 0)
own = numerals_by_fold (λ ds. list_all is_digit ds ≡ true) digits_test (value_after 10) digits_fold

pub all_digits : (n : ℕ) → n < 2 ^ 64 → list_all is_digit (decimal n) ≡ true
all_digits n h = digits_decimal own n h

digit_word : (c : ℕ) → is_digit c ≡ true → is_word c ≡ true
digit_word c h = ap (λ b. is_letter c || b) h ∙ or_true (is_letter c)

digit_letter : (c : ℕ) → is_digit c ≡ true → is_letter c ≡ false
digit_letter c h = grind (arith, nat_tests)

digits_words : (ds : List ℕ) → list_all is_digit ds ≡ true → list_all is_word ds ≡ true
digits_words [] h = refl
digits_words (c ∷ cs) h =
    let p = and_parts (is_digit c) (list_all is_digit cs) h in
    and_from (is_word c) (list_all is_word cs) (digit_word c p.0) (digits_words cs p.1)

pub all_words : (n : ℕ) → n < 2 ^ 64 → list_all is_word (decimal n) ≡ true
all_words n h = digits_words (decimal n) (all_digits n h)

-- a smaller number has no more digits
pub digits_rise : (j k : ℕ) → j ≤ k → k < 2 ^ 64 → length (decimal j) ≤ length (decimal k)
digits_rise j k le h =
    let numeral = decimal_is_IsNumeral k h in
    let above : k < 10 ^ length (decimal k) = subst (λ v. v < 10 ^ length (decimal k)) numeral.1 (digits_value-lt 10 (decimal k) numeral.0.1) in
    let some : 0 < length (decimal k) = numeral.0.0 in
    let below : j < 10 ^ length (decimal k) = omega (arith, le, above) in
    length-decimal-le (length (decimal k)) j some below (omega arith)

no_x : (a b : ℕ) → is_digit b ≡ true → ((a == 48) && (b == 120 || b == 88)) ≡ false
no_x a b h = let e : (b == 120 || b == 88) ≡ false = grind (arith, nat_tests) in ap (λ c. (a == 48) && c) e ∙ and_false (a == 48)

digits_hexadecimal : (ds : List ℕ) → list_all is_digit ds ≡ true → begins_hexadecimal ds ≡ false
digits_hexadecimal [] h = refl
digits_hexadecimal (a ∷ []) h = refl
digits_hexadecimal (a ∷ b ∷ []) h = refl
digits_hexadecimal (a ∷ b ∷ c ∷ ds) h =
    let p = and_parts (is_digit a) (list_all is_digit (b ∷ c ∷ ds)) h in
    let q = and_parts (is_digit b) (list_all is_digit (c ∷ ds)) p.1 in
    no_x a b q.0

cond_false : (b : Bool) (x y : Token) → b ≡ false → cond b x y ≡ y
cond_false b x y h = ap (λ c. cond c x y) h

cond_true : (b : Bool) (x y : Token) → b ≡ true → cond b x y ≡ x
cond_true b x y h = ap (λ c. cond c x y) h

le_true : (m n : ℕ) → m ≤ n → nat_le m n ≡ true
le_true m n h = grind arith

lt_true : (m n : ℕ) → m < n → nat_lt m n ≡ true
lt_true m n h = grind arith

-- digits that don't begin with 0 are their number
decimal_constant : (ds : List ℕ) (n : ℕ) → list_all is_digit ds ≡ true → 48 < get_or ds 0 0 → value_after 10 0 ds ≡ n → n < 2 ^ 63 → constant ds ≡ Number n
unfolding constant
decimal_constant ds n all first value small =
    cond_false (begins_hexadecimal ds) _ _ (digits_hexadecimal ds all)
    ∙ cond_true (nat_le 49 (get_or ds 0 0)) _ _ (le_true 49 (get_or ds 0 0) (omega arith))
    ∙ cond_true (list_all is_digit ds) _ _ all
    ∙ ap number value
    ∙ cond_true (nat_lt n (2 ^ 63)) (Number n) TooLarge (lt_true n (2 ^ 63) small)

zero_constant : constant (48 ∷ []) ≡ Number 0
unfolding constant
zero_constant = refl

number_constant : (n : ℕ) → n < 2 ^ 63 → constant (decimal n) ≡ Number n
number_constant zero h =
    let zero_is : decimal 0 ≡ 48 ∷ [] = decimal_digit 0 (omega arith) in
    ap constant zero_is ∙ zero_constant
number_constant (suc m) h =
    let n = suc m in
    let fits : n < 2 ^ 64 = omega arith in
    decimal_constant (decimal n) n (all_digits n fits) (first_decimal n (omega arith) fits) (digits_value-decimal own n fits) h

constant_word : (ds : List ℕ) → list_all is_digit ds ≡ true → 0 < length ds → word ds ≡ constant ds
constant_word [] h some = absurd (omega arith)
constant_word (c ∷ cs) h some =
    let p = and_parts (is_digit c) (list_all is_digit cs) h in
    cond_false (is_letter c) (cond (nat_le (length (c ∷ cs)) 255) (Name (c ∷ cs)) Bad) (constant (c ∷ cs)) (digit_letter c p.0)

-- the decimal text of a number that is no larger than a constant may be
pub number_word : (n : ℕ) → n < 2 ^ 63 → word (decimal n) ≡ Number n
number_word n h =
    let fits : n < 2 ^ 64 = omega arith in
    constant_word (decimal n) (all_digits n fits) (decimal_nonempty n fits) ∙ number_constant n h

get_digit : (ds : List ℕ) → list_all is_digit ds ≡ true → 0 < length ds → is_digit (get_or ds 0 0) ≡ true
get_digit [] h some = absurd (omega arith)
get_digit (c ∷ cs) h some = (and_parts (is_digit c) (list_all is_digit cs) h).0

pub first_digit : (n : ℕ) → n < 2 ^ 64 → is_digit (get_or (decimal n) 0 0) ≡ true
first_digit n h = get_digit (decimal n) (all_digits n h) (decimal_nonempty n h)
