-- The number whose decimal text this is, beside what `parse` reads.
use Rattle.std.proofs.Common.{◌≡◌, ◌<◌, ◌^◌, ℕ, ℤ, Bool, true, false, List, Some, None, Result, Ok, Err, bytes_eq, if◌then◌else◌, refl, sym, ap, subst, ◌∙◌, arith}
use Rattle.std.specs.Prelude.{nat_lt, FitsSigned, ◌&&◌}
use Rattle.std.specs.Fmt.{signed_decimal}
use Rattle.std.specs.Int.{w64}
use Rattle.std.specs.Int.Signed.{mag}
use Rattle.std.specs.Str.Parse.{ParsesSigned, signed_digits_value}
use Rattle.std.proofs.lemmas.Bool.{and_parts}
use Rattle.std.proofs.lemmas.Bool.Decides.{nat_tests}
use Rattle.std.proofs.lemmas.Fmt.{parse-signed_decimal}
use Rattle.std.proofs.lemmas.Slice.Eq.{bytes_eq-Decides}
use Rattle.client_core.specs.Answers.{is_text_of, number_in}

within : (n : ℕ) → nat_lt n (2 ^ 63) ≡ true → n < 2 ^ 63
within n h = grind (arith, nat_tests)

is_within : (n : ℕ) → n < 2 ^ 63 → nat_lt n (2 ^ 63) ≡ true
is_within n h = grind (arith, nat_tests)

-- a number in its range has its decimal text alone
pub in_range : (text : List ℕ) (z : ℤ) → FitsSigned w64 z → bytes_eq text (signed_decimal z) ≡ is_text_of text z
in_range text z fits = sym (ap (λ b. b && bytes_eq text (signed_decimal z)) (is_within (mag z) fits.sfits))

-- the decimal text of a number is read as this number
read_as : {E : Type 0} (text : List ℕ) (r : Result ℤ E) (z : ℤ) → ParsesSigned w64 10 text r → is_text_of text z ≡ true → r ≡ Ok z
read_as text r z parses holds =
    let parts = and_parts (nat_lt (mag z) (2 ^ 63)) (bytes_eq text (signed_decimal z)) holds in
    let small = within (mag z) parts.0 in
    parse-signed_decimal w64 z text r (record { sfits = small }) small ((bytes_eq-Decides text (signed_decimal z)).0 parts.1) parses

chosen : (b : Bool) (z : ℤ) → b ≡ false → (if b then Some z else None) ≡ None
chosen true z h = absurd (cc)
chosen false z h = refl

not_text : {E : Type 0} (text : List ℕ) (r : Result ℤ E) (e : E) (z : ℤ) → ParsesSigned w64 10 text r → r ≡ Err e → is_text_of text z ≡ false
not_text {E} text r e z parses is = by_test (is_text_of text z) refl
  where
    by_test : (b : Bool) → is_text_of text z ≡ b → b ≡ false
    by_test true holds = let read = read_as text r z parses holds in absurd (cc)
    by_test false holds = refl

-- a text that isn't read is the decimal text of no number
pub none_read : {E : Type 0} (text : List ℕ) (r : Result ℤ E) (e : E) → ParsesSigned w64 10 text r → r ≡ Err e → number_in text ≡ None
none_read text r e parses is = chosen (is_text_of text (signed_digits_value 10 text)) (signed_digits_value 10 text) (not_text text r e (signed_digits_value 10 text) parses is)

told : (b : Bool) (z : ℤ) → b ≡ true → (if b then Some z else None) ≡ Some z
told true z h = refl
told false z h = absurd (cc)

-- a number that is read is the one of the text, where this is its decimal text
pub some_read : (text : List ℕ) (z : ℤ) → z ≡ signed_digits_value 10 text → is_text_of text z ≡ true → Some z ≡ number_in text
some_read text z is holds =
    let here : is_text_of text (signed_digits_value 10 text) ≡ true = subst (λ y. is_text_of text y ≡ true) is holds in
    ap Some is ∙ sym (told (is_text_of text (signed_digits_value 10 text)) (signed_digits_value 10 text) here)

-- and else the text is that of no number
pub other_read : (text : List ℕ) (z : ℤ) → z ≡ signed_digits_value 10 text → is_text_of text z ≡ false → None ≡ number_in text
other_read text z is differs =
    let here : is_text_of text (signed_digits_value 10 text) ≡ false = subst (λ y. is_text_of text y ≡ false) is differs in
    sym (chosen (is_text_of text (signed_digits_value 10 text)) (signed_digits_value 10 text) here)
