-- Numbers in decimal digits.
use Rattle.std.proofs.Common.{rules, arith, subst, ◌≡◌, ℕ, ◌<◌, ◌≤◌, ⊎_elim, ◌^◌, true, List, [], ◌∷◌, length, Err}
use Rattle.std.specs.List.{list_all}
use Rattle.std.specs.Char.{is_ascii_digit}
use Rattle.std.specs.Str.Parse.{digits_value, ParsesUnsigned}
use Rattle.std.proofs.lemmas.Str.Parse.{IsNumeralModel, numerals_by_value, parse_digits}
use Rattle.std.proofs.lemmas.Bool.{cases_lt}
use Rattle.command_words.specs.Values.{is_number}

own : IsNumeralModel (λ ds. list_all is_ascii_digit ds ≡ true) (digits_value 10)
own = numerals_by_value _ (search rules)

not_lt : (m n : ℕ) → (m < n → ⊥) → n ≤ m
not_lt m n free = ⊎_elim (λ l. absurd (free l)) (λ l. l) (cases_lt m n)

number_digits : (text : List ℕ) → is_number text ≡ true → list_all is_ascii_digit text ≡ true
number_digits [] e = cc
number_digits (digit ∷ digits) e = search rules

number_some : (text : List ℕ) → is_number text ≡ true → 0 < length text
number_some [] e = cc
number_some (digit ∷ digits) e = omega arith

pub number_err : (E : Type 0) (text given : List ℕ) (f : E) → given ≡ text → is_number text ≡ true → ParsesUnsigned {E = E} 64 10 given (Err f) → 2 ^ 64 ≤ digits_value 10 text
number_err E text given f same e h =
    let h' : ParsesUnsigned {E = E} 64 10 text (Err f) = subst (λ (t : List ℕ). ParsesUnsigned {E = E} 64 10 t (Err f)) same h in
    not_lt (digits_value 10 text) (2 ^ 64) (λ low. parse_digits own {E = E} 64 text (Err f) h' (number_digits text e) (number_some text e, low))
