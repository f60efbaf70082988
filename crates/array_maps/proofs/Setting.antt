-- Codes that set elements: their programs, and what these leave.
use Rattle.std.proofs.Common.{◌≡◌, ℕ, suc, ℤ, pos, negsuc, ◌^◌, ◌<◌, ◌≤◌, Bool, true, false, cond, None, List, [], ◌∷◌, ◌++◌, length, get_or, FitsSigned, refl, sym, ap, ◌∙◌, append_assoc, arith}
use Rattle.std.specs.Prelude.{◌==◌, ◌||◌, codes, map, flat_map}
use Rattle.std.specs.List.{filter, AllByRecursion, join_by, range_with_len}
use Rattle.std.specs.Fmt.{decimal, signed_decimal}
use Rattle.std.specs.Int.{w64}
use Rattle.std.proofs.lemmas.List.{append-nil}
use Rattle.std.proofs.lemmas.Bool.Decides.{nat_tests}
use Rattle.std.proofs.lemmas.Fmt.{decimal_nonempty}
use Rattle.arith_syntax.specs.declared.operators.UnaryOperator.TheVariants.{Minus}
use Rattle.arith_syntax.specs.declared.operators.BinaryOperator.TheVariants.{Subtract}
use Rattle.arith_syntax.specs.declared.token.Token.{Token}
use Rattle.arith_syntax.specs.declared.token.Token.TheVariants.{Number, Name, Binary, Assign, Separator, End}
use Rattle.arith_syntax.specs.Tree.{Tree, Constant, Variable, Unary, Operation, Assignment, IsName, IsExpression, is_digit, is_letter, tokens_of, nesting}
use Rattle.arith_syntax.specs.Grammar.{Fits, Grammar, joined, is_some_part}
use Rattle.arith_syntax.specs.Lexical.{lexemes}
use Rattle.array_maps.specs.Codes.{number_text, setting, element_setting, settings}
use Rattle.array_maps.specs.Names.{element}
use Rattle.array_maps.proofs.Decimals.{first_digit}
use Rattle.array_maps.proofs.Lexed.{tokens_in, EndsWord, BeginsNumber, name_first, number_first, equals_first, minus_first, semicolon_first, greatest_first, one_first, no_start, nothing_in}

-- a number as a tree
abbrev pub negative_tree : Bool → ℕ → Tree
negative_tree true n = Operation Subtract (Unary Minus (Constant 9223372036854775807)) (Constant 1)
negative_tree false n = Unary Minus (Constant (suc n))

abbrev pub number_tree : ℤ → Tree
number_tree (pos n) = Constant n
number_tree (negsuc n) = negative_tree (n == 9223372036854775807) n

abbrev pub element_tree : List ℕ → List ℤ → ℕ → Tree
element_tree name values k = Assignment (element name k) None (number_tree (get_or values k (pos 0)))

first_of : (xs rest : List ℕ) (c : ℕ) → 0 < length xs → get_or (xs ++ rest) 0 0 ≡ get_or xs 0 0
first_of [] rest c some = absurd (omega (arith, some))
first_of (x ∷ xs) rest c some = refl

first_digit_of : (n : ℕ) (rest : List ℕ) → n < 2 ^ 64 → is_digit (get_or (decimal n ++ rest) 0 0) ≡ true
first_digit_of n rest h = ap is_digit (first_of (decimal n) rest 0 (decimal_nonempty n h)) ∙ first_digit n h

or_left : (a b : Bool) → a ≡ true → (a || b) ≡ true
or_left a b h = ap (λ x. x || b) h

-- the size of a number of 64 bits
small_number : (n : ℕ) → FitsSigned w64 (pos n) → n < 2 ^ 63
small_number n fits = fits.sfits

small_negative : (n : ℕ) → FitsSigned w64 (negsuc n) → n < 2 ^ 63
small_negative n fits = fits.sfits

small_other : (n : ℕ) → FitsSigned w64 (negsuc n) → (n == 9223372036854775807) ≡ false → suc n < 2 ^ 63
small_other n fits h = let small = small_negative n fits in grind (arith, nat_tests, small)

-- what is written of a negative number
abbrev negative_text : Bool → ℕ → List ℕ
negative_text b n = cond b (codes "-9223372036854775807-1") (signed_decimal (negsuc n))

negative_begins : (b : Bool) (n : ℕ) (rest : List ℕ) → BeginsNumber (negative_text b n ++ rest)
negative_begins true n rest = refl
negative_begins false n rest = refl

number_begins : (v : ℤ) (rest : List ℕ) → FitsSigned w64 v → BeginsNumber (number_text v ++ rest)
number_begins (pos n) rest fits =
    let small = small_number n fits in
    or_left (is_digit (get_or (decimal n ++ rest) 0 0)) _ (first_digit_of n rest (omega (arith, small)))
number_begins (negsuc n) rest fits = negative_begins (n == 9223372036854775807) n rest

least_tokens : (rest : List ℕ) → EndsWord rest → tokens_in (codes "-9223372036854775807-1" ++ rest) ≡ tokens_of (negative_tree true 9223372036854775807) ++ tokens_in rest
least_tokens rest e =
    minus_first (codes "9223372036854775807-1" ++ rest) refl
    ∙ ap (λ ts. Binary Subtract ∷ ts) (greatest_first (codes "-1" ++ rest) refl)
    ∙ ap (λ ts. Binary Subtract ∷ Number 9223372036854775807 ∷ ts) (minus_first (codes "1" ++ rest) refl)
    ∙ ap (λ ts. Binary Subtract ∷ Number 9223372036854775807 ∷ Binary Subtract ∷ ts) (one_first rest e)

negative_tokens : (b : Bool) (n : ℕ) (rest : List ℕ) → (n == 9223372036854775807) ≡ b → FitsSigned w64 (negsuc n) → EndsWord rest → tokens_in (negative_text b n ++ rest) ≡ tokens_of (negative_tree b n) ++ tokens_in rest
negative_tokens true n rest h fits e = least_tokens rest e
negative_tokens false n rest h fits e =
    let small = small_other n fits h in
    minus_first (decimal (suc n) ++ rest) (first_digit_of (suc n) rest (omega (arith, small)))
    ∙ ap (λ ts. Binary Subtract ∷ ts) (number_first (suc n) rest small e)

number_tokens : (v : ℤ) (rest : List ℕ) → FitsSigned w64 v → EndsWord rest → tokens_in (number_text v ++ rest) ≡ tokens_of (number_tree v) ++ tokens_in rest
number_tokens (pos n) rest fits e = number_first n rest (small_number n fits) e
number_tokens (negsuc n) rest fits e = negative_tokens (n == 9223372036854775807) n rest refl fits e

-- a name, `=` and a number
setting_tokens : (x : List ℕ) (v : ℤ) (rest : List ℕ) → IsName x → FitsSigned w64 v → EndsWord rest → tokens_in (setting x v ++ rest) ≡ tokens_of (Assignment x None (number_tree v)) ++ tokens_in rest
setting_tokens x v rest name fits e =
    ap tokens_in (append_assoc (x ++ 61 ∷ []) (number_text v) rest ∙ append_assoc x (61 ∷ []) (number_text v ++ rest))
    ∙ name_first x (61 ∷ (number_text v ++ rest)) name refl
    ∙ ap (λ ts. Name x ∷ ts) (equals_first (number_text v ++ rest) (number_begins v rest fits))
    ∙ ap (λ ts. Name x ∷ Assign None ∷ ts) (number_tokens v rest fits e)

-- an element that may be set
pub record Settable (name : List ℕ) (values : List ℤ) (k : ℕ) : Type 0 where
  pub named : IsName (element name k)
  pub fits : FitsSigned w64 (get_or values k (pos 0))

abbrev part_of : List ℕ → List ℤ → ℕ → List Token
part_of name values k = tokens_of (element_tree name values k)

abbrev next_setting : List ℕ → List ℤ → ℕ → List ℕ
next_setting name values k = codes ";" ++ element_setting name values k

name_letter : (x rest : List ℕ) → IsName x → is_letter (get_or (x ++ rest) 0 0) ≡ true
name_letter [] rest n = absurd (no_start n.begins)
name_letter (c ∷ cs) rest n = n.begins

setting_letter : (x : List ℕ) (v : ℤ) (rest : List ℕ) → IsName x → is_letter (get_or (setting x v ++ rest) 0 0) ≡ true
setting_letter x v rest name =
    ap (λ l. is_letter (get_or l 0 0)) (append_assoc (x ++ 61 ∷ []) (number_text v) rest ∙ append_assoc x (61 ∷ []) (number_text v ++ rest))
    ∙ name_letter x (61 ∷ (number_text v ++ rest)) name

-- elements that are set one after another
settings_tokens : (name : List ℕ) (values : List ℤ) (k : ℕ) (ks : List ℕ) → AllByRecursion (Settable name values) (k ∷ ks) → tokens_in (element_setting name values k ++ flat_map (next_setting name values) ks) ≡ joined (part_of name values k) (map (part_of name values) ks) ++ End ∷ []
settings_tokens name values k [] all =
    setting_tokens (element name k) (get_or values k (pos 0)) [] all.0.named all.0.fits refl ∙ ap (λ ts. part_of name values k ++ ts) nothing_in
settings_tokens name values k (j ∷ ks) all =
    let rest = element_setting name values j ++ flat_map (next_setting name values) ks in
    let later = settings_tokens name values j ks all.1 in
    setting_tokens (element name k) (get_or values k (pos 0)) (59 ∷ rest) all.0.named all.0.fits refl
    ∙ ap (λ ts. part_of name values k ++ ts) (semicolon_first rest (setting_letter (element name j) (get_or values j (pos 0)) (flat_map (next_setting name values) ks) all.1.0.named))
    ∙ ap (λ ts. part_of name values k ++ Separator ∷ ts) later
    ∙ sym (append_assoc (part_of name values k) (Separator ∷ joined (part_of name values j) (map (part_of name values) ks)) (End ∷ []))

-- their trees keep to the grammar
negative_fits : (b : Bool) (n : ℕ) → (n == 9223372036854775807) ≡ b → FitsSigned w64 (negsuc n) → IsExpression (negative_tree b n) × (nesting (negative_tree b n) ≤ 1)
negative_fits true n h fits = ((omega arith, omega arith, (omega arith, omega arith), omega arith), omega arith)
negative_fits false n h fits = let small = small_other n fits h in ((omega arith, small), omega arith)

number_fits : (v : ℤ) → FitsSigned w64 v → IsExpression (number_tree v) × (nesting (number_tree v) ≤ 1)
number_fits (pos n) fits = (small_number n fits, omega arith)
number_fits (negsuc n) fits = negative_fits (n == 9223372036854775807) n refl fits

element_fits : (name : List ℕ) (values : List ℤ) (k : ℕ) → Settable name values k → Fits 64 (element_tree name values k)
element_fits name values k s =
    let number = number_fits (get_or values k (pos 0)) s.fits in
    let depth = number.1 in
    record { grammar = (s.named, refl, number.0); depth = omega (arith, depth) }

each_fits : (name : List ℕ) (values : List ℤ) (ks : List ℕ) → AllByRecursion (Settable name values) ks → AllByRecursion (Fits 64) (map (element_tree name values) ks)
each_fits name values [] all = tt
each_fits name values (k ∷ ks) all = (element_fits name values k all.0, each_fits name values ks all.1)

parts_stay : (name : List ℕ) (values : List ℤ) (ks : List ℕ) → filter is_some_part (map (part_of name values) ks) ≡ map tokens_of (map (element_tree name values) ks)
parts_stay name values [] = refl
parts_stay name values (k ∷ ks) = ap (λ l. part_of name values k ∷ l) (parts_stay name values ks)

-- the program of elements that are set one after another
listed_program : (name : List ℕ) (values : List ℤ) (ks : List ℕ) → AllByRecursion (Settable name values) ks → length (join_by (element_setting name values) (codes ";") ks) ≤ 65536 → Grammar (join_by (element_setting name values) (codes ";") ks) (map (element_tree name values) ks)
unfolding lexemes tokens_in
listed_program name values [] all short = record {
  short = short;
  all = [];
  read = refl;
  program = record { first = []; more = []; parts = refl; expressions = refl; each = tt };
}
listed_program name values (k ∷ ks) all short = record {
  short = short;
  all = joined (part_of name values k) (map (part_of name values) ks);
  read = settings_tokens name values k ks all;
  program = record {
    first = part_of name values k;
    more = map (part_of name values) ks;
    parts = refl;
    expressions = parts_stay name values (k ∷ ks);
    each = each_fits name values (k ∷ ks) all;
  };
}

pub settings_program : (name : List ℕ) (values : List ℤ) (start count : ℕ) → AllByRecursion (Settable name values) (range_with_len start count) → length (settings name values start count) ≤ 65536 → Grammar (settings name values start count) (map (element_tree name values) (range_with_len start count))
settings_program name values start count all short = listed_program name values (range_with_len start count) all short

-- a name alone is a program
pub name_program : (x : List ℕ) → IsName x → Grammar x (Variable x ∷ [])
unfolding lexemes tokens_in
name_program x name = record {
  short = let short = name.short in omega (arith, short);
  all = Name x ∷ [];
  read = ap tokens_in (sym (append-nil x)) ∙ name_first x [] name refl ∙ ap (λ ts. Name x ∷ ts) nothing_in;
  program = record {
    first = Name x ∷ [];
    more = [];
    parts = refl;
    expressions = refl;
    each = (record { grammar = name; depth = omega arith }, tt);
  };
}
