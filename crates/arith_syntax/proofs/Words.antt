-- Runs of letters, digits and `_`, and what the tokens of a text are.
use Rattle.std.proofs.Common.{◌≡◌, ◌≢◌, ℕ, zero, suc, ◌+◌, ◌-◌, ◌^◌, ◌<◌, ◌≤◌, Bool, true, false, cond, Option, Some, None, List, [], ◌∷◌, length, take, drop, get_or, refl, sym, ap, subst, ◌∙◌, arith, inl, inr}
use Rattle.std.specs.Prelude.{nat_lt, nat_le, ◌==◌, ◌&&◌, ◌||◌}
use Rattle.std.specs.List.{list_all, prefix_len}
use Rattle.std.specs.Str.{IsAscii}
use Rattle.std.proofs.lemmas.Bool.{cases_lt, and_parts}
use Rattle.std.proofs.lemmas.Bool.Decides.{nat_tests}
use Rattle.std.proofs.lemmas.List.{get_or_past}
use Rattle.std.proofs.lemmas.List.Sums.{prefix_len-le-length}
use Rattle.std.proofs.lemmas.Str.Ascii.{IsAscii-nil, IsAscii-cons}
use Rattle.arith_syntax.specs.declared.operators.BinaryOperator.{BinaryOperator}
use Rattle.arith_syntax.specs.declared.operators.BinaryOperator.TheVariants.{LogicalOr, LogicalAnd, BitOr, BitXor, BitAnd, EqualTo, NotEqualTo, LessThan, LessOrEqual, GreaterThan, GreaterOrEqual, ShiftLeft, ShiftRight, Add, Subtract, Multiply, Divide, Remainder}
use Rattle.arith_syntax.specs.declared.token.Token.{Token}
use Rattle.arith_syntax.specs.declared.token.Token.TheVariants.{Number, TooLarge, Name, Binary, Tilde, Exclamation, Assign, Question, Colon, LeftParenthesis, RightParenthesis, Separator, End, Bad}
use Rattle.arith_syntax.specs.Tree.{is_digit, is_letter, is_word, begins_name, assigns}
use Rattle.arith_syntax.specs.Lexical.{is_blank, value_after, number, constant_of, is_octal, is_hexadecimal, begins_hexadecimal, constant, word, run_of, with_equals, doubled, single, shifts, is_bad, symbol, token_at, Lexeme, scan, lexemes}
use Rattle.arith_syntax.proofs.Sound.{IsToken}
use Rattle.arith_syntax.proofs.Faults.{Proper}
use Rattle.cluster_types.proofs.Numbers.{le_from}

word_ascii : (c : ℕ) → is_word c ≡ true → c < 128
word_ascii c h = grind (arith, nat_tests)

pub words_ascii : (xs : List ℕ) → list_all is_word xs ≡ true → IsAscii xs
words_ascii [] h = IsAscii-nil
words_ascii (x ∷ xs) h =
    let p = and_parts (is_word x) (list_all is_word xs) h in
    IsAscii-cons x xs (word_ascii x p.0) (words_ascii xs p.1)

one_more : (n : ℕ) → 1 + n ≡ suc n
one_more n = omega arith

run_words_at : (p : ℕ → Bool) (x : ℕ) (xs : List ℕ) (b : Bool) → p x ≡ b → list_all p (take (prefix_len p xs) xs) ≡ true → list_all p (take (cond b (1 + prefix_len p xs) 0) (x ∷ xs)) ≡ true
run_words_at p x xs true e h = rw (one_more (prefix_len p xs)) (ap (λ b. b && list_all p (take (prefix_len p xs) xs)) e ∙ h)
run_words_at p x xs false e h = refl

-- what stands before the first octet of another kind
pub run_words : (p : ℕ → Bool) (xs : List ℕ) → list_all p (take (prefix_len p xs) xs) ≡ true
run_words p [] = refl
run_words p (x ∷ xs) = run_words_at p x xs (p x) refl (run_words p xs)

-- tokens that a text may have
pub record Fine (token : Token) : Type 0 where
  pub is : IsToken token
  pub not_end : token ≢ End

choose : (b : Bool) (x y : Token) → Fine x → Fine y → Fine (cond b x y)
choose true x y f g = f
choose false x y f g = g

bad : Fine Bad
bad = record { is = tt; not_end = λ e. cc }

binary : (op : BinaryOperator) → Fine (Binary op)
binary op = record { is = tt; not_end = λ e. cc }

assign : (op : Option BinaryOperator) → assigns op ≡ true → Fine (Assign op)
assign op h = record { is = h; not_end = λ e. cc }

shifts_fine : (c : ℕ) → Fine (shifts c)
shifts_fine c = choose (c == 60) _ _ (assign (Some ShiftLeft) refl) (choose (c == 62) _ _ (assign (Some ShiftRight) refl) bad)

equals_fine : (c : ℕ) → Fine (with_equals c)
equals_fine c =
    choose (c == 61) _ _ (binary EqualTo) (choose (c == 33) _ _ (binary NotEqualTo) (choose (c == 60) _ _ (binary LessOrEqual) (choose (c == 62) _ _ (binary GreaterOrEqual)
    (choose (c == 42) _ _ (assign (Some Multiply) refl) (choose (c == 47) _ _ (assign (Some Divide) refl) (choose (c == 37) _ _ (assign (Some Remainder) refl) (choose (c == 43) _ _ (assign (Some Add) refl)
    (choose (c == 45) _ _ (assign (Some Subtract) refl) (choose (c == 38) _ _ (assign (Some BitAnd) refl) (choose (c == 94) _ _ (assign (Some BitXor) refl) (choose (c == 124) _ _ (assign (Some BitOr) refl) bad)))))))))))

doubled_fine : (c : ℕ) → Fine (doubled c)
doubled_fine c = choose (c == 60) _ _ (binary ShiftLeft) (choose (c == 62) _ _ (binary ShiftRight) (choose (c == 38) _ _ (binary LogicalAnd) (choose (c == 124) _ _ (binary LogicalOr) bad)))

plain : (token : Token) → IsToken token → token ≢ End → Fine token
plain token h ne = record { is = h; not_end = ne }

single_fine : (c : ℕ) → Fine (single c)
single_fine c =
    choose (c == 43) _ _ (binary Add) (choose (c == 45) _ _ (binary Subtract) (choose (c == 42) _ _ (binary Multiply) (choose (c == 47) _ _ (binary Divide) (choose (c == 37) _ _ (binary Remainder)
    (choose (c == 60) _ _ (binary LessThan) (choose (c == 62) _ _ (binary GreaterThan) (choose (c == 38) _ _ (binary BitAnd) (choose (c == 94) _ _ (binary BitXor) (choose (c == 124) _ _ (binary BitOr)
    (choose (c == 126) _ _ (plain Tilde tt (λ e. cc)) (choose (c == 33) _ _ (plain Exclamation tt (λ e. cc)) (choose (c == 61) _ _ (assign None refl)
    (choose (c == 63) _ _ (plain Question tt (λ e. cc)) (choose (c == 58) _ _ (plain Colon tt (λ e. cc)) (choose (c == 40) _ _ (plain LeftParenthesis tt (λ e. cc))
    (choose (c == 41) _ _ (plain RightParenthesis tt (λ e. cc)) (choose (c == 59 || c == 10) _ _ (plain Separator tt (λ e. cc)) bad)))))))))))))))))

-- a token and its length, where it is one
pub record Long (t : Token × ℕ) (n : ℕ) : Type 0 where
  pub fine : Fine t.0
  pub some : 1 ≤ t.1
  pub within : is_bad t.0 ≡ false → t.1 ≤ n

lt_yes : (m n : ℕ) → m < n → nat_lt m n ≡ true
lt_yes m n h = grind arith

lt_no : (m n : ℕ) → n ≤ m → nat_lt m n ≡ false
lt_no m n h = grind arith

number_fine : (n : ℕ) → Fine (number n)
number_fine n =
    elim (cases_lt n (2 ^ 63)) [
      | inl lt ↦ subst Fine (sym (ap (λ b. cond b (Number n) TooLarge) (lt_yes n (2 ^ 63) lt))) (plain (Number n) lt (λ e. cc))
      | inr le ↦ subst Fine (sym (ap (λ b. cond b (Number n) TooLarge) (lt_no n (2 ^ 63) le))) (plain TooLarge tt (λ e. cc))
    ]

constant_of_fine : (base : ℕ) (is_one : ℕ → Bool) (digits : List ℕ) → Fine (constant_of base is_one digits)
constant_of_fine base is_one digits = choose (list_all is_one digits) _ _ (number_fine (value_after base 0 digits)) bad

constant_fine : (run : List ℕ) → Fine (constant run)
unfolding constant
constant_fine run =
    choose (begins_hexadecimal run) _ _ (constant_of_fine 16 is_hexadecimal (drop 2 run))
    (choose (nat_le 49 (get_or run 0 0)) _ _ (constant_of_fine 10 is_digit run) (constant_of_fine 8 is_octal run))

begins_is : (run : List ℕ) → is_letter (get_or run 0 0) ≡ true → begins_name run ≡ true
begins_is [] h = absurd cc
begins_is (c ∷ run) h = h

name_fine : (run : List ℕ) (b : Bool) → nat_le (length run) 255 ≡ b → is_letter (get_or run 0 0) ≡ true → list_all is_word run ≡ true → Fine (cond b (Name run) Bad)
name_fine run true e letter words = plain (Name run) (record { begins = begins_is run letter; words = words; short = le_from (length run) 255 e }) (λ e. cc)
name_fine run false e letter words = bad

word_fine : (run : List ℕ) (b : Bool) → is_letter (get_or run 0 0) ≡ b → list_all is_word run ≡ true → Fine (cond b (cond (nat_le (length run) 255) (Name run) Bad) (constant run))
word_fine run true e words = name_fine run (nat_le (length run) 255) refl e words
word_fine run false e words = constant_fine run

longer : (b : Bool) (t : Token) (k : ℕ) (s : Token × ℕ) (n : ℕ) → is_bad t ≡ b → Fine t → 1 ≤ k → (is_bad t ≡ false → k ≤ n) → Long s n → Long (cond b s (t, k)) n
longer true t k s n e f one within l = l
longer false t k s n e f one within l = record { fine = f; some = one; within = within }

get_some : (text : List ℕ) (i : ℕ) → get_or text i 0 ≡ 61 → i < length text
get_some text i h =
    elim (cases_lt i (length text)) [
      | inl lt ↦ lt
      | inr le ↦ let e : get_or text i 0 ≡ 0 = get_or_past text i 0 le in absurd (omega arith)
    ]

eq_means : (m n : ℕ) → (m == n) ≡ true → m ≡ n
eq_means m n h = grind (arith, nat_tests)

tested : (b : Bool) (x : Token) → is_bad (cond b x Bad) ≡ false → b ≡ true
tested true x h = refl
tested false x h = absurd cc

third_at : (text : List ℕ) (b : Bool) (x : Token) → is_bad (cond (b && (get_or text 2 0 == 61)) x Bad) ≡ false → 3 ≤ length text
third_at text b x h = omega (arith, get_some text 2 (eq_means (get_or text 2 0) 61 (and_parts b (get_or text 2 0 == 61) (tested (b && (get_or text 2 0 == 61)) x h)).1))

second_at : (text : List ℕ) (x : Token) → is_bad (cond (get_or text 1 0 == 61) x Bad) ≡ false → 2 ≤ length text
second_at text x h = omega (arith, get_some text 1 (eq_means (get_or text 1 0) 61 (tested (get_or text 1 0 == 61) x h)))

doubled_zero : (c : ℕ) → c ≡ 0 → is_bad (doubled c) ≡ true
doubled_zero c e = ap (λ d. is_bad (doubled d)) e

good_part : (b : Bool) (x : Token) → is_bad (cond b x Bad) ≡ false → (b ≡ true) × (is_bad x ≡ false)
good_part true x h = (refl, h)
good_part false x h = absurd cc

not_two : (b : Bool) → b ≡ true → b ≡ false → ⊥
not_two b x y = cc

twice_at : (text : List ℕ) → is_bad (cond (get_or text 1 0 == get_or text 0 0) (doubled (get_or text 0 0)) Bad) ≡ false → 2 ≤ length text
twice_at text h =
    let parts = good_part (get_or text 1 0 == get_or text 0 0) (doubled (get_or text 0 0)) h in
    elim (cases_lt 1 (length text)) [
      | inl lt ↦ omega arith
      | inr le ↦
          let second : get_or text 1 0 ≡ 0 = get_or_past text 1 0 le in
          let first : get_or text 0 0 ≡ 0 = sym (eq_means (get_or text 1 0) (get_or text 0 0) parts.0) ∙ second in
          let zero : is_bad (doubled (get_or text 0 0)) ≡ true = doubled_zero (get_or text 0 0) first in
          absurd (not_two (is_bad (doubled (get_or text 0 0))) zero parts.1)
    ]

symbol_long : (text : List ℕ) → 0 < length text → Long (symbol (get_or text 0 0) (get_or text 1 0) (get_or text 2 0)) (length text)
unfolding symbol
symbol_long text some =
    let a = get_or text 0 0 in
    let b = get_or text 1 0 in
    let c = get_or text 2 0 in
    longer _ (cond ((b == a) && (c == 61)) (shifts a) Bad) 3 _ (length text) refl (choose ((b == a) && (c == 61)) _ _ (shifts_fine a) bad) (omega arith) (third_at text (b == a) (shifts a))
    (longer _ (cond (b == 61) (with_equals a) Bad) 2 _ (length text) refl (choose (b == 61) _ _ (equals_fine a) bad) (omega arith) (second_at text (with_equals a))
    (longer _ (cond (b == a) (doubled a) Bad) 2 _ (length text) refl (choose (b == a) _ _ (doubled_fine a) bad) (omega arith) (twice_at text)
    (record { fine = single_fine a; some = omega arith; within = λ h. omega arith })))

run_some : (text : List ℕ) → is_word (get_or text 0 0) ≡ true → 1 ≤ prefix_len is_word text
run_some [] h = absurd cc
run_some (c ∷ text) h = let e : prefix_len is_word (c ∷ text) ≡ 1 + prefix_len is_word text = ap (λ b. cond b (1 + prefix_len is_word text) 0) h in omega arith

token_long_at : (text : List ℕ) (b : Bool) → is_word (get_or text 0 0) ≡ b → 0 < length text → Long (cond b (word (run_of text), prefix_len is_word text) (symbol (get_or text 0 0) (get_or text 1 0) (get_or text 2 0))) (length text)
token_long_at text true e some =
    record {
      fine = word_fine (run_of text) (is_letter (get_or (run_of text) 0 0)) refl (run_words is_word text);
      some = run_some text e;
      within = λ h. prefix_len-le-length is_word text;
    }
token_long_at text false e some = symbol_long text some

pub token_long : (text : List ℕ) → 0 < length text → Long (token_at text) (length text)
unfolding token_at
token_long text some = token_long_at text (is_word (get_or text 0 0)) refl some

proper_found : (t : Token) (at : ℕ) (more : List Lexeme) (b : Bool) → Fine t → Proper more → Proper (cond b ((Bad, at) ∷ []) ((t, at) ∷ more))
proper_found t at more true f p = inr (inl (refl, refl))
proper_found t at more false f p = inr (inr (f.is, f.not_end, p))

proper_blank : (b : Bool) (x y : List Lexeme) → Proper x → Proper y → Proper (cond b x y)
proper_blank true x y p q = p
proper_blank false x y p q = q

-- a text's lexemes are tokens, and at last its end or octets that are none
pub scan_proper : (n at : ℕ) (text : List ℕ) → Proper (scan n at text)
scan_proper n at [] = inl (refl, refl)
scan_proper (suc n) at (c ∷ text) = scan_proper n (at + 1) text
scan_proper zero at (c ∷ text) =
    let long = token_long (c ∷ text) (omega arith) in
    proper_blank (is_blank c) _ _ (scan_proper zero (at + 1) text)
    (proper_found (token_at (c ∷ text)).0 at _ (is_bad (token_at (c ∷ text)).0) long.fine (scan_proper ((token_at (c ∷ text)).1 - 1) (at + 1) text))

pub lexemes_proper : (text : List ℕ) → Proper (lexemes text)
unfolding lexemes
lexemes_proper text = scan_proper 0 0 text

-- the octets of a token are passed over
pub scan_skip : (n at : ℕ) (text : List ℕ) → n ≤ length text → scan n at text ≡ scan 0 (at + n) (drop n text)
scan_skip zero at text h = ap (λ k. scan 0 k text) (omega arith)
scan_skip (suc n) at [] h = absurd (omega arith)
scan_skip (suc n) at (c ∷ text) h =
    scan_skip n (at + 1) text (omega arith) ∙ ap (λ k. scan 0 k (drop n text)) (let e : at + 1 + n ≡ at + suc n = omega arith in e)
