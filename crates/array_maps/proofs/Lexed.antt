-- The tokens of a text that begins with a word or a sign.
use Rattle.std.proofs.Common.{◌≡◌, ℕ, zero, suc, ◌+◌, ◌-◌, ◌^◌, ◌<◌, ◌≤◌, Bool, true, false, cond, None, List, [], ◌∷◌, ◌++◌, length, take, get_or, refl, ap, ◌∙◌, arith}
use Rattle.std.specs.Prelude.{codes, nat_le, ◌==◌, ◌&&◌, ◌||◌}
use Rattle.std.specs.List.{list_all, prefix_len}
use Rattle.std.specs.Fmt.{decimal}
use Rattle.std.proofs.lemmas.Bool.Decides.{nat_tests}
use Rattle.std.proofs.lemmas.Bool.{and_parts}
use Rattle.std.proofs.lemmas.Fmt.{decimal_nonempty}
use Rattle.std.proofs.Math.Seq.{drop-append_seam}
use Rattle.arith_syntax.specs.declared.operators.BinaryOperator.TheVariants.{Subtract}
use Rattle.arith_syntax.specs.declared.token.Token.{Token}
use Rattle.arith_syntax.specs.declared.token.Token.TheVariants.{Number, Name, Binary, Assign, Separator, End, Bad}
use Rattle.arith_syntax.specs.Tree.{is_digit, is_letter, is_word, IsName}
use Rattle.arith_syntax.specs.Lexical.{Lexeme, is_blank, constant, word, run_of, is_bad, or_shorter, with_equals, doubled, single, shifts, symbol, token_at, found, scan}
use Rattle.arith_syntax.specs.Grammar.{tokens}
use Rattle.arith_syntax.proofs.Words.{scan_skip}
use Rattle.array_maps.proofs.Decimals.{all_words, number_word}

-- the tokens that stand in a text
unfoldable pub tokens_in : List ℕ → List Token
tokens_in text = tokens (scan 0 0 text)

pub nothing_in : tokens_in [] ≡ End ∷ []
unfolding tokens_in
nothing_in = refl

either : (b : Bool) (x y u v : List Lexeme) → tokens x ≡ tokens u → tokens y ≡ tokens v → tokens (cond b x y) ≡ tokens (cond b u v)
either true x y u v e f = e
either false x y u v e f = f

-- the place where a text stands is no matter
any_place : (n a b : ℕ) (text : List ℕ) → tokens (scan n a text) ≡ tokens (scan n b text)
any_place n a b [] = refl
any_place (suc n) a b (c ∷ text) = any_place n (a + 1) (b + 1) text
any_place zero a b (c ∷ text) =
    either (is_blank c) _ _ _ _ (any_place zero (a + 1) (b + 1) text)
    (either (is_bad (token_at (c ∷ text)).0) _ _ _ _ refl
    (ap (λ ts. (token_at (c ∷ text)).0 ∷ ts) (any_place ((token_at (c ∷ text)).1 - 1) (a + 1) (b + 1) text)))

room : (xs rest : List ℕ) → length xs ≤ length (xs ++ rest)
room [] rest = omega arith
room (x ∷ xs) rest = let h = room xs rest in omega (arith, h)

-- a token that stands first
token_first : (token : Token) (x : ℕ) (xs rest : List ℕ) → is_bad token ≡ false → is_blank x ≡ false → token_at ((x ∷ xs) ++ rest) ≡ (token, length (x ∷ xs)) → tokens_in ((x ∷ xs) ++ rest) ≡ token ∷ tokens_in rest
unfolding tokens_in
token_first token x xs rest good plain first =
    let less : length (x ∷ xs) - 1 ≡ length xs = omega arith in
    ap (λ b. tokens (cond b (scan 0 (0 + 1) (xs ++ rest)) (found (token_at ((x ∷ xs) ++ rest)).0 0 (scan ((token_at ((x ∷ xs) ++ rest)).1 - 1) (0 + 1) (xs ++ rest))))) plain
    ∙ ap (λ (p : Token × ℕ). tokens (found p.0 0 (scan (p.1 - 1) (0 + 1) (xs ++ rest)))) first
    ∙ ap (λ b. tokens (cond b ((Bad, 0) ∷ []) ((token, 0) ∷ scan (length (x ∷ xs) - 1) (0 + 1) (xs ++ rest)))) good
    ∙ ap (λ n. token ∷ tokens (scan n (0 + 1) (xs ++ rest))) less
    ∙ ap (λ l. token ∷ tokens l) (scan_skip (length xs) (0 + 1) (xs ++ rest) (room xs rest)
    ∙ ap (scan 0 (0 + 1 + length xs)) (drop-append_seam xs rest))
    ∙ ap (λ ts. token ∷ ts) (any_place 0 (0 + 1 + length xs) 0 rest)

-- what ends a word: the end of the text, or what stands in no word
abbrev pub EndsWord : List ℕ → Type 0
EndsWord rest = is_word (get_or rest 0 0) ≡ false

rest_len : (rest : List ℕ) → EndsWord rest → prefix_len is_word rest ≡ 0
rest_len [] h = refl
rest_len (c ∷ rest) h = ap (λ b. cond b (1 + prefix_len is_word rest) 0) h

run_len : (xs rest : List ℕ) → list_all is_word xs ≡ true → EndsWord rest → prefix_len is_word (xs ++ rest) ≡ length xs
run_len [] rest h e = rest_len rest e
run_len (x ∷ xs) rest h e =
    let p = and_parts (is_word x) (list_all is_word xs) h in
    let more : prefix_len is_word (xs ++ rest) ≡ length xs = run_len xs rest p.1 e in
    ap (λ b. cond b (1 + prefix_len is_word (xs ++ rest)) 0) p.0 ∙ omega (arith, more)

take_front : (xs ys : List ℕ) → take (length xs) (xs ++ ys) ≡ xs
take_front [] ys = refl
take_front (x ∷ xs) ys = ap (λ l. x ∷ l) (take_front xs ys)

run_is : (xs rest : List ℕ) → list_all is_word xs ≡ true → EndsWord rest → run_of (xs ++ rest) ≡ xs
run_is xs rest h e = ap (λ n. take n (xs ++ rest)) (run_len xs rest h e) ∙ take_front xs rest

choose_first : (b : Bool) (t s : Token × ℕ) → b ≡ true → cond b t s ≡ t
choose_first b t s h = ap (λ c. cond c t s) h

word_at : (x : ℕ) (xs rest : List ℕ) → list_all is_word (x ∷ xs) ≡ true → EndsWord rest → token_at ((x ∷ xs) ++ rest) ≡ (word (x ∷ xs), length (x ∷ xs))
unfolding token_at
word_at x xs rest h e =
    let p = and_parts (is_word x) (list_all is_word xs) h in
    choose_first (is_word x) _ _ p.0
    ∙ ap (λ l. (word l, prefix_len is_word ((x ∷ xs) ++ rest))) (run_is (x ∷ xs) rest h e)
    ∙ ap (λ n. (word (x ∷ xs), n)) (run_len (x ∷ xs) rest h e)

word_blank : (c : ℕ) → is_word c ≡ true → is_blank c ≡ false
word_blank c h = grind (arith, nat_tests)

-- a word that stands first
word_first : (token : Token) (xs rest : List ℕ) → 0 < length xs → list_all is_word xs ≡ true → word xs ≡ token → is_bad token ≡ false → EndsWord rest → tokens_in (xs ++ rest) ≡ token ∷ tokens_in rest
word_first token [] rest some h is good e = absurd (omega (arith, some))
word_first token (x ∷ xs) rest some h is good e =
    let p = and_parts (is_word x) (list_all is_word xs) h in
    token_first token x xs rest good (word_blank x p.0) (word_at x xs rest h e ∙ ap (λ t. (t, length (x ∷ xs))) is)

le_true : (m n : ℕ) → m ≤ n → nat_le m n ≡ true
le_true m n h = grind arith

pub no_start : ◌≡◌ {A = Bool} false true → ⊥
no_start h = cc

-- a name that stands first
pub name_first : (x rest : List ℕ) → IsName x → EndsWord rest → tokens_in (x ++ rest) ≡ Name x ∷ tokens_in rest
name_first [] rest n e = absurd (no_start n.begins)
name_first (c ∷ cs) rest n e =
    word_first (Name (c ∷ cs)) (c ∷ cs) rest (omega arith) n.words
    (ap (λ b. cond b (cond (nat_le (length (c ∷ cs)) 255) (Name (c ∷ cs)) Bad) (constant (c ∷ cs))) n.begins
    ∙ ap (λ b. cond b (Name (c ∷ cs)) Bad) (le_true (length (c ∷ cs)) 255 n.short))
    refl e

-- a constant that stands first
pub number_first : (n : ℕ) (rest : List ℕ) → n < 2 ^ 63 → EndsWord rest → tokens_in (decimal n ++ rest) ≡ Number n ∷ tokens_in rest
number_first n rest h e =
    let fits : n < 2 ^ 64 = omega arith in
    word_first (Number n) (decimal n) rest (decimal_nonempty n fits) (all_words n fits) (number_word n h) refl e

greatest_word : word (codes "9223372036854775807") ≡ Number 9223372036854775807
unfolding constant
greatest_word = refl

one_word : word (codes "1") ≡ Number 1
unfolding constant
one_word = refl

-- the greatest constant stands first, or 1
pub greatest_first : (rest : List ℕ) → EndsWord rest → tokens_in (codes "9223372036854775807" ++ rest) ≡ Number 9223372036854775807 ∷ tokens_in rest
greatest_first rest e = word_first (Number 9223372036854775807) (codes "9223372036854775807") rest (omega arith) refl greatest_word refl e

pub one_first : (rest : List ℕ) → EndsWord rest → tokens_in (codes "1" ++ rest) ≡ Number 1 ∷ tokens_in rest
one_first rest e = word_first (Number 1) (codes "1") rest (omega arith) refl one_word refl e

-- a sign of one octet that stands first
sign_first : (token : Token) (x : ℕ) (rest : List ℕ) → is_word x ≡ false → is_blank x ≡ false → is_bad token ≡ false → symbol x (get_or rest 0 0) (get_or rest 1 0) ≡ (token, 1) → tokens_in (x ∷ rest) ≡ token ∷ tokens_in rest
unfolding token_at
sign_first token x rest no_word plain good is =
    token_first token x [] rest good plain (ap (λ b. cond b (word (run_of (x ∷ rest)), prefix_len is_word (x ∷ rest)) (symbol x (get_or rest 0 0) (get_or rest 1 0))) no_word ∙ is)

equals_symbol : (b c : ℕ) → (b == 61) ≡ false → symbol 61 b c ≡ (Assign None, 1)
unfolding symbol
equals_symbol b c h =
    ap (λ t. or_shorter (cond (t && (c == 61)) (shifts 61) Bad) 3 (or_shorter (cond t (with_equals 61) Bad) 2 (or_shorter (cond t (doubled 61) Bad) 2 (single 61, 1)))) h

minus_symbol : (b c : ℕ) → (b == 45) ≡ false → (b == 61) ≡ false → symbol 45 b c ≡ (Binary Subtract, 1)
unfolding symbol
minus_symbol b c g h =
    ap (λ t. or_shorter (cond (t && (c == 61)) (shifts 45) Bad) 3 (or_shorter (cond (b == 61) (with_equals 45) Bad) 2 (or_shorter (cond t (doubled 45) Bad) 2 (single 45, 1)))) g
    ∙ ap (λ t. or_shorter (cond t (with_equals 45) Bad) 2 (single 45, 1)) h

semicolon_symbol : (b c : ℕ) → (b == 59) ≡ false → (b == 61) ≡ false → symbol 59 b c ≡ (Separator, 1)
unfolding symbol
semicolon_symbol b c g h =
    ap (λ t. or_shorter (cond (t && (c == 61)) (shifts 59) Bad) 3 (or_shorter (cond (b == 61) (with_equals 59) Bad) 2 (or_shorter (cond t (doubled 59) Bad) 2 (single 59, 1)))) g
    ∙ ap (λ t. or_shorter (cond t (with_equals 59) Bad) 2 (single 59, 1)) h

-- what a number begins with: a digit, or a minus
abbrev pub BeginsNumber : List ℕ → Type 0
BeginsNumber rest = (is_digit (get_or rest 0 0) || (get_or rest 0 0 == 45)) ≡ true

number_no_equals : (c : ℕ) → (is_digit c || (c == 45)) ≡ true → (c == 61) ≡ false
number_no_equals c h = grind (arith, nat_tests)

digit_no_minus : (c : ℕ) → is_digit c ≡ true → (c == 45) ≡ false
digit_no_minus c h = grind (arith, nat_tests)

digit_no_equals : (c : ℕ) → is_digit c ≡ true → (c == 61) ≡ false
digit_no_equals c h = grind (arith, nat_tests)

letter_no_semicolon : (c : ℕ) → is_letter c ≡ true → (c == 59) ≡ false
letter_no_semicolon c h = grind (arith, nat_tests)

letter_no_equals : (c : ℕ) → is_letter c ≡ true → (c == 61) ≡ false
letter_no_equals c h = grind (arith, nat_tests)

pub equals_first : (rest : List ℕ) → BeginsNumber rest → tokens_in (61 ∷ rest) ≡ Assign None ∷ tokens_in rest
equals_first rest h = sign_first (Assign None) 61 rest refl refl refl (equals_symbol (get_or rest 0 0) (get_or rest 1 0) (number_no_equals (get_or rest 0 0) h))

pub minus_first : (rest : List ℕ) → is_digit (get_or rest 0 0) ≡ true → tokens_in (45 ∷ rest) ≡ Binary Subtract ∷ tokens_in rest
minus_first rest h =
    sign_first (Binary Subtract) 45 rest refl refl refl
    (minus_symbol (get_or rest 0 0) (get_or rest 1 0) (digit_no_minus (get_or rest 0 0) h) (digit_no_equals (get_or rest 0 0) h))

pub semicolon_first : (rest : List ℕ) → is_letter (get_or rest 0 0) ≡ true → tokens_in (59 ∷ rest) ≡ Separator ∷ tokens_in rest
semicolon_first rest h =
    sign_first Separator 59 rest refl refl refl
    (semicolon_symbol (get_or rest 0 0) (get_or rest 1 0) (letter_no_semicolon (get_or rest 0 0) h) (letter_no_equals (get_or rest 0 0) h))
