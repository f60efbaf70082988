-- What is printed is read again.
use Rattle.std.proofs.Common.{◌≡◌, ℕ, zero, suc, ◌+◌, ◌-◌, ◌*◌, ◌^◌, ◌<◌, ◌≤◌, Bool, true, false, cond, Option, Some, None, List, [], ◌∷◌, ◌++◌, length, take, drop, get_or, refl, sym, ap, subst, ◌∙◌, append_assoc, arith}
use Rattle.std.specs.Prelude.{nat_lt, nat_le, ◌==◌, ◌&&◌, ◌||◌, flat_map, map}
use Rattle.std.specs.List.{list_all, prefix_len, filter, AllByRecursion}
use Rattle.std.specs.Fmt.{decimal}
use Rattle.std.specs.Int.{IsInRange}
use Rattle.std.proofs.lemmas.Bool.Decides.{nat_tests}
use Rattle.std.proofs.lemmas.List.{append-nil}
use Rattle.std.proofs.lemmas.Fmt.{digits_decimal, digits_value-decimal, first_decimal, decimal_nonempty, decimal_digit}
use Rattle.std.proofs.lemmas.Str.Parse.{IsNumeralModel, IsDigitsTest, FoldsDigits, numerals_by_fold}
use Rattle.arith_syntax.specs.declared.operators.UnaryOperator.{UnaryOperator}
use Rattle.arith_syntax.specs.declared.operators.UnaryOperator.TheVariants.{Plus, Minus, Complement, Not}
use Rattle.arith_syntax.specs.declared.operators.BinaryOperator.{BinaryOperator}
use Rattle.arith_syntax.specs.declared.operators.BinaryOperator.TheVariants.{LogicalOr, LogicalAnd, BitOr, BitXor, BitAnd, EqualTo, NotEqualTo, LessThan, LessOrEqual, GreaterThan, GreaterOrEqual, ShiftLeft, ShiftRight, Add, Subtract, Multiply, Divide, Remainder}
use Rattle.arith_syntax.specs.declared.token.Token.{Token}
use Rattle.arith_syntax.specs.declared.token.Token.TheVariants.{Number, TooLarge, Name, Binary, Tilde, Exclamation, Assign, Question, Colon, LeftParenthesis, RightParenthesis, Separator, End, Bad}
use Rattle.arith_syntax.specs.Tree.{Tree, Constant, Variable, Parenthesized, Unary, Operation, Conditional, Assignment, is_digit, is_letter, is_word, IsName, assigns, sign, tokens_of, IsExpression}
use Rattle.arith_syntax.specs.Lexical.{is_blank, value_after, number, begins_hexadecimal, constant, word, run_of, is_bad, or_shorter, symbol, token_at, found, scan, lexemes}
use Rattle.arith_syntax.specs.Grammar.{Fits, Grammar, tokens, is_some_part}
use Rattle.arith_syntax.specs.declared.instruction.Instruction.{Instruction}
use Rattle.arith_syntax.specs.declared.instruction.Instruction.TheVariants.{Close, Apply, Infix, Combine, Then, Else, Choose, Store, Finish}
use Rattle.arith_syntax.specs.Written.{instructions_of, all_written}
use Rattle.arith_syntax.specs.Printing.{sign_text, spelled, spaced, line, printed, instruction_text}
use Rattle.arith_syntax.proofs.Sound.{over, program_without, some_tokens}
use Rattle.arith_syntax.proofs.Words.{scan_skip}
use Rattle.std.proofs.lemmas.Bool.{and_parts, and_from}
use Rattle.cluster_types.proofs.Booleans.{or_true, and_false}

-- a spelled token is the first of a text, and no blank
pub record Shown (token : Token) : Type 0 where
  pub some : 0 < length (spelled token)
  pub plain : is_blank (get_or (spelled token) 0 0) ≡ false
  pub first : (rest : List ℕ) → token_at (spelled token ++ 32 ∷ rest) ≡ (token, length (spelled token))

operator_shown : (op : BinaryOperator) → Shown (Binary op)
unfolding token_at symbol
operator_shown LogicalOr = record { some = omega arith; plain = refl; first = λ rest. refl }
operator_shown LogicalAnd = record { some = omega arith; plain = refl; first = λ rest. refl }
operator_shown BitOr = record { some = omega arith; plain = refl; first = λ rest. refl }
operator_shown BitXor = record { some = omega arith; plain = refl; first = λ rest. refl }
operator_shown BitAnd = record { some = omega arith; plain = refl; first = λ rest. refl }
operator_shown EqualTo = record { some = omega arith; plain = refl; first = λ rest. refl }
operator_shown NotEqualTo = record { some = omega arith; plain = refl; first = λ rest. refl }
operator_shown LessThan = record { some = omega arith; plain = refl; first = λ rest. refl }
operator_shown LessOrEqual = record { some = omega arith; plain = refl; first = λ rest. refl }
operator_shown GreaterThan = record { some = omega arith; plain = refl; first = λ rest. refl }
operator_shown GreaterOrEqual = record { some = omega arith; plain = refl; first = λ rest. refl }
operator_shown ShiftLeft = record { some = omega arith; plain = refl; first = λ rest. refl }
operator_shown ShiftRight = record { some = omega arith; plain = refl; first = λ rest. refl }
operator_shown Add = record { some = omega arith; plain = refl; first = λ rest. refl }
operator_shown Subtract = record { some = omega arith; plain = refl; first = λ rest. refl }
operator_shown Multiply = record { some = omega arith; plain = refl; first = λ rest. refl }
operator_shown Divide = record { some = omega arith; plain = refl; first = λ rest. refl }
operator_shown Remainder = record { some = omega arith; plain = refl; first = λ rest. refl }

assign_shown : (op : Option BinaryOperator) → assigns op ≡ true → Shown (Assign op)
unfolding token_at symbol
assign_shown None h = record { some = omega arith; plain = refl; first = λ rest. refl }
assign_shown (Some BitOr) h = record { some = omega arith; plain = refl; first = λ rest. refl }
assign_shown (Some BitXor) h = record { some = omega arith; plain = refl; first = λ rest. refl }
assign_shown (Some BitAnd) h = record { some = omega arith; plain = refl; first = λ rest. refl }
assign_shown (Some ShiftLeft) h = record { some = omega arith; plain = refl; first = λ rest. refl }
assign_shown (Some ShiftRight) h = record { some = omega arith; plain = refl; first = λ rest. refl }
assign_shown (Some Add) h = record { some = omega arith; plain = refl; first = λ rest. refl }
assign_shown (Some Subtract) h = record { some = omega arith; plain = refl; first = λ rest. refl }
assign_shown (Some Multiply) h = record { some = omega arith; plain = refl; first = λ rest. refl }
assign_shown (Some Divide) h = record { some = omega arith; plain = refl; first = λ rest. refl }
assign_shown (Some Remainder) h = record { some = omega arith; plain = refl; first = λ rest. refl }
assign_shown (Some LogicalOr) h = absurd cc
assign_shown (Some LogicalAnd) h = absurd cc
assign_shown (Some EqualTo) h = absurd cc
assign_shown (Some NotEqualTo) h = absurd cc
assign_shown (Some LessThan) h = absurd cc
assign_shown (Some LessOrEqual) h = absurd cc
assign_shown (Some GreaterThan) h = absurd cc
assign_shown (Some GreaterOrEqual) h = absurd cc

tilde_shown : Shown Tilde
unfolding token_at symbol
tilde_shown = record { some = omega arith; plain = refl; first = λ rest. refl }

exclamation_shown : Shown Exclamation
unfolding token_at symbol
exclamation_shown = record { some = omega arith; plain = refl; first = λ rest. refl }

question_shown : Shown Question
unfolding token_at symbol
question_shown = record { some = omega arith; plain = refl; first = λ rest. refl }

colon_shown : Shown Colon
unfolding token_at symbol
colon_shown = record { some = omega arith; plain = refl; first = λ rest. refl }

left_shown : Shown LeftParenthesis
unfolding token_at symbol
left_shown = record { some = omega arith; plain = refl; first = λ rest. refl }

right_shown : Shown RightParenthesis
unfolding token_at symbol
right_shown = record { some = omega arith; plain = refl; first = λ rest. refl }

-- a run ends at a space
run_len : (xs rest : List ℕ) → list_all is_word xs ≡ true → prefix_len is_word (xs ++ 32 ∷ rest) ≡ length xs
run_len [] rest h = refl
run_len (x ∷ xs) rest h =
    let p = and_parts (is_word x) (list_all is_word xs) h in
    let more : prefix_len is_word (xs ++ 32 ∷ rest) ≡ length xs = run_len xs rest p.1 in
    ap (λ b. cond b (1 + prefix_len is_word (xs ++ 32 ∷ rest)) 0) p.0 ∙ omega arith

take_front : (xs ys : List ℕ) → take (length xs) (xs ++ ys) ≡ xs
take_front [] ys = refl
take_front (x ∷ xs) ys = ap (λ l. x ∷ l) (take_front xs ys)

run_is : (xs rest : List ℕ) → list_all is_word xs ≡ true → run_of (xs ++ 32 ∷ rest) ≡ xs
run_is xs rest h = ap (λ n. take n (xs ++ 32 ∷ rest)) (run_len xs rest h) ∙ take_front xs (32 ∷ rest)

word_at : (b : Bool) (t s : Token × ℕ) → b ≡ true → cond b t s ≡ t
word_at b t s h = ap (λ c. cond c t s) h

-- a run of letters, digits and `_` before a space
run_token : (x : ℕ) (xs rest : List ℕ) → list_all is_word (x ∷ xs) ≡ true → token_at ((x ∷ xs) ++ 32 ∷ rest) ≡ (word (x ∷ xs), length (x ∷ xs))
unfolding token_at
run_token x xs rest h =
    let p = and_parts (is_word x) (list_all is_word xs) h in
    word_at (is_word x) _ _ p.0
    ∙ ap (λ l. (word l, prefix_len is_word ((x ∷ xs) ++ 32 ∷ rest))) (run_is (x ∷ xs) rest h)
    ∙ ap (λ n. (word (x ∷ xs), n)) (run_len (x ∷ xs) rest h)

le_true : (m n : ℕ) → m ≤ n → nat_le m n ≡ true
le_true m n h = grind arith

lt_true : (m n : ℕ) → m < n → nat_lt m n ≡ true
lt_true m n h = grind arith

letter_blank : (c : ℕ) → is_letter c ≡ true → is_blank c ≡ false
letter_blank c h = grind (arith, nat_tests)

no_start : ◌≡◌ {A = Bool} false true → ⊥
no_start h = cc

name_shown : (x : List ℕ) → IsName x → Shown (Name x)
name_shown [] n = absurd (no_start n.begins)
name_shown (c ∷ cs) n =
    record {
      some = omega arith;
      plain = letter_blank c n.begins;
      first = λ rest. run_token c cs rest n.words
          ∙ ap (λ b. (cond b (cond (nat_le (length (c ∷ cs)) 255) (Name (c ∷ cs)) Bad) (constant (c ∷ cs)), length (c ∷ cs))) n.begins
          ∙ ap (λ b. (cond b (Name (c ∷ cs)) Bad, length (c ∷ cs))) (le_true (length (c ∷ cs)) 255 n.short);
    }

digit_range : (c : ℕ) → is_digit c ≡ true → IsInRange 48 57 c
digit_range c h = grind (arith, nat_tests)

range_digit : (c : ℕ) → IsInRange 48 57 c → is_digit c ≡ true
range_digit c h = grind (arith, nat_tests)

digits_test : IsDigitsTest (λ ds. list_all is_digit ds ≡ true)
digits_test = record {
  empty = refl;
  parts = λ c cs h. let p = and_parts (is_digit c) (list_all is_digit cs) h in (digit_range c p.0, p.1);
  more = λ c cs h k. and_from (is_digit c) (list_all is_digit cs) (range_digit c h) k;
}

digits_fold : FoldsDigits (value_after 10)
digits_fold = record {
  empty = λ n. refl;
  more = λ n c cs h. ap (λ b. value_after 10 (n * 10 + cond b (c - 48) (cond (nat_le 97 c) (c - 87) (c - 55))) cs) (range_digit c h);
}

own : IsNumeralModel (λ ds. list_all is_digit ds ≡ true) (value_after 10 0)
own = numerals_by_fold (λ ds. list_all is_digit ds ≡ true) digits_test (value_after 10) digits_fold

digit_word : (c : ℕ) → is_digit c ≡ true → is_word c ≡ true
digit_word c h = ap (λ b. is_letter c || b) h ∙ or_true (is_letter c)

digit_blank : (c : ℕ) → is_digit c ≡ true → is_blank c ≡ false
digit_blank c h = grind (arith, nat_tests)

digit_letter : (c : ℕ) → is_digit c ≡ true → is_letter c ≡ false
digit_letter c h = grind (arith, nat_tests)

no_x : (a b : ℕ) → is_digit b ≡ true → ((a == 48) && (b == 120 || b == 88)) ≡ false
no_x a b h = let e : (b == 120 || b == 88) ≡ false = grind (arith, nat_tests) in ap (λ c. (a == 48) && c) e ∙ and_false (a == 48)

digits_words : (ds : List ℕ) → list_all is_digit ds ≡ true → list_all is_word ds ≡ true
digits_words [] h = refl
digits_words (c ∷ cs) h =
    let p = and_parts (is_digit c) (list_all is_digit cs) h in
    and_from (is_word c) (list_all is_word cs) (digit_word c p.0) (digits_words cs p.1)

number_small : (n : ℕ) → n < 2 ^ 63 → number n ≡ Number n
number_small n h = ap (λ b. cond b (Number n) TooLarge) (lt_true n (2 ^ 63) h)

digits_hexadecimal : (ds : List ℕ) → list_all is_digit ds ≡ true → begins_hexadecimal ds ≡ false
digits_hexadecimal [] h = refl
digits_hexadecimal (a ∷ []) h = refl
digits_hexadecimal (a ∷ b ∷ []) h = refl
digits_hexadecimal (a ∷ b ∷ c ∷ ds) h =
    let p = and_parts (is_digit a) (list_all is_digit (b ∷ c ∷ ds)) h in
    let q = and_parts (is_digit b) (list_all is_digit (c ∷ ds)) p.1 in
    no_x a b q.0

cond_false : (b : Bool) (x y : Token) → b ≡ false → cond b x y ≡ y
cond_false b x y h = ap (λ c. cond c x y) h

cond_true : (b : Bool) (x y : Token) → b ≡ true → cond b x y ≡ x
cond_true b x y h = ap (λ c. cond c x y) h

-- digits that don't begin with 0 are their number
decimal_constant : (ds : List ℕ) (n : ℕ) → list_all is_digit ds ≡ true → 48 < get_or ds 0 0 → value_after 10 0 ds ≡ n → n < 2 ^ 63 → constant ds ≡ Number n
unfolding constant
decimal_constant ds n all first value small =
    cond_false (begins_hexadecimal ds) _ _ (digits_hexadecimal ds all)
    ∙ cond_true (nat_le 49 (get_or ds 0 0)) _ _ (le_true 49 (get_or ds 0 0) (omega arith))
    ∙ cond_true (list_all is_digit ds) _ _ all
    ∙ ap number value
    ∙ number_small n small

zero_constant : constant (48 ∷ []) ≡ Number 0
unfolding constant
zero_constant = refl

-- a spelled number
pub record Numeral (ds : List ℕ) (n : ℕ) : Type 0 where
  pub digits : list_all is_digit ds ≡ true
  pub some : 0 < length ds
  pub is : constant ds ≡ Number n

numeral : (n : ℕ) → n < 2 ^ 63 → Numeral (decimal n) n
numeral zero h =
    let zero_is : decimal 0 ≡ 48 ∷ [] = decimal_digit 0 (omega arith) in
    subst (λ l. Numeral l 0) (sym zero_is) (record { digits = refl; some = omega arith; is = zero_constant })
numeral (suc m) h =
    let n = suc m in
    let fits : n < 2 ^ 64 = omega arith in
    record {
      digits = digits_decimal own n fits;
      some = decimal_nonempty n fits;
      is = decimal_constant (decimal n) n (digits_decimal own n fits) (first_decimal n (omega arith) fits) (digits_value-decimal own n fits) h;
    }

numeral_shown : (ds : List ℕ) (n : ℕ) → Numeral ds n → (0 < length ds) × (is_blank (get_or ds 0 0) ≡ false) × ((rest : List ℕ) → token_at (ds ++ 32 ∷ rest) ≡ (Number n, length ds))
numeral_shown [] n d = absurd (omega (arith, d.some))
numeral_shown (c ∷ cs) n d =
    let p = and_parts (is_digit c) (list_all is_digit cs) d.digits in (
      omega arith,
      digit_blank c p.0,
      λ rest.
          run_token c cs rest (digits_words (c ∷ cs) d.digits)
          ∙ ap (λ t. (t, length (c ∷ cs))) (cond_false (is_letter c) (cond (nat_le (length (c ∷ cs)) 255) (Name (c ∷ cs)) Bad) (constant (c ∷ cs)) (digit_letter c p.0) ∙ d.is),
    )

number_shown : (n : ℕ) → n < 2 ^ 63 → Shown (Number n)
number_shown n h = let s = numeral_shown (decimal n) n (numeral n h) in record { some = s.0; plain = s.1; first = s.2 }

ltail : (xs : List ℕ) (c : ℕ) (rest : List ℕ) → drop (length xs) (xs ++ c ∷ rest) ≡ c ∷ rest
ltail [] c rest = refl
ltail (x ∷ xs) c rest = ltail xs c rest

room : (xs : List ℕ) (c : ℕ) (rest : List ℕ) → length xs ≤ length (xs ++ c ∷ rest)
room [] c rest = omega arith
room (x ∷ xs) c rest = let h = room xs c rest in omega (arith, h)

-- a spelled token and a space are one lexeme
shown_at : (token : Token) (x : ℕ) (xs : List ℕ) → is_bad token ≡ false → is_blank x ≡ false → (at : ℕ) (rest : List ℕ) → token_at ((x ∷ xs) ++ 32 ∷ rest) ≡ (token, length (x ∷ xs)) → (next : ℕ) × (tokens (scan 0 at ((x ∷ xs) ++ 32 ∷ rest)) ≡ token ∷ tokens (scan 0 next rest))
shown_at token x xs good plain at rest first =
    let less : length (x ∷ xs) - 1 ≡ length xs = omega arith in (
      at + 1 + length xs + 1,
      ap (λ b. tokens (cond b (scan 0 (at + 1) (xs ++ 32 ∷ rest)) (found (token_at ((x ∷ xs) ++ 32 ∷ rest)).0 at (scan ((token_at ((x ∷ xs) ++ 32 ∷ rest)).1 - 1) (at + 1) (xs ++ 32 ∷ rest))))) plain
          ∙ ap (λ (p : Token × ℕ). tokens (found p.0 at (scan (p.1 - 1) (at + 1) (xs ++ 32 ∷ rest)))) first
          ∙ ap (λ b. tokens (cond b ((Bad, at) ∷ []) ((token, at) ∷ scan (length (x ∷ xs) - 1) (at + 1) (xs ++ 32 ∷ rest)))) good
          ∙ ap (λ n. token ∷ tokens (scan n (at + 1) (xs ++ 32 ∷ rest))) less
          ∙ ap (λ l. token ∷ tokens l) (scan_skip (length xs) (at + 1) (xs ++ 32 ∷ rest) (room xs 32 rest)
          ∙ ap (scan 0 (at + 1 + length xs)) (ltail xs 32 rest)),
    )

shown_by : (token : Token) (text : List ℕ) → is_bad token ≡ false → 0 < length text → is_blank (get_or text 0 0) ≡ false → (at : ℕ) (rest : List ℕ) → token_at (text ++ 32 ∷ rest) ≡ (token, length text) → (next : ℕ) × (tokens (scan 0 at (text ++ 32 ∷ rest)) ≡ token ∷ tokens (scan 0 next rest))
shown_by token [] good some plain at rest first = absurd (omega arith)
shown_by token (x ∷ xs) good some plain at rest first = shown_at token x xs good plain at rest first

shown : (token : Token) → Shown token → is_bad token ≡ false → (at : ℕ) (rest : List ℕ) → (next : ℕ) × (tokens (scan 0 at (spelled token ++ 32 ∷ rest)) ≡ token ∷ tokens (scan 0 next rest))
shown token s good at rest = shown_by token (spelled token) good s.some s.plain at rest (s.first rest)

-- what is read of a text with something behind it
abbrev pub ReadsAs : List ℕ → List Token → Type 0
ReadsAs text ts = (at : ℕ) (rest : List ℕ) → (next : ℕ) × (tokens (scan 0 at (text ++ rest)) ≡ ts ++ tokens (scan 0 next rest))

reads_token : (token : Token) → Shown token → is_bad token ≡ false → ReadsAs (spaced token) (token ∷ [])
reads_token token s good = λ at rest.
    let r = shown token s good at rest in
    (r.0, ap (λ l. tokens (scan 0 at l)) (append_assoc (spelled token) (32 ∷ []) rest) ∙ r.1)

reads_both : (a b : List ℕ) (x y : List Token) → ReadsAs a x → ReadsAs b y → ReadsAs (a ++ b) (x ++ y)
reads_both a b x y f g = λ at rest.
    let p = f at (b ++ rest) in
    let q = g p.0 rest in
    (q.0, ap (λ l. tokens (scan 0 at l)) (append_assoc a b rest) ∙ p.1 ∙ ap (λ l. x ++ l) q.1 ∙ sym (append_assoc x y (tokens (scan 0 q.0 rest))))

flat_append : (x y : List Token) → flat_map spaced (x ++ y) ≡ flat_map spaced x ++ flat_map spaced y
flat_append [] y = refl
flat_append (t ∷ x) y = ap (λ l. spaced t ++ l) (flat_append x y) ∙ sym (append_assoc (spaced t) (flat_map spaced x) (flat_map spaced y))

-- tokens one after another
abbrev pub Spells : List Token → Type 0
Spells ts = ReadsAs (flat_map spaced ts) ts

one_spells : (token : Token) → Shown token → is_bad token ≡ false → Spells (token ∷ [])
one_spells token s good = subst (λ l. ReadsAs l (token ∷ [])) (sym (append-nil (spaced token))) (reads_token token s good)

both_spell : (x y : List Token) → Spells x → Spells y → Spells (x ++ y)
both_spell x y f g = subst (λ l. ReadsAs l (x ++ y)) (sym (flat_append x y)) (reads_both (flat_map spaced x) (flat_map spaced y) x y f g)

more_spells : (token : Token) (ts : List Token) → Shown token → is_bad token ≡ false → Spells ts → Spells (token ∷ ts)
more_spells token ts s good f = both_spell (token ∷ []) ts (one_spells token s good) f

sign_shown : (op : UnaryOperator) → Shown (sign op) × (is_bad (sign op) ≡ false)
sign_shown Plus = (operator_shown Add, refl)
sign_shown Minus = (operator_shown Subtract, refl)
sign_shown Complement = (tilde_shown, refl)
sign_shown Not = (exclamation_shown, refl)

-- the tokens of an expression
pub tree_spells : (e : Tree) → IsExpression e → Spells (tokens_of e)
tree_spells (Constant n) g = one_spells (Number n) (number_shown n g) refl
tree_spells (Variable x) g = one_spells (Name x) (name_shown x g) refl
tree_spells (Parenthesized e) g =
    more_spells LeftParenthesis (tokens_of e ++ RightParenthesis ∷ []) left_shown refl (both_spell (tokens_of e) (RightParenthesis ∷ []) (tree_spells e g) (one_spells RightParenthesis right_shown refl))
tree_spells (Unary op e) g = more_spells (sign op) (tokens_of e) (sign_shown op).0 (sign_shown op).1 (tree_spells e g.1)
tree_spells (Operation op a b) g =
    both_spell (tokens_of a) (Binary op ∷ tokens_of b) (tree_spells a g.2) (more_spells (Binary op) (tokens_of b) (operator_shown op) refl (tree_spells b g.3))
tree_spells (Conditional c a b) g =
    both_spell (tokens_of c) (Question ∷ (tokens_of a ++ Colon ∷ tokens_of b)) (tree_spells c g.2)
    (more_spells Question (tokens_of a ++ Colon ∷ tokens_of b) question_shown refl
    (both_spell (tokens_of a) (Colon ∷ tokens_of b) (tree_spells a g.3) (more_spells Colon (tokens_of b) colon_shown refl (tree_spells b g.4))))
tree_spells (Assignment x op e) g =
    more_spells (Name x) (Assign op ∷ tokens_of e) (name_shown x g.0) refl (more_spells (Assign op) (tokens_of e) (assign_shown op g.1) refl (tree_spells e g.2))

same_choice : (b : Bool) (t : Token) → cond b t t ≡ t
same_choice true t = refl
same_choice false t = refl

feed_symbol : (b c : ℕ) → symbol 10 b c ≡ (Separator, 1)
unfolding symbol
feed_symbol b c =
    ap (λ t. or_shorter t 3 (or_shorter (cond (b == 61) Bad Bad) 2 (or_shorter (cond (b == 10) Bad Bad) 2 (Separator, 1)))) (same_choice ((b == 10) && (c == 61)) Bad)
    ∙ ap (λ t. or_shorter t 2 (or_shorter (cond (b == 10) Bad Bad) 2 (Separator, 1))) (same_choice (b == 61) Bad)
    ∙ ap (λ t. or_shorter t 2 (Separator, 1)) (same_choice (b == 10) Bad)

feed_token : (rest : List ℕ) → token_at (10 ∷ rest) ≡ (Separator, 1)
unfolding token_at
feed_token rest = feed_symbol (get_or (10 ∷ rest) 1 0) (get_or (10 ∷ rest) 2 0)

feed_reads : ReadsAs (10 ∷ []) (Separator ∷ [])
feed_reads = λ at rest.
    (at + 1, ap (λ (p : Token × ℕ). tokens (found p.0 at (scan (p.1 - 1) (at + 1) rest))) (feed_token rest))

line_reads : (e : Tree) → IsExpression e → ReadsAs (line e) (tokens_of e ++ Separator ∷ [])
line_reads e g = reads_both (flat_map spaced (tokens_of e)) (10 ∷ []) (tokens_of e) (Separator ∷ []) (tree_spells e g) feed_reads

printed_reads : (trees : List Tree) → AllByRecursion (Fits 64) trees → (at : ℕ) → tokens (scan 0 at (flat_map line trees)) ≡ over (map tokens_of trees) ++ End ∷ []
printed_reads [] h at = refl
printed_reads (e ∷ trees) h at =
    let p = line_reads e h.0.grammar at (flat_map line trees) in
    p.1 ∙ ap (λ l. (tokens_of e ++ Separator ∷ []) ++ l) (printed_reads trees h.1 p.0)
    ∙ sym (append_assoc (tokens_of e ++ Separator ∷ []) (over (map tokens_of trees)) (End ∷ []))

all_some : (trees : List Tree) → filter is_some_part (map tokens_of trees) ≡ map tokens_of trees
all_some [] = refl
all_some (e ∷ trees) = ap (λ b. cond b (tokens_of e ∷ filter is_some_part (map tokens_of trees)) (filter is_some_part (map tokens_of trees))) (some_tokens e) ∙ ap (λ l. tokens_of e ∷ l) (all_some trees)

-- the printed text is the program's
pub printed_is : (trees : List Tree) → AllByRecursion (Fits 64) trees → length (printed trees) ≤ 65536 → Grammar (printed trees) trees
unfolding printed lexemes
printed_is trees h short =
    record {
      short = short;
      all = over (map tokens_of trees) ++ [];
      read = printed_reads trees h 0 ∙ ap (λ l. l ++ End ∷ []) (sym (append-nil (over (map tokens_of trees))));
      program = program_without 64 (map tokens_of trees) trees (all_some trees) h;
    }

flat_text : (x y : List Instruction) → flat_map instruction_text (x ++ y) ≡ flat_map instruction_text x ++ flat_map instruction_text y
flat_text [] y = refl
flat_text (i ∷ x) y = ap (λ l. instruction_text i ++ l) (flat_text x y) ∙ sym (append_assoc (instruction_text i) (flat_map instruction_text x) (flat_map instruction_text y))

sign_spelled : (op : UnaryOperator) → sign_text op ++ 32 ∷ [] ≡ spaced (sign op)
sign_spelled Plus = refl
sign_spelled Minus = refl
sign_spelled Complement = refl
sign_spelled Not = refl

-- an expression's instructions print its tokens
tree_text : (e : Tree) → flat_map instruction_text (instructions_of e) ≡ flat_map spaced (tokens_of e)
tree_text (Constant n) = refl
tree_text (Variable x) = refl
tree_text (Parenthesized e) =
    ap (λ l. spaced LeftParenthesis ++ l) (flat_text (instructions_of e) (Close ∷ []) ∙ ap (λ l. l ++ (spaced RightParenthesis ++ [])) (tree_text e) ∙ sym (flat_append (tokens_of e) (RightParenthesis ∷ [])))
tree_text (Unary op e) =
    ap (λ l. l ++ flat_map instruction_text (instructions_of e ++ Apply op ∷ [])) (sign_spelled op)
    ∙ ap (λ l. spaced (sign op) ++ l) (flat_text (instructions_of e) (Apply op ∷ []) ∙ append-nil (flat_map instruction_text (instructions_of e)) ∙ tree_text e)
tree_text (Operation op a b) =
    flat_text (instructions_of a) (Infix op ∷ (instructions_of b ++ Combine op ∷ []))
    ∙ ap (λ l. l ++ (spaced (Binary op) ++ flat_map instruction_text (instructions_of b ++ Combine op ∷ []))) (tree_text a)
    ∙ ap (λ l. flat_map spaced (tokens_of a) ++ (spaced (Binary op) ++ l)) (flat_text (instructions_of b) (Combine op ∷ []) ∙ append-nil (flat_map instruction_text (instructions_of b)) ∙ tree_text b)
    ∙ sym (flat_append (tokens_of a) (Binary op ∷ tokens_of b))
tree_text (Conditional c a b) =
    flat_text (instructions_of c) (Then ∷ (instructions_of a ++ Else ∷ (instructions_of b ++ Choose ∷ [])))
    ∙ ap (λ l. l ++ (spaced Question ++ flat_map instruction_text (instructions_of a ++ Else ∷ (instructions_of b ++ Choose ∷ [])))) (tree_text c)
    ∙ ap (λ l. flat_map spaced (tokens_of c) ++ (spaced Question ++ l))
    (flat_text (instructions_of a) (Else ∷ (instructions_of b ++ Choose ∷ []))
    ∙ ap (λ l. l ++ (spaced Colon ++ flat_map instruction_text (instructions_of b ++ Choose ∷ []))) (tree_text a)
    ∙ ap (λ l. flat_map spaced (tokens_of a) ++ (spaced Colon ++ l)) (flat_text (instructions_of b) (Choose ∷ []) ∙ append-nil (flat_map instruction_text (instructions_of b)) ∙ tree_text b)
    ∙ sym (flat_append (tokens_of a) (Colon ∷ tokens_of b)))
    ∙ sym (flat_append (tokens_of c) (Question ∷ (tokens_of a ++ Colon ∷ tokens_of b)))
tree_text (Assignment x op e) =
    append_assoc (spaced (Name x)) (spaced (Assign op)) (flat_map instruction_text (instructions_of e ++ Store x op ∷ []))
    ∙ ap (λ l. spaced (Name x) ++ (spaced (Assign op) ++ l)) (flat_text (instructions_of e) (Store x op ∷ []) ∙ append-nil (flat_map instruction_text (instructions_of e)) ∙ tree_text e)

pub program_text : (trees : List Tree) → flat_map instruction_text (all_written trees) ≡ printed trees
unfolding printed
program_text [] = refl
program_text (e ∷ trees) =
    flat_text (instructions_of e ++ Finish ∷ []) (all_written trees)
    ∙ ap (λ l. l ++ flat_map instruction_text (all_written trees)) (flat_text (instructions_of e) (Finish ∷ []) ∙ ap (λ l. l ++ 10 ∷ []) (tree_text e))
    ∙ ap (λ l. line e ++ l) (program_text trees)
