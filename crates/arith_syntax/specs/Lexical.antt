-- The tokens of a text: at each place the longest one that stands there.
use Rattle.std.specs.Prelude.{ℕ, zero, suc, ◌+◌, ◌-◌, ◌*◌, ◌^◌, List, [], ◌∷◌, length, take, drop, Some, None, Bool, true, false, ◌&&◌, ◌||◌, nat_le, nat_lt, ◌==◌, if◌then◌else◌, get_or}
use Rattle.std.specs.List.{list_all, prefix_len}
use Rattle.arith_syntax.specs.declared.operators.BinaryOperator.TheVariants.{LogicalOr, LogicalAnd, BitOr, BitXor, BitAnd, EqualTo, NotEqualTo, LessThan, LessOrEqual, GreaterThan, GreaterOrEqual, ShiftLeft, ShiftRight, Add, Subtract, Multiply, Divide, Remainder}
use Rattle.arith_syntax.specs.declared.token.Token.{Token}
use Rattle.arith_syntax.specs.declared.token.Token.TheVariants.{Number, TooLarge, Name, Binary, Tilde, Exclamation, Assign, Question, Colon, LeftParenthesis, RightParenthesis, Separator, End, Bad}
use Rattle.arith_syntax.specs.Tree.{is_digit, is_letter, is_word}

-- space, tab and carriage return
abbrev pub is_blank : ℕ → Bool
is_blank c = c == 32 || c == 9 || c == 13

-- the value of a digit of base 16
abbrev pub digit_value : ℕ → ℕ
digit_value c = if is_digit c then c - 48 else if nat_le 97 c then c - 87 else c - 55

abbrev pub is_octal : ℕ → Bool
is_octal c = nat_le 48 c && nat_le c 55

abbrev pub is_hexadecimal : ℕ → Bool
is_hexadecimal c = is_digit c || nat_le 65 c && nat_le c 70 || nat_le 97 c && nat_le c 102

-- what digits stand for, behind a number that was read before them
abbrev pub value_after : ℕ → ℕ → List ℕ → ℕ
value_after base n [] = n
value_after base n (c ∷ cs) = value_after base (n * base + digit_value c) cs

-- a constant, by its value
abbrev pub number : ℕ → Token
number n = if nat_lt n (2 ^ 63) then Number n else TooLarge

-- the constant that digits spell
abbrev pub constant_of : ℕ → (ℕ → Bool) → List ℕ → Token
constant_of base is_one digits = if list_all is_one digits then number (value_after base 0 digits) else Bad

abbrev pub begins_hexadecimal : List ℕ → Bool
begins_hexadecimal (z ∷ x ∷ d ∷ more) = z == 48 && (x == 120 || x == 88)
begins_hexadecimal _ = false

-- a run of letters, digits and `_` that begins with a digit: decimal, octal behind `0`, hexadecimal behind `0x` or `0X`
unfoldable pub constant : List ℕ → Token
constant run =
    if begins_hexadecimal run then constant_of 16 is_hexadecimal (drop 2 run)
    else if nat_le 49 (get_or run 0 0) then constant_of 10 is_digit run
    else constant_of 8 is_octal run

-- a run of letters, digits and `_`
abbrev pub word : List ℕ → Token
word run =
    if is_letter (get_or run 0 0) then (if nat_le (length run) 255 then Name run else Bad)
    else constant run

abbrev pub run_of : List ℕ → List ℕ
run_of text = take (prefix_len is_word text) text

-- a character before `=`, both together one token
abbrev pub with_equals : ℕ → Token
with_equals c =
    if c == 61 then Binary EqualTo
    else if c == 33 then Binary NotEqualTo
    else if c == 60 then Binary LessOrEqual
    else if c == 62 then Binary GreaterOrEqual
    else if c == 42 then Assign (Some Multiply)
    else if c == 47 then Assign (Some Divide)
    else if c == 37 then Assign (Some Remainder)
    else if c == 43 then Assign (Some Add)
    else if c == 45 then Assign (Some Subtract)
    else if c == 38 then Assign (Some BitAnd)
    else if c == 94 then Assign (Some BitXor)
    else if c == 124 then Assign (Some BitOr)
    else Bad

-- a character that stands twice, both together one token
abbrev pub doubled : ℕ → Token
doubled c =
    if c == 60 then Binary ShiftLeft
    else if c == 62 then Binary ShiftRight
    else if c == 38 then Binary LogicalAnd
    else if c == 124 then Binary LogicalOr
    else Bad

-- a character that is a token
abbrev pub single : ℕ → Token
single c =
    if c == 43 then Binary Add
    else if c == 45 then Binary Subtract
    else if c == 42 then Binary Multiply
    else if c == 47 then Binary Divide
    else if c == 37 then Binary Remainder
    else if c == 60 then Binary LessThan
    else if c == 62 then Binary GreaterThan
    else if c == 38 then Binary BitAnd
    else if c == 94 then Binary BitXor
    else if c == 124 then Binary BitOr
    else if c == 126 then Tilde
    else if c == 33 then Exclamation
    else if c == 61 then Assign None
    else if c == 63 then Question
    else if c == 58 then Colon
    else if c == 40 then LeftParenthesis
    else if c == 41 then RightParenthesis
    else if c == 59 || c == 10 then Separator
    else Bad

-- `<<=` and `>>=`
abbrev pub shifts : ℕ → Token
shifts c = if c == 60 then Assign (Some ShiftLeft) else if c == 62 then Assign (Some ShiftRight) else Bad

abbrev pub is_bad : Token → Bool
is_bad Bad = true
is_bad _ = false

abbrev pub or_shorter : Token → ℕ → Token × ℕ → Token × ℕ
or_shorter token n shorter = if is_bad token then shorter else (token, n)

-- three characters, or two, or one
unfoldable pub symbol : ℕ → ℕ → ℕ → Token × ℕ
symbol a b c =
    or_shorter (if b == a && c == 61 then shifts a else Bad) 3
    (or_shorter (if b == 61 then with_equals a else Bad) 2
    (or_shorter (if b == a then doubled a else Bad) 2 (single a, 1)))

-- the token that stands first, and its length
unfoldable pub token_at : List ℕ → Token × ℕ
token_at text =
    if is_word (get_or text 0 0) then (word (run_of text), prefix_len is_word text)
    else symbol (get_or text 0 0) (get_or text 1 0) (get_or text 2 0)

-- a token and the place of its first octet
abbrev pub Lexeme : Type 0
Lexeme = Token × ℕ

abbrev pub found : Token → ℕ → List Lexeme → List Lexeme
found token at more = if is_bad token then (Bad, at) ∷ [] else (token, at) ∷ more

-- the tokens of a text from a place on, behind so many octets that belong to the token before
abbrev pub scan : ℕ → ℕ → List ℕ → List Lexeme
scan n at [] = (End, at) ∷ []
scan (suc n) at (c ∷ more) = scan n (at + 1) more
scan zero at (c ∷ more) =
    if is_blank c then scan zero (at + 1) more
    else found (token_at (c ∷ more)).0 at (scan ((token_at (c ∷ more)).1 - 1) (at + 1) more)

-- the tokens of a text with their places; the last is its end, or octets that are no token
unfoldable pub lexemes : List ℕ → List Lexeme
lexemes text = scan 0 0 text
