-- The trees of expressions: operators with their precedence, as POSIX XCU 2.6.4 takes them from C.
use Rattle.std.specs.Prelude.{◌≡◌, ℕ, ◌+◌, ◌^◌, ◌<◌, ◌≤◌, max, List, [], ◌∷◌, ◌++◌, length, Option, Some, None, Bool, true, false, ◌&&◌, ◌||◌, nat_le}
use Rattle.std.specs.List.{list_all}
use Rattle.arith_syntax.specs.declared.operators.UnaryOperator.{UnaryOperator}
use Rattle.arith_syntax.specs.declared.operators.UnaryOperator.TheVariants.{Plus, Minus, Complement, Not}
use Rattle.arith_syntax.specs.declared.operators.BinaryOperator.{BinaryOperator}
use Rattle.arith_syntax.specs.declared.operators.BinaryOperator.TheVariants.{LogicalOr, LogicalAnd, BitOr, BitXor, BitAnd, EqualTo, NotEqualTo, LessThan, LessOrEqual, GreaterThan, GreaterOrEqual, ShiftLeft, ShiftRight, Add, Subtract, Multiply, Divide, Remainder}
use Rattle.arith_syntax.specs.declared.token.Token.{Token}
use Rattle.arith_syntax.specs.declared.token.Token.TheVariants.{Number, Name, Binary, Tilde, Exclamation, Assign, Question, Colon, LeftParenthesis, RightParenthesis}

-- an expression; parentheses that were written stay
pub data Tree : Type 0 where
  Constant : ℕ → Tree
  Variable : List ℕ → Tree
  Parenthesized : Tree → Tree
  Unary : UnaryOperator → Tree → Tree
  Operation : BinaryOperator → Tree → Tree → Tree
  Conditional : Tree → Tree → Tree → Tree
  Assignment : List ℕ → Option BinaryOperator → Tree → Tree

-- the level of each binary operator; a higher one binds tighter
abbrev pub level_of : BinaryOperator → ℕ
level_of LogicalOr = 3
level_of LogicalAnd = 4
level_of BitOr = 5
level_of BitXor = 6
level_of BitAnd = 7
level_of EqualTo = 8
level_of NotEqualTo = 8
level_of LessThan = 9
level_of LessOrEqual = 9
level_of GreaterThan = 9
level_of GreaterOrEqual = 9
level_of ShiftLeft = 10
level_of ShiftRight = 10
level_of Add = 11
level_of Subtract = 11
level_of Multiply = 12
level_of Divide = 12
level_of Remainder = 12

-- the level of an expression, by what it is made of last
abbrev pub level : Tree → ℕ
level (Constant n) = 14
level (Variable x) = 14
level (Parenthesized e) = 14
level (Unary op e) = 13
level (Operation op a b) = level_of op
level (Conditional c a b) = 2
level (Assignment x op e) = 1

-- the operators that assign: `=`, and a binary operator with `=` behind it
abbrev pub assigns : Option BinaryOperator → Bool
assigns None = true
assigns (Some BitOr) = true
assigns (Some BitXor) = true
assigns (Some BitAnd) = true
assigns (Some ShiftLeft) = true
assigns (Some ShiftRight) = true
assigns (Some Add) = true
assigns (Some Subtract) = true
assigns (Some Multiply) = true
assigns (Some Divide) = true
assigns (Some Remainder) = true
assigns (Some _) = false

abbrev pub is_digit : ℕ → Bool
is_digit c = nat_le 48 c && nat_le c 57

-- a letter of ASCII or `_`
abbrev pub is_letter : ℕ → Bool
is_letter c = nat_le 65 c && nat_le c 90 || nat_le 97 c && nat_le c 122 || nat_le 95 c && nat_le c 95

abbrev pub is_word : ℕ → Bool
is_word c = is_letter c || is_digit c

abbrev pub begins_name : List ℕ → Bool
begins_name [] = false
begins_name (c ∷ cs) = is_letter c

-- a letter or `_`, then letters, digits and `_`, at most 255
pub record IsName (name : List ℕ) : Type 0 where
  pub begins : begins_name name ≡ true
  pub words : list_all is_word name ≡ true
  pub short : length name ≤ 255

-- the operands of each operator bind at least as tight as its level allows: a binary operator groups to the left, so
-- its second operand binds tighter than itself; unary operators, `? :` and assignments group to the right
abbrev pub IsExpression : Tree → Type 0
IsExpression (Constant n) = n < 2 ^ 63
IsExpression (Variable x) = IsName x
IsExpression (Parenthesized e) = IsExpression e
IsExpression (Unary op e) = (13 ≤ level e) × IsExpression e
IsExpression (Operation op a b) = (level_of op ≤ level a) × (level_of op < level b) × IsExpression a × IsExpression b
IsExpression (Conditional c a b) = (3 ≤ level c) × (2 ≤ level b) × IsExpression c × IsExpression a × IsExpression b
IsExpression (Assignment x op e) = IsName x × (assigns op ≡ true) × IsExpression e

-- how many parentheses, unary operators, `?` and assignment operators are open at the deepest place
abbrev pub nesting : Tree → ℕ
nesting (Constant n) = 0
nesting (Variable x) = 0
nesting (Parenthesized e) = nesting e + 1
nesting (Unary op e) = nesting e + 1
nesting (Operation op a b) = max (nesting a) (nesting b)
nesting (Conditional c a b) = max (nesting c) (max (nesting a) (nesting b) + 1)
nesting (Assignment x op e) = nesting e + 1

abbrev pub sign : UnaryOperator → Token
sign Plus = Binary Add
sign Minus = Binary Subtract
sign Complement = Tilde
sign Not = Exclamation

-- the tokens of an expression, in order
abbrev pub tokens_of : Tree → List Token
tokens_of (Constant n) = Number n ∷ []
tokens_of (Variable x) = Name x ∷ []
tokens_of (Parenthesized e) = LeftParenthesis ∷ (tokens_of e ++ RightParenthesis ∷ [])
tokens_of (Unary op e) = sign op ∷ tokens_of e
tokens_of (Operation op a b) = tokens_of a ++ Binary op ∷ tokens_of b
tokens_of (Conditional c a b) = tokens_of c ++ Question ∷ (tokens_of a ++ Colon ∷ tokens_of b)
tokens_of (Assignment x op e) = Name x ∷ Assign op ∷ tokens_of e
