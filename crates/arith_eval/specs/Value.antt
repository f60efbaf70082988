-- The value of expressions, by POSIX XCU 2.6.4 and C: operands from left to right, and only those that are needed.
use Rattle.std.specs.Prelude.{◌≡◌, ℕ, ℤ, pos, negsuc, ◌+ℤ◌, ◌-ℤ◌, ◌*ℤ◌, neg_ℤ, List, [], ◌∷◌, ◌++◌, Option, Some, None, Result, Ok, Err, Bool, true, false, not, bit_and, bit_or, bit_xor, int_lt, int_le, int_rem, nat_lt, if◌then◌else◌}
use Rattle.std.specs.Int.{w64, cast_signed, cast_unsigned, int_wrap, int_wrapping_div, int_shl, int_shr}
use Rattle.std.specs.Ordering.{int_eq}
use Rattle.arith_syntax.specs.declared.operators.UnaryOperator.{UnaryOperator}
use Rattle.arith_syntax.specs.declared.operators.UnaryOperator.TheVariants.{Plus, Minus, Complement, Not}
use Rattle.arith_syntax.specs.declared.operators.BinaryOperator.{BinaryOperator}
use Rattle.arith_syntax.specs.declared.operators.BinaryOperator.TheVariants.{LogicalOr, LogicalAnd, BitOr, BitXor, BitAnd, EqualTo, NotEqualTo, LessThan, LessOrEqual, GreaterThan, GreaterOrEqual, ShiftLeft, ShiftRight, Add, Subtract, Multiply, Divide, Remainder}
use Rattle.arith_syntax.specs.Tree.{Tree, Constant, Variable, Parenthesized, Unary, Operation, Conditional, Assignment}
use Rattle.arith_eval.specs.declared.error.ArithError.{ArithError}
use Rattle.arith_eval.specs.declared.error.ArithError.TheVariants.{NameError, ZeroDivision, ShiftRange, OutOfMemory}
use Rattle.arith_eval.specs.Names.{Environment, Assigned, assign}

abbrev pub Number : Type 0
Number = Result ℤ ArithError

abbrev pub is_zero : ℤ → Bool
is_zero (pos n) = nat_lt n 1
is_zero (negsuc n) = false

-- 1 for what holds, 0 for what doesn't
abbrev pub truth : Bool → ℤ
truth true = pos 1
truth false = pos 0

-- all bits turned
abbrev pub complement : ℤ → ℤ
complement (pos n) = negsuc n
complement (negsuc n) = pos n

abbrev pub unary : UnaryOperator → ℤ → ℤ
unary Plus a = a
unary Minus a = int_wrap w64 (neg_ℤ a)
unary Complement a = complement a
unary Not a = truth (is_zero a)

-- two's complement, bit by bit
abbrev pub bitwise : (ℕ → ℕ → ℕ) → ℤ → ℤ → ℤ
bitwise f a b = cast_signed w64 (f (cast_unsigned w64 a) (cast_unsigned w64 b))

-- a shift by 0 to 63
abbrev pub shifted : (ℕ → ℤ) → ℤ → Number
shifted f (pos count) = if nat_lt count 64 then Ok (f count) else Err (ShiftRange (pos count))
shifted f (negsuc count) = Err (ShiftRange (negsuc count))

-- what divides needs a divisor
abbrev pub divided : ℤ → ℤ → Number
divided quotient b = if is_zero b then Err ZeroDivision else Ok quotient

-- two numbers under an operator
abbrev pub binary : BinaryOperator → ℤ → ℤ → Number
binary LogicalOr a b = Ok (truth (not (is_zero b)))
binary LogicalAnd a b = Ok (truth (not (is_zero b)))
binary BitOr a b = Ok (bitwise bit_or a b)
binary BitXor a b = Ok (bitwise bit_xor a b)
binary BitAnd a b = Ok (bitwise bit_and a b)
binary EqualTo a b = Ok (truth (int_eq a b))
binary NotEqualTo a b = Ok (truth (not (int_eq a b)))
binary LessThan a b = Ok (truth (int_lt a b))
binary LessOrEqual a b = Ok (truth (int_le a b))
binary GreaterThan a b = Ok (truth (int_lt b a))
binary GreaterOrEqual a b = Ok (truth (int_le b a))
binary ShiftLeft a b = shifted (λ count. int_shl w64 a count) b
binary ShiftRight a b = shifted (λ count. int_shr a count) b
binary Add a b = Ok (int_wrap w64 (a +ℤ b))
binary Subtract a b = Ok (int_wrap w64 (a -ℤ b))
binary Multiply a b = Ok (int_wrap w64 (a *ℤ b))
binary Divide a b = divided (int_wrapping_div w64 a b) b
binary Remainder a b = divided (int_rem a b) b

-- a value or a fault, the assignments that were made, in order, and the names as they stand then
pub record Outcome : Type 0 where
  pub value : Number
  pub made : Assigned
  pub names : Environment

abbrev pub outcome : Number → Environment → Outcome
outcome value names = record { value = value; made = []; names = names }

-- a value that a name has from here on
abbrev pub assignment : List ℕ → ℤ → Environment → Outcome
assignment x v names = record { value = Ok v; made = (x, v) ∷ []; names = assign names x v }

-- an outcome, with the assignments that were made before it
abbrev pub made_before : Assigned → Outcome → Outcome
made_before made o = record { value = o.value; made = made ++ o.made; names = o.names }

-- goes on with a value; a fault ends it
abbrev pub with_value : Number → Environment → (ℤ → Environment → Outcome) → Outcome
with_value (Ok v) names go = go v names
with_value (Err f) names go = outcome (Err f) names

abbrev pub and_then : Outcome → (ℤ → Environment → Outcome) → Outcome
and_then o go = made_before o.made (with_value o.value o.names go)

abbrev pub load : Environment → List ℕ → Option ℤ → Number
load names x None = Err (NameError x)
load names x (Some v) = Ok v

abbrev pub value_of_name : Environment → List ℕ → Number
value_of_name names x = load names x (names x)

-- two operands under an operator; of `&&` and `||` the second only where it is needed
abbrev pub operation : BinaryOperator → Outcome → (Environment → Outcome) → Outcome
operation LogicalAnd first second = and_then first (λ a names. if is_zero a then outcome (Ok (pos 0)) names else and_then (second names) (λ b after. outcome (binary LogicalAnd a b) after))
operation LogicalOr first second = and_then first (λ a names. if is_zero a then and_then (second names) (λ b after. outcome (binary LogicalOr a b) after) else outcome (Ok (pos 1)) names)
operation op first second = and_then first (λ a names. and_then (second names) (λ b after. outcome (binary op a b) after))

-- `x = e`, and `x op= e`, which reads `x` first
abbrev pub assigned : List ℕ → Option BinaryOperator → Environment → (Environment → Outcome) → Outcome
assigned x None names value = and_then (value names) (assignment x)
assigned x (Some op) names value =
    with_value (value_of_name names x) names (λ old same.
    and_then (value same) (λ v after. with_value (binary op old v) after (assignment x)))

abbrev pub value_of : Tree → Environment → Outcome
value_of (Constant n) names = outcome (Ok (pos n)) names
value_of (Variable x) names = outcome (value_of_name names x) names
value_of (Parenthesized e) names = value_of e names
value_of (Unary op e) names = and_then (value_of e names) (λ v after. outcome (Ok (unary op v)) after)
value_of (Operation op a b) names = operation op (value_of a names) (value_of b)
value_of (Conditional c a b) names = and_then (value_of c names) (λ v after. if is_zero v then value_of b after else value_of a after)
value_of (Assignment x op e) names = assigned x op names (value_of e)

-- expressions one after another; the value is the last one's
abbrev pub values_from : ℤ → List Tree → Environment → Outcome
values_from last [] names = outcome (Ok last) names
values_from last (e ∷ trees) names = and_then (value_of e names) (λ v after. values_from v trees after)

-- the value of a program, which is 0 where it has no expression
abbrev pub value_of_program : List Tree → Environment → Outcome
value_of_program trees names = values_from (pos 0) trees names

-- what a function returned, with the names that it left, is the outcome, unless memory ran out
abbrev pub Evaluates : Result ℤ ArithError → Outcome → Environment → Type 0
Evaluates (Ok v) o names = (o.value ≡ Ok v) × (names ≡ o.names)
Evaluates (Err OutOfMemory) o names = Unit {0}
Evaluates (Err e) o names = (o.value ≡ Err e) × (names ≡ o.names)
