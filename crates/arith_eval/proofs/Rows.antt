-- Worked rows: trees and their values.
use Rattle.std.specs.Prelude.{◌≡◌, pos, negsuc, [], ◌∷◌, codes, None, Ok, Err, refl}
use Rattle.std.specs.Int.{int_wrap}
use Rattle.arith_syntax.specs.declared.operators.UnaryOperator.TheVariants.{Minus}
use Rattle.arith_syntax.specs.declared.operators.BinaryOperator.TheVariants.{LogicalAnd, ShiftLeft, ShiftRight, Add, Subtract, Multiply, Divide, Remainder}
use Rattle.arith_syntax.specs.Tree.{Tree, Constant, Variable, Parenthesized, Unary, Operation, Assignment}
use Rattle.arith_eval.specs.declared.error.ArithError.TheVariants.{NameError, ZeroDivision, ShiftRange}
use Rattle.arith_eval.specs.Value.{value_of_program}

abbrev least : Tree
least = Parenthesized (Operation Subtract (Unary Minus (Constant 9223372036854775807)) (Constant 1))

-- the least number by -1 wraps, and leaves no remainder
least_by_minus_one : (value_of_program (Operation Divide least (Unary Minus (Constant 1)) ∷ []) (λ x. None)).value ≡ Ok (negsuc 9223372036854775807)
unfolding int_wrap
least_by_minus_one = refl

least_remainder : (value_of_program (Operation Remainder least (Unary Minus (Constant 1)) ∷ []) (λ x. None)).value ≡ Ok (pos 0)
unfolding int_wrap
least_remainder = refl

-- the remainder has the dividend's sign, and a shift keeps the sign
remainder_sign : (value_of_program (Operation Remainder (Unary Minus (Constant 7)) (Constant 2) ∷ []) (λ x. None)).value ≡ Ok (negsuc 0)
unfolding int_wrap
remainder_sign = refl

shift_sign : (value_of_program (Operation ShiftRight (Unary Minus (Constant 5)) (Constant 1) ∷ []) (λ x. None)).value ≡ Ok (negsuc 2)
unfolding int_wrap
shift_sign = refl

shift_by_64 : (value_of_program (Operation ShiftLeft (Constant 1) (Constant 64) ∷ []) (λ x. None)).value ≡ Err (ShiftRange (pos 64))
shift_by_64 = refl

unset : (value_of_program (Variable (codes "x") ∷ []) (λ x. None)).value ≡ Err (NameError (codes "x"))
unset = refl

by_zero : (value_of_program (Operation Divide (Constant 1) (Constant 0) ∷ []) (λ x. None)).value ≡ Err ZeroDivision
by_zero = refl

-- the second operand isn't evaluated
not_needed : (value_of_program (Operation LogicalAnd (Constant 0) (Operation Divide (Constant 1) (Constant 0)) ∷ []) (λ x. None)).value ≡ Ok (pos 0)
not_needed = refl

square : (value_of_program (Assignment (codes "x") None (Constant 3) ∷ Operation Multiply (Variable (codes "x")) (Variable (codes "x")) ∷ []) (λ x. None)).value ≡ Ok (pos 9)
unfolding int_wrap
square = refl

-- the assignments in order of evaluation, up to a fault
in_order : (value_of_program (Assignment (codes "x") None (Operation Add (Assignment (codes "y") None (Constant 3)) (Constant 1)) ∷ []) (λ x. None)).made ≡ (codes "y", pos 3) ∷ (codes "x", pos 4) ∷ []
unfolding int_wrap
in_order = refl

up_to_fault : (value_of_program (Assignment (codes "x") None (Operation Divide (Assignment (codes "y") None (Constant 3)) (Constant 0)) ∷ []) (λ x. None)).made ≡ (codes "y", pos 3) ∷ []
up_to_fault = refl

none_not_needed : (value_of_program (Operation LogicalAnd (Constant 0) (Assignment (codes "y") None (Constant 3)) ∷ []) (λ x. None)).made ≡ []
none_not_needed = refl
