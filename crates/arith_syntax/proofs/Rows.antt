-- Worked rows: texts, their programs and their first faults.
use Rattle.std.specs.Prelude.{◌^◌, ◌<◌, [], ◌∷◌, codes, None, refl}
use Rattle.std.proofs.Common.{arith}
use Rattle.arith_syntax.specs.declared.operators.BinaryOperator.TheVariants.{Multiply}
use Rattle.arith_syntax.specs.declared.token.Token.TheVariants.{Number, Name, Binary, Assign, Separator}
use Rattle.arith_syntax.specs.declared.error.SyntaxError.TheVariants.{BadToken, BadSyntax, ConstantTooLarge}
use Rattle.arith_syntax.specs.Tree.{Constant, Variable, Operation, Assignment, IsName}
use Rattle.arith_syntax.specs.Lexical.{constant, symbol, token_at, lexemes}
use Rattle.arith_syntax.specs.Grammar.{Grammar, FirstFault}
use Rattle.arith_syntax.proofs.Faults.{fault_first}
use Rattle.arith_syntax.proofs.Words.{lexemes_proper}

-- 8 is no octal digit
octal_eight : FirstFault (codes "08") (BadToken 0)
unfolding constant symbol token_at lexemes
octal_eight = fault_first (codes "08") (BadToken 0) (omega arith) (lexemes_proper (codes "08")) refl

-- an operand is missing at the end
unfinished : FirstFault (codes "1+") (BadSyntax 2)
unfolding constant symbol token_at lexemes
unfinished = fault_first (codes "1+") (BadSyntax 2) (omega arith) (lexemes_proper (codes "1+")) refl

too_large : FirstFault (codes "9223372036854775808") (ConstantTooLarge 0)
unfolding constant symbol token_at lexemes
too_large = fault_first (codes "9223372036854775808") (ConstantTooLarge 0) (omega arith) (lexemes_proper (codes "9223372036854775808")) refl

-- of two faults at one place the syntax comes first
misplaced_and_large : FirstFault (codes "1 9223372036854775808") (BadSyntax 2)
unfolding constant symbol token_at lexemes
misplaced_and_large = fault_first (codes "1 9223372036854775808") (BadSyntax 2) (omega arith) (lexemes_proper (codes "1 9223372036854775808")) refl

-- only a name alone is assigned
sum_assigned : FirstFault (codes "x+1=3") (BadSyntax 3)
unfolding constant symbol token_at lexemes
sum_assigned = fault_first (codes "x+1=3") (BadSyntax 3) (omega arith) (lexemes_proper (codes "x+1=3")) refl

choice_assigned : FirstFault (codes "a?b:c=1") (BadSyntax 5)
unfolding constant symbol token_at lexemes
choice_assigned = fault_first (codes "a?b:c=1") (BadSyntax 5) (omega arith) (lexemes_proper (codes "a?b:c=1")) refl

x_name : IsName (codes "x")
x_name = record { begins = refl; words = refl; short = omega arith }

three : 3 < 2 ^ 63
three = omega arith

-- two expressions
square : Grammar (codes "x=3;x*x") (Assignment (codes "x") None (Constant 3) ∷ Operation Multiply (Variable (codes "x")) (Variable (codes "x")) ∷ [])
unfolding constant symbol token_at lexemes
square = record {
  short = omega arith;
  all = Name (codes "x") ∷ Assign None ∷ Number 3 ∷ Separator ∷ Name (codes "x") ∷ Binary Multiply ∷ Name (codes "x") ∷ [];
  read = refl;
  program = record {
    first = Name (codes "x") ∷ Assign None ∷ Number 3 ∷ [];
    more = (Name (codes "x") ∷ Binary Multiply ∷ Name (codes "x") ∷ []) ∷ [];
    parts = refl;
    expressions = refl;
    each = (record { grammar = (x_name, refl, three); depth = omega arith }, (record { grammar = (omega arith, omega arith, x_name, x_name); depth = omega arith }, tt));
  };
}
