-- A program as a text: each token with a space behind it, and a line for each expression.
use Rattle.std.specs.Prelude.{ℕ, List, [], ◌∷◌, ◌++◌, flat_map, Option, Some, None, codes}
use Rattle.std.specs.Fmt.{decimal}
use Rattle.arith_syntax.specs.declared.operators.UnaryOperator.{UnaryOperator}
use Rattle.arith_syntax.specs.declared.operators.UnaryOperator.TheVariants.{Plus, Minus, Complement, Not}
use Rattle.arith_syntax.specs.declared.operators.BinaryOperator.{BinaryOperator}
use Rattle.arith_syntax.specs.declared.operators.BinaryOperator.TheVariants.{LogicalOr, LogicalAnd, BitOr, BitXor, BitAnd, EqualTo, NotEqualTo, LessThan, LessOrEqual, GreaterThan, GreaterOrEqual, ShiftLeft, ShiftRight, Add, Subtract, Multiply, Divide, Remainder}
use Rattle.arith_syntax.specs.declared.token.Token.{Token}
use Rattle.arith_syntax.specs.declared.token.Token.TheVariants.{Number, TooLarge, Name, Binary, Tilde, Exclamation, Assign, Question, Colon, LeftParenthesis, RightParenthesis, Separator, End, Bad}
use Rattle.arith_syntax.specs.declared.instruction.Instruction.{Instruction}
use Rattle.arith_syntax.specs.declared.instruction.Instruction.TheVariants.{Push, Load, Open, Close, Sign, Apply, Infix, Combine, Then, Else, Choose, Target, Store, Finish}
use Rattle.arith_syntax.specs.Tree.{Tree, tokens_of}

abbrev pub operator_text : BinaryOperator → List ℕ
operator_text LogicalOr = codes "||"
operator_text LogicalAnd = codes "&&"
operator_text BitOr = codes "|"
operator_text BitXor = codes "^"
operator_text BitAnd = codes "&"
operator_text EqualTo = codes "=="
operator_text NotEqualTo = codes "!="
operator_text LessThan = codes "<"
operator_text LessOrEqual = codes "<="
operator_text GreaterThan = codes ">"
operator_text GreaterOrEqual = codes ">="
operator_text ShiftLeft = codes "<<"
operator_text ShiftRight = codes ">>"
operator_text Add = codes "+"
operator_text Subtract = codes "-"
operator_text Multiply = codes "*"
operator_text Divide = codes "/"
operator_text Remainder = codes "%"

abbrev pub sign_text : UnaryOperator → List ℕ
sign_text Plus = codes "+"
sign_text Minus = codes "-"
sign_text Complement = codes "~"
sign_text Not = codes "!"

abbrev pub assignment_text : Option BinaryOperator → List ℕ
assignment_text None = codes "="
assignment_text (Some op) = operator_text op ++ codes "="

-- a token of an expression
abbrev pub spelled : Token → List ℕ
spelled (Number n) = decimal n
spelled (Name x) = x
spelled (Binary op) = operator_text op
spelled Tilde = codes "~"
spelled Exclamation = codes "!"
spelled (Assign op) = assignment_text op
spelled Question = codes "?"
spelled Colon = codes ":"
spelled LeftParenthesis = codes "("
spelled RightParenthesis = codes ")"
spelled Separator = codes ";"
spelled TooLarge = []
spelled End = []
spelled Bad = []

abbrev pub spaced : Token → List ℕ
spaced token = spelled token ++ 32 ∷ []

-- an expression, which ends its line
abbrev pub line : Tree → List ℕ
line e = flat_map spaced (tokens_of e) ++ 10 ∷ []

unfoldable pub printed : List Tree → List ℕ
printed = flat_map line

-- what an instruction is printed as; each token is printed once
abbrev pub instruction_text : Instruction → List ℕ
instruction_text (Push n) = spaced (Number n)
instruction_text (Load x) = spaced (Name x)
instruction_text Open = spaced LeftParenthesis
instruction_text Close = spaced RightParenthesis
instruction_text (Sign op) = sign_text op ++ 32 ∷ []
instruction_text (Infix op) = spaced (Binary op)
instruction_text Then = spaced Question
instruction_text Else = spaced Colon
instruction_text (Target x op) = spaced (Name x) ++ spaced (Assign op)
instruction_text Finish = 10 ∷ []
instruction_text (Apply op) = []
instruction_text (Combine op) = []
instruction_text Choose = []
instruction_text (Store x op) = []
