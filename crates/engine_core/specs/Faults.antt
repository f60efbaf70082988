-- Faults as replies tell them: a name and what it is about.
use Rattle.std.specs.Prelude.{ℕ, List, [], codes, decimal}
use Rattle.std.specs.Fmt.{signed_decimal}
use Rattle.arith_syntax.specs.declared.error.SyntaxError.{SyntaxError}
use Rattle.arith_syntax.specs.declared.error.SyntaxError.TheVariants as syntax
use Rattle.arith_eval.specs.declared.error.ArithError.{ArithError}
use Rattle.arith_eval.specs.declared.error.ArithError.TheVariants as arithmetic
use Rattle.engine_core.specs.declared.fault.Fault.{Fault}
use Rattle.engine_core.specs.declared.fault.Fault.TheVariants.{Syntax, Arithmetic}

abbrev pub syntax_name : SyntaxError → List ℕ
syntax_name (syntax.BadToken place) = codes "BadToken"
syntax_name (syntax.BadSyntax place) = codes "BadSyntax"
syntax_name (syntax.TooDeep place) = codes "TooDeep"
syntax_name (syntax.ConstantTooLarge place) = codes "ConstantTooLarge"
syntax_name syntax.TooLong = codes "TooLong"
syntax_name syntax.OutOfMemory = codes "OutOfMemory"

-- the place, where it has one
abbrev pub syntax_value : SyntaxError → List ℕ
syntax_value (syntax.BadToken place) = decimal place
syntax_value (syntax.BadSyntax place) = decimal place
syntax_value (syntax.TooDeep place) = decimal place
syntax_value (syntax.ConstantTooLarge place) = decimal place
syntax_value syntax.TooLong = []
syntax_value syntax.OutOfMemory = []

abbrev pub arithmetic_name : ArithError → List ℕ
arithmetic_name (arithmetic.NameError name) = codes "NameError"
arithmetic_name arithmetic.ZeroDivision = codes "ZeroDivision"
arithmetic_name (arithmetic.ShiftRange count) = codes "ShiftRange"
arithmetic_name arithmetic.OutOfMemory = codes "OutOfMemory"

-- the name or the shift count, where it has one
abbrev pub arithmetic_value : ArithError → List ℕ
arithmetic_value (arithmetic.NameError name) = name
arithmetic_value arithmetic.ZeroDivision = []
arithmetic_value (arithmetic.ShiftRange count) = signed_decimal count
arithmetic_value arithmetic.OutOfMemory = []

abbrev pub ename : Fault → List ℕ
ename (Syntax e) = syntax_name e
ename (Arithmetic e) = arithmetic_name e

abbrev pub evalue : Fault → List ℕ
evalue (Syntax e) = syntax_value e
evalue (Arithmetic e) = arithmetic_value e
