-- Running instructions over a stack of values.
use Rattle.std.specs.Prelude.{◌≡◌, ◌⊎◌, ℕ, zero, suc, ℤ, pos, List, [], ◌∷◌, Some, None, Result, Ok, Err, not, ◌==◌, if◌then◌else◌}
use Rattle.std.specs.Int.{w64, cast_signed}
use Rattle.arith_syntax.specs.declared.operators.BinaryOperator.{BinaryOperator}
use Rattle.arith_syntax.specs.declared.operators.BinaryOperator.TheVariants.{LogicalOr, LogicalAnd}
use Rattle.arith_syntax.specs.declared.instruction.Instruction.{Instruction}
use Rattle.arith_syntax.specs.declared.instruction.Instruction.TheVariants.{Push, Load, Open, Close, Sign, Apply, Infix, Combine, Then, Else, Choose, Target, Store, Finish}
use Rattle.arith_eval.specs.declared.error.ArithError.{ArithError}
use Rattle.arith_eval.specs.declared.error.ArithError.TheVariants.{OutOfMemory}
use Rattle.arith_eval.specs.Names.{Environment, assign}
use Rattle.arith_eval.specs.Value.{Number, is_zero, truth, unary, binary, value_of_name}

-- values, the newest first; how many choices are passed over; the value of the last expression
pub record Machine : Type 0 where
  pub stack : List ℤ
  pub skip : ℕ
  pub last : ℤ

abbrev pub at_rest : Machine
at_rest = record { stack = []; skip = 0; last = pos 0 }

-- the machine behind an instruction
abbrev pub Turn : Type 0
Turn = Result Machine ArithError

abbrev pub turned : List ℤ → ℕ → ℤ → Turn
turned stack skip last = Ok (record { stack = stack; skip = skip; last = last })

abbrev pub top : List ℤ → ℤ
top [] = pos 0
top (v ∷ stack) = v

abbrev pub below : List ℤ → List ℤ
below [] = []
below (v ∷ stack) = stack

-- a value on top, or a fault
abbrev pub pushed : Number → List ℤ → ℤ → Turn
pushed (Ok v) stack last = turned (v ∷ stack) 0 last
pushed (Err f) stack last = Err f

-- between two operands: `&&` and `||` pass over the second where the first decides
abbrev pub infix_act : BinaryOperator → List ℤ → ℤ → Turn
infix_act LogicalAnd stack last = if is_zero (top stack) then turned (pos 0 ∷ below stack) 1 last else turned (below stack) 0 last
infix_act LogicalOr stack last = if is_zero (top stack) then turned (below stack) 0 last else turned (pos 1 ∷ below stack) 1 last
infix_act op stack last = turned stack 0 last

abbrev pub combine_act : BinaryOperator → List ℤ → ℤ → Turn
combine_act LogicalAnd stack last = turned (truth (not (is_zero (top stack))) ∷ below stack) 0 last
combine_act LogicalOr stack last = turned (truth (not (is_zero (top stack))) ∷ below stack) 0 last
combine_act op stack last = pushed (binary op (top (below stack)) (top stack)) (below (below stack)) last

-- the machine and the names behind an instruction
abbrev pub Move : Type 0
Move = Result (Machine × Environment) ArithError

abbrev pub unchanged : Turn → Environment → Move
unchanged (Ok m) names = Ok (m, names)
unchanged (Err f) names = Err f

abbrev pub stored : List ℕ → Number → List ℤ → ℤ → Environment → Move
stored x (Ok v) stack last names = Ok (record { stack = v ∷ stack; skip = 0; last = last }, assign names x v)
stored x (Err f) stack last names = Err f

-- an instruction that isn't passed over
abbrev pub act : Instruction → List ℤ → ℤ → Environment → Move
act (Push n) stack last names = unchanged (turned (cast_signed w64 n ∷ stack) 0 last) names
act (Load x) stack last names = unchanged (pushed (value_of_name names x) stack last) names
act (Apply op) stack last names = unchanged (turned (unary op (top stack) ∷ below stack) 0 last) names
act (Infix op) stack last names = unchanged (infix_act op stack last) names
act (Combine op) stack last names = unchanged (combine_act op stack last) names
act Then stack last names = unchanged (turned (below stack) (if is_zero (top stack) then 1 else 0) last) names
act Else stack last names = unchanged (turned stack 1 last) names
act (Target x None) stack last names = unchanged (turned stack 0 last) names
act (Target x (Some op)) stack last names = unchanged (pushed (value_of_name names x) stack last) names
act (Store x None) stack last names = stored x (Ok (top stack)) (below stack) last names
act (Store x (Some op)) stack last names = stored x (binary op (top (below stack)) (top stack)) (below (below stack)) last names
act Finish stack last names = unchanged (turned (below stack) 0 (top stack)) names
act Choose stack last names = unchanged (turned stack 0 last) names
act Open stack last names = unchanged (turned stack 0 last) names
act Close stack last names = unchanged (turned stack 0 last) names
act (Sign op) stack last names = unchanged (turned stack 0 last) names

abbrev pub less : ℕ → ℕ
less zero = zero
less (suc n) = n

-- how many choices are passed over behind an instruction that is passed over itself
abbrev pub pass : Instruction → ℕ → ℕ
pass (Infix LogicalAnd) n = suc n
pass (Infix LogicalOr) n = suc n
pass Then n = suc n
pass (Combine LogicalAnd) n = less n
pass (Combine LogicalOr) n = less n
pass Choose n = less n
pass Else n = if n == 1 then 0 else n
pass _ n = n

abbrev pub step : Instruction → Machine → Environment → Move
step i m names = if m.skip == 0 then act i m.stack m.last names else unchanged (turned m.stack (pass i m.skip) m.last) names

-- what a function did to a machine is the turn, unless memory ran out
abbrev pub Turns : {X : Type 0} → Result X ArithError → Machine → Turn → Type 0
Turns (Ok _) new turn = turn ≡ Ok new
Turns (Err OutOfMemory) new turn = Unit {0}
Turns (Err e) new turn = turn ≡ Err e

-- what a function did to a machine and the names is the move, unless memory ran out; a fault changes no name
abbrev pub Moves : {X : Type 0} → Result X ArithError → Machine → Environment → Environment → Move → Type 0
Moves (Ok _) new before names move = move ≡ Ok (new, names)
Moves (Err OutOfMemory) new before names move = Unit {0}
Moves (Err e) new before names move = (move ≡ Err e) × (names ≡ before)

-- the names are as before a move, or as behind it
abbrev pub IsBeforeOrBehind : Environment → Environment → Move → Type 0
IsBeforeOrBehind before names move = (names ≡ before) ⊎ ((m : Machine) × (move ≡ Ok (m, names)))
