-- Reading a program token by token, by operator precedence: what has begun waits, the newest first, until a token comes
-- that binds less tight.
use Rattle.std.specs.Prelude.{◌≡◌, ℕ, ◌+◌, ◌<◌, List, [], ◌∷◌, Option, Result, Ok, Err, Bool, true, false, nat_le, nat_lt, ◌⊎◌, if◌then◌else◌}
use Rattle.arith_syntax.specs.declared.operators.UnaryOperator.TheVariants.{Plus, Minus, Complement, Not}
use Rattle.arith_syntax.specs.declared.operators.BinaryOperator.{BinaryOperator}
use Rattle.arith_syntax.specs.declared.operators.BinaryOperator.TheVariants.{Add, Subtract}
use Rattle.arith_syntax.specs.declared.token.Token.{Token}
use Rattle.arith_syntax.specs.declared.token.Token.TheVariants.{Number, TooLarge, Name, Binary, Tilde, Exclamation, Assign, Question, Colon, LeftParenthesis, RightParenthesis, Separator, End, Bad}
use Rattle.arith_syntax.specs.declared.instruction.Instruction.{Instruction}
use Rattle.arith_syntax.specs.declared.instruction.Instruction.TheVariants.{Push, Load, Open, Close, Sign, Apply, Infix, Combine, Then, Else, Choose, Target, Store, Finish}
use Rattle.arith_syntax.specs.declared.pending.Pending.{Pending}
use Rattle.arith_syntax.specs.declared.pending.Pending.TheVariants.{Parenthesis, Prefixed, Operator, Condition, Alternative, Assigned}
use Rattle.arith_syntax.specs.declared.refusal.Fault.{Fault}
use Rattle.arith_syntax.specs.declared.refusal.Fault.TheVariants.{NoToken, Misplaced, Nested, Large}
use Rattle.arith_syntax.specs.declared.refusal.Refusal.{Refusal}
use Rattle.arith_syntax.specs.declared.refusal.Refusal.TheVariants as refusals
use Rattle.arith_syntax.specs.declared.error.SyntaxError.{SyntaxError}
use Rattle.arith_syntax.specs.declared.error.SyntaxError.TheVariants.{BadToken, BadSyntax, TooDeep, ConstantTooLarge, OutOfMemory}
use Rattle.arith_syntax.specs.Tree.{level_of}
use Rattle.arith_syntax.specs.Lexical.{Lexeme}

-- what was read: the instructions and what waits, both the newest first, and whether an operand was read last
pub record State : Type 0 where
  pub code : List Instruction
  pub waits : List Pending
  pub complete : Bool

abbrev pub nothing_read : State
nothing_read = record { code = []; waits = []; complete = false }

-- how tight what waits binds what comes; 0 is not ended by an operator
abbrev pub tightness : Pending → ℕ
tightness Parenthesis = 0
tightness Condition = 0
tightness (Assigned x op) = 1
tightness Alternative = 2
tightness (Operator op) = level_of op
tightness (Prefixed op) = 13

-- what counts as nesting
abbrev pub nests : Pending → ℕ
nests (Operator op) = 0
nests _ = 1

abbrev pub depth_of : List Pending → ℕ
depth_of [] = 0
depth_of (p ∷ waits) = nests p + depth_of waits

-- what ends a construct that waited for one operand
abbrev pub ending : Pending → Instruction
ending Parenthesis = Close
ending Condition = Choose
ending (Assigned x op) = Store x op
ending Alternative = Choose
ending (Operator op) = Combine op
ending (Prefixed op) = Apply op

-- an operand is read, and what binds at least so tight takes it
abbrev pub close : ℕ → List Instruction → List Pending → State
close tight code [] = record { code = code; waits = []; complete = true }
close tight code (p ∷ waits) =
    if nat_le tight (tightness p) then close tight (ending p ∷ code) waits
    else record { code = code; waits = p ∷ waits; complete = true }

-- the newest of what waits binds less tight
abbrev pub IsLooser : ℕ → List Pending → Type 0
IsLooser tight [] = Unit {0}
IsLooser tight (p ∷ waits) = tightness p < tight

abbrev pub Step : Type 0
Step = Result State Fault

abbrev pub waiting : Instruction → Pending → List Instruction → List Pending → State
waiting i p code waits = record { code = i ∷ code; waits = p ∷ waits; complete = false }

-- one more construct is open, where the limit allows it
abbrev pub nested : ℕ → Instruction → Pending → List Instruction → List Pending → Step
nested limit i p code waits = if nat_lt (depth_of waits) limit then Ok (waiting i p code waits) else Err Nested

abbrev pub operand : Instruction → State → Step
operand i s = Ok (record { code = i ∷ s.code; waits = s.waits; complete = true })

-- a separator or the end where nothing of an expression was read
abbrev pub empty_expression : State → List Pending → Step
empty_expression s [] = Ok s
empty_expression s (_ ∷ _) = Err Misplaced

-- a token where an operand is awaited
abbrev pub first_step : ℕ → Token → State → Step
first_step limit (Number n) s = operand (Push n) s
first_step limit TooLarge s = Err Large
first_step limit (Name x) s = operand (Load x) s
first_step limit (Binary Add) s = nested limit (Sign Plus) (Prefixed Plus) s.code s.waits
first_step limit (Binary Subtract) s = nested limit (Sign Minus) (Prefixed Minus) s.code s.waits
first_step limit Tilde s = nested limit (Sign Complement) (Prefixed Complement) s.code s.waits
first_step limit Exclamation s = nested limit (Sign Not) (Prefixed Not) s.code s.waits
first_step limit LeftParenthesis s = nested limit Open Parenthesis s.code s.waits
first_step limit Separator s = empty_expression s s.waits
first_step limit End s = empty_expression s s.waits
first_step limit Bad s = Err NoToken
first_step limit _ s = Err Misplaced

-- `:` closes the expression behind `?`
abbrev pub second_choice : List Instruction → List Pending → Step
second_choice code (Condition ∷ waits) = Ok (waiting Else Alternative code waits)
second_choice code _ = Err Misplaced

abbrev pub parenthesized : List Instruction → List Pending → Step
parenthesized code (Parenthesis ∷ waits) = Ok (record { code = Close ∷ code; waits = waits; complete = true })
parenthesized code _ = Err Misplaced

abbrev pub expression_end : List Instruction → List Pending → Step
expression_end code [] = Ok (record { code = Finish ∷ code; waits = []; complete = false })
expression_end code (_ ∷ _) = Err Misplaced

-- whether an assignment may begin behind what waits
abbrev pub may_assign : List Pending → Bool
may_assign [] = true
may_assign (Parenthesis ∷ _) = true
may_assign (Condition ∷ _) = true
may_assign (Assigned _ _ ∷ _) = true
may_assign (_ ∷ _) = false

-- the operand before an assignment operator is a name alone
abbrev pub assignment : ℕ → Option BinaryOperator → List Instruction → List Pending → Step
assignment limit op (Load x ∷ code) waits = if may_assign waits then nested limit (Target x op) (Assigned x op) code waits else Err Misplaced
assignment limit op _ waits = Err Misplaced

-- a token behind an operand
abbrev pub next_step : ℕ → Token → State → Step
next_step limit (Binary op) s = let c = close (level_of op) s.code s.waits in Ok (waiting (Infix op) (Operator op) c.code c.waits)
next_step limit (Assign op) s = assignment limit op s.code s.waits
next_step limit Question s = let c = close 3 s.code s.waits in nested limit Then Condition c.code c.waits
next_step limit Colon s = let c = close 1 s.code s.waits in second_choice c.code c.waits
next_step limit RightParenthesis s = let c = close 1 s.code s.waits in parenthesized c.code c.waits
next_step limit Separator s = let c = close 1 s.code s.waits in expression_end c.code c.waits
next_step limit End s = let c = close 1 s.code s.waits in expression_end c.code c.waits
next_step limit Bad s = Err NoToken
next_step limit _ s = Err Misplaced

-- one token
abbrev pub step : ℕ → Token → State → Step
step limit token s = if s.complete then next_step limit token s else first_step limit token s

-- what a function did to a state is the step, unless memory ran out
abbrev pub Steps : {X : Type 0} → Result X Refusal → State → Step → Type 0
Steps (Ok _) new taken = taken ≡ Ok new
Steps (Err refusals.OutOfMemory) new taken = Unit {0}
Steps (Err (refusals.Fault f)) new taken = taken ≡ Err f

abbrev pub error_at : Fault → ℕ → SyntaxError
error_at NoToken at = BadToken at
error_at Misplaced at = BadSyntax at
error_at Nested at = TooDeep at
error_at Large at = ConstantTooLarge at

abbrev pub placed : ℕ → Step → (State → Result State SyntaxError) → Result State SyntaxError
placed at (Ok s) more = more s
placed at (Err f) more = Err (error_at f at)

-- lexemes one after another, within 64 open constructs
abbrev pub run : State → List Lexeme → Result State SyntaxError
run s [] = Ok s
run s (l ∷ more) = placed l.1 (step 64 l.0 s) (λ t. run t more)

-- what a function did to a state is the step of a token at a place, unless memory ran out
abbrev pub Places : {X : Type 0} → ℕ → Result X SyntaxError → State → Step → Type 0
Places at (Ok _) new taken = taken ≡ Ok new
Places at (Err e) new taken = (e ≡ OutOfMemory) ⊎ ((f : Fault) × (taken ≡ Err f) × (e ≡ error_at f at))
