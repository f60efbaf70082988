-- What the grammar allows is read: the tokens of an expression are taken one by one, and give its instructions.
use Rattle.std.proofs.Common.{◌≡◌, ℕ, ◌+◌, ◌<◌, ◌≤◌, true, false, cond, List, [], ◌∷◌, ◌++◌, Ok, Err, refl, ap, ◌∙◌, append_assoc, arith}
use Rattle.std.specs.Prelude.{nat_le, nat_lt, map}
use Rattle.std.specs.List.{filter, AllByRecursion}
use Rattle.arith_syntax.specs.declared.operators.UnaryOperator.{UnaryOperator}
use Rattle.arith_syntax.specs.declared.operators.UnaryOperator.TheVariants.{Plus, Minus, Complement, Not}
use Rattle.arith_syntax.specs.declared.operators.BinaryOperator.{BinaryOperator}
use Rattle.arith_syntax.specs.declared.operators.BinaryOperator.TheVariants.{LogicalOr, LogicalAnd, BitOr, BitXor, BitAnd, EqualTo, NotEqualTo, LessThan, LessOrEqual, GreaterThan, GreaterOrEqual, ShiftLeft, ShiftRight, Add, Subtract, Multiply, Divide, Remainder}
use Rattle.arith_syntax.specs.declared.token.Token.{Token}
use Rattle.arith_syntax.specs.declared.token.Token.TheVariants.{Binary, Question, Colon, RightParenthesis, Separator, End}
use Rattle.arith_syntax.specs.declared.instruction.Instruction.{Instruction}
use Rattle.arith_syntax.specs.declared.instruction.Instruction.TheVariants.{Push, Load, Open, Close, Sign, Apply, Infix, Combine, Then, Else, Choose, Target, Store, Finish}
use Rattle.arith_syntax.specs.declared.pending.Pending.{Pending}
use Rattle.arith_syntax.specs.declared.pending.Pending.TheVariants.{Parenthesis, Prefixed, Operator, Condition, Alternative, Assigned}
use Rattle.arith_syntax.specs.declared.refusal.Fault.TheVariants.{Misplaced}
use Rattle.arith_syntax.specs.Tree.{Tree, Constant, Variable, Parenthesized, Unary, Operation, Conditional, Assignment, level, level_of, IsExpression, nesting, tokens_of, sign}
use Rattle.arith_syntax.specs.Grammar.{Fits, joined, is_some_part, IsProgram}
use Rattle.arith_syntax.specs.Reading.{State, nothing_read, tightness, depth_of, ending, close, waiting, nested, second_choice, parenthesized, expression_end, may_assign, step, IsLooser}
use Rattle.arith_syntax.proofs.Steps.{steps, step_then}

-- the instructions of an expression on top of others, the newest first
abbrev pub put : Tree → List Instruction → List Instruction
put (Constant n) code = Push n ∷ code
put (Variable x) code = Load x ∷ code
put (Parenthesized e) code = Close ∷ put e (Open ∷ code)
put (Unary op e) code = Apply op ∷ put e (Sign op ∷ code)
put (Operation op a b) code = Combine op ∷ put b (Infix op ∷ put a code)
put (Conditional c a b) code = Choose ∷ put b (Else ∷ put a (Then ∷ put c code))
put (Assignment x op e) code = Store x op ∷ put e (Target x op ∷ code)

-- those of its instructions that are there once its last token is read
abbrev pub begun : Tree → List Instruction → List Instruction
begun (Constant n) code = Push n ∷ code
begun (Variable x) code = Load x ∷ code
begun (Parenthesized e) code = Close ∷ put e (Open ∷ code)
begun (Unary op e) code = begun e (Sign op ∷ code)
begun (Operation op a b) code = begun b (Infix op ∷ put a code)
begun (Conditional c a b) code = begun b (Else ∷ put a (Then ∷ put c code))
begun (Assignment x op e) code = begun e (Target x op ∷ code)

-- what waits then
abbrev pub left_open : Tree → List Pending → List Pending
left_open (Constant n) waits = waits
left_open (Variable x) waits = waits
left_open (Parenthesized e) waits = waits
left_open (Unary op e) waits = left_open e (Prefixed op ∷ waits)
left_open (Operation op a b) waits = left_open b (Operator op ∷ waits)
left_open (Conditional c a b) waits = left_open b (Alternative ∷ waits)
left_open (Assignment x op e) waits = left_open e (Assigned x op ∷ waits)

-- the least level that an operand of what waits has
abbrev pub least : Pending → ℕ
least Parenthesis = 1
least Condition = 1
least (Assigned x op) = 1
least Alternative = 2
least (Operator op) = level_of op + 1
least (Prefixed op) = 13

-- what waits admits an operand of a level
abbrev pub Admits : List Pending → ℕ → Type 0
Admits [] n = Unit {0}
Admits (p ∷ waits) n = least p ≤ n

pub level_of_from : (op : BinaryOperator) → 3 ≤ level_of op
level_of_from LogicalOr = omega arith
level_of_from LogicalAnd = omega arith
level_of_from BitOr = omega arith
level_of_from BitXor = omega arith
level_of_from BitAnd = omega arith
level_of_from EqualTo = omega arith
level_of_from NotEqualTo = omega arith
level_of_from LessThan = omega arith
level_of_from LessOrEqual = omega arith
level_of_from GreaterThan = omega arith
level_of_from GreaterOrEqual = omega arith
level_of_from ShiftLeft = omega arith
level_of_from ShiftRight = omega arith
level_of_from Add = omega arith
level_of_from Subtract = omega arith
level_of_from Multiply = omega arith
level_of_from Divide = omega arith
level_of_from Remainder = omega arith

pub level_of_to : (op : BinaryOperator) → level_of op ≤ 12
level_of_to LogicalOr = omega arith
level_of_to LogicalAnd = omega arith
level_of_to BitOr = omega arith
level_of_to BitXor = omega arith
level_of_to BitAnd = omega arith
level_of_to EqualTo = omega arith
level_of_to NotEqualTo = omega arith
level_of_to LessThan = omega arith
level_of_to LessOrEqual = omega arith
level_of_to GreaterThan = omega arith
level_of_to GreaterOrEqual = omega arith
level_of_to ShiftLeft = omega arith
level_of_to ShiftRight = omega arith
level_of_to Add = omega arith
level_of_to Subtract = omega arith
level_of_to Multiply = omega arith
level_of_to Divide = omega arith
level_of_to Remainder = omega arith

pub level_from : (e : Tree) → 1 ≤ level e
level_from (Constant n) = omega arith
level_from (Variable x) = omega arith
level_from (Parenthesized e) = omega arith
level_from (Unary op e) = omega arith
level_from (Operation op a b) = omega (arith, level_of_from op)
level_from (Conditional c a b) = omega arith
level_from (Assignment x op e) = omega arith

le_true : (m n : ℕ) → m ≤ n → nat_le m n ≡ true
le_true m n h = grind arith

le_false : (m n : ℕ) → n < m → nat_le m n ≡ false
le_false m n h = grind arith

pub lt_true : (m n : ℕ) → m < n → nat_lt m n ≡ true
lt_true m n h = grind arith

-- an operand is taken by what binds at least so tight
pub close_more : (k : ℕ) (code : List Instruction) (p : Pending) (waits : List Pending) → k ≤ tightness p → close k code (p ∷ waits) ≡ close k (ending p ∷ code) waits
close_more k code p waits h = rw (le_true k (tightness p) h) refl

-- what an expression leaves open takes it, once something comes that binds less tight than the expression
pub closing : (k : ℕ) (e : Tree) (code : List Instruction) (waits : List Pending) → k ≤ level e → IsExpression e → close k (begun e code) (left_open e waits) ≡ close k (put e code) waits
closing k (Constant n) code waits h g = refl
closing k (Variable x) code waits h g = refl
closing k (Parenthesized e) code waits h g = refl
closing k (Unary op e) code waits h g =
    closing k e (Sign op ∷ code) (Prefixed op ∷ waits) (omega (arith, g.0)) g.1 ∙ close_more k (put e (Sign op ∷ code)) (Prefixed op) waits h
closing k (Operation op a b) code waits h g =
    closing k b (Infix op ∷ put a code) (Operator op ∷ waits) (omega (arith, g.1)) g.3
    ∙ close_more k (put b (Infix op ∷ put a code)) (Operator op) waits h
closing k (Conditional c a b) code waits h g =
    closing k b (Else ∷ put a (Then ∷ put c code)) (Alternative ∷ waits) (omega (arith, g.1)) g.4
    ∙ close_more k (put b (Else ∷ put a (Then ∷ put c code))) Alternative waits h
closing k (Assignment x op e) code waits h g =
    closing k e (Target x op ∷ code) (Assigned x op ∷ waits) (omega (arith, level_from e)) g.2
    ∙ close_more k (put e (Target x op ∷ code)) (Assigned x op) waits h

-- what binds less tight waits on
pub stays : (k : ℕ) (code : List Instruction) (waits : List Pending) → IsLooser k waits → close k code waits ≡ record { code = code; waits = waits; complete = true }
stays k code [] h = refl
stays k code (p ∷ waits) h = rw (le_false k (tightness p) h) refl

looser_than : (p : Pending) (op : BinaryOperator) → least p ≤ level_of op → tightness p < level_of op
looser_than Parenthesis op h = omega (arith, level_of_from op)
looser_than Condition op h = omega (arith, level_of_from op)
looser_than (Assigned x o) op h = omega (arith, level_of_from op)
looser_than Alternative op h = omega (arith, level_of_from op)
looser_than (Operator o) op h = omega arith
looser_than (Prefixed o) op h = absurd (omega (arith, level_of_to op))

pub looser_operator : (waits : List Pending) (op : BinaryOperator) → Admits waits (level_of op) → IsLooser (level_of op) waits
looser_operator [] op h = tt
looser_operator (p ∷ waits) op h = looser_than p op h

pub looser_condition : (waits : List Pending) → Admits waits 2 → IsLooser 3 waits
looser_condition [] h = tt
looser_condition (Parenthesis ∷ waits) h = omega arith
looser_condition (Condition ∷ waits) h = omega arith
looser_condition (Assigned x o ∷ waits) h = omega arith
looser_condition (Alternative ∷ waits) h = omega arith
looser_condition (Operator o ∷ waits) h = absurd (omega (arith, level_of_from o))
looser_condition (Prefixed o ∷ waits) h = absurd (omega arith)

pub may_begin : (waits : List Pending) → Admits waits 1 → may_assign waits ≡ true
may_begin [] h = refl
may_begin (Parenthesis ∷ waits) h = refl
may_begin (Condition ∷ waits) h = refl
may_begin (Assigned x o ∷ waits) h = refl
may_begin (Alternative ∷ waits) h = absurd (omega arith)
may_begin (Operator o ∷ waits) h = absurd (omega (arith, level_of_from o))
may_begin (Prefixed o ∷ waits) h = absurd (omega arith)

admits_more : (waits : List Pending) (m n : ℕ) → m ≤ n → Admits waits m → Admits waits n
admits_more [] m n le h = tt
admits_more (p ∷ waits) m n le h = omega arith

abbrev pub awaiting : List Instruction → List Pending → State
awaiting code waits = record { code = code; waits = waits; complete = false }

abbrev pub behind : List Instruction → List Pending → State
behind code waits = record { code = code; waits = waits; complete = true }

sign_step : (limit : ℕ) (op : UnaryOperator) (code : List Instruction) (waits : List Pending) → step limit (sign op) (awaiting code waits) ≡ nested limit (Sign op) (Prefixed op) code waits
sign_step limit Plus code waits = refl
sign_step limit Minus code waits = refl
sign_step limit Complement code waits = refl
sign_step limit Not code waits = refl

nested_ok : (limit : ℕ) (i : Instruction) (p : Pending) (code : List Instruction) (waits : List Pending) → depth_of waits < limit → nested limit i p code waits ≡ Ok (waiting i p code waits)
nested_ok limit i p code waits h = rw (lt_true (depth_of waits) limit h) refl

-- the tokens of an expression are taken, where what waits admits it
pub reads : (limit : ℕ) (e : Tree) (code : List Instruction) (waits : List Pending) (rest : List Token) → IsExpression e → Admits waits (level e) → nesting e + depth_of waits ≤ limit → steps limit (awaiting code waits) (tokens_of e ++ rest) ≡ steps limit (behind (begun e code) (left_open e waits)) rest
reads limit (Constant n) code waits rest g a d = refl
reads limit (Variable x) code waits rest g a d = refl
reads limit (Parenthesized e) code waits rest g a d =
    let more = RightParenthesis ∷ rest in
    ap (λ s. step_then s (λ t. steps limit t ((tokens_of e ++ RightParenthesis ∷ []) ++ rest))) (nested_ok limit Open Parenthesis code waits (omega arith))
    ∙ ap (steps limit (awaiting (Open ∷ code) (Parenthesis ∷ waits))) (append_assoc (tokens_of e) (RightParenthesis ∷ []) rest)
    ∙ reads limit e (Open ∷ code) (Parenthesis ∷ waits) more g (level_from e) (omega arith)
    ∙ ap (λ (c : State). step_then (parenthesized c.code c.waits) (λ t. steps limit t rest)) (closing 1 e (Open ∷ code) (Parenthesis ∷ waits) (level_from e) g)
reads limit (Unary op e) code waits rest g a d =
    ap (λ s. step_then s (λ t. steps limit t (tokens_of e ++ rest))) (sign_step limit op code waits ∙ nested_ok limit (Sign op) (Prefixed op) code waits (omega arith))
    ∙ reads limit e (Sign op ∷ code) (Prefixed op ∷ waits) rest g.1 g.0 (omega arith)
reads limit (Operation op a b) code waits rest g adm d =
    let more = tokens_of b ++ rest in
    ap (steps limit (awaiting code waits)) (append_assoc (tokens_of a) (Binary op ∷ tokens_of b) rest)
    ∙ reads limit a code waits (Binary op ∷ more) g.2 (admits_more waits (level_of op) (level a) g.0 adm) (omega arith)
    ∙ ap (λ (c : State). steps limit (waiting (Infix op) (Operator op) c.code c.waits) more)
    (closing (level_of op) a code waits g.0 g.2 ∙ stays (level_of op) (put a code) waits (looser_operator waits op adm))
    ∙ reads limit b (Infix op ∷ put a code) (Operator op ∷ waits) rest g.3 (omega (arith, g.1)) (omega arith)
reads limit (Conditional c a b) code waits rest g adm d =
    let second = Colon ∷ (tokens_of b ++ rest) in
    let first = Question ∷ (tokens_of a ++ second) in
    let split : (tokens_of c ++ Question ∷ (tokens_of a ++ Colon ∷ tokens_of b)) ++ rest ≡ tokens_of c ++ first = append_assoc (tokens_of c) (Question ∷ (tokens_of a ++ Colon ∷ tokens_of b)) rest ∙ ap (λ l. tokens_of c ++ Question ∷ l) (append_assoc (tokens_of a) (Colon ∷ tokens_of b) rest) in
    let head = Then ∷ put c code in
    ap (steps limit (awaiting code waits)) split
    ∙ reads limit c code waits first g.2 (admits_more waits 2 (level c) (omega (arith, g.0)) adm) (omega arith)
    ∙ ap (λ (s : State). step_then (nested limit Then Condition s.code s.waits) (λ t. steps limit t (tokens_of a ++ second)))
    (closing 3 c code waits g.0 g.2 ∙ stays 3 (put c code) waits (looser_condition waits adm))
    ∙ ap (λ s. step_then s (λ t. steps limit t (tokens_of a ++ second))) (nested_ok limit Then Condition (put c code) waits (omega arith))
    ∙ reads limit a head (Condition ∷ waits) second g.3 (level_from a) (omega arith)
    ∙ ap (λ (s : State). step_then (second_choice s.code s.waits) (λ t. steps limit t (tokens_of b ++ rest))) (closing 1 a head (Condition ∷ waits) (level_from a) g.3)
    ∙ reads limit b (Else ∷ put a head) (Alternative ∷ waits) rest g.4 g.1 (omega arith)
reads limit (Assignment x op e) code waits rest g adm d =
    ap (λ b. step_then (cond b (nested limit (Target x op) (Assigned x op) code waits) (Err Misplaced)) (λ t. steps limit t (tokens_of e ++ rest))) (may_begin waits adm)
    ∙ ap (λ s. step_then s (λ t. steps limit t (tokens_of e ++ rest))) (nested_ok limit (Target x op) (Assigned x op) code waits (omega arith))
    ∙ reads limit e (Target x op ∷ code) (Assigned x op ∷ waits) rest g.2 (level_from e) (omega arith)

-- the instructions of expressions one after another, on top of others
abbrev pub put_all : List Tree → List Instruction → List Instruction
put_all [] code = code
put_all (e ∷ trees) code = put_all trees (Finish ∷ put e code)

-- an expression alone, and what ends it
expression_read : (limit : ℕ) (e : Tree) (code : List Instruction) (rest : List Token) → Fits limit e → steps limit (awaiting code []) (tokens_of e ++ Separator ∷ rest) ≡ steps limit (awaiting (Finish ∷ put e code) []) rest
expression_read limit e code rest f =
    reads limit e code [] (Separator ∷ rest) f.grammar tt (omega (arith, f.depth))
    ∙ ap (λ (c : State). step_then (expression_end c.code c.waits) (λ t. steps limit t rest)) (closing 1 e code [] (level_from e) f.grammar)

last_read : (limit : ℕ) (e : Tree) (code : List Instruction) → Fits limit e → steps limit (awaiting code []) (tokens_of e ++ End ∷ []) ≡ Ok (awaiting (Finish ∷ put e code) [])
last_read limit e code f =
    reads limit e code [] (End ∷ []) f.grammar tt (omega (arith, f.depth))
    ∙ ap (λ (c : State). step_then (expression_end c.code c.waits) (λ t. steps limit t [])) (closing 1 e code [] (level_from e) f.grammar)

-- the parts of a program are taken one after another
parts_read : (limit : ℕ) (first : List Token) (more : List (List Token)) (trees : List Tree) (code : List Instruction) → filter is_some_part (first ∷ more) ≡ map tokens_of trees → AllByRecursion (Fits limit) trees → steps limit (awaiting code []) (joined first more ++ End ∷ []) ≡ Ok (awaiting (put_all trees code) [])
parts_read limit [] [] [] code e f = refl
parts_read limit [] [] (t ∷ trees) code e f = absurd cc
parts_read limit [] (next ∷ more) trees code e f = parts_read limit next more trees code e f
parts_read limit (x ∷ xs) [] [] code e f = absurd cc
parts_read limit (x ∷ xs) [] (t ∷ []) code e f =
    let is : x ∷ xs ≡ tokens_of t = cc in
    ap (λ l. steps limit (awaiting code []) (l ++ End ∷ [])) is ∙ last_read limit t code f.0
parts_read limit (x ∷ xs) [] (t ∷ u ∷ trees) code e f = absurd cc
parts_read limit (x ∷ xs) (next ∷ more) [] code e f = absurd cc
parts_read limit (x ∷ xs) (next ∷ more) (t ∷ trees) code e f =
    let is : x ∷ xs ≡ tokens_of t = cc in
    let others : filter is_some_part (next ∷ more) ≡ map tokens_of trees = cc in
    ap (λ l. steps limit (awaiting code []) ((l ++ Separator ∷ joined next more) ++ End ∷ [])) is
    ∙ ap (steps limit (awaiting code [])) (append_assoc (tokens_of t) (Separator ∷ joined next more) (End ∷ []))
    ∙ expression_read limit t code (joined next more ++ End ∷ []) f.0
    ∙ parts_read limit next more trees (Finish ∷ put t code) others f.1

-- a program's tokens are read to its end
pub program_read : (limit : ℕ) (all : List Token) (trees : List Tree) → IsProgram limit all trees → steps limit nothing_read (all ++ End ∷ []) ≡ Ok (awaiting (put_all trees []) [])
program_read limit all trees p =
    ap (λ l. steps limit nothing_read (l ++ End ∷ [])) p.parts ∙ parts_read limit p.first p.more trees [] p.expressions p.each
