-- The instructions of a tree give its value.
use Rattle.std.proofs.Common.{◌≡◌, ◌∙◌, ℕ, suc, ℤ, pos, Bool, true, false, cond, List, [], ◌∷◌, ◌++◌, Option, Some, None, Ok, Err, refl, sym, ap, append_assoc, to_z, subst, arith, ◌<◌, length, take, drop, get_or, inl, inr}
use Rattle.std.proofs.Math.Seq.{drop-cons}
use Rattle.std.specs.Prelude.{◌==◌, not}
use Rattle.std.specs.List.{AllByRecursion}
use Rattle.std.specs.Int.{w64}
use Rattle.std.proofs.lemmas.Int.{to_z_pos}
use Rattle.std.proofs.lemmas.List.{take_at}
use Rattle.arith_syntax.specs.declared.operators.BinaryOperator.{BinaryOperator}
use Rattle.arith_syntax.specs.declared.operators.BinaryOperator.TheVariants.{LogicalOr, LogicalAnd, BitOr, BitXor, BitAnd, EqualTo, NotEqualTo, LessThan, LessOrEqual, GreaterThan, GreaterOrEqual, ShiftLeft, ShiftRight, Add, Subtract, Multiply, Divide, Remainder}
use Rattle.arith_syntax.specs.declared.instruction.Instruction.{Instruction}
use Rattle.arith_syntax.specs.declared.instruction.Instruction.TheVariants.{Push, Load, Open, Close, Sign, Apply, Infix, Combine, Then, Else, Choose, Target, Store, Finish}
use Rattle.arith_syntax.specs.Tree.{Tree, Constant, Variable, Parenthesized, Unary, Operation, Conditional, Assignment, IsExpression}
use Rattle.arith_syntax.specs.Grammar.{Fits}
use Rattle.arith_syntax.specs.Written.{instructions_of, all_written}
use Rattle.arith_eval.specs.declared.error.ArithError.{ArithError}
use Rattle.arith_eval.specs.declared.error.ArithError.TheVariants.{NameError, ZeroDivision, ShiftRange, OutOfMemory}
use Rattle.arith_eval.specs.Names.{Environment, Assigned, assign, behind, FirstStand}
use Rattle.arith_eval.specs.Value.{Number, is_zero, truth, unary, binary, Outcome, outcome, assignment, made_before, with_value, and_then, value_of_name, operation, value_of, values_from, value_of_program, Evaluates}
use Rattle.arith_eval.specs.Machine.{Machine, at_rest, turned, top, below, pushed, infix_act, combine_act, unchanged, stored, act, pass, step, Turn, Move, Moves, IsBeforeOrBehind}

abbrev pub goes_on : Move → Environment → (Machine → Environment → Outcome) → Outcome
goes_on (Ok r) names go = go r.0 r.1
goes_on (Err f) names go = outcome (Err f) names

-- the assignment of an instruction that isn't passed over, by the machine behind it
abbrev stores : Instruction → Machine → Assigned
stores (Store x op) n = (x, top n.stack) ∷ []
stores _ n = []

-- the assignment that an instruction makes, by the machines before and behind it
abbrev pub makes : Instruction → Machine → Machine → Assigned
makes i m n = cond (m.skip == 0) (stores i n) []

-- instructions one after another
abbrev pub play : List Instruction → Machine → Environment → Outcome
play [] m names = outcome (Ok m.last) names
play (i ∷ more) m names = goes_on (step i m names) names (λ n after. made_before (makes i m n) (play more n after))

abbrev machine : List ℤ → ℕ → ℤ → Machine
machine stack skip last = record { stack = stack; skip = skip; last = last }

some_skip : (k : ℕ) → (suc k == 0) ≡ false
some_skip k = grind arith

more_skip : (k : ℕ) → (suc (suc k) == 1) ≡ false
more_skip k = grind arith

-- an instruction that is passed over
passed : (i : Instruction) (more : List Instruction) (stack : List ℤ) (k : ℕ) (last : ℤ) (names : Environment) → play (i ∷ more) (machine stack (suc k) last) names ≡ play more (machine stack (pass i (suc k)) last) names
passed i more stack k last names =
    ap (λ b. goes_on (cond b (act i stack last names) (unchanged (turned stack (pass i (suc k)) last) names)) names (λ n after. made_before (cond b (stores i n) []) (play more n after))) (some_skip k)

passed_else : (more : List Instruction) (stack : List ℤ) (k : ℕ) (last : ℤ) (names : Environment) → play (Else ∷ more) (machine stack (suc (suc k)) last) names ≡ play more (machine stack (suc (suc k)) last) names
passed_else more stack k last names =
    passed Else more stack (suc k) last names
    ∙ ap (λ b. play more (machine stack (cond b 0 (suc (suc k))) last) names) (more_skip k)

-- the second operand and its operator
second_passes : (op : BinaryOperator) (b : Tree) (more : List Instruction) (stack : List ℤ) (k : ℕ) (last : ℤ) (names : Environment) → ((j : ℕ) → play (instructions_of b ++ Combine op ∷ more) (machine stack (suc j) last) names ≡ play (Combine op ∷ more) (machine stack (suc j) last) names) → play (instructions_of b ++ Combine op ∷ more) (machine stack (pass (Infix op) (suc k)) last) names ≡ play more (machine stack (suc k) last) names
second_passes LogicalAnd b more stack k last names h = h (suc k) ∙ passed (Combine LogicalAnd) more stack (suc k) last names
second_passes LogicalOr b more stack k last names h = h (suc k) ∙ passed (Combine LogicalOr) more stack (suc k) last names
second_passes BitOr b more stack k last names h = h k ∙ passed (Combine BitOr) more stack k last names
second_passes BitXor b more stack k last names h = h k ∙ passed (Combine BitXor) more stack k last names
second_passes BitAnd b more stack k last names h = h k ∙ passed (Combine BitAnd) more stack k last names
second_passes EqualTo b more stack k last names h = h k ∙ passed (Combine EqualTo) more stack k last names
second_passes NotEqualTo b more stack k last names h = h k ∙ passed (Combine NotEqualTo) more stack k last names
second_passes LessThan b more stack k last names h = h k ∙ passed (Combine LessThan) more stack k last names
second_passes LessOrEqual b more stack k last names h = h k ∙ passed (Combine LessOrEqual) more stack k last names
second_passes GreaterThan b more stack k last names h = h k ∙ passed (Combine GreaterThan) more stack k last names
second_passes GreaterOrEqual b more stack k last names h = h k ∙ passed (Combine GreaterOrEqual) more stack k last names
second_passes ShiftLeft b more stack k last names h = h k ∙ passed (Combine ShiftLeft) more stack k last names
second_passes ShiftRight b more stack k last names h = h k ∙ passed (Combine ShiftRight) more stack k last names
second_passes Add b more stack k last names h = h k ∙ passed (Combine Add) more stack k last names
second_passes Subtract b more stack k last names h = h k ∙ passed (Combine Subtract) more stack k last names
second_passes Multiply b more stack k last names h = h k ∙ passed (Combine Multiply) more stack k last names
second_passes Divide b more stack k last names h = h k ∙ passed (Combine Divide) more stack k last names
second_passes Remainder b more stack k last names h = h k ∙ passed (Combine Remainder) more stack k last names

-- a tree that is passed over leaves all as it was
passes : (e : Tree) (more : List Instruction) (stack : List ℤ) (k : ℕ) (last : ℤ) (names : Environment) → play (instructions_of e ++ more) (machine stack (suc k) last) names ≡ play more (machine stack (suc k) last) names
passes (Constant n) more stack k last names = passed (Push n) more stack k last names
passes (Variable x) more stack k last names = passed (Load x) more stack k last names
passes (Parenthesized e) more stack k last names =
    passed Open ((instructions_of e ++ Close ∷ []) ++ more) stack k last names
    ∙ ap (λ l. play l (machine stack (suc k) last) names) (append_assoc (instructions_of e) (Close ∷ []) more)
    ∙ passes e (Close ∷ more) stack k last names
    ∙ passed Close more stack k last names
passes (Unary op e) more stack k last names =
    passed (Sign op) ((instructions_of e ++ Apply op ∷ []) ++ more) stack k last names
    ∙ ap (λ l. play l (machine stack (suc k) last) names) (append_assoc (instructions_of e) (Apply op ∷ []) more)
    ∙ passes e (Apply op ∷ more) stack k last names
    ∙ passed (Apply op) more stack k last names
passes (Operation op a b) more stack k last names =
    ap (λ l. play l (machine stack (suc k) last) names) (append_assoc (instructions_of a) (Infix op ∷ (instructions_of b ++ Combine op ∷ [])) more)
    ∙ passes a (Infix op ∷ ((instructions_of b ++ Combine op ∷ []) ++ more)) stack k last names
    ∙ passed (Infix op) ((instructions_of b ++ Combine op ∷ []) ++ more) stack k last names
    ∙ ap (λ l. play l (machine stack (pass (Infix op) (suc k)) last) names) (append_assoc (instructions_of b) (Combine op ∷ []) more)
    ∙ second_passes op b more stack k last names (λ j. passes b (Combine op ∷ more) stack j last names)
passes (Conditional c a b) more stack k last names =
    ap (λ l. play l (machine stack (suc k) last) names) (append_assoc (instructions_of c) (Then ∷ (instructions_of a ++ Else ∷ (instructions_of b ++ Choose ∷ []))) more)
    ∙ passes c (Then ∷ ((instructions_of a ++ Else ∷ (instructions_of b ++ Choose ∷ [])) ++ more)) stack k last names
    ∙ passed Then ((instructions_of a ++ Else ∷ (instructions_of b ++ Choose ∷ [])) ++ more) stack k last names
    ∙ ap (λ l. play l (machine stack (suc (suc k)) last) names) (append_assoc (instructions_of a) (Else ∷ (instructions_of b ++ Choose ∷ [])) more)
    ∙ passes a (Else ∷ ((instructions_of b ++ Choose ∷ []) ++ more)) stack (suc k) last names
    ∙ passed_else ((instructions_of b ++ Choose ∷ []) ++ more) stack k last names
    ∙ ap (λ l. play l (machine stack (suc (suc k)) last) names) (append_assoc (instructions_of b) (Choose ∷ []) more)
    ∙ passes b (Choose ∷ more) stack (suc k) last names
    ∙ passed Choose more stack (suc k) last names
passes (Assignment x op e) more stack k last names =
    passed (Target x op) ((instructions_of e ++ Store x op ∷ []) ++ more) stack k last names
    ∙ ap (λ l. play l (machine stack (suc k) last) names) (append_assoc (instructions_of e) (Store x op ∷ []) more)
    ∙ passes e (Store x op ∷ more) stack k last names
    ∙ passed (Store x op) more stack k last names

with_value_same : (n : Number) (names : Environment) (f g : ℤ → Environment → Outcome) → ((v : ℤ) (after : Environment) → f v after ≡ g v after) → with_value n names f ≡ with_value n names g
with_value_same (Ok v) names f g h = h v names
with_value_same (Err e) names f g h = refl

with_value_then : (n : Number) (names : Environment) (f g : ℤ → Environment → Outcome) → and_then (with_value n names f) g ≡ with_value n names (λ v after. and_then (f v after) g)
with_value_then (Ok v) names f g = refl
with_value_then (Err e) names f g = refl

and_then_same : (o : Outcome) (f g : ℤ → Environment → Outcome) → ((v : ℤ) (names : Environment) → f v names ≡ g v names) → and_then o f ≡ and_then o g
and_then_same o f g h = ap (made_before o.made) (with_value_same o.value o.names f g h)

made_twice : (a b : Assigned) (o : Outcome) → made_before (a ++ b) o ≡ made_before a (made_before b o)
made_twice a b o = ap (λ made. record { value = o.value; made = made; names = o.names }) (append_assoc a b o.made)

and_then_then : (o : Outcome) (f g : ℤ → Environment → Outcome) → and_then (and_then o f) g ≡ and_then o (λ v names. and_then (f v names) g)
and_then_then o f g =
    let first = with_value o.value o.names f in
    made_twice o.made first.made (with_value first.value first.names g) ∙ ap (made_before o.made) (with_value_then o.value o.names f g)

-- a value or a fault on top
push_number : (r : Number) (more : List Instruction) (stack : List ℤ) (last : ℤ) (names : Environment) → goes_on (unchanged (pushed r stack last) names) names (λ n after. play more n after) ≡ with_value r names (λ v after. play more (machine (v ∷ stack) 0 last) after)
push_number (Ok v) more stack last names = refl
push_number (Err e) more stack last names = refl

store_number : (x : List ℕ) (r : Number) (more : List Instruction) (stack : List ℤ) (last : ℤ) (names : Environment) → goes_on (stored x r stack last names) names (λ n after. made_before (stores (Store x None) n) (play more n after)) ≡ with_value r names (λ v after. and_then (assignment x v after) (λ w end. play more (machine (w ∷ stack) 0 last) end))
store_number x (Ok v) more stack last names = refl
store_number x (Err e) more stack last names = refl

-- an operator that needs both operands
pub record Plain (op : BinaryOperator) : Type 0 where
  pub begins : (stack : List ℤ) (last : ℤ) → infix_act op stack last ≡ turned stack 0 last
  pub ends : (stack : List ℤ) (last : ℤ) → combine_act op stack last ≡ pushed (binary op (top (below stack)) (top stack)) (below (below stack)) last
  pub value : (first : Outcome) (second : Environment → Outcome) → operation op first second ≡ and_then first (λ a names. and_then (second names) (λ b after. outcome (binary op a b) after))

pub data Kind : BinaryOperator → Type 0 where
  both_and : Kind LogicalAnd
  both_or : Kind LogicalOr
  plain : (op : BinaryOperator) → Plain op → Kind op

pub kind : (op : BinaryOperator) → Kind op
kind LogicalAnd = both_and
kind LogicalOr = both_or
kind BitOr = plain BitOr (record { begins = λ s l. refl; ends = λ s l. refl; value = λ f s. refl })
kind BitXor = plain BitXor (record { begins = λ s l. refl; ends = λ s l. refl; value = λ f s. refl })
kind BitAnd = plain BitAnd (record { begins = λ s l. refl; ends = λ s l. refl; value = λ f s. refl })
kind EqualTo = plain EqualTo (record { begins = λ s l. refl; ends = λ s l. refl; value = λ f s. refl })
kind NotEqualTo = plain NotEqualTo (record { begins = λ s l. refl; ends = λ s l. refl; value = λ f s. refl })
kind LessThan = plain LessThan (record { begins = λ s l. refl; ends = λ s l. refl; value = λ f s. refl })
kind LessOrEqual = plain LessOrEqual (record { begins = λ s l. refl; ends = λ s l. refl; value = λ f s. refl })
kind GreaterThan = plain GreaterThan (record { begins = λ s l. refl; ends = λ s l. refl; value = λ f s. refl })
kind GreaterOrEqual = plain GreaterOrEqual (record { begins = λ s l. refl; ends = λ s l. refl; value = λ f s. refl })
kind ShiftLeft = plain ShiftLeft (record { begins = λ s l. refl; ends = λ s l. refl; value = λ f s. refl })
kind ShiftRight = plain ShiftRight (record { begins = λ s l. refl; ends = λ s l. refl; value = λ f s. refl })
kind Add = plain Add (record { begins = λ s l. refl; ends = λ s l. refl; value = λ f s. refl })
kind Subtract = plain Subtract (record { begins = λ s l. refl; ends = λ s l. refl; value = λ f s. refl })
kind Multiply = plain Multiply (record { begins = λ s l. refl; ends = λ s l. refl; value = λ f s. refl })
kind Divide = plain Divide (record { begins = λ s l. refl; ends = λ s l. refl; value = λ f s. refl })
kind Remainder = plain Remainder (record { begins = λ s l. refl; ends = λ s l. refl; value = λ f s. refl })

-- what is left to run of a tree's second operand
rest_of : (op : BinaryOperator) (b : Tree) (more : List Instruction) → (instructions_of b ++ Combine op ∷ []) ++ more ≡ instructions_of b ++ Combine op ∷ more
rest_of op b more = append_assoc (instructions_of b) (Combine op ∷ []) more

-- a tree gives its value on top
abbrev Goes : Tree → Type 0
Goes e = (more : List Instruction) (stack : List ℤ) (last : ℤ) (names : Environment) → play (instructions_of e ++ more) (machine stack 0 last) names ≡ and_then (value_of e names) (λ v after. play more (machine (v ∷ stack) 0 last) after)

plain_second : (op : BinaryOperator) → Plain op → (b : Tree) → Goes b → (more : List Instruction) (stack : List ℤ) (last : ℤ) (v : ℤ) (names : Environment) → play (Infix op ∷ ((instructions_of b ++ Combine op ∷ []) ++ more)) (machine (v ∷ stack) 0 last) names ≡ and_then (and_then (value_of b names) (λ w after. outcome (binary op v w) after)) (λ r after. play more (machine (r ∷ stack) 0 last) after)
plain_second op p b go more stack last v names =
    ap (λ t. goes_on (unchanged t names) names (λ n after. play ((instructions_of b ++ Combine op ∷ []) ++ more) n after)) (p.begins (v ∷ stack) last)
    ∙ ap (λ l. play l (machine (v ∷ stack) 0 last) names) (rest_of op b more)
    ∙ go (Combine op ∷ more) (v ∷ stack) last names
    ∙ and_then_same (value_of b names) _ _ (λ w after.
    ap (λ t. goes_on (unchanged t after) after (λ n z. play more n z)) (p.ends (w ∷ v ∷ stack) last) ∙ push_number (binary op v w) more stack last after)
    ∙ sym (and_then_then (value_of b names) (λ w after. outcome (binary op v w) after) (λ r after. play more (machine (r ∷ stack) 0 last) after))

second_goes : (op : BinaryOperator) (f : ℤ → ℤ) (b : Tree) → Goes b → (more : List Instruction) (stack : List ℤ) (last : ℤ) (names : Environment) → ((w : ℤ) (after : Environment) → play (Combine op ∷ more) (machine (w ∷ stack) 0 last) after ≡ play more (machine (f w ∷ stack) 0 last) after) → play ((instructions_of b ++ Combine op ∷ []) ++ more) (machine stack 0 last) names ≡ and_then (and_then (value_of b names) (λ w after. outcome (Ok (f w)) after)) (λ r after. play more (machine (r ∷ stack) 0 last) after)
second_goes op f b go more stack last names h =
    ap (λ l. play l (machine stack 0 last) names) (rest_of op b more)
    ∙ go (Combine op ∷ more) stack last names
    ∙ and_then_same (value_of b names) _ _ h
    ∙ sym (and_then_then (value_of b names) (λ w after. outcome (Ok (f w)) after) (λ r after. play more (machine (r ∷ stack) 0 last) after))

second_passed : (op : BinaryOperator) (b : Tree) (more : List Instruction) (stack : List ℤ) (last : ℤ) (names : Environment) → pass (Combine op) 1 ≡ 0 → play ((instructions_of b ++ Combine op ∷ []) ++ more) (machine stack 1 last) names ≡ play more (machine stack 0 last) names
second_passed op b more stack last names h =
    ap (λ l. play l (machine stack 1 last) names) (rest_of op b more)
    ∙ passes b (Combine op ∷ more) stack 0 last names
    ∙ passed (Combine op) more stack 0 last names
    ∙ ap (λ k. play more (machine stack k last) names) h

and_second : (z : Bool) (b : Tree) → Goes b → (more : List Instruction) (stack : List ℤ) (last : ℤ) (names : Environment) → goes_on (unchanged (cond z (turned (pos 0 ∷ stack) 1 last) (turned stack 0 last)) names) names (λ n after. play ((instructions_of b ++ Combine LogicalAnd ∷ []) ++ more) n after) ≡ and_then (cond z (outcome (Ok (pos 0)) names) (and_then (value_of b names) (λ w after. outcome (Ok (truth (not (is_zero w)))) after))) (λ r after. play more (machine (r ∷ stack) 0 last) after)
and_second true b go more stack last names = second_passed LogicalAnd b more (pos 0 ∷ stack) last names refl
and_second false b go more stack last names = second_goes LogicalAnd (λ w. truth (not (is_zero w))) b go more stack last names (λ w after. refl)

or_second : (z : Bool) (b : Tree) → Goes b → (more : List Instruction) (stack : List ℤ) (last : ℤ) (names : Environment) → goes_on (unchanged (cond z (turned stack 0 last) (turned (pos 1 ∷ stack) 1 last)) names) names (λ n after. play ((instructions_of b ++ Combine LogicalOr ∷ []) ++ more) n after) ≡ and_then (cond z (and_then (value_of b names) (λ w after. outcome (Ok (truth (not (is_zero w)))) after)) (outcome (Ok (pos 1)) names)) (λ r after. play more (machine (r ∷ stack) 0 last) after)
or_second true b go more stack last names = second_goes LogicalOr (λ w. truth (not (is_zero w))) b go more stack last names (λ w after. refl)
or_second false b go more stack last names = second_passed LogicalOr b more (pos 1 ∷ stack) last names refl

operation_goes : (op : BinaryOperator) → Kind op → (a b : Tree) → Goes a → Goes b → Goes (Operation op a b)
operation_goes op (both_and) a b ga gb = λ more stack last names.
    ap (λ l. play l (machine stack 0 last) names) (append_assoc (instructions_of a) (Infix LogicalAnd ∷ (instructions_of b ++ Combine LogicalAnd ∷ [])) more)
    ∙ ga (Infix LogicalAnd ∷ ((instructions_of b ++ Combine LogicalAnd ∷ []) ++ more)) stack last names
    ∙ and_then_same (value_of a names) _ _ (λ v after. and_second (is_zero v) b gb more stack last after)
    ∙ sym (and_then_then (value_of a names) _ (λ r after. play more (machine (r ∷ stack) 0 last) after))
operation_goes op (both_or) a b ga gb = λ more stack last names.
    ap (λ l. play l (machine stack 0 last) names) (append_assoc (instructions_of a) (Infix LogicalOr ∷ (instructions_of b ++ Combine LogicalOr ∷ [])) more)
    ∙ ga (Infix LogicalOr ∷ ((instructions_of b ++ Combine LogicalOr ∷ []) ++ more)) stack last names
    ∙ and_then_same (value_of a names) _ _ (λ v after. or_second (is_zero v) b gb more stack last after)
    ∙ sym (and_then_then (value_of a names) _ (λ r after. play more (machine (r ∷ stack) 0 last) after))
operation_goes op (plain o p) a b ga gb = λ more stack last names.
    ap (λ l. play l (machine stack 0 last) names) (append_assoc (instructions_of a) (Infix o ∷ (instructions_of b ++ Combine o ∷ [])) more)
    ∙ ga (Infix o ∷ ((instructions_of b ++ Combine o ∷ []) ++ more)) stack last names
    ∙ and_then_same (value_of a names) _ _ (λ v after. plain_second o p b gb more stack last v after)
    ∙ sym (and_then_then (value_of a names) (λ v after. and_then (value_of b after) (λ w z. outcome (binary o v w) z)) (λ r after. play more (machine (r ∷ stack) 0 last) after))
    ∙ ap (λ x. and_then x (λ r after. play more (machine (r ∷ stack) 0 last) after)) (sym (p.value (value_of a names) (value_of b)))

choice_goes : (z : Bool) (a b : Tree) → Goes a → Goes b → (more : List Instruction) (stack : List ℤ) (last : ℤ) (names : Environment) → play ((instructions_of a ++ Else ∷ (instructions_of b ++ Choose ∷ [])) ++ more) (machine stack (cond z 1 0) last) names ≡ and_then (cond z (value_of b names) (value_of a names)) (λ r after. play more (machine (r ∷ stack) 0 last) after)
choice_goes true a b ga gb more stack last names =
    ap (λ l. play l (machine stack 1 last) names) (append_assoc (instructions_of a) (Else ∷ (instructions_of b ++ Choose ∷ [])) more)
    ∙ passes a (Else ∷ ((instructions_of b ++ Choose ∷ []) ++ more)) stack 0 last names
    ∙ passed Else ((instructions_of b ++ Choose ∷ []) ++ more) stack 0 last names
    ∙ ap (λ l. play l (machine stack 0 last) names) (append_assoc (instructions_of b) (Choose ∷ []) more)
    ∙ gb (Choose ∷ more) stack last names
choice_goes false a b ga gb more stack last names =
    ap (λ l. play l (machine stack 0 last) names) (append_assoc (instructions_of a) (Else ∷ (instructions_of b ++ Choose ∷ [])) more)
    ∙ ga (Else ∷ ((instructions_of b ++ Choose ∷ []) ++ more)) stack last names
    ∙ and_then_same (value_of a names) _ _ (λ v after.
    ap (λ l. play l (machine (v ∷ stack) 1 last) after) (append_assoc (instructions_of b) (Choose ∷ []) more)
    ∙ passes b (Choose ∷ more) (v ∷ stack) 0 last after
    ∙ passed Choose more (v ∷ stack) 0 last after)

conditional_goes : (c a b : Tree) → Goes c → Goes a → Goes b → Goes (Conditional c a b)
conditional_goes c a b gc ga gb = λ more stack last names.
    ap (λ l. play l (machine stack 0 last) names) (append_assoc (instructions_of c) (Then ∷ (instructions_of a ++ Else ∷ (instructions_of b ++ Choose ∷ []))) more)
    ∙ gc (Then ∷ ((instructions_of a ++ Else ∷ (instructions_of b ++ Choose ∷ [])) ++ more)) stack last names
    ∙ and_then_same (value_of c names) _ _ (λ v after. choice_goes (is_zero v) a b ga gb more stack last after)
    ∙ sym (and_then_then (value_of c names) _ (λ r after. play more (machine (r ∷ stack) 0 last) after))

assignment_goes : (x : List ℕ) (op : Option BinaryOperator) (e : Tree) → Goes e → Goes (Assignment x op e)
assignment_goes x None e go = λ more stack last names.
    ap (λ l. play l (machine stack 0 last) names) (append_assoc (instructions_of e) (Store x None ∷ []) more)
    ∙ go (Store x None ∷ more) stack last names
    ∙ sym (and_then_then (value_of e names) (assignment x) (λ r after. play more (machine (r ∷ stack) 0 last) after))
assignment_goes x (Some op) e go = λ more stack last names.
    push_number (value_of_name names x) ((instructions_of e ++ Store x (Some op) ∷ []) ++ more) stack last names
    ∙ with_value_same (value_of_name names x) names _ _ (λ old same.
    ap (λ l. play l (machine (old ∷ stack) 0 last) same) (append_assoc (instructions_of e) (Store x (Some op) ∷ []) more)
    ∙ go (Store x (Some op) ∷ more) (old ∷ stack) last same
    ∙ and_then_same (value_of e same) _ _ (λ v after.
    store_number x (binary op old v) more stack last after
    ∙ sym (with_value_then (binary op old v) after (assignment x) (λ r end. play more (machine (r ∷ stack) 0 last) end)))
    ∙ sym (and_then_then (value_of e same) _ (λ r after. play more (machine (r ∷ stack) 0 last) after)))
    ∙ sym (with_value_then (value_of_name names x) names _ (λ r after. play more (machine (r ∷ stack) 0 last) after))

-- every tree gives its value on top
pub goes : (e : Tree) → IsExpression e → Goes e
goes (Constant n) g = λ more stack last names. ap (λ v. play more (machine (v ∷ stack) 0 last) names) (to_z_pos w64 n g)
goes (Variable x) g = λ more stack last names. push_number (value_of_name names x) more stack last names
goes (Parenthesized e) g = λ more stack last names.
    ap (λ l. play l (machine stack 0 last) names) (append_assoc (instructions_of e) (Close ∷ []) more) ∙ goes e g (Close ∷ more) stack last names
goes (Unary op e) g = λ more stack last names.
    ap (λ l. play l (machine stack 0 last) names) (append_assoc (instructions_of e) (Apply op ∷ []) more)
    ∙ goes e g.1 (Apply op ∷ more) stack last names
    ∙ sym (and_then_then (value_of e names) (λ v after. outcome (Ok (unary op v)) after) (λ r after. play more (machine (r ∷ stack) 0 last) after))
goes (Operation op a b) g = operation_goes op (kind op) a b (goes a g.2) (goes b g.3)
goes (Conditional c a b) g = conditional_goes c a b (goes c g.2) (goes a g.3) (goes b g.4)
goes (Assignment x op e) g = assignment_goes x op e (goes e g.2)

-- a program's instructions give its value
plays_from : (trees : List Tree) (last : ℤ) (names : Environment) → AllByRecursion (Fits 64) trees → play (all_written trees) (machine [] 0 last) names ≡ values_from last trees names
plays_from [] last names f = refl
plays_from (e ∷ trees) last names f =
    ap (λ l. play l (machine [] 0 last) names) (append_assoc (instructions_of e) (Finish ∷ []) (all_written trees))
    ∙ goes e f.0.grammar (Finish ∷ all_written trees) [] last names
    ∙ and_then_same (value_of e names) _ _ (λ v after. plays_from trees v after f.1)

pub plays : (trees : List Tree) (names : Environment) → AllByRecursion (Fits 64) trees → play (all_written trees) at_rest names ≡ value_of_program trees names
plays trees names f = plays_from trees (pos 0) names f

abbrev names_of : Move → Environment → Environment
names_of (Ok r) names = r.1
names_of (Err f) names = names

abbrev top_of : Move → ℤ
top_of (Ok r) = top r.0.stack
top_of (Err f) = pos 0

unchanged_keeps : (t : Turn) (n : Machine) (names after : Environment) → unchanged t names ≡ Ok (n, after) → after ≡ names
unchanged_keeps (Ok m) n names after h = sym (ap (λ (r : Move). names_of r names) h)
unchanged_keeps (Err f) n names after h = cc

stored_behind : (x : List ℕ) (r : Number) (stack : List ℤ) (last : ℤ) (n : Machine) (names after : Environment) → stored x r stack last names ≡ Ok (n, after) → after ≡ assign names x (top n.stack)
stored_behind x (Ok v) stack last n names after h =
    sym (ap (λ (r : Move). names_of r names) h) ∙ ap (assign names x) (ap (λ (r : Move). top_of r) h)
stored_behind x (Err f) stack last n names after h = cc

acted : (i : Instruction) (stack : List ℤ) (last : ℤ) (n : Machine) (names after : Environment) → act i stack last names ≡ Ok (n, after) → after ≡ behind names (stores i n)
acted (Push v) stack last n names after h = unchanged_keeps (turned (to_z w64 v ∷ stack) 0 last) n names after h
acted (Load x) stack last n names after h = unchanged_keeps (pushed (value_of_name names x) stack last) n names after h
acted Open stack last n names after h = unchanged_keeps (turned stack 0 last) n names after h
acted Close stack last n names after h = unchanged_keeps (turned stack 0 last) n names after h
acted (Sign op) stack last n names after h = unchanged_keeps (turned stack 0 last) n names after h
acted (Apply op) stack last n names after h = unchanged_keeps (turned (unary op (top stack) ∷ below stack) 0 last) n names after h
acted (Infix op) stack last n names after h = unchanged_keeps (infix_act op stack last) n names after h
acted (Combine op) stack last n names after h = unchanged_keeps (combine_act op stack last) n names after h
acted Then stack last n names after h = unchanged_keeps (turned (below stack) (cond (is_zero (top stack)) 1 0) last) n names after h
acted Else stack last n names after h = unchanged_keeps (turned stack 1 last) n names after h
acted Choose stack last n names after h = unchanged_keeps (turned stack 0 last) n names after h
acted (Target x None) stack last n names after h = unchanged_keeps (turned stack 0 last) n names after h
acted (Target x (Some op)) stack last n names after h = unchanged_keeps (pushed (value_of_name names x) stack last) n names after h
acted (Store x None) stack last n names after h = stored_behind x (Ok (top stack)) (below stack) last n names after h
acted (Store x (Some op)) stack last n names after h = stored_behind x (binary op (top (below stack)) (top stack)) (below (below stack)) last n names after h
acted Finish stack last n names after h = unchanged_keeps (turned (below stack) 0 (top stack)) n names after h

-- an instruction leaves the names behind its assignment
stepped : (i : Instruction) (b : Bool) (m n : Machine) (names after : Environment) → cond b (act i m.stack m.last names) (unchanged (turned m.stack (pass i m.skip) m.last) names) ≡ Ok (n, after) → after ≡ behind names (cond b (stores i n) [])
stepped i true m n names after h = acted i m.stack m.last n names after h
stepped i false m n names after h = unchanged_keeps (turned m.stack (pass i m.skip) m.last) n names after h

pub behind-append : (names : Environment) (a b : Assigned) → behind names (a ++ b) ≡ behind (behind names a) b
behind-append names [] b = refl
behind-append names (n ∷ a) b = behind-append (assign names n.0 n.1) a b

pub step_acts : (i : Instruction) (m : Machine) (names : Environment) → m.skip ≡ 0 → act i m.stack m.last names ≡ step i m names
step_acts i m names h = ap (λ k. cond (k == 0) (act i m.stack m.last names) (unchanged (turned m.stack (pass i m.skip) m.last) names)) (sym h)

-- an evaluation of which the instructions that are left are to be played
pub record Played (whole : Outcome) (before : Environment) (left : List Instruction) (m : Machine) (names : Environment) : Type 0 where
  pub made : Assigned
  pub stands : names ≡ behind before made
  pub same : whole ≡ made_before made (play left m names)

pub begun : (whole : Outcome) (names : Environment) (left : List Instruction) (m : Machine) → whole ≡ play left m names → Played whole names left m names
begun whole names left m h = record { made = []; stands = refl; same = h }

-- the instruction at a place is the first of those that are left
pub next : (whole : Outcome) (before : Environment) (code : List Instruction) (at : ℕ) (i : Instruction) (m : Machine) (names : Environment) → at < length code → i ≡ get_or code at i → Played whole before (drop at code) m names → Played whole before (i ∷ drop (suc at) code) m names
next whole before code at i m names within is p =
    subst (λ left. Played whole before left m names) (drop-cons code at i within ∙ ap (λ j. j ∷ drop (suc at) code) (sym is)) p

pub played : (whole : Outcome) (before : Environment) (i : Instruction) (left : List Instruction) (m n : Machine) (names after : Environment) → Played whole before (i ∷ left) m names → step i m names ≡ Ok (n, after) → Played whole before left n after
played whole before i left m n names after p h = record {
  made = p.made ++ makes i m n;
  stands =
      stepped i (m.skip == 0) m n names after h
      ∙ ap (λ b. behind b (makes i m n)) p.stands
      ∙ sym (behind-append before p.made (makes i m n));
  same =
      p.same
      ∙ ap (λ r. made_before p.made (goes_on r names (λ z end. made_before (makes i m z) (play left z end)))) h
      ∙ sym (made_twice p.made (makes i m n) (play left n after));
}

-- what was assigned so far are the first of the assignments
pub first_stand : (whole : Outcome) (before : Environment) (left : List Instruction) (m : Machine) (names : Environment) → Played whole before left m names → FirstStand whole.made before names
first_stand whole before left m names p =
    let all = ap (λ (o : Outcome). o.made) p.same in
    let first = ap (take (length p.made)) all ∙ take_at p.made (play left m names).made (length p.made) refl in
    record { count = length p.made; names = p.stands ∙ sym (ap (behind before) first) }

pub cut_off : (whole : Outcome) (before : Environment) (i : Instruction) (left : List Instruction) (m : Machine) (names after : Environment) → Played whole before (i ∷ left) m names → IsBeforeOrBehind names after (step i m names) → FirstStand whole.made before after
cut_off whole before i left m names after p (inl same) =
    subst (FirstStand whole.made before) (sym same) (first_stand whole before (i ∷ left) m names p)
cut_off whole before i left m names after p (inr move) =
    first_stand whole before left move.0 after (played whole before i left m move.0 names after p move.1)

stopped : (e : ArithError) (i : Instruction) (left : List Instruction) (m : Machine) (names after : Environment) → step i m names ≡ Err e → after ≡ names → ((play (i ∷ left) m names).value ≡ Err e) × (after ≡ (play (i ∷ left) m names).names)
stopped e i left m names after h same =
    let o : play (i ∷ left) m names ≡ outcome (Err e) names = ap (λ r. goes_on r names (λ n end. made_before (makes i m n) (play left n end))) h in
    (ap (λ (x : Outcome). x.value) o, same ∙ sym (ap (λ (x : Outcome). x.names) o))

stops_there : (e : ArithError) (made : Assigned) (i : Instruction) (left : List Instruction) (m new : Machine) (names after : Environment) → Moves {X = Unit {0}} (Err e) new names after (step i m names) → Evaluates (Err e) (made_before made (play (i ∷ left) m names)) after
stops_there OutOfMemory made i left m new names after h = tt
stops_there (NameError x) made i left m new names after h = stopped (NameError x) i left m names after h.0 h.1
stops_there ZeroDivision made i left m new names after h = stopped ZeroDivision i left m names after h.0 h.1
stops_there (ShiftRange n) made i left m new names after h = stopped (ShiftRange n) i left m names after h.0 h.1

-- an instruction that faults ends the program there
pub stops : (e : ArithError) (whole : Outcome) (before : Environment) (i : Instruction) (left : List Instruction) (m new : Machine) (names after : Environment) → Played whole before (i ∷ left) m names → Moves {X = Unit {0}} (Err e) new names after (step i m names) → Evaluates (Err e) whole after
stops e whole before i left m new names after p h =
    subst (λ (o : Outcome). Evaluates (Err e) o after) (sym p.same) (stops_there e p.made i left m new names after h)
