-- The names of an outcome are those behind all the assignments that it tells of.
use Rattle.std.proofs.Common.{◌≡◌, ◌∙◌, ℕ, ℤ, Bool, true, false, cond, List, [], ◌∷◌, Option, Some, None, Ok, Err, refl, sym, ap}
use Rattle.std.specs.Prelude.{pos}
use Rattle.arith_syntax.specs.declared.operators.BinaryOperator.{BinaryOperator}
use Rattle.arith_syntax.specs.Tree.{Tree, Constant, Variable, Parenthesized, Unary, Operation, Conditional, Assignment}
use Rattle.arith_eval.specs.Names.{Environment, behind}
use Rattle.arith_eval.specs.Value.{Number, is_zero, binary, Outcome, outcome, assignment, with_value, and_then, value_of_name, operation, assigned, value_of, values_from, value_of_program}
use Rattle.arith_eval.proofs.Plays.{Kind, both_and, both_or, plain, kind, behind-append}

abbrev Follows : Environment → Outcome → Type 0
Follows before o = o.names ≡ behind before o.made

with_value_follows : (n : Number) (names : Environment) (go : ℤ → Environment → Outcome) → ((v : ℤ) (after : Environment) → Follows after (go v after)) → Follows names (with_value n names go)
with_value_follows (Ok v) names go h = h v names
with_value_follows (Err e) names go h = refl

and_then_follows : (before : Environment) (o : Outcome) (go : ℤ → Environment → Outcome) → Follows before o → ((v : ℤ) (after : Environment) → Follows after (go v after)) → Follows before (and_then o go)
and_then_follows before o go f h =
    let more = with_value o.value o.names go in
    with_value_follows o.value o.names go h
    ∙ ap (λ n. behind n more.made) f
    ∙ sym (behind-append before o.made more.made)

cond_follows : (z : Bool) (names : Environment) (a b : Outcome) → Follows names a → Follows names b → Follows names (cond z a b)
cond_follows true names a b f g = f
cond_follows false names a b f g = g

operation_follows : (op : BinaryOperator) → Kind op → (before : Environment) (first : Outcome) (second : Environment → Outcome) → Follows before first → ((names : Environment) → Follows names (second names)) → Follows before (operation op first second)
operation_follows op (both_and) before first second f h =
    and_then_follows before first _ f (λ a names.
    cond_follows (is_zero a) names _ _ refl (and_then_follows names (second names) _ (h names) (λ b after. refl)))
operation_follows op (both_or) before first second f h =
    and_then_follows before first _ f (λ a names.
    cond_follows (is_zero a) names _ _ (and_then_follows names (second names) _ (h names) (λ b after. refl)) refl)
operation_follows op (plain o p) before first second f h =
    ap (λ (x : Outcome). x.names) (p.value first second)
    ∙ and_then_follows before first _ f (λ a names. and_then_follows names (second names) (λ b after. outcome (binary o a b) after) (h names) (λ b after. refl))
    ∙ ap (λ (x : Outcome). behind before x.made) (sym (p.value first second))

assigned_follows : (x : List ℕ) (op : Option BinaryOperator) (names : Environment) (value : Environment → Outcome) → ((n : Environment) → Follows n (value n)) → Follows names (assigned x op names value)
assigned_follows x None names value h = and_then_follows names (value names) (assignment x) (h names) (λ v after. refl)
assigned_follows x (Some op) names value h =
    with_value_follows (value_of_name names x) names _ (λ old same.
    and_then_follows same (value same) _ (h same) (λ v after.
    with_value_follows (binary op old v) after (assignment x) (λ r last. refl)))

value_follows : (e : Tree) (names : Environment) → Follows names (value_of e names)
value_follows (Constant n) names = refl
value_follows (Variable x) names = refl
value_follows (Parenthesized e) names = value_follows e names
value_follows (Unary op e) names = and_then_follows names (value_of e names) _ (value_follows e names) (λ v after. refl)
value_follows (Operation op a b) names =
    operation_follows op (kind op) names (value_of a names) (value_of b) (value_follows a names) (λ n. value_follows b n)
value_follows (Conditional c a b) names =
    and_then_follows names (value_of c names) _ (value_follows c names) (λ v after.
    cond_follows (is_zero v) after (value_of b after) (value_of a after) (value_follows b after) (value_follows a after))
value_follows (Assignment x op e) names = assigned_follows x op names (value_of e) (λ n. value_follows e n)

values_follow : (last : ℤ) (trees : List Tree) (names : Environment) → Follows names (values_from last trees names)
values_follow last [] names = refl
values_follow last (e ∷ trees) names =
    and_then_follows names (value_of e names) _ (value_follows e names) (λ v after. values_follow v trees after)

all_made : (trees : List Tree) (names : Environment) → (value_of_program trees names).names ≡ behind names (value_of_program trees names).made
all_made trees names = values_follow (pos 0) trees names
