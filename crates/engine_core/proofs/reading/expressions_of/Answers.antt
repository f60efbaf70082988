use Rattle.std.proofs.Common.{◌≡◌, ◌∙◌, [], ◌∷◌, ◌++◌, List, Option, Some, None, refl, sym, ap, append_assoc, option_map, option_and_then}
use Rattle.serde_json.specs.View.{view, members_view}
use Rattle.engine_core.specs.declared.request.Expression.{Expression}
use Rattle.engine_core.specs.Request.{expression_in, expressions_of}
use Rattle.engine_core.proofs.reading.expressions_of.Goals as goal

-- one more in front of the rest
one_more : (front : List Expression) (one : Expression) (rest : Option (List Expression)) → option_map (λ r. front ++ r) (option_map (λ r. one ∷ r) rest) ≡ option_map (λ r. (front ++ one ∷ []) ++ r) rest
one_more front one None = refl
one_more front one (Some rest) = ap Some (sym (append_assoc front (one ∷ []) rest))

pub loop-name-preserved : goal.loop-name-preserved
loop-name-preserved c =
    let front = c.loop-name.expressions in
    let one = c.in-Some-2.expression in
    let left = expressions_of (members_view c.next.new.self) in
    let is : Some one ≡ expression_in c.as_str.result.now (view c.in-Some.value.now) = sym c.in-Some-2.is ∙ c.in_ok-expression.ensures in
    let read : expressions_of (members_view c.loop-name.name-iterator) ≡ option_map (λ r. one ∷ r) left =
    ap (λ es. expressions_of (members_view es)) c.in-Some.ensures.steps
    ∙ ap (λ name. option_and_then (λ first. option_map (λ r. first ∷ r) left) (expression_in name (view c.in-Some.value.now))) (sym c.as_str.ensures.value)
    ∙ ap (option_and_then (λ first. option_map (λ r. first ∷ r) left)) (sym is) in
    c.loop-name.invariant ∙ ap (option_map (λ r. front ++ r)) read ∙ one_more front one left
    ∙ ap (λ z. option_map (λ r. z ++ r) left) (sym c.in_ok-push.ensures.ok)
