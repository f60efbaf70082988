use Rattle.std.proofs.Common.{◌≡◌, ◌∙◌, ◌+◌, [], ◌∷◌, ◌++◌, take, sym, ap, subst}
use Rattle.std.proofs.lemmas.List.{take_more}
use Rattle.arith_eval.specs.Names.{value_in}
use Rattle.engine_core.specs.Evaluation.{GiveAll}
use Rattle.engine_core.proofs.Evaluated.{gives_more}
use Rattle.engine_core.proofs.evaluation.evaluate_all.Goals as goal

pub loop-expression-preserved : goal.loop-expression-preserved
loop-expression-preserved c =
    let es = c.args.expressions.now in
    let at = c.loop-expression.expression-index in
    let e = c.expression-item.result in
    let more : take (at + 1) es ≡ take at es ++ e ∷ [] = take_more es at e c.loop-expression-test.true ∙ ap (λ z. take at es ++ z ∷ []) (sym c.expression-item.is) in
    let all = gives_more (take at es) e (value_in c.args.names.now) (value_in c.loop-expression.names) (value_in c.show.new.names) c.loop-expression.shown c.in_ok-show.field-0 c.loop-expression.invariant c.in_ok-show.ensures.name c.in_ok-show.ensures.gives in
    subst (λ z. GiveAll z (value_in c.args.names.now) c.push.new.self (value_in c.show.new.names)) (sym more)
    (subst (λ z. GiveAll (take at es ++ e ∷ []) (value_in c.args.names.now) z (value_in c.show.new.names)) (sym c.in_ok-push.ensures.ok) all)
