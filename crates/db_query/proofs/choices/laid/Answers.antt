use Rattle.std.proofs.Common.{◌≡◌, ◌||◌, take, get_or, sym, ap, ◌∙◌, arith}
use Rattle.std.specs.List.{list_any}
use Rattle.cluster_defs.specs.Filter.{is_same}
use Rattle.db_query.proofs.Layings.{none_has, any_more}
use Rattle.db_query.proofs.choices.laid.Goals as goal

pub loop-scalar-init : goal.loop-scalar-init
loop-scalar-init c = none_has c.new-choices.result c.new-choices.ensures.null c.new-choices.ensures.texts c.new-choices.ensures.numbers

pub loop-scalar-preserved : goal.loop-scalar-preserved
loop-scalar-preserved c = λ value.
    let scalars = c.args.scalars.now in
    let at = c.loop-scalar.scalar-index in
    let scalar = c.scalar-item.result in
    let is : scalar ≡ get_or scalars at scalar = c.scalar-item.is in
    let before = list_any (λ choice. is_same choice value) (take at scalars) in
    c.in_ok-add.ensures value
    ∙ ap (λ b. b || is_same scalar value) (c.loop-scalar.invariant value)
    ∙ ap (λ s. before || is_same s value) is
    ∙ sym (any_more value scalars at scalar (omega arith))
