use Rattle.std.proofs.Common.{get_or, ap, ◌∙◌, arith}
use Rattle.cluster_defs.specs.FilterWords.{with_new}
use Rattle.cluster_defs.specs.declared.filter.Field.TheVariants.{MsgId}
use Rattle.db_query.proofs.Firsts.{once_more}
use Rattle.db_query.proofs.fields.once.Goals as goal

pub loop-field-preserved : goal.loop-field-preserved
loop-field-preserved c =
    let fields = c.args.fields.now in
    let at = c.loop-field.field-index in
    c.in_ok-push_new.ensures ∙ ap (λ z. with_new z (get_or fields at MsgId)) c.loop-field.invariant ∙ once_more fields at MsgId (omega arith)
