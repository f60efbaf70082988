use Rattle.std.proofs.Common.{true, not, refl}
use Rattle.cluster_defs.specs.Texts.{history_content}
use Rattle.cluster_defs.specs.RecordAnswers.{ids_where}
use Rattle.hub_queries.proofs.queues.history_text.Goals as goal

pub returns : goal.returns
unfolding history_content
returns g c =
    let kept = ids_where (λ r. not r.purged) (g.R.Records.records c.args.table.now) in
    rw (c.in_ok-push_str.ensures.bytes, c.in_ok-push_to.ensures true kept c.in_ok-kept.ensures, c.in_ok-text.ensures.ok) refl
