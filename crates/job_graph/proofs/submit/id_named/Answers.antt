use Rattle.std.proofs.Common.{sym, ◌∙◌}
use Rattle.job_graph.proofs.Submitted.{passed_at}
use Rattle.job_graph.proofs.submit.id_named.Goals as goal

pub loop-place-preserved : goal.loop-place-preserved
loop-place-preserved c =
    passed_at c.args.tasks.now c.args.ids.now c.loop-place.place c.index-tasks-place.result c.args.name.now c.loop-place-test.true c.requires (sym c.index-tasks-place.is) (sym c.is.ensures.value ∙ c.if-is.false)
    ∙ c.loop-place.invariant
