use Rattle.task_graph.proofs.Lists.{noted_in_part, noted_first}
use Rattle.cluster_types.proofs.Options.{at_err}
use Rattle.task_graph.proofs.waiters.Waiters.add_all.Goals as goal

pub returns-in_err-add-clause-err : goal.returns-in_err-add-clause-err
returns-in_err-add-clause-err c =
    at_err c.from_residual.result (noted_in_part c.args.ids.now c.loop-id.id-index c.args.place c.args.self.now c.loop-id.self c.add.new.self c.loop-id.invariant c.in_err-add.ensures.err)

pub returns-in_err-add-clause-part : goal.returns-in_err-add-clause-part
returns-in_err-add-clause-part c =
    at_err c.from_residual.result (noted_first c.args.ids.now c.loop-id.id-index c.args.place c.args.self.now c.loop-id.self c.add.new.self c.loop-id.invariant c.in_err-add.ensures.err)
