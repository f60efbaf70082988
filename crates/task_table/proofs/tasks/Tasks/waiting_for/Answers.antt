use Rattle.std.proofs.Common.{ap, ◌∙◌}
use Rattle.task_table.specs.Waiting.{waiting_on}
use Rattle.task_table.proofs.Waiting.{waiting_is}
use Rattle.task_table.proofs.tasks.Tasks.waiting_for.Goals as goal

pub returns : goal.returns
returns c =
    c.in_ok-places.ensures.places ∙ waiting_is c.self.inside.table c.self.inside.waiters c.args.id.now c.self.invariant.indexed c.in_ok-places.ensures.sorted ∙ ap (waiting_on c.args.id.now) c.self.view_is
