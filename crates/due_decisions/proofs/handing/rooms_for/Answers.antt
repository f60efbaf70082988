use Rattle.std.proofs.Common.{sym, ◌∙◌}
use Rattle.due_decisions.proofs.OpenTasks.{rooms_unready}
use Rattle.due_decisions.proofs.handing.rooms_for.Goals as goal

pub returns-else-is_ready : goal.returns-else-is_ready
returns-else-is_ready c = c.new.ensures.items ∙ rooms_unready c.args.table.now c.args.task.now c.args.rooms.now (sym c.is_ready.ensures ∙ c.if-is_ready.false)
