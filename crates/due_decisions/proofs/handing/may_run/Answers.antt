use Rattle.std.proofs.Common.{ap, sym, ◌∙◌, ◌&&◌}
use Rattle.std.specs.List.{list_any}
use Rattle.due_decisions.specs.Table.{takes}
use Rattle.due_decisions.proofs.OpenTasks.{fits_some}
use Rattle.due_decisions.proofs.handing.may_run.Goals as goal

pub returns-else-is_ready : goal.returns-else-is_ready
returns-else-is_ready c =
    let ts = c.args.table.now in
    let t = c.args.task.now in
    let rooms = c.args.rooms.now in
    c.if-is_ready.false ∙ sym (ap (λ b. b && list_any (λ r. takes ts t r.engine) rooms) (sym c.is_ready.ensures ∙ c.if-is_ready.false)) ∙ fits_some ts t rooms
