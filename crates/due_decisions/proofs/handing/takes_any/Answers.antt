use Rattle.std.proofs.Common.{◌∙◌, sym}
use Rattle.due_decisions.proofs.OpenTasks.{fits_any}
use Rattle.due_decisions.proofs.handing.takes_any.Goals as goal

pub returns-then-is_anywhere : goal.returns-then-is_anywhere
returns-then-is_anywhere c = λ on.
    fits_any c.args.table.now c.args.task.now (sym c.is_ready.ensures ∙ on) (c.is_anywhere.ensures.free c.if-is_anywhere.true) (c.is_anywhere.ensures.none c.if-is_anywhere.true)
