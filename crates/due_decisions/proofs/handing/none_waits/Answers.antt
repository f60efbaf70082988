use Rattle.std.proofs.Common.{sym, ◌∙◌}
use Rattle.due_decisions.proofs.LaneSteps.{none_left}
use Rattle.due_decisions.proofs.OpenTasks.{none_fit}
use Rattle.due_decisions.proofs.handing.none_waits.Goals as goal

pub returns-then-is_empty : goal.returns-then-is_empty
returns-then-is_empty c = λ on.
    let m = c.marks-marks.result.now in
    none_fit c.args.tasks.now m c.marks-marks.ensures (none_left m.free.keys (c.is_empty.ensures.0 c.if-is_empty.true)) (sym c.as_map.ensures ∙ none_left c.as_map.result.now.entries (c.is_empty-then-is_empty.ensures.0 on))
