use Rattle.task_table.specs.Marking.{OthersStay}
use Rattle.task_table.proofs.laning.leave_each.Given as goal

abbrev pub invariant-loop-engine : goal.invariant-loop-engine
invariant-loop-engine l = OthersStay l.place l.fn.lanes l.lanes
