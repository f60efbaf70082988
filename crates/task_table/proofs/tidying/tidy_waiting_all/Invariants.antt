use Rattle.std.proofs.Common.{◌≡◌, ◌+◌}
use Rattle.task_table.specs.Marking.{Marked}
use Rattle.task_table.proofs.tidying.tidy_waiting_all.Given as goal

abbrev pub invariant-loop-place : goal.invariant-loop-place
invariant-loop-place g l = record { marked : Marked l.table l.marks; cost : l.steps ≡ l.fn.steps + l.place-index }
