use Rattle.task_table.specs.Marking.{Marked}
use Rattle.task_table.proofs.tidying.tidy_all.Given as goal

abbrev pub invariant-loop-place : goal.invariant-loop-place
invariant-loop-place l = Marked l.table l.marks
