use Rattle.std.proofs.Common.{take}
use Rattle.task_table.specs.Loading.{Tallied}
use Rattle.task_table.proofs.loads.tallied.Given as goal

abbrev pub invariant-loop-place : goal.invariant-loop-place
invariant-loop-place l = Tallied l.table (take l.place-index l.places) l.counts
