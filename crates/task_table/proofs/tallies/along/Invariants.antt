use Rattle.std.proofs.Common.{take}
use Rattle.task_table.specs.Tallying.{AllMore}
use Rattle.task_table.proofs.tallies.along.Given as goal

abbrev pub invariant-loop-place : goal.invariant-loop-place
invariant-loop-place l = AllMore l.table (take l.place-index l.places) l.fn.rest l.tallies
