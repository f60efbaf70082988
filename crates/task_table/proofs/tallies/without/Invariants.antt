use Rattle.std.proofs.Common.{take}
use Rattle.task_table.specs.Tallying.{AllLess}
use Rattle.task_table.proofs.tallies.without.Given as goal

abbrev pub invariant-loop-place : goal.invariant-loop-place
invariant-loop-place l = AllLess l.table (take l.place-index l.places) l.fn.kept l.tallies
