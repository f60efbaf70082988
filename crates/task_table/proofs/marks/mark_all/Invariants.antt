use Rattle.std.proofs.Common.{take}
use Rattle.task_table.specs.Marking.{HasAll, AllGrow}
use Rattle.task_table.proofs.marks.mark_all.Given as goal

abbrev pub invariant-loop-place : goal.invariant-loop-place
invariant-loop-place l = record { there : HasAll (take l.place-index l.places) l.marks; grow : AllGrow l.fn.marks l.marks }
