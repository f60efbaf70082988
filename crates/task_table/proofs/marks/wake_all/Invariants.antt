use Rattle.std.proofs.Common.{take}
use Rattle.task_table.specs.Marking.{AllWoken, AllGrow}
use Rattle.task_table.proofs.marks.wake_all.Given as goal

abbrev pub invariant-loop-place : goal.invariant-loop-place
invariant-loop-place l = record { there : AllWoken (take l.place-index l.places) l.marks; grow : AllGrow l.fn.marks l.marks }
