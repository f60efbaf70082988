use Rattle.std.proofs.Common.{take}
use Rattle.task_table.specs.Marking.{IsLanedOn, StaysWhereFit}
use Rattle.task_table.proofs.laning.lane_on_each.Given as goal

abbrev pub invariant-loop-engine : goal.invariant-loop-engine
invariant-loop-engine l = record { there : IsLanedOn (take l.engine-index l.engines) l.table l.task l.place l.lanes; stays : StaysWhereFit l.table l.task l.place l.fn.lanes l.lanes }
