use Rattle.std.proofs.Common.{take}
use Rattle.task_graph.specs.Listing.{lists, TakenOut}
use Rattle.task_graph.proofs.waiters.Waiters.take_out_all.Given as goal

abbrev pub invariant-loop-id : goal.invariant-loop-id
invariant-loop-id l = TakenOut (lists (take l.id-index l.ids)) l.place l.fn.self l.self
