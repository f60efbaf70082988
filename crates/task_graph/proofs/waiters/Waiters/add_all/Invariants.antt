use Rattle.std.proofs.Common.{take}
use Rattle.task_graph.specs.Listing.{lists, Noted}
use Rattle.task_graph.proofs.waiters.Waiters.add_all.Given as goal

abbrev pub invariant-loop-id : goal.invariant-loop-id
invariant-loop-id l = Noted (lists (take l.id-index l.ids)) l.place l.fn.self l.self
