use Rattle.std.proofs.Common.{◌≡◌, drop}
use Rattle.cluster_state.specs.Plain.{aborted_tasks}
use Rattle.cluster_state.proofs.aborts.abort_each.Given as goal

-- the rest comes
abbrev pub invariant-loop-id : goal.invariant-loop-id
invariant-loop-id l = aborted_tasks (drop l.id-index l.ids) l.tasks ≡ aborted_tasks l.ids l.fn.tasks
