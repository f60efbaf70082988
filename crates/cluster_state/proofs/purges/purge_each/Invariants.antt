use Rattle.std.proofs.Common.{◌≡◌, drop}
use Rattle.cluster_state.specs.Plain.{purged_tasks}
use Rattle.cluster_state.proofs.purges.purge_each.Given as goal

-- the rest comes
abbrev pub invariant-loop-id : goal.invariant-loop-id
invariant-loop-id l = purged_tasks (drop l.id-index l.ids) l.tasks ≡ purged_tasks l.ids l.fn.tasks
