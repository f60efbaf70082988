use Rattle.std.proofs.Common.{◌≡◌, ◌-◌, length}
use Rattle.cluster_core.specs.Size.{no_limit}
use Rattle.cluster_store.proofs.Remade.{IsSoFar}
use Rattle.cluster_store.proofs.remaking.remake.Given as goal

abbrev pub invariant-loop-made : goal.invariant-loop-made
invariant-loop-made g l = record {
  so_far : IsSoFar l.made l.list l.core.history;
  limits : l.core.limits ≡ no_limit;
}

abbrev pub decreases-loop-made : goal.decreases-loop-made
decreases-loop-made g l = length l.list - l.made
