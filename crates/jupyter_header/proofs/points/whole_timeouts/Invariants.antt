use Rattle.std.proofs.Common.{◌≡◌, ◌++◌, ◌-◌, ◌≤◌, length, take, drop}
use Rattle.cluster_defs.specs.Points.{whole_behind, whole_timeouts}
use Rattle.jupyter_header.proofs.points.whole_timeouts.Given as goal

abbrev pub invariant-loop-at : goal.invariant-loop-at
invariant-loop-at l = record {
  within : l.at ≤ length l.octets;
  so_far : l.whole.items ++ whole_behind (take l.at l.octets) (drop l.at l.octets) ≡ whole_timeouts l.octets;
}

abbrev pub decreases-loop-at : goal.decreases-loop-at
decreases-loop-at l = length l.octets - l.at
