use Rattle.std.proofs.Common.{◌-◌, length}
use Rattle.serve_tests.proofs.gate.no_counts.Given as goal

abbrev pub invariant-loop-counts : goal.invariant-loop-counts
invariant-loop-counts g l = Unit {0}

abbrev pub decreases-loop-counts : goal.decreases-loop-counts
decreases-loop-counts g l = 56 - length l.counts.items
