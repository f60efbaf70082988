use Rattle.std.proofs.Common.{◌≡◌, drop, ◌+◌}
use Rattle.edges.specs.Difference.{difference}
use Rattle.edges.proofs.difference.difference_of.Given as goal

abbrev pub invariant-loop-place : goal.invariant-loop-place
invariant-loop-place l = difference (l.start + l.place) (drop l.place l.wanted) (drop l.place l.octets) ≡ difference l.start l.wanted l.octets
