use Rattle.std.proofs.Common.{◌≡◌, replicate, None}
use Rattle.array_maps.proofs.gathered.none_yet.Given as goal

abbrev pub invariant-loop-place : goal.invariant-loop-place
invariant-loop-place l = l.answers.items ≡ replicate l._place None
