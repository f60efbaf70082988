use Rattle.std.proofs.Common.{◌≡◌, take}
use Rattle.cluster_store.proofs.remaking.agreeing.Given as goal

abbrev pub invariant-loop-place : goal.invariant-loop-place
invariant-loop-place l = take l.place l.decisions ≡ take l.place l.list
