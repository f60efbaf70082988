use Rattle.std.proofs.Common.{◌≡◌, ◌++◌, take, drop}
use Rattle.std.specs.Prelude.{map}
use Rattle.cluster_defs.specs.Engines.{marked}
use Rattle.engine_registry.proofs.beats.mark_all.Given as goal

-- the engines up to here are marked, the others are as they were
abbrev pub invariant-loop-place : goal.invariant-loop-place
invariant-loop-place l = l.live ≡ map (marked l.conn l.beat) (take l.place l.fn.live) ++ drop l.place l.fn.live
