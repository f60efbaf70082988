use Rattle.std.proofs.Common.{◌≡◌, map, take}
use Rattle.cluster_defs.specs.Outs.{beat_out}
use Rattle.entry_outs.proofs.beats.beat_outs.Given as goal

abbrev pub invariant-loop-engine : goal.invariant-loop-engine
invariant-loop-engine l = l.outs ≡ map (beat_out l.opens l.place l.moment l.beat) (take l.engine-index l.live)
