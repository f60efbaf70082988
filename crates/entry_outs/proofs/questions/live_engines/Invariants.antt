use Rattle.std.proofs.Common.{◌≡◌, map, take}
use Rattle.entry_outs.proofs.questions.live_engines.Given as goal

abbrev pub invariant-loop-engine : goal.invariant-loop-engine
invariant-loop-engine l = l.engines ≡ map (λ e. (e.number, e.uuid)) (take l.engine-index l.live)
