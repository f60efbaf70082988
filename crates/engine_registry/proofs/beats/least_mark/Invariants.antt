use Rattle.std.proofs.Common.{◌≡◌, true, take}
use Rattle.engine_registry.specs.Indexed.{is_least}
use Rattle.engine_registry.proofs.beats.least_mark.Given as goal

abbrev pub invariant-loop-engine : goal.invariant-loop-engine
invariant-loop-engine l = is_least (take l.engine-index l.live) l.least ≡ true
