use Rattle.std.proofs.Common.{◌≡◌, map, take}
use Rattle.hub_queries.proofs.engines.numbers_of.Given as goal

abbrev pub invariant-loop-engine : goal.invariant-loop-engine
invariant-loop-engine l = l.numbers.items ≡ map (λ e. e.0) (take l.engine-index l.live)
