use Rattle.std.proofs.Common.{arith}
use Rattle.std.proofs.lemmas.Grind.{common_steps}
use Rattle.hub_queries.proofs.engines.set_of.Goals as goal

pub loop-target-preserved : goal.loop-target-preserved
loop-target-preserved c = λ q. grind (arith, common_steps, c.loop-target.invariant q)
