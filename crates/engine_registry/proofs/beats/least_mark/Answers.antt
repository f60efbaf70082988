use Rattle.std.proofs.Common.{arith}
use Rattle.std.proofs.Math.Nat.{min-le_left, min-le_right}
use Rattle.engine_registry.proofs.Least.{least_next}
use Rattle.engine_registry.proofs.beats.least_mark.Goals as goal

pub loop-engine-preserved : goal.loop-engine-preserved
loop-engine-preserved c =
    let e = c.engine-item.result in
    let least = c.loop-engine.least in
    let m = c.min-least.result in
    least_next c.args.live.now c.loop-engine.engine-index e least m c.loop-engine-test.true c.engine-item.is c.loop-engine.invariant
    (omega (arith, c.min-least.ensures, min-le_left least e.mark)) (omega (arith, c.min-least.ensures, min-le_right least e.mark))
