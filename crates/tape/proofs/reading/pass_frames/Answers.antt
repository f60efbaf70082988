use Rattle.std.proofs.Common.{◌++◌, ◌∷◌, []}
use Rattle.tape.proofs.Loops.{goes_on}
use Rattle.tape.proofs.reading.pass_frames.Goals as goal

pub loop-turn-preserved : goal.loop-turn-preserved
loop-turn-preserved c =
    (c.loop-turn.invariant.0 ++ c.in_ok-more.field-0-0.now ∷ [], goes_on c.loop-turn.invariant.0 c.args.count c.loop-turn._turn c.loop-turn.rest.now c.in_ok-more.more.now c.in_ok-more.field-0-0.now c.args.octets.now c.loop-turn-test.true c.in_ok-more.ensures c.loop-turn.invariant.1)
