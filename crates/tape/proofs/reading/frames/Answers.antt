use Rattle.tape.proofs.Loops.{goes_on}
use Rattle.tape.proofs.reading.frames.Goals as goal

pub loop-turn-preserved : goal.loop-turn-preserved
loop-turn-preserved c = rw c.in_ok-push.ensures.ok (goes_on c.loop-turn.frames c.args.count c.loop-turn._turn c.loop-turn.rest.now c.in_ok-body.more.now c.in_ok-body.body.now c.args.octets.now c.loop-turn-test.true c.in_ok-body.ensures c.loop-turn.invariant)
