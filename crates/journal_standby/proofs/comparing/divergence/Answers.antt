use Rattle.std.proofs.Common.{arith}
use Rattle.journal_standby.proofs.Divergences.{begins}
use Rattle.journal_standby.proofs.comparing.divergence.Goals as goal

pub returns : goal.returns
returns c = begins c.args.list.now c.args.primary.now c.loop-place.place c.loop-place.invariant (omega arith)
