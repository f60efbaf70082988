use Rattle.std.proofs.Common.{subst}
use Rattle.cluster_state.specs.Stands.{plain}
use Rattle.entry_outs.specs.Reached.{IsNext}
use Rattle.entry_outs.proofs.Telling.{settles_open}
use Rattle.entry_outs.proofs.entries.entry_outs.Goals as goal

pub settle_outs-requires-clause-unsettled : goal.settle_outs-requires-clause-unsettled
settle_outs-requires-clause-unsettled c =
    settles_open (plain c.args.state.now) c.in-Settle.id c.in-Settle.verdict c.in-Settle.cause (subst (IsNext (plain c.args.state.now)) c.in-Settle.is c.requires.next)
