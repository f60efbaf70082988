use Rattle.std.proofs.Common.{ap, ◌∙◌}
use Rattle.cluster_defs.specs.Outs.{outs_as}
use Rattle.cluster_state.specs.Stands.{plain}
use Rattle.entry_outs.proofs.Telling.{facts_from}
use Rattle.entry_outs.proofs.entries.outs.Goals as goal

pub returns-clause-history : goal.returns-clause-history
returns-clause-history c = λ h legal is.
    c.in_ok-sent.ensures ∙ ap (λ f. outs_as c.args.place f c.args.entry.now c.args.event.now) (facts_from (plain c.args.state.now) h legal is)
