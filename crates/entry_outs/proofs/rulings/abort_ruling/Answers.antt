use Rattle.std.proofs.Common.{ap, ◌∙◌}
use Rattle.cluster_defs.specs.RecordPlans.{abort_in}
use Rattle.cluster_defs.specs.Words.{once}
use Rattle.cluster_state.specs.Stands.{plain}
use Rattle.entry_outs.proofs.Telling.{abort_told}
use Rattle.entry_outs.proofs.rulings.abort_ruling.Goals as goal

pub returns : goal.returns
returns c =
    c.in_ok-plan.ensures
    ∙ ap (λ rs. abort_in rs (once c.args.ids.now)) c.new-rows.ensures
    ∙ abort_told (plain c.args.state.now) c.args.ids.now c.requires
