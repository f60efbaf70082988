use Rattle.std.proofs.Common.{ap, ◌∙◌}
use Rattle.cluster_defs.specs.RecordPlans.{purge_list_in, purge_in}
use Rattle.cluster_state.specs.Stands.{plain}
use Rattle.entry_outs.proofs.Telling.{purge_told}
use Rattle.entry_outs.proofs.rulings.purge_ruling.Goals as goal

pub returns : goal.returns
returns c =
    c.in_ok-plan.ensures
    ∙ ap (λ rs. purge_in rs (purge_list_in rs c.args.all c.args.ids.now)) c.new-rows.ensures
    ∙ purge_told (plain c.args.state.now) c.args.all c.args.ids.now c.requires
