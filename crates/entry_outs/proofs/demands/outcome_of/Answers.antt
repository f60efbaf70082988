use Rattle.std.proofs.Common.{sym, ap, ◌∙◌}
use Rattle.std.specs.Option.{option_copied}
use Rattle.cluster_types.specs.declared.record.Record.{Record}
use Rattle.cluster_state.specs.Stands.{plain}
use Rattle.entry_outs.proofs.Telling.{outcome_seen}
use Rattle.entry_outs.proofs.demands.outcome_of.Goals as goal

pub returns-in_ok-outcome-in-Some : goal.returns-in_ok-outcome-in-Some
returns-in_ok-outcome-in-Some c =
    c.in_ok-outcome-in-Some.ensures
    ∙ ap (λ (r : Record). r.outcome) c.row.ensures
    ∙ outcome_seen (plain c.args.state.now) c.args.id.now c.in-Some.task.now c.requires.reached (sym c.find.ensures ∙ ap option_copied c.in-Some.is) c.requires.unpurged
