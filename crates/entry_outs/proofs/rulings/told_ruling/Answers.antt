use Rattle.std.proofs.Common.{sym, subst}
use Rattle.std.specs.Prelude.{IfOk}
use Rattle.cluster_types.specs.declared.event.Event.{Event}
use Rattle.cluster_state.specs.Plain.{facts_in}
use Rattle.cluster_state.specs.Ruled.{IsTold}
use Rattle.cluster_state.specs.Stands.{plain}
use Rattle.entry_outs.proofs.rulings.told_ruling.Goals as goal

pub returns-in-Purge : goal.returns-in-Purge
returns-in-Purge c =
    subst (λ (e : Event). IfOk c.purge_ruling.result (λ r. IsTold (facts_in (plain c.args.state.now)) c.args.conn c.args.message.now e r)) (sym c.in-Purge.is) c.purge_ruling.ensures

pub returns-in-Abort : goal.returns-in-Abort
returns-in-Abort c =
    subst (λ (e : Event). IfOk c.abort_ruling.result (λ r. IsTold (facts_in (plain c.args.state.now)) c.args.conn c.args.message.now e r)) (sym c.in-Abort.is) c.abort_ruling.ensures
