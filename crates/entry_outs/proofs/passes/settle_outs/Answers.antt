use Rattle.std.proofs.Common.{List, sym, ap, subst, ◌∙◌, Option}
use Rattle.std.specs.Option.{option_copied, option_and_then}
use Rattle.cluster_defs.specs.declared.connection.Connection.{Connection}
use Rattle.cluster_defs.specs.Connections.{reached}
use Rattle.cluster_defs.specs.Requests.{WholeRequest}
use Rattle.cluster_state.specs.declared.settling.Settling.{Settling}
use Rattle.task_table.specs.Seen.{seen_in}
use Rattle.cluster_state.specs.Settling.{IsSettling}
use Rattle.cluster_state.specs.Stands.{plain}
use Rattle.entry_outs.proofs.Telling.{settle_sends, settling_outcome}
use Rattle.entry_outs.proofs.passes.settle_outs.Goals as goal

pub returns : goal.returns
returns c = λ v k is.
    let p = plain c.args.state.now in
    let id = c.args.id.now in
    let t = c.in-Some-find.task.now in
    let request = c.request.result.now.request in
    let here = sym c.find.ensures ∙ ap option_copied c.in-Some-find.is in
    let settling = subst (λ (o : Option Settling). IsSettling v k p.moment (seen_in p.tasks id) o) c.in-Some.is is in
    c.in_ok-outs.ensures
    ∙ settle_sends p id v k t request c.owner_conn-conn.result c.in_ok-outcome.outcome c.requires.reached here c.requires.unsettled c.request.ensures.value
    (c.owner_conn-conn.ensures ∙ ap (λ (cs : List Connection). option_and_then (reached cs) c.behind-task.inside.owner) c.deref.ensures.value
    ∙ ap (λ (w : WholeRequest). option_and_then (reached p.connections) w.request.owner) c.behind-task.view_is)
    (c.in_ok-outcome.ensures ∙ settling_outcome v k p.moment (seen_in p.tasks id) t c.in-Some.settling here settling)
