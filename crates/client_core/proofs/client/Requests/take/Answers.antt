use Rattle.std.proofs.Common.{◌≡◌, Some, false, ap, ◌∙◌}
use Rattle.client_core.specs.Clients.{stand_in, settled_in, is_outstanding, used_in}
use Rattle.client_core.proofs.Once.{settled_where, outstanding_by}
use Rattle.client_core.proofs.client.Requests.take.Goals as goal

pub settle-requires-clause-outstanding : goal.settle-requires-clause-outstanding
settle-requires-clause-outstanding g c =
    let used = used_in c.self.inside.used.entries in
    let here : settled_in used c.in-Settled.id ≡ Some false =
    settled_where used c.in_ok-took.took c.args.message.now c.in-Settled.id c.in-Settled.ok c.in_ok-took.ensures c.in-Settled.is in
    ap (is_outstanding used) c.as_str.ensures ∙ outstanding_by (stand_in used c.in-Settled.id) here
