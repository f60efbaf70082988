use Rattle.std.proofs.Common.{ap, ◌∙◌, subst, Option}
use Rattle.cluster_state.specs.declared.settling.Settling.{Settling}
use Rattle.task_table.specs.Seen.{seen_in}
use Rattle.cluster_state.specs.Stands.{plain}
use Rattle.cluster_state.specs.Settling.{IsSettling}
use Rattle.cluster_state.proofs.Ending.{settle_some, settle_none}
use Rattle.cluster_state.proofs.state.State.settle.Goals as goal

pub returns-in_ok-settle_in-in-Some : goal.returns-in_ok-settle_in-in-Some
returns-in_ok-settle_in-in-Some c =
    let s = c.in-Some.field-0 in
    let p = plain c.args.self.now in
    ap (λ ts. record p { tasks = ts }) (c.in_ok-settle_in-in-Some.ensures ∙ settle_some c.args.verdict c.args.cause c.args.self.now.moment c.args.id.now c.args.self.now.tasks c.in-Some.field-0
    (subst (λ (o : Option Settling). IsSettling c.args.verdict c.args.cause c.args.self.now.moment (seen_in c.args.self.now.tasks c.args.id.now) o) c.in-Some.is c.requires))

pub returns-in-None : goal.returns-in-None
returns-in-None c =
    let p = plain c.args.self.now in
    ap (λ ts. record p { tasks = ts }) (settle_none c.args.verdict c.args.cause c.args.self.now.moment c.args.id.now c.args.self.now.tasks
    (subst (λ (o : Option Settling). IsSettling c.args.verdict c.args.cause c.args.self.now.moment (seen_in c.args.self.now.tasks c.args.id.now) o) c.in-None.is c.requires))
