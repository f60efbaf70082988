use Rattle.std.proofs.Common.{sym, subst}
use Rattle.cluster_state.specs.Stands.{plain}
use Rattle.cluster_core.specs.Steps.{CoreView, IsReadOff}
use Rattle.cluster_core.proofs.Plans.{only_some}
use Rattle.cluster_core.proofs.machine.Core.keep_known.Goals as goal

pub invariant_of-self : goal.invariant_of-self
invariant_of-self c = (
  c.self.invariant.0,
  only_some _ _ (subst (λ (core : CoreView). IsReadOff core.history (plain c.args.known.state) c.args.known.place) (sym c.self.view_is) c.requires),
)
