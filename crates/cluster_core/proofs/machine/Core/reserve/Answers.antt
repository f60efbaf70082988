use Rattle.std.proofs.Common.{◌≡◌, sym, subst}
use Rattle.std.specs.Prelude.{List, reverse, Some}
use Rattle.cluster_types.specs.declared.entry.Entry.{Entry}
use Rattle.cluster_state.specs.Stands.{plain}
use Rattle.cluster_core.specs.declared.known.Known.{Known}
use Rattle.cluster_core.specs.Steps.{IsCounted, IsReadOff}
use Rattle.cluster_core.proofs.machine.Core.reserve.Goals as goal

pub invariant_of-self : goal.invariant_of-self
invariant_of-self c =
    subst (λ (items : List Entry). IsCounted (reverse items) c.self.inside.live c.self.inside.stops c.self.inside.size
    × ((k : Known) → c.self.inside.known ≡ Some k → IsReadOff (reverse items) (plain k.state) k.place))
    (sym c.reserve.ensures.items) c.self.invariant
