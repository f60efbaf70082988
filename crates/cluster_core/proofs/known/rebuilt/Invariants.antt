use Rattle.std.proofs.Common.{reverse, take}
use Rattle.cluster_state.specs.Stands.{plain}
use Rattle.cluster_core.specs.Steps.{IsReadOff}
use Rattle.cluster_core.proofs.known.rebuilt.Given as goal

abbrev pub invariant-loop-entry : goal.invariant-loop-entry
invariant-loop-entry l = IsReadOff (reverse (take l.entry-index l.entries)) (plain l.known.state) l.known.place
