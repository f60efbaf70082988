use Rattle.std.proofs.Common.{map}
use Rattle.std.specs.Prelude.{not}
use Rattle.std.specs.Option.{is_some}
use Rattle.std.specs.Map.Iter.{deref_pair}
use Rattle.cluster_defs.specs.Engines.{lists_number}
use Rattle.place_sets.specs.Sets.{holds_at}
use Rattle.place_sets.specs.Lanes.{in_some}
use Rattle.place_sets.specs.Least.{IsLeast}
use Rattle.due_decisions.specs.Table.{failing_in}
use Rattle.due_decisions.proofs.settling.unwatched_place.Given as goal

abbrev pub invariant-loop-engine : goal.invariant-loop-engine
invariant-loop-engine l = IsLeast (holds_at (λ t. is_some (failing_in l.table l.engines l.now t)) l.table) (in_some (λ n. not (lists_number n l.engines)) (map deref_pair l.yielded)) l.least
