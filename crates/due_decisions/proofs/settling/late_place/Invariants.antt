use Rattle.std.proofs.Common.{map}
use Rattle.std.specs.Prelude.{nat_le}
use Rattle.std.specs.Option.{is_some}
use Rattle.std.specs.Map.Iter.{deref_pair}
use Rattle.place_sets.specs.Sets.{holds_at}
use Rattle.place_sets.specs.Lanes.{in_some}
use Rattle.place_sets.specs.Least.{IsLeast}
use Rattle.due_decisions.specs.Table.{failing_in}
use Rattle.due_decisions.proofs.settling.late_place.Given as goal

abbrev pub invariant-loop-moment : goal.invariant-loop-moment
invariant-loop-moment l = IsLeast (holds_at (λ t. is_some (failing_in l.table l.engines l.now t)) l.table) (in_some (λ n. nat_le n l.now) (map deref_pair l.yielded)) l.least
