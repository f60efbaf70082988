use Rattle.std.proofs.Common.{map}
use Rattle.std.specs.List.{list_any}
use Rattle.std.specs.Map.Iter.{deref_pair}
use Rattle.place_sets.specs.Flags.{is_set}
use Rattle.place_sets.specs.Sets.{holds_at}
use Rattle.place_sets.specs.Lanes.{in_some}
use Rattle.place_sets.specs.Least.{IsLeast}
use Rattle.due_decisions.specs.Table.{fits}
use Rattle.due_decisions.proofs.handing.place_in_lanes.Given as goal

abbrev pub invariant-loop-engine : goal.invariant-loop-engine
invariant-loop-engine l = IsLeast (holds_at (λ t. list_any (λ r. fits l.table t r.engine) l.rooms) l.table) (in_some (is_set l.with_room) (map deref_pair l.yielded)) l.least
