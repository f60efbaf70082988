use Rattle.std.proofs.Common.{◌≡◌, ◌∙◌, sym, subst, ℕ, Bool}
use Rattle.std.specs.Prelude.{◌==◌}
use Rattle.std.specs.List.{list_any}
use Rattle.place_sets.specs.Flags.{is_set}
use Rattle.place_sets.specs.Sets.{holds_at}
use Rattle.place_sets.specs.Lanes.{in_some}
use Rattle.place_sets.proofs.Leasts.{least_of}
use Rattle.task_table.specs.Seen.{Seen}
use Rattle.due_decisions.specs.declared.rooms.Room.{Room}
use Rattle.due_decisions.specs.Table.{fits}
use Rattle.due_decisions.proofs.LaneSteps.{none_left, some_alike, some_of_none}
use Rattle.due_decisions.proofs.handing.laned_place.Goals as goal

pub returns-then-is_empty : goal.returns-then-is_empty
returns-then-is_empty c =
    some_of_none (holds_at (λ (t : Seen). list_any (λ (r : Room). fits c.args.table.now t r.engine) c.args.rooms.now) c.args.table.now) (λ n. list_any (λ (r : Room). r.engine == n) c.args.rooms.now)
    c.args.lanes.now (sym c.as_map.ensures ∙ none_left c.as_map.result.now.entries (c.is_empty.ensures.0 c.if-is_empty.true))

pub returns : goal.returns
returns c =
    let ts = c.args.table.now in
    let rooms = c.args.rooms.now in
    let found = c.deref.result.now in
    let looks : ℕ → Bool = λ n. list_any (λ (r : Room). r.engine == n) rooms in
    let sets : (n : ℕ) → is_set found n ≡ list_any (λ (r : Room). r.engine == n) rooms =
    subst (λ xs. (n : ℕ) → is_set xs n ≡ list_any (λ (r : Room). r.engine == n) rooms) (sym c.deref.ensures.value) c.in_ok-with_room.ensures in
    let test : ℕ → Bool = holds_at (λ (t : Seen). list_any (λ (r : Room). fits ts t r.engine) rooms) ts in
    least_of test (in_some (is_set found) c.args.lanes.now) (in_some looks c.args.lanes.now) c.place_in_lanes.result c.place_in_lanes.ensures
    (λ i on _. some_alike (is_set found) looks sets c.args.lanes.now i ∙ on)
