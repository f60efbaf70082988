use Rattle.std.proofs.Common.{rules, ◌≡◌, ◌∙◌, sym, subst, map, ℕ, Bool}
use Rattle.std.specs.List.{list_any}
use Rattle.std.specs.Map.Iter.{deref_pair}
use Rattle.std.proofs.lemmas.Map.Iter.{iter_end}
use Rattle.place_sets.specs.Flags.{is_set}
use Rattle.place_sets.specs.Sets.{has, holds_at}
use Rattle.place_sets.specs.Lanes.{LaneList, in_some}
use Rattle.place_sets.specs.Least.{IsLeast}
use Rattle.task_table.specs.Seen.{Seen}
use Rattle.due_decisions.specs.declared.rooms.Room.{Room}
use Rattle.due_decisions.specs.Table.{fits}
use Rattle.due_decisions.proofs.LaneSteps.{map_push, lane_more, lane_passed}
use Rattle.due_decisions.proofs.handing.place_in_lanes.Goals as goal

pub returns : goal.returns
returns c =
    let ts = c.args.table.now in
    let all : map deref_pair c.loop-engine.yielded ≡ c.args.lanes.now = search (rules, iter_end) in
    subst (λ es. IsLeast (holds_at (λ t. list_any (λ r. fits ts t r.engine) c.args.rooms.now) ts) (in_some (is_set c.args.with_room.now) es) c.loop-engine.least) all c.loop-engine.invariant

pub loop-engine-preserved-then-is_open : goal.loop-engine-preserved-then-is_open
loop-engine-preserved-then-is_open c =
    let ts = c.args.table.now in
    let looks = is_set c.args.with_room.now in
    let test : ℕ → Bool = holds_at (λ (t : Seen). list_any (λ (r : Room). fits ts t r.engine) c.args.rooms.now) ts in
    let ys : LaneList = map deref_pair c.loop-engine.yielded in
    subst (λ es. IsLeast test (in_some looks es) c.lesser-least.result) (sym (map_push deref_pair c.loop-engine.yielded (c.in-Some.engine, c.in-Some.places)))
    (lane_more test looks ys (c.in-Some.engine.now, c.in-Some.places.now) c.lesser-least.result
    (c.lesser-least.ensures test (in_some looks ys) (has c.in-Some.places.now) c.loop-engine.invariant c.waiting_place.ensures))

pub loop-engine-preserved : goal.loop-engine-preserved
loop-engine-preserved c =
    let ts = c.args.table.now in
    let looks = is_set c.args.with_room.now in
    let test : ℕ → Bool = holds_at (λ (t : Seen). list_any (λ (r : Room). fits ts t r.engine) c.args.rooms.now) ts in
    let ys : LaneList = map deref_pair c.loop-engine.yielded in
    subst (λ es. IsLeast test (in_some looks es) c.loop-engine.least) (sym (map_push deref_pair c.loop-engine.yielded (c.in-Some.engine, c.in-Some.places)))
    (lane_passed test looks ys (c.in-Some.engine.now, c.in-Some.places.now) c.loop-engine.least (sym c.is_open.ensures ∙ c.if-is_open.false) c.loop-engine.invariant)
