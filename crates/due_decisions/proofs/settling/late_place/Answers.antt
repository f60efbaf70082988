use Rattle.std.proofs.Common.{rules, ◌≡◌, sym, subst, map, ℕ, Bool, not}
use Rattle.std.specs.Prelude.{nat_le, filter}
use Rattle.std.specs.Option.{is_some}
use Rattle.std.specs.Ordering.{nat_cmp, is_lt}
use Rattle.std.specs.Map.Iter.{deref_pair}
use Rattle.std.proofs.lemmas.Map.Iter.{iter_end}
use Rattle.place_sets.specs.Sets.{has, holds_at}
use Rattle.place_sets.specs.Lanes.{LaneList, in_some}
use Rattle.place_sets.specs.Least.{IsLeast}
use Rattle.place_sets.proofs.Leasts.{least_of}
use Rattle.task_table.specs.Seen.{Seen}
use Rattle.due_decisions.specs.Table.{failing_in}
use Rattle.due_decisions.proofs.LaneSteps.{map_push, lane_more, some_picked}
use Rattle.due_decisions.proofs.LaneSteps.{up_to}
use Rattle.due_decisions.proofs.settling.late_place.Goals as goal

pub returns : goal.returns
returns c =
    let ts = c.args.table.now in
    let now = c.args.now in
    let looks : ℕ → Bool = λ n. nat_le n now in
    let pick : ℕ → Bool = λ n. not (is_lt (nat_cmp now n)) in
    let test : ℕ → Bool = holds_at (λ (t : Seen). is_some (failing_in ts c.args.engines.now now t)) ts in
    let all : map deref_pair c.loop-moment.yielded ≡ filter (λ e. pick e.0) c.args.deadlines.now = search (rules, iter_end) in
    least_of test (in_some looks (filter (λ e. pick e.0) c.args.deadlines.now)) (in_some looks c.args.deadlines.now) c.loop-moment.least
    (subst (λ es. IsLeast test (in_some looks es) c.loop-moment.least) all c.loop-moment.invariant)
    (λ i on _. some_picked looks pick (up_to now) c.args.deadlines.now i on)

pub loop-moment-preserved : goal.loop-moment-preserved
loop-moment-preserved c =
    let ts = c.args.table.now in
    let looks : ℕ → Bool = λ n. nat_le n c.args.now in
    let test : ℕ → Bool = holds_at (λ (t : Seen). is_some (failing_in ts c.args.engines.now c.args.now t)) ts in
    let ys : LaneList = map deref_pair c.loop-moment.yielded in
    subst (λ es. IsLeast test (in_some looks es) c.lesser-least.result) (sym (map_push deref_pair c.loop-moment.yielded (c.in-Some._moment, c.in-Some.places)))
    (lane_more test looks ys (c.in-Some._moment.now, c.in-Some.places.now) c.lesser-least.result
    (c.lesser-least.ensures test (in_some looks ys) (has c.in-Some.places.now) c.loop-moment.invariant c.failing_place.ensures))
