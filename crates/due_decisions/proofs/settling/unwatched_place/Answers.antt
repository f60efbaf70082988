use Rattle.std.proofs.Common.{rules, ◌≡◌, ◌∙◌, sym, subst, map, ℕ, Bool, not}
use Rattle.std.specs.Option.{is_some}
use Rattle.std.specs.Map.Iter.{deref_pair}
use Rattle.std.proofs.lemmas.Map.Iter.{iter_end}
use Rattle.cluster_defs.specs.Engines.{lists_number}
use Rattle.place_sets.specs.Sets.{has, holds_at}
use Rattle.place_sets.specs.Lanes.{LaneList, in_some}
use Rattle.place_sets.specs.Least.{IsLeast}
use Rattle.task_table.specs.Seen.{Seen}
use Rattle.due_decisions.specs.Table.{failing_in}
use Rattle.due_decisions.proofs.LaneSteps.{map_push, lane_more, lane_passed}
use Rattle.due_decisions.proofs.settling.unwatched_place.Goals as goal

pub returns : goal.returns
returns c =
    let ts = c.args.table.now in
    let all : map deref_pair c.loop-engine.yielded ≡ c.args.watches.now = search (rules, iter_end) in
    subst (λ es. IsLeast (holds_at (λ t. is_some (failing_in ts c.args.engines.now c.args.now t)) ts) (in_some (λ n. not (lists_number n c.args.engines.now)) es) c.loop-engine.least) all c.loop-engine.invariant

pub loop-engine-preserved-then-is_gone : goal.loop-engine-preserved-then-is_gone
loop-engine-preserved-then-is_gone c =
    let ts = c.args.table.now in
    let looks : ℕ → Bool = λ n. not (lists_number n c.args.engines.now) in
    let test : ℕ → Bool = holds_at (λ (t : Seen). is_some (failing_in ts c.args.engines.now c.args.now t)) ts in
    let ys : LaneList = map deref_pair c.loop-engine.yielded in
    subst (λ es. IsLeast test (in_some looks es) c.lesser-least.result) (sym (map_push deref_pair c.loop-engine.yielded (c.in-Some.engine, c.in-Some.places)))
    (lane_more test looks ys (c.in-Some.engine.now, c.in-Some.places.now) c.lesser-least.result
    (c.lesser-least.ensures test (in_some looks ys) (has c.in-Some.places.now) c.loop-engine.invariant c.failing_place.ensures))

pub loop-engine-preserved : goal.loop-engine-preserved
loop-engine-preserved c =
    let ts = c.args.table.now in
    let looks : ℕ → Bool = λ n. not (lists_number n c.args.engines.now) in
    let test : ℕ → Bool = holds_at (λ (t : Seen). is_some (failing_in ts c.args.engines.now c.args.now t)) ts in
    let ys : LaneList = map deref_pair c.loop-engine.yielded in
    subst (λ es. IsLeast test (in_some looks es) c.loop-engine.least) (sym (map_push deref_pair c.loop-engine.yielded (c.in-Some.engine, c.in-Some.places)))
    (lane_passed test looks ys (c.in-Some.engine.now, c.in-Some.places.now) c.loop-engine.least (sym c.is_gone.ensures ∙ c.if-is_gone.false) c.loop-engine.invariant)
