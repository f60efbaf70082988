use Rattle.std.proofs.Common.{ap, sym, ◌∙◌, take, get_or}
use Rattle.std.proofs.lemmas.List.{take_more}
use Rattle.place_sets.specs.Sets.{at_place, at_places}
use Rattle.task_table.specs.Seen.{ended_on, on_unsettled}
use Rattle.task_table.proofs.Places.{alike_after, at_places_more, aside_after}
use Rattle.task_table.proofs.table.end_all.Goals as goal

pub loop-place-preserved : goal.loop-place-preserved
loop-place-preserved c =
    let f = on_unsettled (ended_on c.args.engine) in
    let ps = c.args.places.now in
    let i = c.loop-place.place-index in
    let p = get_or ps i 0 in
    record {
      ok =
          c.in_ok-end_at.ensures.ok ∙ ap (at_place f p) c.loop-place.invariant.ok ∙ sym (at_places_more f (take i ps) p c.args.tasks.now)
          ∙ ap (λ qs. at_places f qs c.args.tasks.now) (sym (take_more ps i 0 c.loop-place-test.true));
      same = alike_after c.args.tasks.now c.loop-place.tasks c.end_at.new.tasks c.loop-place.invariant.same c.end_at.ensures.same;
      aside = aside_after ps i c.args.tasks.now c.loop-place.tasks c.end_at.new.tasks c.loop-place-test.true c.loop-place.invariant.aside c.end_at.ensures.apart;
    }

pub returns-in_err-end_at-clause-same : goal.returns-in_err-end_at-clause-same
returns-in_err-end_at-clause-same c = alike_after c.args.tasks.now c.loop-place.tasks c.end_at.new.tasks c.loop-place.invariant.same c.end_at.ensures.same

pub returns-in_err-end_at-clause-aside : goal.returns-in_err-end_at-clause-aside
returns-in_err-end_at-clause-aside c = aside_after c.args.places.now c.loop-place.place-index c.args.tasks.now c.loop-place.tasks c.end_at.new.tasks c.loop-place-test.true c.loop-place.invariant.aside c.end_at.ensures.apart
