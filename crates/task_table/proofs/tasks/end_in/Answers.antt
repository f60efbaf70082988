use Rattle.std.proofs.Common.{ap, subst, sym, ◌∙◌}
use Rattle.place_sets.specs.Sets.{at_places}
use Rattle.place_sets.proofs.Sweeping.{sweep}
use Rattle.task_table.specs.Seen.{ended_on, on_unsettled}
use Rattle.task_table.specs.Marking.{HasAll}
use Rattle.task_table.specs.Standing.{runs_open}
use Rattle.task_table.proofs.Marking.{marked_grown, marked_aside, idle_ended}
use Rattle.task_table.proofs.tasks.end_in.Goals as goal
use Rattle.cluster_types.proofs.Options.{at_ok}

pub returns-clause-ok : goal.returns-clause-ok
returns-clause-ok c =
    let ts = c.args.table.now in
    let f = on_unsettled (ended_on c.args.engine) in
    at_ok c.watch_anew.result (c.in_ok-end_all.ensures.ok ∙ ap (λ ps. at_places f ps ts) (c.deref-2.ensures.value ∙ c.in_ok-places.ensures.places)
    ∙ sweep runs_open f ts c.args.marks.now.running c.in_ok-places.ensures.sorted c.requires.running (idle_ended c.args.engine))

pub tidy_all-requires : goal.tidy_all-requires
tidy_all-requires c =
    let ps = c.deref-2.result.now in
    let m = c.mark_all.new.marks in
    let there : HasAll ps m = subst (λ qs. HasAll qs m) (c.deref.ensures.value ∙ sym c.deref-2.ensures.value) c.in_ok-mark_all.ensures.there in
    marked_aside c.args.table.now c.end_all.new.self ps c.end_all.ensures.aside m (marked_grown c.args.table.now c.args.marks.now m c.requires c.mark_all.ensures.grow) there c.end_all.ensures.same

pub returns-in_err-end_all-clause-marked : goal.returns-in_err-end_all-clause-marked
returns-in_err-end_all-clause-marked c =
    let ps = c.deref-2.result.now in
    let m = c.mark_all.new.marks in
    let there : HasAll ps m = subst (λ qs. HasAll qs m) (c.deref.ensures.value ∙ sym c.deref-2.ensures.value) c.in_ok-mark_all.ensures.there in
    marked_aside c.args.table.now c.end_all.new.self ps c.end_all.ensures.aside m (marked_grown c.args.table.now c.args.marks.now m c.requires c.mark_all.ensures.grow) there c.end_all.ensures.same
