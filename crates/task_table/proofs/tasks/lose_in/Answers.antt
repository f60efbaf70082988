use Rattle.std.proofs.Common.{ap, subst, sym, ◌∙◌}
use Rattle.place_sets.specs.Sets.{at_places}
use Rattle.place_sets.proofs.Sweeping.{sweep}
use Rattle.task_table.specs.Seen.{lost_all, on_unsettled}
use Rattle.task_table.specs.Marking.{HasAll}
use Rattle.task_table.specs.Standing.{runs_open}
use Rattle.task_table.proofs.Marking.{marked_grown, marked_aside, idle_lost}
use Rattle.task_table.proofs.tasks.lose_in.Goals as goal

pub returns-clause-ok : goal.returns-clause-ok
returns-clause-ok c =
    let ts = c.args.table.now in
    let f = on_unsettled lost_all in
    c.in_ok-lose_each.ensures.ok ∙ ap (λ ps. at_places f ps ts) (c.deref-2.ensures.value ∙ c.in_ok-places.ensures.places)
    ∙ sweep runs_open f ts c.args.marks.now.running c.in_ok-places.ensures.sorted c.requires.running idle_lost

pub tidy_all-requires : goal.tidy_all-requires
tidy_all-requires c =
    let ps = c.deref-2.result.now in
    let m = c.mark_all.new.marks in
    let there : HasAll ps m = subst (λ qs. HasAll qs m) (c.deref.ensures.value ∙ sym c.deref-2.ensures.value) c.in_ok-mark_all.ensures.there in
    marked_aside c.args.table.now c.lose_each.new.self ps c.lose_each.ensures.aside m (marked_grown c.args.table.now c.args.marks.now m c.requires c.mark_all.ensures.grow) there c.lose_each.ensures.same

pub returns-in_err-lose_each-clause-marked : goal.returns-in_err-lose_each-clause-marked
returns-in_err-lose_each-clause-marked c =
    let ps = c.deref-2.result.now in
    let m = c.mark_all.new.marks in
    let there : HasAll ps m = subst (λ qs. HasAll qs m) (c.deref.ensures.value ∙ sym c.deref-2.ensures.value) c.in_ok-mark_all.ensures.there in
    marked_aside c.args.table.now c.lose_each.new.self ps c.lose_each.ensures.aside m (marked_grown c.args.table.now c.args.marks.now m c.requires c.mark_all.ensures.grow) there c.lose_each.ensures.same
