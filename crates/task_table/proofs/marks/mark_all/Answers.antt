use Rattle.std.proofs.Common.{take, get_or, subst, sym}
use Rattle.std.proofs.lemmas.List.{take_more}
use Rattle.task_table.specs.Marking.{HasAll}
use Rattle.task_table.proofs.Marking.{grow_after, all_more}
use Rattle.task_table.proofs.marks.mark_all.Goals as goal

pub loop-place-preserved : goal.loop-place-preserved
loop-place-preserved c =
    let ps = c.args.places.now in
    let i = c.loop-place.place-index in
    record {
      there = subst (λ qs. HasAll qs c.mark.new.marks) (sym (take_more ps i 0 c.loop-place-test.true)) (all_more (take i ps) (get_or ps i 0) c.loop-place.marks c.mark.new.marks c.loop-place.invariant.there c.mark.ensures.grow c.in_ok-mark.ensures.there);
      grow = grow_after c.args.marks.now c.loop-place.marks c.mark.new.marks c.loop-place.invariant.grow c.mark.ensures.grow;
    }

pub returns-in_err-mark-clause-grow : goal.returns-in_err-mark-clause-grow
returns-in_err-mark-clause-grow c = grow_after c.args.marks.now c.loop-place.marks c.mark.new.marks c.loop-place.invariant.grow c.mark.ensures.grow
