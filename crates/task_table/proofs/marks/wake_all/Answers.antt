use Rattle.std.proofs.Common.{take, get_or, subst, sym}
use Rattle.std.proofs.lemmas.List.{take_more}
use Rattle.task_table.specs.Marking.{AllWoken}
use Rattle.task_table.proofs.Marking.{grow_after, woken_more}
use Rattle.task_table.proofs.marks.wake_all.Goals as goal

pub loop-place-preserved : goal.loop-place-preserved
loop-place-preserved c =
    let ps = c.args.places.now in
    let i = c.loop-place.place-index in
    record {
      there = subst (λ qs. AllWoken qs c.wake.new.marks) (sym (take_more ps i 0 c.loop-place-test.true)) (woken_more (take i ps) (get_or ps i 0) c.loop-place.marks c.wake.new.marks c.loop-place.invariant.there c.wake.ensures.grow c.in_ok-wake.ensures.there);
      grow = grow_after c.args.marks.now c.loop-place.marks c.wake.new.marks c.loop-place.invariant.grow c.wake.ensures.grow;
    }

pub returns-in_err-wake-clause-grow : goal.returns-in_err-wake-clause-grow
returns-in_err-wake-clause-grow c = grow_after c.args.marks.now c.loop-place.marks c.wake.new.marks c.loop-place.invariant.grow c.wake.ensures.grow
