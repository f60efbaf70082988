use Rattle.task_table.proofs.Marking.{marked_grown, marked_settled, has_grown}
use Rattle.task_table.proofs.tasks.settle_in.Goals as goal

pub tidy-requires : goal.tidy-requires
tidy-requires g c =
    let ts = c.args.table.now in
    let m = c.mark.new.marks in
    let n = c.wake_all.new.marks in
    let place = c.args.settlement.place in
    marked_settled ts c.settle_at.new.self n c.args.id.now place c.args.waiting.now
    (marked_grown ts m n (marked_grown ts c.args.marks.now m c.requires.marked c.mark.ensures.grow) c.wake_all.ensures.grow)
    (has_grown place m n c.in_ok-mark.ensures.there c.wake_all.ensures.grow)
    c.in_ok-wake_all.ensures.there c.requires.place c.requires.waiting c.settle_at.ensures.apart c.settle_at.ensures.names
