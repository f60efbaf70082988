use Rattle.task_table.proofs.Marking.{marked_grown, marked_at}
use Rattle.task_table.proofs.tasks.abort_in.Goals as goal

pub tidy-requires : goal.tidy-requires
tidy-requires c =
    marked_at c.args.table.now c.abort_at.new.self c.mark.new.marks c.args.place (marked_grown c.args.table.now c.args.marks.now c.mark.new.marks c.requires c.mark.ensures.grow) c.in_ok-mark.ensures.there c.abort_at.ensures.apart c.abort_at.ensures.same
