use Rattle.task_table.proofs.Marking.{marked_grown, marked_at}
use Rattle.task_table.proofs.tasks.take_reply_in.Goals as goal

pub tidy-requires : goal.tidy-requires
tidy-requires c =
    marked_at c.args.table.now c.take_reply_at.new.self c.mark.new.marks c.args.place (marked_grown c.args.table.now c.args.marks.now c.mark.new.marks c.requires c.mark.ensures.grow) c.in_ok-mark.ensures.there c.take_reply_at.ensures.apart c.take_reply_at.ensures.same

pub returns-in_err-take_reply_at-clause-marked : goal.returns-in_err-take_reply_at-clause-marked
returns-in_err-take_reply_at-clause-marked c =
    marked_at c.args.table.now c.take_reply_at.new.self c.mark.new.marks c.args.place (marked_grown c.args.table.now c.args.marks.now c.mark.new.marks c.requires c.mark.ensures.grow) c.in_ok-mark.ensures.there c.take_reply_at.ensures.apart c.take_reply_at.ensures.same
