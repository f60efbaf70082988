use Rattle.std.proofs.Common.{sym, subst, length}
use Rattle.task_table.specs.Marking.{Marked, HasAt}
use Rattle.task_table.proofs.Marking.{marked_grown, marked_more}
use Rattle.task_table.proofs.tasks.push_onto.Goals as goal

pub tidy-requires : goal.tidy-requires
tidy-requires c =
    let ts = c.args.table.now in
    let m = c.mark.new.marks in
    let there : HasAt (length ts) m = subst (λ n. HasAt n m) c.len-place.ensures c.in-Ok.ensures.there in
    subst (λ us. Marked us m) (sym c.in_ok-push-in-Ok.ensures.ok) (marked_more ts c.args.task c.requires.unsettled m (marked_grown ts c.args.marks.now m c.requires.marked c.mark.ensures.grow) there)

pub returns-in-Err-clause-marked : goal.returns-in-Err-clause-marked
returns-in-Err-clause-marked c = marked_grown c.args.table.now c.args.marks.now c.mark.new.marks c.requires.marked c.mark.ensures.grow

pub returns-in_err-push-in-Ok-clause-marked : goal.returns-in_err-push-in-Ok-clause-marked
returns-in_err-push-in-Ok-clause-marked c =
    subst (λ us. Marked us c.mark.new.marks) (sym c.in_err-push-in-Ok.ensures.err) (marked_grown c.args.table.now c.args.marks.now c.mark.new.marks c.requires.marked c.mark.ensures.grow)
