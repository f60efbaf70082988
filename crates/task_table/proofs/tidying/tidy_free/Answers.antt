use Rattle.std.proofs.Common.{subst}
use Rattle.std.specs.Prelude.{slice_get}
use Rattle.task_table.specs.Marking.{LanedFor}
use Rattle.task_table.proofs.Watching.{free_with, free_without}
use Rattle.task_table.proofs.tidying.tidy_free.Goals as goal

pub returns-else-is_laned : goal.returns-else-is_laned
returns-else-is_laned c =
    let m = c.args.marks.now in
    record {
      finals = c.requires.finals;
      directs = c.requires.directs;
      running = c.requires.running;
      free = free_with c.args.table.now c.args.place m.free m.free m.lanes c.is_laned.new.lanes c.is_laned.result c.is_laned.ensures c.requires.free;
      hopeless = c.requires.hopeless;
      late = c.requires.late;
    }

pub returns-then-is_laned : goal.returns-then-is_laned
returns-then-is_laned c =
    let ts = c.args.table.now in
    let place = c.args.place in
    let m = c.args.marks.now in
    record {
      finals = c.requires.finals;
      directs = c.requires.directs;
      running = c.requires.running;
      free = free_without ts place m.free c.leave_out.new.set m.lanes c.is_laned.new.lanes (subst (λ b. LanedFor ts place m.lanes c.is_laned.new.lanes b (slice_get ts place)) c.if-is_laned.true c.is_laned.ensures) c.leave_out.ensures.stay c.requires.free;
      hopeless = c.requires.hopeless;
      late = c.requires.late;
    }
