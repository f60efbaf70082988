use Rattle.std.proofs.Common.{◌≤◌}
use Rattle.task_journal.specs.Cursor.{bound}
use Rattle.task_journal.specs.Reads.{OnlyReads}
use Rattle.database_text.proofs.Giving.{Halfway}
use Rattle.database_text.proofs.dump.put_lines.Given as goal

abbrev pub invariant-loop-cursor : goal.invariant-loop-cursor
invariant-loop-cursor g l = record {
  halfway : Halfway g.D.Disk.tells (g.D.Disk.content l.fn.disk) l.cursor (g.K.Sink.written l.initial.output) (g.K.Sink.written l.output) l.lines.items;
  reads : OnlyReads g.D.Disk.content g.D.Disk.image g.D.Disk.moment g.D.Disk.image_since g.D.Disk.faults l.fn.disk l.disk;
  later : g.K.Sink.faults l.initial.output ≤ g.K.Sink.faults l.output;
}

abbrev pub decreases-loop-cursor : goal.decreases-loop-cursor
decreases-loop-cursor g l = bound l.cursor
