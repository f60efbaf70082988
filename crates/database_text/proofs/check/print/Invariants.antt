use Rattle.std.proofs.Common.{◌<◌, ◌≤◌}
use Rattle.task_journal.specs.Cursor.{bound, to_come}
use Rattle.task_journal.specs.Reads.{OnlyReads}
use Rattle.database_text.proofs.Printing.{Printing}
use Rattle.database_text.proofs.check.print.Given as goal

abbrev pub invariant-loop-octets : goal.invariant-loop-octets
invariant-loop-octets g l = record {
  printing : Printing g.D.Disk.tells (g.D.Disk.content l.fn.disk) (to_come l.fn.cursor (g.D.Disk.content l.fn.disk)) l.cursor l.fn.comparison l.comparison l.wanted l.missing 0;
  some : 0 < l.missing;
  falls : bound l.cursor ≤ bound l.fn.cursor;
  reads : OnlyReads g.D.Disk.content g.D.Disk.image g.D.Disk.moment g.D.Disk.image_since g.D.Disk.faults l.fn.disk l.disk;
}

abbrev pub decreases-loop-octets : goal.decreases-loop-octets
decreases-loop-octets g l = bound l.cursor
