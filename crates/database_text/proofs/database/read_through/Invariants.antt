use Rattle.std.proofs.Common.{List}
use Rattle.cluster_types.specs.declared.entry.Entry.{Entry}
use Rattle.task_journal.specs.Cursor.{bound}
use Rattle.task_journal.specs.Journal.{journal}
use Rattle.task_journal.specs.Reads.{OnlyReads}
use Rattle.database_text.specs.Given.{Gave}
use Rattle.database_text.proofs.database.read_through.Given as goal

abbrev pub invariant-loop-cursor : goal.invariant-loop-cursor
invariant-loop-cursor g l = record {
  gave : (list : List Entry) × Gave g.D.Disk.tells (g.D.Disk.content l.fn.disk) (journal (g.D.Disk.content l.fn.disk)) l.cursor list;
  reads : OnlyReads g.D.Disk.content g.D.Disk.image g.D.Disk.moment g.D.Disk.image_since g.D.Disk.faults l.fn.disk l.disk;
}

abbrev pub decreases-loop-cursor : goal.decreases-loop-cursor
decreases-loop-cursor g l = bound l.cursor
