use Rattle.std.proofs.Common.{◌≡◌, ◌≤◌}
use Rattle.task_journal.specs.Reads.{OnlyReads}
use Rattle.task_journal.specs.Cursor.{IsOn, to_come, bound}
use Rattle.task_journal.proofs.cursor.Cursor.next.Given as goal

abbrev pub invariant-loop-self : goal.invariant-loop-self
invariant-loop-self g l = record {
  on : g.D.Disk.tells → IsOn l.self (g.D.Disk.content l.fn.disk);
  come : g.D.Disk.tells → to_come l.fn.self (g.D.Disk.content l.fn.disk) ≡ to_come l.self (g.D.Disk.content l.fn.disk);
  falls : bound l.self ≤ bound l.fn.self;
  reads : OnlyReads g.D.Disk.content g.D.Disk.image g.D.Disk.moment g.D.Disk.image_since g.D.Disk.faults l.fn.disk l.disk;
}

abbrev pub decreases-loop-self : goal.decreases-loop-self
decreases-loop-self g l = bound l.self
