use Rattle.std.proofs.Common.{◌≡◌, ◌+◌, ◌-◌, length}
use Rattle.task_journal.specs.Reads.{OnlyReads}
use Rattle.task_journal.specs.Window.{Shows}
use Rattle.task_journal.proofs.window.next_record.Given as goal

abbrev pub invariant-loop-entry : goal.invariant-loop-entry
invariant-loop-entry g l = record {
  shows : g.D.Disk.tells → Shows l.window l.end (g.D.Disk.content l.fn.disk);
  place : l.window.place ≡ l.fn.window.place;
  reads : OnlyReads g.D.Disk.content g.D.Disk.image g.D.Disk.moment g.D.Disk.image_since g.D.Disk.faults l.fn.disk l.disk;
}

abbrev pub decreases-loop-entry : goal.decreases-loop-entry
decreases-loop-entry g l = l.end - (l.window.place + length l.window.octets)
