use Rattle.std.proofs.Common.{◌≡◌, length, All}
use Rattle.record_codec.specs.Spelling.{HasRecord}
use Rattle.task_journal.specs.Journal.{with_front, journal}
use Rattle.task_journal.specs.Cursor.{IsOn, to_come, bound}
use Rattle.task_journal.specs.Reads.{OnlyReads}
use Rattle.task_journal.proofs.reading.read_found.Given as goal

abbrev pub invariant-loop-found : goal.invariant-loop-found
invariant-loop-found g l = record {
  on : g.D.Disk.tells → IsOn l.cursor (g.D.Disk.content l.fn.disk);
  found : g.D.Disk.tells → with_front l.found (to_come l.cursor (g.D.Disk.content l.fn.disk)) ≡ journal (g.D.Disk.content l.fn.disk);
  reads : OnlyReads g.D.Disk.content g.D.Disk.image g.D.Disk.moment g.D.Disk.image_since g.D.Disk.faults l.fn.disk l.disk;
  has : All HasRecord l.found.entries;
  count : length l.found.places ≡ length l.found.entries;
}

abbrev pub decreases-loop-found : goal.decreases-loop-found
decreases-loop-found g l = bound l.cursor
