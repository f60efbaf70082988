use Rattle.std.proofs.Common.{◌≡◌, ◌≤◌, false}
use Rattle.journal_standby.proofs.Going.{Came}
use Rattle.journal_standby.proofs.standby.append_all.Given as goal

abbrev pub invariant-loop-batch : goal.invariant-loop-batch
invariant-loop-batch g l = record {
  works : l.journal.failed ≡ false;
  came : g.D.Disk.tells → Came g.D.Disk.content g.D.Disk.image g.D.Disk.moment g.D.Disk.image_since l.initial.journal.disk l.journal.disk l.batches l.batch-index;
  later : g.D.Disk.faults l.initial.journal.disk ≤ g.D.Disk.faults l.journal.disk;
}
