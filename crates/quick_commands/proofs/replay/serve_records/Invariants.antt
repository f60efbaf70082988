use Rattle.std.proofs.Common.{◌≡◌, ◌≤◌, false}
use Rattle.tape_drive.specs.Served.{Comes, HoldsSome, IsTouched}
use Rattle.quick_commands.proofs.ServedRecords.{At}
use Rattle.quick_commands.proofs.replay.serve_records.Given as goal

-- the records so far were served, and what they send was written
abbrev pub invariant-loop-item : goal.invariant-loop-item
invariant-loop-item g l = record {
  at : At l.key l.fn.drive.stand l.list l.item-index (g.K.Sink.written l.fn.output) (g.K.Sink.written l.output) l.drive.stand;
  touched : g.D.Disk.tells → IsTouched g.D.Disk.moment g.D.Disk.image g.D.Disk.image_since l.fn.drive.disk l.drive.disk false (HoldsSome (Comes l.key l.fn.drive.stand l.list));
  working : l.drive.failed ≡ false;
  writes : g.K.Sink.faults l.fn.output ≤ g.K.Sink.faults l.output;
  calls : g.D.Disk.faults l.fn.drive.disk ≤ g.D.Disk.faults l.drive.disk;
}
