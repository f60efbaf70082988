use Rattle.std.proofs.Common.{◌≡◌, ◌≤◌, None, false}
use Rattle.database_text.specs.Texts.{Told}
use Rattle.tape.specs.Tape.{blank, records}
use Rattle.tape_drive.specs.Served.{Comes, HoldsSome, IsTouched}
use Rattle.quick_commands.proofs.Going.{Going, Spent}
use Rattle.quick_commands.proofs.replay.serve_tape.Given as goal

abbrev pub invariant-loop : goal.invariant-loop
invariant-loop g l = record {
  going : Told (g.S.Source.left l.initial.input) (λ octets. Going l.key l.fn.drive.stand octets (g.K.Sink.written l.initial.output) (g.K.Sink.written l.output) (g.S.Source.left l.input) l.tape l.drive.stand);
  touched : g.D.Disk.tells → Told (g.S.Source.left l.initial.input) (λ octets. IsTouched g.D.Disk.moment g.D.Disk.image g.D.Disk.image_since l.fn.drive.disk l.drive.disk false (HoldsSome (Comes l.key l.fn.drive.stand (records blank octets))));
  many : Told (g.S.Source.left l.initial.input) (λ octets. Spent l.counter octets (g.S.Source.left l.input));
  goes : l.drive.stand.stop ≡ None;
  working : l.drive.failed ≡ false;
  reads : g.S.Source.faults l.initial.input ≤ g.S.Source.faults l.input;
  writes : g.K.Sink.faults l.initial.output ≤ g.K.Sink.faults l.output;
  calls : g.D.Disk.faults l.fn.drive.disk ≤ g.D.Disk.faults l.drive.disk;
}
