use Rattle.std.proofs.Common.{◌≤◌, ◌++◌, All, length}
use Rattle.std.specs.List.{flat_map}
use Rattle.record_codec.specs.Spelling.{HasRecord}
use Rattle.database_text.specs.Compact.{open_batch, batches, HasJournal}
use Rattle.database_text.specs.Sent.{Sent}
use Rattle.database_text.proofs.writing.put_batches.Given as goal

abbrev pub invariant-loop-rest : goal.invariant-loop-rest
invariant-loop-rest g l = record {
  has : All HasRecord l.rest;
  sent : Sent (l.initial.pending.items ++ flat_map open_batch (batches l.entries)) (g.K.Sink.written l.initial.output) (g.K.Sink.written l.output) (l.pending.items ++ flat_map open_batch (batches l.rest));
  short : HasJournal l.rest → HasJournal l.entries;
  long : HasJournal l.entries → HasJournal l.rest;
  later : g.K.Sink.faults l.initial.output ≤ g.K.Sink.faults l.output;
}

abbrev pub decreases-loop-rest : goal.decreases-loop-rest
decreases-loop-rest g l = length l.rest
