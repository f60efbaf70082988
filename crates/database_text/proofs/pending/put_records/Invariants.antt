use Rattle.std.proofs.Common.{◌≤◌, ◌++◌, drop}
use Rattle.record_codec.specs.Records.{spellings}
use Rattle.database_text.specs.Sent.{Sent}
use Rattle.database_text.proofs.pending.put_records.Given as goal

abbrev pub invariant-loop-entry : goal.invariant-loop-entry
invariant-loop-entry g l = record {
  sent : Sent (l.initial.pending.items ++ spellings l.entries) (g.K.Sink.written l.initial.output) (g.K.Sink.written l.output) (l.pending.items ++ spellings (drop l.entry-index l.entries));
  later : g.K.Sink.faults l.initial.output ≤ g.K.Sink.faults l.output;
}
