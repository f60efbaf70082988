use Rattle.std.proofs.Common.{◌≡◌, length, take}
use Rattle.record_codec.specs.Records.{spellings}
use Rattle.task_journal.proofs.batch.records_size.Given as goal

abbrev pub invariant-loop-entry : goal.invariant-loop-entry
invariant-loop-entry l = l.size ≡ length (spellings (take l.entry-index l.entries))
