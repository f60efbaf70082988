use Rattle.std.proofs.Common.{◌≡◌, ◌++◌, All, take}
use Rattle.record_codec.specs.Spelling.{HasRecord}
use Rattle.record_codec.specs.Records.{spellings}
use Rattle.task_journal.proofs.batch.write_entries.Given as goal

abbrev pub invariant-loop-entry : goal.invariant-loop-entry
invariant-loop-entry l = record {
  records : l.into.items ≡ l.fn.into.items ++ spellings (take l.entry-index l.entries);
  has : All HasRecord (take l.entry-index l.entries);
}
