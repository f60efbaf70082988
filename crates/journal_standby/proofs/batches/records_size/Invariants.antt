use Rattle.std.proofs.Common.{◌≡◌, ◌-◌, ◌^◌, min, length, take}
use Rattle.record_codec.specs.Records.{spellings}
use Rattle.journal_standby.proofs.batches.records_size.Given as goal

abbrev pub invariant-loop-entry : goal.invariant-loop-entry
invariant-loop-entry l = l.size ≡ min (length (spellings (take l.entry-index l.entries))) (2 ^ 64 - 1)
