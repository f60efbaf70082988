use Rattle.std.proofs.Common.{◌≡◌, ◌+◌, ◌-◌, ◌^◌, min, length, take}
use Rattle.record_codec.specs.Records.{spellings}
use Rattle.task_journal.proofs.batch.size_with.Given as goal

abbrev pub invariant-loop-entry : goal.invariant-loop-entry
invariant-loop-entry l = l.size ≡ min (l.fn.size + length (spellings (take l.entry-index l.entries))) (2 ^ 64 - 1)
