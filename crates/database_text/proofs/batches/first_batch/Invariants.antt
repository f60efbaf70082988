use Rattle.std.proofs.Common.{◌≡◌, ◌-◌, ◌^◌, min, length, take}
use Rattle.record_codec.specs.Records.{spellings}
use Rattle.database_text.proofs.Takes.{Takes}
use Rattle.database_text.proofs.batches.first_batch.Given as goal

abbrev pub invariant-loop-place : goal.invariant-loop-place
invariant-loop-place l = record {
  takes : Takes l.entries l.place;
  size : l.size ≡ min (length (spellings (take l.place l.entries))) (2 ^ 64 - 1);
}
