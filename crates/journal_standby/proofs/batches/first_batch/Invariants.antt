use Rattle.std.proofs.Common.{◌≡◌, ◌<◌, ◌≤◌, ◌-◌, ◌^◌, min, length, take, drop}
use Rattle.record_codec.specs.Records.{spellings}
use Rattle.journal_standby.specs.Steps.{HasShortSteps, most_in_step}
use Rattle.journal_standby.proofs.Takes.{BatchTakes}
use Rattle.journal_standby.proofs.batches.first_batch.Given as goal

abbrev pub invariant-loop-taken : goal.invariant-loop-taken
invariant-loop-taken l = record {
  some : 0 < l.taken;
  within : l.taken ≤ length l.entries;
  takes : BatchTakes l.entries l.taken;
  size : l.size ≡ min (length (spellings (take l.taken l.entries))) (2 ^ 64 - 1);
  fits : length (spellings (take l.taken l.entries)) ≤ most_in_step;
  rest : HasShortSteps (drop l.taken l.entries);
}

abbrev pub decreases-loop-taken : goal.decreases-loop-taken
decreases-loop-taken l = length l.entries - l.taken
