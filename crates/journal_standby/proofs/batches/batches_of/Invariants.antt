use Rattle.std.proofs.Common.{◌≡◌, ◌++◌, All, length}
use Rattle.record_codec.specs.Spelling.{IsWithinLimits}
use Rattle.journal_standby.specs.Batches.{batches}
use Rattle.journal_standby.specs.Steps.{HasShortSteps}
use Rattle.journal_standby.proofs.batches.batches_of.Given as goal

abbrev pub invariant-loop-rest : goal.invariant-loop-rest
invariant-loop-rest l = record {
  each : All IsWithinLimits l.rest;
  short : HasShortSteps l.rest;
  made : batches l.entries ≡ l.made.items ++ batches l.rest;
}

abbrev pub decreases-loop-rest : goal.decreases-loop-rest
decreases-loop-rest l = length l.rest
