use Rattle.journal_standby.proofs.Takes.{StepTakes}
use Rattle.journal_standby.proofs.batches.first_step.Given as goal

abbrev pub invariant-loop-place : goal.invariant-loop-place
invariant-loop-place l = StepTakes l.entries l.place
