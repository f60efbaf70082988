-- Attempts that run.
use Rattle.std.proofs.Common.{◌≡◌, ℕ, true, refl}
use Rattle.cluster_defs.specs.Tasks.{runs, runs_at}
use Rattle.cluster_defs.specs.declared.attempt.Attempt.{Attempt}
use Rattle.cluster_defs.specs.declared.attempt.Attempt.TheVariants.{Never, Running, EndedOk, EndedBadly, Lost, Declined, Withdrawn}

pub at_runs : (n : ℕ) (a : Attempt) → runs_at n a ≡ true → runs a ≡ true
at_runs n (Running m) h = refl
at_runs n Never h = cc
at_runs n (EndedOk m) h = cc
at_runs n (EndedBadly m) h = cc
at_runs n (Lost m) h = cc
at_runs n (Declined m) h = cc
at_runs n (Withdrawn m) h = cc
