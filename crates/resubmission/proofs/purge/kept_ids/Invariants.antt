use Rattle.std.proofs.Common.{◌≡◌, ◌&&◌, is_some, not, take}
use Rattle.cluster_defs.specs.RecordAnswers.{ids_where}
use Rattle.resubmission.proofs.purge.kept_ids.Given as goal

abbrev pub invariant-loop-place : goal.invariant-loop-place
invariant-loop-place g l = l.found ≡ ids_where (λ r. is_some r.settled && not r.purged) (take l.place (g.R.Records.records l.table))
