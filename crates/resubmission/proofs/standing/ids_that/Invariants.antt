use Rattle.std.proofs.Common.{◌≡◌, filter, take}
use Rattle.cluster_defs.specs.RecordAnswers.{record_in}
use Rattle.resubmission.specs.Standings.{stands}
use Rattle.resubmission.proofs.standing.ids_that.Given as goal

abbrev pub invariant-loop-id : goal.invariant-loop-id
invariant-loop-id g l = l.found ≡ filter (λ id. stands l.standing (record_in (g.R.Records.records l.table) id)) (take l.id-index l.ids)
