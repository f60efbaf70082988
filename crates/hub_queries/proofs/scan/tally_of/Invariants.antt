use Rattle.std.proofs.Common.{◌≡◌, take}
use Rattle.cluster_defs.specs.RecordAnswers.{ids_where}
use Rattle.hub_queries.specs.Kinds.{is_kind}
use Rattle.hub_queries.specs.Tallies.{tallied}
use Rattle.hub_queries.proofs.scan.tally_of.Given as goal

abbrev pub invariant-loop-place : goal.invariant-loop-place
invariant-loop-place g l = l.tally ≡ tallied l.verbose (ids_where (λ r. is_kind l.kind r) (take l.place (g.R.Records.records l.table)))
