use Rattle.std.proofs.Common.{◌≡◌, false, take}
use Rattle.cluster_defs.specs.RecordAnswers.{all_left}
use Rattle.hub_queries.specs.Results.{written_results}
use Rattle.hub_queries.proofs.results.written_of.Given as goal

abbrev pub invariant-loop-id : goal.invariant-loop-id
invariant-loop-id g l = l.written ≡ written_results (all_left (g.R.Records.records l.table) false (take l.id-index l.ids))
