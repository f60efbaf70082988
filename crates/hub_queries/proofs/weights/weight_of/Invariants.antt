use Rattle.std.proofs.Common.{◌≡◌, ◌-◌, ◌^◌, false, min, take}
use Rattle.cluster_defs.specs.RecordAnswers.{all_left}
use Rattle.hub_queries.specs.Weights.{weight}
use Rattle.hub_queries.proofs.weights.weight_of.Given as goal

abbrev pub invariant-loop-id : goal.invariant-loop-id
invariant-loop-id g l = l.total ≡ min (weight l.by (all_left (g.R.Records.records l.table) false (take l.id-index l.ids))) (2 ^ 64 - 1)
