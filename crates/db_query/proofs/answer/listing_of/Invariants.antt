use Rattle.std.proofs.Common.{◌≡◌, take}
use Rattle.cluster_defs.specs.Filter.{found}
use Rattle.db_query.specs.Found.{listed}
use Rattle.db_query.proofs.answer.listing_of.Given as goal

abbrev pub invariant-loop-place : goal.invariant-loop-place
invariant-loop-place g l = l.listing ≡ listed l.asked.keys (found l.asked.tests (take l.place (g.R.Records.records l.table)))
