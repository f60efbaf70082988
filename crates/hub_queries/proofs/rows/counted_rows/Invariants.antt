use Rattle.std.proofs.Common.{◌≡◌, false, map, take}
use Rattle.hub_queries.specs.Rows.{row_of}
use Rattle.hub_queries.proofs.rows.counted_rows.Given as goal

abbrev pub invariant-loop-number : goal.invariant-loop-number
invariant-loop-number g l = l.rows.items ≡ map (row_of false (g.R.Records.records l.table)) (take l.number-index l.numbers)
