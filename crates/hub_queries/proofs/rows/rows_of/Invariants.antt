use Rattle.std.proofs.Common.{◌≡◌, map, take}
use Rattle.hub_queries.specs.Rows.{row_of}
use Rattle.hub_queries.proofs.rows.rows_of.Given as goal

abbrev pub invariant-loop-place : goal.invariant-loop-place
invariant-loop-place g l = l.rows.items ≡ map (row_of l.verbose (take l.place (g.R.Records.records l.table))) l.numbers
