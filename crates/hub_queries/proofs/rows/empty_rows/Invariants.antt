use Rattle.std.proofs.Common.{◌≡◌, [], map, take}
use Rattle.hub_queries.specs.Rows.{row_of}
use Rattle.hub_queries.proofs.rows.empty_rows.Given as goal

abbrev pub invariant-loop-number : goal.invariant-loop-number
invariant-loop-number l = l.rows.items ≡ map (row_of l.verbose []) (take l.number-index l.numbers)
