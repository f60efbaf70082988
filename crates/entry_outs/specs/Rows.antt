-- The records of all tasks, as a list.
use Rattle.std.specs.Prelude.{List, map}
use Rattle.cluster_types.specs.declared.record.Record.{Record}
use Rattle.entry_outs.specs.declared.rows.Rows.{Rows}

abbrev pub rows : Rows → List Record
rows r = map (λ t. t.row) r.tasks.now
