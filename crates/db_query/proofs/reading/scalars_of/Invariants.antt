use Rattle.std.proofs.Common.{◌≡◌, ◌++◌, drop, option_map}
use Rattle.jupyter_header.specs.Borrowed.{items_view}
use Rattle.cluster_defs.specs.Fields.{each_of}
use Rattle.cluster_defs.specs.FilterReadings.{scalar_in}
use Rattle.db_query.proofs.reading.scalars_of.Given as goal

abbrev pub invariant-loop-value : goal.invariant-loop-value
invariant-loop-value l = each_of scalar_in (items_view l.values) ≡ option_map (λ rest. l.scalars ++ rest) (each_of scalar_in (items_view (drop l.value-index l.values)))
