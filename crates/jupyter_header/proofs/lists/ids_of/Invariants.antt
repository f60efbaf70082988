use Rattle.std.proofs.Common.{◌≡◌, ◌++◌, drop, option_map}
use Rattle.jupyter_header.specs.Borrowed.{items_view}
use Rattle.cluster_defs.specs.Fields.{each_of, id_in}
use Rattle.jupyter_header.proofs.lists.ids_of.Given as goal

abbrev pub invariant-loop-value : goal.invariant-loop-value
invariant-loop-value l = each_of id_in (items_view l.values) ≡ option_map (λ rest. l.ids ++ rest) (each_of id_in (items_view (drop l.value-index l.values)))
