use Rattle.std.proofs.Common.{◌≡◌, take}
use Rattle.std.specs.List.{filter_map}
use Rattle.job_graph.specs.Held.{id_named}
use Rattle.job_graph.proofs.submit.ids_named.Given as goal

abbrev pub invariant-loop-name : goal.invariant-loop-name
invariant-loop-name l = l.found ≡ filter_map (id_named l.tasks l.ids) (take l.name-index l.names)
