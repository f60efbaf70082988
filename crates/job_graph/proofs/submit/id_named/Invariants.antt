use Rattle.std.proofs.Common.{◌≡◌, drop}
use Rattle.job_graph.specs.Held.{id_named}
use Rattle.job_graph.proofs.submit.id_named.Given as goal

abbrev pub invariant-loop-place : goal.invariant-loop-place
invariant-loop-place l = id_named (drop l.place l.tasks) (drop l.place l.ids) l.name ≡ id_named l.tasks l.ids l.name
