use Rattle.std.proofs.Common.{◌≡◌, drop}
use Rattle.job_graph.specs.Lines.{are_apart}
use Rattle.job_graph.proofs.names.are_apart.Given as goal

abbrev pub invariant-loop-place : goal.invariant-loop-place
invariant-loop-place l = are_apart (drop l.place l.texts) ≡ are_apart l.texts
