use Rattle.std.proofs.Common.{◌≡◌, take, drop, []}
use Rattle.job_graph.specs.Jobs.{first_fault, tasks_in}
use Rattle.job_graph.proofs.read.tasks_in.Given as goal

abbrev pub invariant-loop-place : goal.invariant-loop-place
invariant-loop-place l = (l.tasks ≡ tasks_in (take l.place l.lines)) × (first_fault (take l.place l.lines) (drop l.place l.lines) ≡ first_fault [] l.lines)
