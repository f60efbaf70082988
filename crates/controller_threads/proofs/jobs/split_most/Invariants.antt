use Rattle.controller_threads.specs.Passes.{IsSince}
use Rattle.controller_threads.proofs.jobs.split_most.Given as goal

-- the pass is one of the lock
abbrev pub invariant-loop : goal.invariant-loop
invariant-loop g l = IsSince g.N.Naming.lock g.N.Naming.start l.pass
