use Rattle.std.proofs.Common.{ℕ, subst}
use Rattle.history_lock.specs.Names.{known}
use Rattle.run_threads.specs.Ends.{StopCause}
use Rattle.run_threads.proofs.running.start_workers.Goals as goal

pub returns-in-Err-start_worker-clause-cause : goal.returns-in-Err-start_worker-clause-cause
returns-in-Err-start_worker-clause-cause g c written later =
    subst (λ (n : ℕ). StopCause (known c.start_worker.new.pass).seen written later n c.start_worker.new.spawner.faults c.in-Err-start_worker.why)
    c.loop-number.invariant.started (c.in-Err-start_worker.ensures.cause written later)
