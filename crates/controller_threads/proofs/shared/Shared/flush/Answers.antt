use Rattle.history_lock.specs.Names.{known}
use Rattle.controller_threads.proofs.Halting.{halts_later}
use Rattle.controller_threads.proofs.shared.Shared.flush.Goals as goal

pub returns-clause-cause : goal.returns-clause-cause
returns-clause-cause g c =
    halts_later c.flush_entered-halt.result g.N.Naming.start (known c.flush_entered-halt.new.pass).seen (known c.wake_writers.new.pass).seen c.flush_entered-halt.ensures.cause c.wake_writers.ensures.later
