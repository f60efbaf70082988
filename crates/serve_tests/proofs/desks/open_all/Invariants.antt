use Rattle.history_lock.specs.Names.{IsIdle, lock_id}
use Rattle.serve_tests.proofs.desks.open_all.Given as goal

abbrev pub invariant-loop-number : goal.invariant-loop-number
invariant-loop-number g l = IsIdle (lock_id l.desk.lock) l.pass
