use Rattle.history_lock.specs.Names.{IsIdle, lock_id}
use Rattle.wire_tests.proofs.locks.lose_often.Given as goal

abbrev pub invariant-loop : goal.invariant-loop
invariant-loop g l = IsIdle (lock_id l.lock) l.pass
