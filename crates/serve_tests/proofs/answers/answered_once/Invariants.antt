use Rattle.history_lock.specs.Names.{IsIdle, lock_id}
use Rattle.serve_tests.proofs.answers.answered_once.Given as goal

abbrev pub invariant-loop-conn : goal.invariant-loop-conn
invariant-loop-conn g l = IsIdle (lock_id l.desk.lock) l.pass
