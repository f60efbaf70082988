use Rattle.history_lock.specs.Names.{lock_id, IsIdle}
use Rattle.run_threads.proofs.shared.RunShared.work.Given as goal

abbrev pub invariant-loop : goal.invariant-loop
invariant-loop g l = record {
  idle : IsIdle (lock_id l.self.book.lock) l.pass;
}
