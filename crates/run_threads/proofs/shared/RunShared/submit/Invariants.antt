use Rattle.history_lock.specs.Names.{lock_id, IsIdle}
use Rattle.run_threads.proofs.shared.RunShared.submit.Given as goal

abbrev pub invariant-loop-message : goal.invariant-loop-message
invariant-loop-message g l = record {
  idle : IsIdle (lock_id l.self.book.lock) l.pass;
}
