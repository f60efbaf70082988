use Rattle.std.proofs.Common.{◌≡◌}
use Rattle.history_lock.specs.History.{Extends}
use Rattle.history_lock.specs.Names.{known, lock_id, IsIdle}
use Rattle.run_threads.specs.Answering.{AreAnswered}
use Rattle.run_threads.specs.Waiting.{IsCounted}
use Rattle.run_threads.proofs.shared.RunShared.take_outcomes.Given as goal

abbrev pub invariant-loop : goal.invariant-loop
invariant-loop g l = record {
  idle : IsIdle (lock_id l.self.book.lock) l.pass;
  later : Extends (known l.fn.pass).seen (known l.pass).seen;
  counted : IsCounted l.awaited.gathered l.awaited.total;
  labels : (l.awaited.labels ≡ l.fn.awaited.labels) × (l.awaited.total ≡ l.fn.awaited.total);
  answered : AreAnswered (known l.pass).seen.list l.awaited.gathered;
}
