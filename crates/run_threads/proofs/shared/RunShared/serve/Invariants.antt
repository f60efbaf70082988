use Rattle.std.proofs.Common.{◌≡◌, ◌≤◌}
use Rattle.history_lock.specs.Names.{known, lock_id, IsIdle}
use Rattle.run_threads.specs.Answering.{AreAnswered, ArePrinted}
use Rattle.run_threads.specs.Waiting.{IsCounted}
use Rattle.run_threads.proofs.shared.RunShared.serve.Given as goal

-- the lines up to the next place were printed, and not all are
abbrev pub invariant-loop : goal.invariant-loop
invariant-loop g l = record {
  idle : IsIdle (lock_id l.self.book.lock) l.pass;
  counted : IsCounted l.awaited.gathered l.awaited.total;
  labels : (l.awaited.labels ≡ l.fn.awaited.labels) × (l.awaited.total ≡ l.fn.awaited.total);
  answered : AreAnswered (known l.pass).seen.list l.awaited.gathered;
  within : l.next ≤ l.awaited.total;
  printed : ArePrinted l.fn.awaited.labels (known l.pass).seen.list l.next (g.K.Sink.written l.fn.output) (g.K.Sink.written l.output);
  writes : g.K.Sink.faults l.fn.output ≤ g.K.Sink.faults l.output;
}
