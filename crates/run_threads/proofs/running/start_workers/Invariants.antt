use Rattle.std.proofs.Common.{◌≡◌}
use Rattle.std.specs.Arc.{arc_value}
use Rattle.history_lock.specs.Names.{lock_id, IsIdle}
use Rattle.run_threads.proofs.running.start_workers.Given as goal

abbrev pub invariant-loop-number : goal.invariant-loop-number
invariant-loop-number g l = record {
  idle : IsIdle (lock_id (arc_value l.shared).book.lock) l.pass;
  started : l.spawner.faults ≡ l.fn.spawner.faults;
}
