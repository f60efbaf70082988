use Rattle.std.proofs.Common.{◌≡◌, ◌≤◌, false}
use Rattle.quick_commands.specs.Work.{IsReachedBy}
use Rattle.quick_commands.proofs.work.move_on.Given as goal

abbrev pub invariant-loop : goal.invariant-loop
invariant-loop g l = record {
  reached : IsReachedBy l.counter l.fn.run.work l.run.work;
  limits : l.run.limits ≡ l.fn.run.limits;
  working : l.run.failed ≡ false;
  later : g.D.Disk.faults l.fn.run.disk ≤ g.D.Disk.faults l.run.disk;
}
