use Rattle.std.proofs.Common.{◌≡◌, ◌++◌, true}
use Rattle.task_table.specs.Seen.{all_open}
use Rattle.cluster_state.proofs.copies.push_each.Given as goal

-- the copies that came are added, and those to come aren't settled
abbrev pub invariant-loop-task : goal.invariant-loop-task
invariant-loop-task l = record { added : l.tasks ≡ l.fn.tasks ++ l.yielded; fresh : all_open l.task-iterator.rest.items ≡ true }
