use Rattle.std.proofs.Common.{◌≡◌, map, take}
use Rattle.run_commands.proofs.preparing.names_of.Given as goal

abbrev pub invariant-loop-task : goal.invariant-loop-task
invariant-loop-task l = l.names ≡ map (λ task. task.name) (take l.task-index l.tasks)
