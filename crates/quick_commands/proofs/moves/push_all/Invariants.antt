use Rattle.std.proofs.Common.{◌≡◌, ◌++◌}
use Rattle.quick_commands.proofs.moves.push_all.Given as goal

abbrev pub invariant-loop-item : goal.invariant-loop-item
invariant-loop-item g l = l.queue.items ≡ l.fn.queue.items ++ l.yielded
