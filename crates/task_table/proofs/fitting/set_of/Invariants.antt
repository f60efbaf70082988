use Rattle.std.proofs.Common.{◌≡◌, ℕ, nat_cmp, take}
use Rattle.std.specs.BTreeSet as sorted
use Rattle.task_table.specs.Waiting.{is_among}
use Rattle.task_table.proofs.fitting.set_of.Given as goal

abbrev pub invariant-loop-number : goal.invariant-loop-number
invariant-loop-number l = (n : ℕ) → sorted.contains nat_cmp l.set n ≡ is_among n (take l.number-index l.numbers)
