use Rattle.std.proofs.Common.{◌≡◌, ◌≤◌, ℕ, length}
use Rattle.place_sets.specs.Flags.{is_set}
use Rattle.place_sets.proofs.flags.widen.Given as goal

abbrev pub invariant-loop : goal.invariant-loop
invariant-loop l = record {
  same : (n : ℕ) → is_set l.flags.items n ≡ is_set l.fn.flags.items n;
  room : l.counter ≤ length l.flags.items;
}
