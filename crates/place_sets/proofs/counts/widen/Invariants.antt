use Rattle.std.proofs.Common.{◌≡◌, ◌≤◌, ℕ, length}
use Rattle.place_sets.specs.Counts.{count_of}
use Rattle.place_sets.proofs.counts.widen.Given as goal

abbrev pub invariant-loop : goal.invariant-loop
invariant-loop l = record {
  same : (n : ℕ) → count_of l.counts.items n ≡ count_of l.fn.counts.items n;
  room : l.counter ≤ length l.counts.items;
}
