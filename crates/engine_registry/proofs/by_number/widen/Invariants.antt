use Rattle.std.proofs.Common.{◌≡◌, ◌≤◌, ℕ, true, length}
use Rattle.std.specs.Prelude.{slice_get}
use Rattle.std.specs.Option.{is_some}
use Rattle.engine_registry.proofs.by_number.widen.Given as goal

abbrev pub invariant-loop : goal.invariant-loop
invariant-loop l = record {
  kept : (j : ℕ) → is_some (slice_get l.fn.places.items j) ≡ true → slice_get l.places.items j ≡ slice_get l.fn.places.items j;
  room : l.counter ≤ length l.places.items;
}
