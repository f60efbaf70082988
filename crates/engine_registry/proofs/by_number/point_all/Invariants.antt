use Rattle.std.proofs.Common.{◌≡◌, ℕ, take}
use Rattle.std.specs.Prelude.{slice_get}
use Rattle.std.specs.Option.{is_some}
use Rattle.engine_registry.specs.Places.{numbered, Tells}
use Rattle.engine_registry.proofs.by_number.point_all.Given as goal

abbrev pub invariant-loop-place : goal.invariant-loop-place
invariant-loop-place l = record {
  tells : Tells numbered (take l.place l.live) (slice_get l.places.items);
  same : (k : ℕ) → is_some (slice_get l.places.items k) ≡ is_some (slice_get l.fn.places.items k);
}
