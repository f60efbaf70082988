use Rattle.std.proofs.Common.{◌≡◌, ℕ, List, take}
use Rattle.std.specs.HashMap.{get_by_text}
use Rattle.std.specs.Option.{is_some}
use Rattle.engine_registry.specs.Places.{named, Tells}
use Rattle.engine_registry.proofs.by_uuid.point_all.Given as goal

abbrev pub invariant-loop-place : goal.invariant-loop-place
invariant-loop-place l = record {
  tells : Tells named (take l.place l.live) (get_by_text l.places);
  same : (k : List ℕ) → is_some (get_by_text l.places k) ≡ is_some (get_by_text l.fn.places k);
}
