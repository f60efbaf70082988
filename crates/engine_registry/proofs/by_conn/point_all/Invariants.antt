use Rattle.std.proofs.Common.{◌≡◌, ℕ, take, nat_eq}
use Rattle.std.specs.HashMap.{get}
use Rattle.std.specs.Option.{is_some}
use Rattle.engine_registry.specs.Places.{on, Tells}
use Rattle.engine_registry.proofs.by_conn.point_all.Given as goal

abbrev pub invariant-loop-place : goal.invariant-loop-place
invariant-loop-place l = record {
  tells : Tells on (take l.place l.live) (get nat_eq l.places);
  same : (k : ℕ) → is_some (get nat_eq l.places k) ≡ is_some (get nat_eq l.fn.places k);
}
