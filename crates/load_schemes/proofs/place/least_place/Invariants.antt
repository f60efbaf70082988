use Rattle.std.proofs.Common.{ℕ, List, ◌<◌, ◌≤◌, get_or}
use Rattle.load_schemes.proofs.place.least_place.Given as goal

-- the least load so far stands at `least`, and each load before it is greater
pub record First (loads : List ℕ) (least place : ℕ) : Type 0 where
  pub inside : least < place
  pub greater : (k : ℕ) → k < least → get_or loads least 0 < get_or loads k 0
  pub least_yet : (k : ℕ) → k < place → get_or loads least 0 ≤ get_or loads k 0

abbrev pub invariant-loop-place : goal.invariant-loop-place
invariant-loop-place l = First l.loads l.least l.place
