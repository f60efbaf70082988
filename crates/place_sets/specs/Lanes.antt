-- Sets of places by number.
use Rattle.std.specs.Prelude.{◌≡◌, ℕ, List, [], Option, Some, None, Bool, true, false, ◌&&◌}
use Rattle.std.specs.Ordering.{nat_cmp}
use Rattle.std.specs.Map.{lookup}
use Rattle.std.specs.List.{list_any}
use Rattle.std.specs.BTreeMap.{is_at}
use Rattle.std.specs.BTreeSet.{BTreeSet}
use Rattle.place_sets.specs.Sets.{has}

-- some numbers, each with a set of places
abbrev pub LaneList : Type 0
LaneList = List (ℕ × BTreeSet ℕ)

abbrev pub in_set : Option (BTreeSet ℕ) → ℕ → Bool
in_set None i = false
in_set (Some s) i = has s i

-- whether the lane of a number has a place
abbrev pub in_lane : LaneList → ℕ → ℕ → Bool
in_lane lanes n i = in_set (lookup (is_at (nat_cmp n)) lanes) i

abbrev pub keys_in : Option (BTreeSet ℕ) → List ℕ
keys_in None = []
keys_in (Some s) = s.keys

-- the places in the lane of a number, ascending
abbrev pub places_in : LaneList → ℕ → List ℕ
places_in lanes n = keys_in (lookup (is_at (nat_cmp n)) lanes)

-- each lane has all that it had
abbrev pub LanesGrow : LaneList → LaneList → Type 0
LanesGrow old new = (n i : ℕ) → in_lane old n i ≡ true → in_lane new n i ≡ true

-- each lane has all that it had, but one place in the lane of one number
abbrev pub LanesWithout : ℕ → ℕ → LaneList → LaneList → Type 0
LanesWithout number place old new = (n i : ℕ) → (n ≡ number → i ≡ place → ⊥) → in_lane old n i ≡ true → in_lane new n i ≡ true

-- some of the lanes whose numbers pass have a place
abbrev pub in_some : (ℕ → Bool) → LaneList → ℕ → Bool
in_some looks lanes i = list_any (λ e. looks e.0 && has e.1 i) lanes
