-- Which numbers are set: the item at the place of each, and none behind the end.
use Rattle.std.specs.Prelude.{ℕ, List, slice_get, Option, Some, None, Bool, false}

abbrev pub or_false : Option Bool → Bool
or_false None = false
or_false (Some flag) = flag

abbrev pub is_set : List Bool → ℕ → Bool
is_set flags n = or_false (slice_get flags n)
