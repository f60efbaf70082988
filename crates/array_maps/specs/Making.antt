-- When codes are made, and why they aren't.
use Rattle.std.specs.Prelude.{ℕ, Bool, true, false, List, length, Option, Some, None, Result, Ok, Err, nat_lt, position}
use Rattle.array_maps.specs.declared.error.MapError.{MapError}
use Rattle.array_maps.specs.declared.error.MapError.TheVariants.{BadName, TooLong}

-- a code that no parser takes: more than 65,536 octets
abbrev pub is_long : List ℕ → Bool
is_long code = nat_lt 65536 (length code)

-- the codes, unless one is too long, of which the first is told
abbrev pub unless_long : List (List ℕ) → Option ℕ → Result (List (List ℕ)) MapError
unless_long made None = Ok made
unless_long made (Some place) = Err (TooLong place)

-- codes are made unless the array's name is none, or one of them is too long
abbrev pub made : Bool → List (List ℕ) → Result (List (List ℕ)) MapError
made true all = unless_long all (position is_long all)
made false all = Err BadName
