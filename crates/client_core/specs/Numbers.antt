-- Ids that are made of numbers.
use Rattle.std.specs.Prelude.{ℕ, List, map, drop}
use Rattle.std.specs.Int.{w32, w128, to_be_bytes, from_be_bytes}
use Rattle.std.specs.List.{range_with_len}
use Rattle.client_core.specs.Identifier.{client_id}

-- the sixteen octets of a number, the high ones first
unfoldable pub numbered : ℕ → List ℕ
numbered number = to_be_bytes w128 number

-- the id of a number
abbrev pub numbered_id : ℕ → List ℕ
numbered_id number = client_id (numbered number)

-- the ids of these many numbers, from a first one on
abbrev pub numbered_ids : ℕ → ℕ → List (List ℕ)
numbered_ids first count = map numbered_id (range_with_len first count)

-- the number that the last four of sixteen octets are, the high ones first
abbrev pub last_number : List ℕ → ℕ
last_number octets = from_be_bytes w32 (drop 12 octets)
