-- The links that haven't signed anything, the oldest first, and the number of the next one.
use Rattle.std.specs.Prelude.{ℕ, ◌+◌, ◌-◌, ◌==◌, List, [], ◌∷◌, Bool, true, false, nat_le, nat_lt, length, sum_by, Option, None, Some, if◌then◌else◌}
use Rattle.pending_links.specs.declared.link.PendingLink.{PendingLink}

pub record Pending : Type 0 where
  pub links : List PendingLink
  pub next : ℕ

-- a link of this number that comes in this second
abbrev pub new_link : ℕ → ℕ → PendingLink
new_link number now = record { number = number; since = now; greeted = false; octets = 0 }

-- TIME, in seconds

-- for its greeting a link has 10, and 60 for its first signed message
abbrev pub seconds_of : Bool → ℕ
seconds_of true = 60
seconds_of false = 10

-- it has been there for as many as it has
abbrev pub is_late : ℕ → PendingLink → Bool
is_late now link = nat_le (seconds_of link.greeted) (now - link.since)

-- ROOM, for 256 links

abbrev pub is_full : List PendingLink → Bool
is_full links = nat_le 256 (length links)

abbrev pub number_of_first : List PendingLink → Option ℕ
number_of_first [] = None
number_of_first (oldest ∷ others) = Some oldest.number

abbrev pub without_first : List PendingLink → List PendingLink
without_first [] = []
without_first (oldest ∷ others) = others

-- the oldest gives way to a new one
abbrev pub given_way : List PendingLink → Option ℕ
given_way links = if is_full links then number_of_first links else None

abbrev pub room_made : List PendingLink → List PendingLink
room_made links = if is_full links then without_first links else links

-- OCTETS, 64 MiB of all together

abbrev pub kept_octets : List PendingLink → ℕ
kept_octets links = sum_by (λ l. l.octets) links

-- the oldest gives way where more are kept
abbrev pub giving_way : List PendingLink → Option ℕ
giving_way links = if nat_le (kept_octets links) 67108864 then None else number_of_first links

-- CHANGES of the link of a number

abbrev pub with_greeting : ℕ → PendingLink → PendingLink
with_greeting number link = if link.number == number then record link { greeted = true } else link

abbrev pub with_octets : ℕ → ℕ → PendingLink → PendingLink
with_octets number octets link = if link.number == number then record link { octets = octets } else link
