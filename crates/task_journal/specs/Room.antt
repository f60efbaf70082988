-- Room behind a journal.
use Rattle.std.specs.Prelude.{◌≡◌, ℕ, ◌+◌, max, List, length, Some}
use Rattle.task_journal.specs.Journal.{journal, place_in}

-- nothing stands behind the first closed gate, but for the last octet of a head
abbrev pub IsTrimmed : List ℕ → Type 0
IsTrimmed octets = (gate : ℕ) → place_in (journal octets) ≡ Some gate → length octets ≡ max (gate + 1) 33
