-- The batches in which entries are appended to a standby's journal.
use Rattle.std.specs.Prelude.{ℕ, Bool, nat_le, if◌then◌else◌, List, [], ◌∷◌, ◌++◌, length}
use Rattle.std.specs.List.{flat_map}
use Rattle.cluster_types.specs.declared.entry.Entry.{Entry}
use Rattle.record_codec.specs.Records.{spellings}
use Rattle.journal_standby.specs.Steps.{steps}

-- the most octets that the records of a batch have together, where it has several steps
abbrev pub most_octets : ℕ
most_octets = 1073741824

-- whether the records of a batch have at most so many with one more step
abbrev pub has_room : List Entry → List Entry → Bool
has_room batch step = nat_le (length (spellings (batch ++ step))) most_octets

-- the batches of steps, of which some are in the first one: it takes further ones while it can, and so does each behind it
abbrev pub batches_from : List Entry → List (List Entry) → List (List Entry)
batches_from batch [] = batch ∷ []
batches_from batch (step ∷ behind) = if has_room batch step then batches_from (batch ++ step) behind else batch ∷ batches_from step behind

abbrev pub batches_of : List (List Entry) → List (List Entry)
batches_of [] = []
batches_of (step ∷ behind) = batches_from step behind

-- the batches of a list, each of whole steps
abbrev pub batches : List Entry → List (List Entry)
batches list = batches_of (steps list)

-- the entries of batches
abbrev pub joined : List (List Entry) → List Entry
joined batches = flat_map (λ batch. batch) batches
