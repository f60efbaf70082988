-- A journal that is written at once: a head, its entries in batches behind open gates, and a closed gate.
use Rattle.std.specs.Prelude.{ℕ, ◌^◌, ◌<◌, Bool, nat_le, if◌then◌else◌, List, [], ◌∷◌, ◌++◌, length, All}
use Rattle.std.specs.List.{flat_map}
use Rattle.cluster_types.specs.declared.entry.Entry.{Entry}
use Rattle.edges.specs.Spelling.{be32}
use Rattle.record_codec.specs.Records.{spellings}
use Rattle.task_journal.specs.Journal.{head}

-- the most octets that the records of a batch have together, where there are several
abbrev pub most_octets : ℕ
most_octets = 1073741824

-- whether the length of the records of a batch is at most that with one more entry
abbrev pub has_room : List Entry → Entry → Bool
has_room batch e = nat_le (length (spellings (batch ++ e ∷ []))) most_octets

-- the batches of entries, of which some are in the first one: it takes further ones while it can, and so does each behind it
abbrev pub batches_from : List Entry → List Entry → List (List Entry)
batches_from batch [] = batch ∷ []
batches_from batch (e ∷ entries) = if has_room batch e then batches_from (batch ++ e ∷ []) entries else batch ∷ batches_from (e ∷ []) entries

-- the batches of entries
abbrev pub batches : List Entry → List (List Entry)
batches [] = []
batches (e ∷ entries) = batches_from (e ∷ []) entries

-- an open gate, a pad, the length of the records and their number
abbrev pub batch_front : List Entry → List ℕ
batch_front entries = 167 ∷ 0 ∷ be32 (length (spellings entries)) ++ be32 (length entries)

-- a batch behind its open gate
unfoldable pub open_batch : List Entry → List ℕ
open_batch entries = batch_front entries ++ spellings entries

-- the closed gate, with its pad where no batch stands before it
abbrev pub closing : List Entry → List ℕ
closing [] = 0 ∷ 0 ∷ []
closing (e ∷ entries) = 0 ∷ []

-- the octets of the journal of entries that is written at once
unfoldable pub compacted : List Entry → List ℕ
compacted entries = head ++ flat_map open_batch (batches entries) ++ closing entries

-- a batch whose length can be written
abbrev pub FitsBatch : List Entry → Type 0
FitsBatch batch = length (spellings batch) < 2 ^ 32

-- entries whose batches have lengths that can be written
abbrev pub HasJournal : List Entry → Type 0
HasJournal entries = All FitsBatch (batches entries)
