-- A batch as it is written behind a closed gate.
use Rattle.std.specs.Prelude.{◌≡◌, ℕ, zero, suc, ◌^◌, ◌<◌, List, [], ◌∷◌, ◌++◌, length, All, Ok, Err}
use Rattle.cluster_types.specs.declared.entry.Entry.{Entry}
use Rattle.edges.specs.Reading.{Read}
use Rattle.edges.specs.Spelling.{be32}
use Rattle.record_codec.specs.Spelling.{HasRecord}
use Rattle.record_codec.specs.Records.{spellings}
use Rattle.record_codec.specs.Reading.{entry_at}

-- a pad, the length of the records, their number, the records, and the next gate, which is closed
abbrev pub batch_octets : List Entry → List ℕ
batch_octets entries = 0 ∷ be32 (length (spellings entries)) ++ be32 (length entries) ++ spellings entries ++ 0 ∷ []

-- octets that are the batch of these entries
pub record IsBatch (octets : List ℕ) (entries : List Entry) : Type 0 where
  pub spelled : octets ≡ batch_octets entries
  pub each : All HasRecord entries
  pub short : length (spellings entries) < 2 ^ 32

abbrev pub entry_before : Read Entry → (List ℕ → List Entry) → List Entry
entry_before (Ok x) next = x.0 ∷ next x.1
entry_before (Err s) next = []

-- so many entries, by their records
abbrev pub entries_in : ℕ → List ℕ → List Entry
entries_in zero octets = []
entries_in (suc n) octets = entry_before (entry_at octets) (entries_in n)
