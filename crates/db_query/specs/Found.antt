-- What is written of the records that are found so far.
use Rattle.std.specs.Prelude.{ℕ, List, [], ◌∷◌, ◌++◌, map, length, Option, Some, None, if◌then◌else◌}
use Rattle.cluster_types.specs.declared.record.Record.{Record}
use Rattle.cluster_defs.specs.Filter.{is_found}
use Rattle.cluster_defs.specs.FilterContents.{front_text, record_text}
use Rattle.cluster_defs.specs.Texts.{parted}
use Rattle.cluster_defs.specs.declared.filter.Asked.{Asked}
use Rattle.cluster_defs.specs.declared.filter.Field.{Field}

-- what is written of the records that are found so far: how many they are, and the text up to the last of them
pub record Listed : Type 0 where
  pub count : ℕ
  pub text : List ℕ

abbrev pub listed : List Field → List Record → Listed
listed keys records = record { count = length records; text = front_text ++ parted (map (record_text keys) records) }

-- a record that is there and is found
abbrev pub found_one : Asked → Option Record → List Record
found_one asked None = []
found_one asked (Some r) = if is_found asked.tests r then r ∷ [] else []
