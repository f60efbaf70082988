-- Records one after another.
use Rattle.std.specs.Prelude.{ℕ, List}
use Rattle.std.specs.List.{flat_map}
use Rattle.cluster_types.specs.declared.entry.Entry.{Entry}
use Rattle.record_codec.specs.Spelling.{spelling}

-- the records of entries, in their order
abbrev pub spellings : List Entry → List ℕ
spellings entries = flat_map spelling entries
