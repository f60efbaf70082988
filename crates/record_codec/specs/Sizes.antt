-- The sizes of records, as numbers of 64 bits.
use Rattle.std.specs.Prelude.{ℕ, min, ◌-◌, ◌^◌, length}
use Rattle.cluster_types.specs.declared.entry.Entry.{Entry}
use Rattle.record_codec.specs.Spelling.{spelling}

-- how many octets the record of an entry has, or the greatest number where that is less
abbrev pub record_size : Entry → ℕ
record_size e = min (length (spelling e)) (2 ^ 64 - 1)
