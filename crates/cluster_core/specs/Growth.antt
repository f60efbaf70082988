-- How the size of what came since the last Open grows, entry by entry.
use Rattle.std.specs.Prelude.{ℕ, ◌+◌, ◌==◌, List, [], ◌∷◌, if◌then◌else◌}
use Rattle.cluster_types.specs.declared.entry.Input.TheVariants.{Open}
use Rattle.cluster_types.specs.declared.entry.Entry.{Entry}
use Rattle.cluster_types.specs.declared.entry.Entry.TheVariants.{Input}
use Rattle.record_codec.specs.Sizes.{record_size}
use Rattle.cluster_core.specs.declared.size.HistorySize.{HistorySize}
use Rattle.cluster_core.specs.Size.{capped}

abbrev pub nothing_more : HistorySize
nothing_more = record { entries = 0; bytes = 0 }

-- an entry more, whose record has so many octets
abbrev pub with_record : HistorySize → ℕ → HistorySize
with_record s octets = record { entries = capped (s.entries + 1); bytes = capped (s.bytes + octets) }

abbrev pub size_next : HistorySize → Entry → HistorySize
size_next s (Input (Open moment scheme hwm misses)) = nothing_more
size_next s (Input input) = with_record s (record_size (Input input))
size_next s decision = if s.entries == 0 then s else with_record s (record_size decision)

abbrev pub sizes_next : HistorySize → List Entry → HistorySize
sizes_next s [] = s
sizes_next s (e ∷ es) = sizes_next (size_next s e) es
