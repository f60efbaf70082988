-- How the database of a book is opened.
use Rattle.cluster_types.specs.declared.config.Config.{Config}
use Rattle.cluster_types.specs.declared.config.Scheme.TheVariants.{LeastLoad}
use Rattle.cluster_types.specs.Limits.{most_entries, most_record_octets}

-- one task for each engine at a time, by the least load, and the greatest limits
abbrev pub book_config : Config
book_config = record { scheme = LeastLoad; hwm = 1; misses = 10; entries = most_entries; bytes = most_record_octets }
