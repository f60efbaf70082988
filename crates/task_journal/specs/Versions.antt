-- The versions of a journal, and what they tell apart.
use Rattle.std.specs.Prelude.{ℕ, List, set, slice_index, Bool, true, false, Ok, Err, ◌==◌, if◌then◌else◌}
use Rattle.cluster_types.specs.declared.verdict.Verdict.TheVariants as verdicts
use Rattle.cluster_types.specs.declared.verdict.Cause.TheVariants as causes
use Rattle.cluster_types.specs.declared.entry.Entry.{Entry}
use Rattle.cluster_types.specs.declared.entry.Entry.TheVariants.{Settle}
use Rattle.edges.specs.declared.stop.Stop.TheVariants.{Bad}
use Rattle.edges.specs.Reading.{Read, ◌>>=◌}
use Rattle.record_codec.specs.Reading.{entry_at}
use Rattle.task_journal.specs.declared.version.Version.{Version}
use Rattle.task_journal.specs.declared.version.Version.TheVariants.{First, Second}

-- the version that a version octet means: the second at 2, and the first at every other
abbrev pub version_by : ℕ → Version
version_by octet = if octet == 2 then Second else First

-- the version of a journal, whose version octet stands at 12
abbrev pub version_in : List ℕ → Version
version_in octets = version_by (slice_index octets 12)

-- the octets of a journal as one of the second version
abbrev pub as_second : List ℕ → List ℕ
as_second octets = set octets 12 2

-- whether a version has a record for an entry: the first has none for a Settle with the verdict Aborted or the cause Abort
abbrev pub knows : Version → Entry → Bool
knows Second e = true
knows First (Settle id verdicts.Aborted cause) = false
knows First (Settle id verdict causes.Abort) = false
knows First e = true

-- the entry whose record in a version stands at the front, and the octets after it
unfoldable pub entry_in : Version → List ℕ → Read Entry
entry_in version octets = do
  entry ← entry_at octets
  if knows version entry.0 then Ok (entry.0, entry.1) else Err Bad
