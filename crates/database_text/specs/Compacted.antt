-- What writing the journal of a disk's list at once comes to.
use Rattle.std.specs.Prelude.{◌⊎◌, ℕ, List, Option, reverse}
use Rattle.cluster_types.specs.declared.entry.Entry.{Entry}
use Rattle.cluster_defs.specs.Thin.{thin}
use Rattle.cluster_store.specs.Openings.{IsFit, WhyNot}
use Rattle.database_text.specs.Compact.{compacted}
use Rattle.edges.specs.Streams.{Added}
use Rattle.task_journal.specs.declared.fault.OpenFault.TheVariants.{NotAJournal, Damaged}
use Rattle.task_journal.specs.Journal.{StandsFor}

-- a list, in order, without what purges let go
unfoldable pub thin_list : List Entry → List Entry
thin_list list = reverse (thin (reverse list))

-- the octets of its journal that is written at once
abbrev pub compact_octets : List Entry → List ℕ
compact_octets list = compacted (thin_list list)

-- a disk is refused at a place: it holds no journal, or a damaged one, or one of a list that no cluster goes on from
abbrev pub IsUnfitAt : List ℕ → ℕ → Type 0
IsUnfitAt octets place = WhyNot octets (NotAJournal place) ⊎ WhyNot octets (Damaged place)

-- a disk stands for no list that a cluster goes on from
abbrev pub HoldsNoFit : List ℕ → Type 0
HoldsNoFit octets = (list : List Entry) → StandsFor octets list → IsFit list → ⊥

-- A list that a cluster goes on from, for which the disk stands where it tells, was written without what purges let go;
-- what was written stands for it.
pub record IsCompacted (tells : Type 0) (content : List ℕ) (before now : Option (List ℕ)) : Type 0 where
  pub list : List Entry
  pub stands : tells → StandsFor content list
  pub fit : IsFit list
  pub added : Added (compact_octets list) before now
  pub again : StandsFor (compact_octets list) (thin_list list)
