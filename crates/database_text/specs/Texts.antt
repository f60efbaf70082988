-- What printing a disk, or checking a text against it, comes to.
use Rattle.std.specs.Prelude.{◌≡◌, ◌⊎◌, ℕ, List, ◌++◌, Option, Some, option_map, Err}
use Rattle.cluster_types.specs.declared.entry.Entry.{Entry}
use Rattle.edges.specs.Streams.{Added}
use Rattle.command_words.specs.declared.ending.Ending.{Ending}
use Rattle.command_words.specs.declared.ending.Ending.TheVariants as endings
use Rattle.database_text.specs.Comparison.{counted, end_difference}
use Rattle.database_text.specs.Lines.{text}
use Rattle.task_journal.specs.declared.fault.OpenFault.TheVariants.{NotAJournal, Damaged}
use Rattle.task_journal.specs.Journal.{journal, StandsFor}

-- a disk is refused at a place: it holds no journal, or a damaged one
abbrev pub IsDamaged : List ℕ → ℕ → Type 0
IsDamaged octets place = (journal octets ≡ Err (NotAJournal place)) ⊎ (journal octets ≡ Err (Damaged place))

-- the entries of a disk couldn't be had: it was refused, a call of it failed, or there was no memory
abbrev pub IsRefusal : Ending → Type 0
IsRefusal ending = ((place : ℕ) × (ending ≡ endings.Damaged place)) ⊎ (ending ≡ endings.DiskFault) ⊎ (ending ≡ endings.OutOfMemory)

-- a fact of what a source had left, where it tells
abbrev pub Told : Option (List ℕ) → (List ℕ → Type 0) → Type 0
Told left P = (octets : List ℕ) → left ≡ Some octets → P octets

-- the first offset at which an input differs from a text, where the end of the shorter one counts as a difference
abbrev pub DiffersAt : List ℕ → List ℕ → ℕ → Type 0
DiffersAt input text place = option_map counted (end_difference 0 input text) ≡ Some place

-- An input differs at a place from the text of a list of entries, and where the disk tells, from that of the list that it
-- stands for.
pub record DiffersFrom (tells : Type 0) (content : List ℕ) (left : Option (List ℕ)) (place : ℕ) : Type 0 where
  pub list : List Entry
  pub differs : Told left (λ octets. DiffersAt octets (text list) place)
  pub own : tells → (whole : List Entry) × StandsFor content whole × Told left (λ octets. DiffersAt octets (text whole) place)
