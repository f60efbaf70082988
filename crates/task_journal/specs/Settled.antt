-- A journal on a disk: where it goes on, and what a crash may leave of it.
use Rattle.std.specs.Prelude.{◌≡◌, ◌⊎◌, ℕ, ◌+◌, ◌^◌, ◌<◌, ◌≤◌, List, ◌++◌, length, Bool, Some}
use Rattle.cluster_types.specs.declared.entry.Entry.{Entry}
use Rattle.disk_model.specs.Crashes.{Only, NoMore}
use Rattle.task_journal.specs.declared.fault.OpenFault.{OpenFault}
use Rattle.task_journal.specs.declared.fault.OpenFault.TheVariants.{NotAJournal, Damaged, DiskFault, OutOfMemory}
use Rattle.task_journal.specs.Journal.{StandsFor, IsSame, place_in, journal}
use Rattle.task_journal.specs.declared.version.Version.{Version}
use Rattle.task_journal.specs.declared.version.Version.TheVariants.{Second}
use Rattle.task_journal.specs.Versions.{version_in}

-- the disk of a journal, and whether a call of it has failed
pub record Held (D : Type 0) : Type 0 where
  pub disk : D
  pub failed : Bool

-- a disk has the head of a journal of a version, and stands for some entries
pub record IsJournal (version : Version) (octets : List ℕ) : Type 0 where
  pub long : 33 ≤ length octets
  pub is : version ≡ version_in octets
  pub list : List Entry
  pub stands : StandsFor octets list

-- the disk has a head of the second version, and this is its first closed gate
pub record IsSettled (octets : List ℕ) (gate : ℕ) : Type 0 where
  pub long : 33 ≤ length octets
  pub second : version_in octets ≡ Second
  pub place : place_in (journal octets) ≡ Some gate
  pub room : gate + 1 < 2 ^ 64

-- so it is, and a crash leaves nothing else
pub record IsReady {D : Type 0} (content : D → List ℕ) (image : D → List ℕ → Type 0) (disk : D) (gate : ℕ) : Type 0 where
  pub settled : IsSettled (content disk) gate
  pub durable : Only (content disk) (image disk)

-- the disk stands for these entries, or for these and a whole batch behind them
abbrev pub Outcome : List Entry → List Entry → List ℕ → Type 0
Outcome entries batch octets = StandsFor octets entries ⊎ StandsFor octets (entries ++ batch)

-- the disk is as it may have been before, or stands for the same as it did when it was read
abbrev pub Unharmed : (List ℕ → Type 0) → List ℕ → List ℕ → Type 0
Unharmed image content octets = image octets ⊎ IsSame octets content

-- at the end of a call: a crash leaves what it might have left before, or always what stands for the same
abbrev pub Spared : (List ℕ → Type 0) → List ℕ → (List ℕ → Type 0) → Type 0
Spared old content new = NoMore old new ⊎ ((c : List ℕ) → new c → IsSame c content)

-- a fact where the octets themselves are refused
abbrev pub OnRefusal : OpenFault → Type 0 → Type 0
OnRefusal (NotAJournal place) P = P
OnRefusal (Damaged place) P = P
OnRefusal DiskFault P = Unit {0}
OnRefusal OutOfMemory P = Unit {0}
