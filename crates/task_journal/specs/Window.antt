-- Octets of a disk that were read and not yet taken.
use Rattle.std.specs.Prelude.{◌≡◌, ℕ, ◌+◌, ◌-◌, ◌<◌, ◌≤◌, List, length, take, drop, Some, None, Result, Ok, Err}
use Rattle.task_journal.specs.declared.fault.OpenFault.{OpenFault}
use Rattle.task_journal.specs.declared.fault.OpenFault.TheVariants.{NotAJournal, Damaged, DiskFault, OutOfMemory}
use Rattle.task_journal.specs.declared.version.Version.{Version}
use Rattle.task_journal.specs.Versions.{version_in}
use Rattle.task_journal.specs.Journal.{head_fault}

-- the octets, and the place of the first of them
pub record Ready : Type 0 where
  pub octets : List ℕ
  pub place : ℕ

-- the octets of a disk from a place to another
abbrev pub span : ℕ → ℕ → List ℕ → List ℕ
span from to octets = take (to - from) (drop from octets)

-- they are the disk's octets from the place on, up to an end at most
pub record Shows (ready : Ready) (end : ℕ) (disk : List ℕ) : Type 0 where
  pub octets : ready.octets ≡ take (length ready.octets) (drop ready.place disk)
  pub inside : ready.place + length ready.octets ≤ end
  pub whole : end ≤ length disk

-- the next gate lies behind the gate before it, and that one before the disk's end
abbrev pub Rises : ℕ → ℕ → ℕ → Type 0
Rises gate size next = (gate < size) × (gate < next)

-- the version of a disk that has the head of a journal, or where it has none, as a call answered it
abbrev pub HasHead : List ℕ → Result Version OpenFault → Type 0
HasHead disk (Ok version) = (head_fault disk ≡ None) × (version ≡ version_in disk)
HasHead disk (Err (NotAJournal place)) = head_fault disk ≡ Some place
HasHead disk (Err (Damaged place)) = ⊥
HasHead disk (Err DiskFault) = Unit {0}
HasHead disk (Err OutOfMemory) = Unit {0}
