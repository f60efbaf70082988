-- Reading the entries of a journal one after another.
use Rattle.std.specs.Prelude.{◌≡◌, ℕ, ◌+◌, ◌-◌, ◌*◌, ◌^◌, ◌<◌, ◌≤◌, List, [], ◌∷◌, length, drop, Bool, true, false, Option, Some, None, Result, Ok, Err, if◌then◌else◌}
use Rattle.task_journal.specs.declared.fault.OpenFault.{OpenFault}
use Rattle.task_journal.specs.declared.found.Found.{Found}
use Rattle.task_journal.specs.declared.cursor.Placed.{Placed}
use Rattle.task_journal.specs.declared.cursor.Opened.{Opened}
use Rattle.task_journal.specs.Journal.{◌>>=◌, with_front, one, records_at, found_from, journal, Fails}
use Rattle.task_journal.specs.declared.version.Version.{Version}
use Rattle.task_journal.specs.Versions.{version_in}
use Rattle.task_journal.specs.Window.{Ready, Shows, span}

-- Where the reading stands: the version that is read, octets that were read and not yet taken, the size of the disk, the
-- records of a batch that are left and where they end, the place of the next gate, and whether it was found closed.
pub record Standing : Type 0 where
  pub version : Version
  pub ready : Ready
  pub size : ℕ
  pub left : ℕ
  pub end : ℕ
  pub gate : ℕ
  pub closed : Bool

-- it stands on a disk
pub record IsOn (at : Standing) (disk : List ℕ) : Type 0 where
  pub shows : Shows at.ready at.end disk
  pub whole : at.size ≡ length disk
  pub fits : length disk < 2 ^ 64
  pub read : 33 ≤ length disk → at.version ≡ version_in disk

-- nothing but the place of a closed gate
abbrev pub shut : ℕ → Found
shut gate = record { entries = []; places = gate ∷ [] }

-- what the records up to an end hold, and what comes behind them
abbrev pub batch_then : Version → ℕ → List ℕ → ℕ → Result Found OpenFault → Result Found OpenFault
batch_then version count octets end after = records_at version count end octets >>= λ found. with_front found after

-- what is found from the next gate on
abbrev pub behind_gate : Standing → List ℕ → Result Found OpenFault
behind_gate at disk = if at.closed then Ok (shut at.gate) else found_from at.version at.size 0 (drop at.gate disk)

-- what is still to come
unfoldable pub to_come : Standing → List ℕ → Result Found OpenFault
to_come at disk = batch_then at.version at.left (span at.ready.place at.end disk) at.end (behind_gate at disk)

-- no more entries than this are still to come, whatever the disk holds
abbrev pub bound : Standing → ℕ
bound at = (at.size - at.gate) * 2 ^ 32 + at.left

-- before the first entry, all that a journal holds is still to come
abbrev pub Begins : List ℕ → Result Standing OpenFault → Type 0
Begins disk (Ok at) = to_come at disk ≡ journal disk
Begins disk (Err e) = Fails e (journal disk)

-- what stands behind a gate, as a version reads it
abbrev pub Opens : Version → ℕ → List ℕ → ℕ → Result (Option Opened) OpenFault → Type 0
Opens version size disk gate (Ok None) = (gate < size) × (found_from version size 0 (drop gate disk) ≡ Ok (shut gate))
Opens version size disk gate (Ok (Some batch)) =
    (batch.from ≤ batch.end) × (batch.end ≤ size)
    × (found_from version size 0 (drop gate disk) ≡ batch_then version batch.count (span batch.from batch.end disk) batch.end (found_from version size 0 (drop batch.next disk)))
Opens version size disk gate (Err e) = Fails e (found_from version size 0 (drop gate disk))

-- another batch is reached, and the same is still to come, or a closed gate
abbrev pub Reaches : List ℕ → Standing → Standing → Result Bool OpenFault → Type 0
Reaches disk old new (Ok true) = to_come old disk ≡ to_come new disk
Reaches disk old new (Ok false) = (to_come old disk ≡ Ok (shut new.gate)) × (to_come new disk ≡ Ok (shut new.gate))
Reaches disk old new (Err e) = Fails e (to_come old disk)

-- the entry is the first of what was still to come
abbrev pub Takes : List ℕ → Standing → Standing → Result Placed OpenFault → Type 0
Takes disk old new (Ok placed) = to_come old disk ≡ with_front (one placed.entry placed.place) (to_come new disk)
Takes disk old new (Err e) = Fails e (to_come old disk)

-- what a step comes to: an entry, or nothing was still to come but the place of a closed gate
abbrev pub Advances : List ℕ → Standing → Standing → Result (Option Placed) OpenFault → Type 0
Advances disk old new (Ok (Some placed)) = Takes disk old new (Ok placed)
Advances disk old new (Ok None) = (to_come old disk ≡ Ok (shut new.gate)) × (to_come new disk ≡ Ok (shut new.gate))
Advances disk old new (Err e) = Fails e (to_come old disk)
