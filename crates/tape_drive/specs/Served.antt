-- What the disk of a drive holds while its tape is served.
use Rattle.std.specs.Prelude.{◌≡◌, ◌⊎◌, ℕ, List, [], ◌∷◌, Option, Some, None, Bool, true, false, Result, Ok, Err}
use Rattle.cluster_types.specs.declared.entry.Input.{Input as InputType}
use Rattle.cluster_defs.specs.Histories.{History}
use Rattle.cluster_core.specs.declared.size.HistorySize.{HistorySize}
use Rattle.cluster_store.specs.Stores.{written}
use Rattle.task_journal.specs.Journal.{StandsFor}
use Rattle.tape.specs.declared.record.TapeRecord.{TapeRecord}
use Rattle.disk_model.specs.Crashes.{LeavesOnly}
use Rattle.tape_drive.specs.declared.fault.DriveError.{DriveError}
use Rattle.tape_drive.specs.declared.fault.DriveError.TheVariants.{Reopen, DiskFault, OutOfMemory}
use Rattle.tape_drive.specs.declared.drive.TapeStop.{TapeStop}
use Rattle.tape_drive.specs.Inputs.{inputs_of}
use Rattle.tape_drive.specs.Rules.{stop_of}
use Rattle.tape_drive.specs.Steps.{stepped, overfull}
use Rattle.tape_drive.specs.Drive.{Stand, served}

-- where the tape of a drive has come to, its disk, and whether a call of the disk failed
pub record DriveView (D : Type 0) : Type 0 where
  pub stand : Stand
  pub disk : D
  pub failed : Bool

-- a history that the steps of inputs come to, one after another, as long as none would pass a limit
abbrev pub IsOnWay : HistorySize → History → List InputType → History → Type 0
IsOnWay limits history [] h = h ≡ history
IsOnWay limits history (input ∷ inputs) h =
    (h ≡ history) ⊎ ((overfull limits history input ≡ None) × IsOnWay limits (stepped history input) inputs h)

-- the inputs of a record that is served, and none where the tape is stopped before it or by it
abbrev pub inputs_where : Option TapeStop → Option ℕ → List InputType → List InputType
inputs_where None None inputs = inputs
inputs_where None (Some place) inputs = []
inputs_where (Some stop) fault inputs = []

abbrev pub inputs_taken : List ℕ → Stand → TapeRecord → List InputType
inputs_taken key s r = inputs_where s.stop (stop_of s.links s.least s.at r) (inputs_of key s.links r)

-- a history that serving records comes to, in whole steps
abbrev pub Comes : List ℕ → Stand → List TapeRecord → History → Type 0
Comes key s [] h = h ≡ s.history
Comes key s (r ∷ rs) h = IsOnWay s.limits s.history (inputs_taken key s r) h ⊎ Comes key (served key s r) rs h

-- octets stand for what is kept of a history that has P
pub record HoldsSome (P : History → Type 0) (octets : List ℕ) : Type 0 where
  pub history : History
  pub has : P history
  pub stands : StandsFor octets (written history)

-- A run of calls left the disk as it was, or a crash at any moment of it leaves what has P. So does one after it where a call
-- failed.
pub record IsTouched {D : Type 0} (moment : D → ℕ) (image : D → List ℕ → Type 0) (image_since : D → ℕ → List ℕ → Type 0) (old new : D) (failed : Bool) (P : List ℕ → Type 0) : Type 0 where
  pub any_moment : (new ≡ old) ⊎ LeavesOnly moment image_since old new P
  pub left : failed ≡ true → (c : List ℕ) → image new c → P c

-- whether a call of the disk had failed by the end of a call that answers this
abbrev pub is_failed : {A : Type 0} → Result A DriveError → Bool
is_failed (Ok x) = false
is_failed (Err Reopen) = true
is_failed (Err DiskFault) = true
is_failed (Err OutOfMemory) = false
