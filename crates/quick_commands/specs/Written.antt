-- What was written of what is to be written.
use Rattle.std.specs.Prelude.{◌≡◌, ℕ, List, Option, Some, None, ◌⊎◌}
use Rattle.cluster_types.specs.Causes.{Rose}
use Rattle.edges.specs.Streams.{Added, AddedFront}
use Rattle.command_words.specs.declared.ending.Ending.{Ending}
use Rattle.command_words.specs.declared.ending.Ending.TheVariants.{Done, Usage, DiskFault, BadTape, Damaged, OutOfMemory, HistoryFull, Different, StandbyDiffers, PrimaryRefused}
use Rattle.task_journal.specs.declared.fault.OpenFault.{OpenFault}
use Rattle.task_journal.specs.declared.fault.OpenFault.TheVariants as faults
use Rattle.tape_drive.specs.declared.drive.TapeStop.{TapeStop}
use Rattle.tape_drive.specs.declared.drive.TapeStop.TheVariants as stops

-- a text was written, or a front of it where the count of the sink's faults rose
abbrev pub Said : List ℕ → (before now : Option (List ℕ)) → (faults later : ℕ) → Type 0
Said text before now faults later = Added text before now ⊎ (AddedFront text before now × Rose faults later)

-- where the input was served to its end or up to what stops it, all of the output was written
abbrev pub Ended : Ending → (output : List ℕ) → (stop : Option TapeStop) → (before now : Option (List ℕ)) → Type 0
Ended Done output stop before now = Added output before now × (stop ≡ None)
Ended (BadTape place) output stop before now = Added output before now × (stop ≡ Some (stops.BadTape place))
Ended (HistoryFull entries bytes) output stop before now =
    Added output before now × (stop ≡ Some (stops.HistoryFull (record { entries = entries; bytes = bytes })))
Ended _ output stop before now = Unit {0}

-- how the program ends at what stops a tape
abbrev pub ending_at : TapeStop → Ending
ending_at (stops.BadTape place) = BadTape place
ending_at (stops.HistoryFull size) = HistoryFull size.entries size.bytes

-- a fact where the input was served to its end or up to what stops it
abbrev pub IsWhole : Ending → Type 0 → Type 0
IsWhole Done P = P
IsWhole (BadTape place) P = P
IsWhole (HistoryFull entries bytes) P = P
IsWhole _ P = Unit {0}

-- an end of a tape that was begun
abbrev pub IsOfTape : Ending → Type 0
IsOfTape Usage = ⊥
IsOfTape (Damaged place) = ⊥
IsOfTape (Different place) = ⊥
IsOfTape (StandbyDiffers place) = ⊥
IsOfTape (PrimaryRefused place) = ⊥
IsOfTape _ = Unit {0}

-- how the program ends where a database isn't opened
abbrev pub ending_of_refusal : OpenFault → Ending
ending_of_refusal (faults.NotAJournal place) = Damaged place
ending_of_refusal (faults.Damaged place) = Damaged place
ending_of_refusal faults.DiskFault = DiskFault
ending_of_refusal faults.OutOfMemory = OutOfMemory
