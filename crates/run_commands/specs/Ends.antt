-- How a command ends that runs codes on engines of its own, and what shows it.
use Rattle.std.specs.Prelude.{◌≡◌, ◌≢◌, ◌⊎◌, ℕ, List, length, Option, None, IfSome}
use Rattle.cluster_types.specs.Causes.{Rose}
use Rattle.cluster_store.specs.Openings.{WhyNot}
use Rattle.command_words.specs.declared.ending.Ending.TheVariants as plain
use Rattle.disk_model.specs.declared.disk.Disk.{Ghosts as OfDisk}
use Rattle.edges.specs.declared.sink.Sink.{Ghosts as OfSink}
use Rattle.history_lock.specs.declared.known.Content.{Content}
use Rattle.history_lock.specs.Names.{LockId}
use Rattle.quick_commands.specs.Written.{Said, ending_of_refusal}
use Rattle.run_book.specs.declared.halt.Halt.TheVariants as halts
use Rattle.run_threads.specs.Ends.{EndCause}
use Rattle.run_threads.specs.declared.end.RunEnd.{RunEnd}
use Rattle.run_threads.specs.declared.end.RunEnd.TheVariants as ends
use Rattle.run_threads.specs.declared.end.RunStop.{RunStop}
use Rattle.run_threads.specs.declared.end.RunStop.TheVariants as stops
use Rattle.run_words.specs.Lines.{run_status, run_line}
use Rattle.run_words.specs.Reading.{run_reading}
use Rattle.run_words.specs.declared.command.RunCommand.{RunCommand}
use Rattle.run_words.specs.declared.ending.RunEnding.{RunEnding}
use Rattle.run_words.specs.declared.ending.RunEnding.TheVariants.{Plain, NoWorker, BadJob}
use Rattle.task_journal.specs.declared.fault.OpenFault.{OpenFault}
use Rattle.task_journal.specs.declared.fault.OpenFault.TheVariants as refusals
use Rattle.run_commands.specs.Preparing.{IsBadAt, Prints}
use Rattle.run_commands.specs.declared.shown.RunShown.{RunShown}
use Rattle.run_commands.specs.declared.shown.RunShown.TheVariants.{Nothing, Disk, Book}

-- how the program ends where a run stopped
abbrev pub ending_of : RunStop → RunEnding
ending_of (stops.Halted halts.OutOfMemory) = Plain plain.OutOfMemory
ending_of (stops.Halted halts.DiskFault) = Plain plain.DiskFault
ending_of (stops.Halted (halts.HistoryFull entries bytes)) = Plain (plain.HistoryFull entries bytes)
ending_of stops.WriteFault = Plain plain.WriteFault
ending_of stops.NotStarted = NoWorker
ending_of stops.OutOfMemory = Plain plain.OutOfMemory

-- how the program ends where a run has ended so, and what shows it
abbrev pub shown_end : {D B T : Type 0} → RunEnd B T → RunEnding × RunShown D B T
shown_end (ends.Done book pass) = (Plain plain.Done, Book book pass)
shown_end (ends.Stopped why book pass) = (ending_of why, Book book pass)
shown_end ends.NoBook = (Plain plain.OutOfMemory, Nothing)

-- what a command runs over: what its disk tells, holds and counts, and the disk; which lock a book has; what was written of the
-- output before a call and after it, and how often a write and a start have failed
pub record RunsOver (D B : Type 0) : Type 1 where
  pub tells : Type 0
  pub content : D → List ℕ
  pub disk_faults : D → ℕ
  pub disk : D
  pub lock : B → LockId
  pub output_before : Option (List ℕ)
  pub output_now : Option (List ℕ)
  pub writes_before : ℕ
  pub writes_now : ℕ
  pub starts_before : ℕ
  pub starts_now : ℕ

-- the same of a disk and an output, before a call and after it
abbrev pub runs_over : {D B K : Type 0} → OfDisk D → OfSink K → (B → LockId) → D → (old new : K) → (starts_before starts_now : ℕ) → RunsOver D B
runs_over disks sink lock disk old new starts_before starts_now = record {
  tells = disks.tells;
  content = disks.content;
  disk_faults = disks.faults;
  disk = disk;
  lock = lock;
  output_before = sink.written old;
  output_now = sink.written new;
  writes_before = sink.faults old;
  writes_now = sink.faults new;
  starts_before = starts_before;
  starts_now = starts_now;
}

module _ {D B T : Type 0} (on : RunsOver D B) where
  -- the disk isn't empty, and is handed back; or its size wasn't had
  pub record IsRefused (result : RunEnding × RunShown D B T) : Type 0 where
    pub left : D
    pub is : (result ≡ (Plain (plain.Damaged 0), Disk left)) ⊎ (result ≡ (Plain plain.DiskFault, Disk left))
    pub some : result.0 ≡ Plain (plain.Damaged 0) → on.tells → length (on.content on.disk) ≢ 0
    pub cause : result.0 ≡ Plain plain.DiskFault → Rose (on.disk_faults on.disk) (on.disk_faults left)

  -- no database was opened over the disk, which is empty: it is handed back, and shows why
  pub record IsUnopened (result : RunEnding × RunShown D B T) : Type 0 where
    pub left : D
    pub why : OpenFault
    pub is : result ≡ (Plain (ending_of_refusal why), Disk left)
    pub empty : on.tells → length (on.content on.disk) ≡ 0
    pub refused : on.tells → WhyNot (on.content on.disk) why
    pub cause : why ≡ refusals.DiskFault → Rose (on.disk_faults on.disk) (on.disk_faults left)

  -- a run over an empty disk ended for a cause, which is shown: where it is done, this was printed
  pub record RanAs (Printed : Content → Type 0) (result : RunEnding × RunShown D B T) : Type 0 where
    pub end : RunEnd B T
    pub cause : EndCause on.lock Printed on.writes_before on.writes_now on.starts_before on.starts_now end
    pub is : result ≡ shown_end end
    pub empty : on.tells → length (on.content on.disk) ≡ 0

  abbrev pub Opened : (Content → Type 0) → RunEnding × RunShown D B T → Type 0
  Opened Printed result = IsUnopened result ⊎ RanAs Printed result

  abbrev pub Ran : (Content → Type 0) → RunEnding × RunShown D B T → Type 0
  Ran Printed result = IsRefused result ⊎ Opened Printed result

  -- How a command ends: its text is no job, or there was no memory, or it ran. Where it is done each line was printed, and says
  -- what its code or its task has answered in what the pass of the book has seen.
  abbrev pub RunEnds : RunCommand → RunEnding × RunShown D B T → Type 0
  RunEnds command result =
      (result ≡ (Plain plain.OutOfMemory, Nothing))
      ⊎ ((line : ℕ) × IsBadAt command line × (result ≡ (BadJob line, Disk on.disk)))
      ⊎ Ran (λ seen. Prints command seen.list on.output_before on.output_now) result

-- words without a reading are told so, and the disk is handed back, unless there was no memory
abbrev pub Unread : {D B T : Type 0} → D → RunEnding × RunShown D B T → Type 0
Unread disk result = (result ≡ (Plain plain.Usage, Disk disk)) ⊎ (result ≡ (Plain plain.OutOfMemory, Nothing))

-- what words ask for ended so
abbrev pub Ends : {D B T : Type 0} → RunsOver D B → List (List ℕ) → RunEnding × RunShown D B T → Type 0
Ends on words result = (run_reading words ≡ None → Unread on.disk result) × IfSome (run_reading words) (λ command. RunEnds on command result)

-- a status is that of an end of which this holds, and the line of this end was written
abbrev pub IsTold : {E : Type 0} → OfSink E → (old new : E) → (status : ℕ) → (RunEnding → Type 0) → Type 0
IsTold errors old new status Holds =
    (e : RunEnding) × (status ≡ run_status e) × Said (run_line e) (errors.written old) (errors.written new) (errors.faults old) (errors.faults new) × Holds e
