-- How a run of generated work over a disk ends.
use Rattle.std.specs.Prelude.{◌≡◌, ℕ, List, [], reverse, Result, Ok, Err}
use Rattle.cluster_types.specs.declared.config.Config.{Config}
use Rattle.cluster_types.specs.declared.config.Scheme.TheVariants.{LeastLoad}
use Rattle.cluster_types.specs.Limits.{most_entries, most_record_octets}
use Rattle.cluster_types.specs.declared.entry.Entry.{Entry}
use Rattle.cluster_core.specs.declared.size.HistorySize.{HistorySize}
use Rattle.cluster_store.specs.Openings.{opened}
use Rattle.cluster_store.specs.Stores.{written}
use Rattle.quick_commands.specs.declared.summary.Summary.{Summary}
use Rattle.task_journal.specs.Journal.{StandsFor}
use Rattle.task_journal.specs.declared.fault.OpenFault.{OpenFault}
use Rattle.task_journal.specs.declared.fault.OpenFault.TheVariants as faults
use Rattle.quick_commands.specs.declared.fault.WorkError.{WorkError}
use Rattle.quick_commands.specs.declared.fault.WorkError.TheVariants.{NotEmpty, DiskFault, HistoryFull, OutOfMemory}
use Rattle.quick_commands.specs.Work.{Work, begun, IsReached, IsDone, IsHeld}
use Rattle.quick_commands.specs.Summaries.{summary_of}

-- the options that stand where none is given, and the greatest limits
abbrev pub work_config : Config
work_config = record { scheme = LeastLoad; hwm = 1; misses = 10; entries = most_entries; bytes = most_record_octets }

abbrev pub work_limits : HistorySize
work_limits = record { entries = most_entries; bytes = most_record_octets }

-- why a database isn't opened, where its disk is empty
abbrev pub error_of : OpenFault → WorkError
error_of (faults.NotAJournal place) = NotEmpty place
error_of (faults.Damaged place) = NotEmpty place
error_of faults.DiskFault = DiskFault
error_of faults.OutOfMemory = OutOfMemory

-- a run begins behind the Open of a list, which is empty where the disk tells
pub record Begins (tells : Type 0) (seed tasks : ℕ) (start : Work) : Type 0 where
  pub list : List Entry
  pub empty : tells → list ≡ []
  pub is : start ≡ begun (opened work_config 0 (reverse list)) seed tasks

-- all was done: the summary is that of the run, and a crash leaves what is kept of its history
pub record IsWorked (tells : Type 0) (seed tasks : ℕ) (image : List ℕ → Type 0) (summary : Summary) : Type 0 where
  pub start : Work
  pub begins : Begins tells seed tasks start
  pub work : Work
  pub reached : IsReached start work
  pub done : IsDone work
  pub sums : summary ≡ summary_of tasks work
  pub keeps : tells → (c : List ℕ) → image c → StandsFor c (written work.history)

-- the next step of the run would pass a limit; the history would have this size
pub record IsStopped (tells : Type 0) (seed tasks : ℕ) (size : HistorySize) : Type 0 where
  pub start : Work
  pub begins : Begins tells seed tasks start
  pub held : IsHeld start work_limits size

-- the disk was opened
abbrev pub HasBegun : Result Summary WorkError → Type 0
HasBegun (Ok summary) = Unit {0}
HasBegun (Err (HistoryFull size)) = Unit {0}
HasBegun (Err OutOfMemory) = ⊥
HasBegun (Err DiskFault) = ⊥
HasBegun (Err (NotEmpty place)) = ⊥
