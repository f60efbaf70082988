-- Why a run stops, and what its end shows.
use Rattle.std.specs.Prelude.{⊤, ℕ, Some}
use Rattle.cluster_types.specs.Causes.{Rose}
use Rattle.history_lock.specs.declared.known.Content.{Content}
use Rattle.history_lock.specs.Names.{LockId, known, IsIdle}
use Rattle.run_book.specs.Halts.{IsShown}
use Rattle.run_threads.specs.declared.end.RunEnd.{RunEnd}
use Rattle.run_threads.specs.declared.end.RunEnd.TheVariants.{Done, Stopped, NoBook}
use Rattle.run_threads.specs.declared.end.RunStop.{RunStop}
use Rattle.run_threads.specs.declared.end.RunStop.TheVariants.{Halted, WriteFault, NotStarted, OutOfMemory}

-- why it stops, by what was seen of the book, and the counts of faults of the output and of the spawner
abbrev pub StopCause : Content → (written later : ℕ) → (started now : ℕ) → RunStop → Type 0
StopCause seen written later started now (Halted halt) = IsShown (Some halt) seen
StopCause seen written later started now WriteFault = Rose written later
StopCause seen written later started now NotStarted = Rose started now
StopCause seen written later started now OutOfMemory = ⊤

-- a run ends so: with a pass of its book, all lines were printed, or it stopped for a cause
module _ {B T : Type 0} (lock_of : B → LockId) (Printed : Content → Type 0) (written later started now : ℕ) where
  abbrev pub EndCause : RunEnd B T → Type 0
  EndCause (Done book pass) = IsIdle (lock_of book) pass × Printed (known pass).seen
  EndCause (Stopped why book pass) = IsIdle (lock_of book) pass × StopCause (known pass).seen written later started now why
  EndCause NoBook = ⊤
