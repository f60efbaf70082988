-- What a spawner does.
use Rattle.std.specs.Prelude.{◌≡◌, ℕ, Result, Ok, Err}
use Rattle.edges.specs.Memory.{counted}
use Rattle.thread_edges.specs.declared.spawner.Manner.{Manner}
use Rattle.thread_edges.specs.declared.spawner.StartError.{StartError}
use Rattle.thread_edges.specs.declared.spawner.StartError.TheVariants.{NotStarted, OutOfMemory}

-- a spawner: what becomes of a job, and how many weren't started
pub record Starting : Type 0 where
  pub manner : Manner
  pub faults : ℕ

-- the count of faults after a start with this answer: one more where no thread was started, and else as before
abbrev pub StartCause : Result (Unit {0}) StartError → ℕ → ℕ → Type 0
StartCause (Err NotStarted) before now = now ≡ counted before
StartCause (Err OutOfMemory) before now = now ≡ before
StartCause (Ok x) before now = now ≡ before
