-- Why a desk halts its controller, and why the caller of its threads stops.
use Rattle.std.specs.Prelude.{◌≡◌, ◌≤◌, ◌+◌, ◌-◌, ◌^◌, ⊤, ℕ, Bool, true, ◌&&◌, min, nat_le}
use Rattle.cluster_types.specs.Causes.{Rose}
use Rattle.cluster_core.specs.Size.{is_past}
use Rattle.cluster_defs.specs.Histories.{is_stopping}
use Rattle.controller_desk.specs.declared.fault.ActError.{ActError}
use Rattle.controller_desk.specs.declared.fault.ActError.TheVariants as refusals
use Rattle.controller_desk.specs.Contents.{faults_seen, fulls_seen, limits_seen}
use Rattle.history_lock.specs.declared.known.Content.{Content}
use Rattle.controller_threads.specs.declared.halt.Halt.{Halt}
use Rattle.controller_threads.specs.declared.halt.Halt.TheVariants as halts
use Rattle.controller_threads.specs.declared.stop.ServeStop.{ServeStop}
use Rattle.controller_threads.specs.declared.stop.ServeStop.TheVariants as stops

-- a count rose, or stands at the end of its type
abbrev pub has_risen : ℕ → ℕ → Bool
has_risen before now = nat_le (min (before + 1) (2 ^ 64 - 1)) now

-- Whether a desk halts its controller so, by what was seen at the start and what is seen then: a shutdown was asked since the
-- last Open; the disk had more faults; or a step would have passed the limits, which was counted.
abbrev pub is_halted : Halt → Content → Content → Bool
is_halted halts.Stopping start seen = is_stopping seen.list
is_halted halts.DiskFault start seen = has_risen (faults_seen start) (faults_seen seen)
is_halted (halts.HistoryFull entries bytes) start seen =
    has_risen (fulls_seen start) (fulls_seen seen) && is_past (limits_seen start) (record { entries = entries; bytes = bytes })

abbrev pub HaltCause : Halt → Content → Content → Type 0
HaltCause halt start seen = is_halted halt start seen ≡ true

-- a refusal of the desk that halts the controller has its cause
abbrev pub RefusalCause : ActError → Content → Content → Type 0
RefusalCause (refusals.HistoryFull entries bytes) start seen = HaltCause (halts.HistoryFull entries bytes) start seen
RefusalCause _ start seen = ⊤

module _ {P : Type 0} (port_faults : P → ℕ) (start seen : Content) (before now : ℕ) where
  -- why the caller of the threads stops, where the counts of the spawner are these
  abbrev pub StopCause : ServeStop P → Type 0
  StopCause (stops.Halted halt) = HaltCause halt start seen
  StopCause (stops.PortFailed channel port) = 1 ≤ port_faults port
  StopCause stops.NotStarted = Rose before now
  StopCause stops.OutOfMemory = ⊤

-- why it stops where a job isn't started
abbrev pub StopsAtStart : {P : Type 0} → (before now : ℕ) → ServeStop P → Type 0
StopsAtStart {P} before now stop = (faults : P → ℕ) (start seen : Content) → StopCause faults start seen before now stop
