-- Why `serve` ends, and what its end gives back.
use Rattle.std.specs.Prelude.{◌≡◌, ◌≤◌, ⊤, ℕ, List, Option}
use Rattle.cluster_types.specs.Causes.{Rose}
use Rattle.history_lock.specs.declared.known.Content.{Content}
use Rattle.history_lock.specs.Names.{LockId, known}
use Rattle.controller_threads.specs.declared.halt.Halt.TheVariants as halts
use Rattle.controller_threads.specs.Halts.{HaltCause, RefusalCause}
use Rattle.controller_threads.specs.Passes.{IsRested}
use Rattle.controller_threads.specs.Ports.{HaveNoLinks}
use Rattle.link_messages.specs.declared.end.SessionEnd.{SessionEnd}
use Rattle.link_messages.specs.declared.end.SessionEnd.TheVariants as sessions
use Rattle.session_threads.specs.declared.admission.AdmitEnd.{AdmitEnd}
use Rattle.session_threads.specs.declared.admission.AdmitEnd.TheVariants.{NoPass, Act}
use Rattle.controller_threads.specs.declared.end.ServeEnd.{ServeEnd}
use Rattle.controller_threads.specs.declared.end.ServeEnd.TheVariants.{Ended, Stopped, ListenerFault, SpawnFault, DiskFault, HistoryFull, OutOfMemory}

-- a link that isn't admitted for a refusal of the desk that halts the controller has its cause
abbrev pub AdmitCause : AdmitEnd → Content → Content → Type 0
AdmitCause NoPass start seen = ⊤
AdmitCause (Act error) start seen = RefusalCause error start seen

-- and such an end of a session
abbrev pub SessionCause : SessionEnd → Content → Content → Type 0
SessionCause (sessions.HistoryFull entries bytes) start seen = HaltCause (halts.HistoryFull entries bytes) start seen
SessionCause _ start seen = ⊤

module _ {P I O T : Type 0} (lock : LockId) (start : Content) (links : P → Option (List (I × O))) (port_faults : P → ℕ) (before now : ℕ) where
  -- The end of `serve`: each pass is of the lock and has seen all that was seen at the start, in a legal history; no port has
  -- a link left; a port has failed; a job wasn't started; and the causes above.
  abbrev pub EndCause : ServeEnd P T → Type 0
  EndCause (Ended ports pass) = HaveNoLinks links ports × IsRested lock start pass
  EndCause (Stopped pass) = IsRested lock start pass × HaltCause halts.Stopping start (known pass).seen
  EndCause (ListenerFault channel port) = 1 ≤ port_faults port
  EndCause SpawnFault = Rose before now
  EndCause (DiskFault pass) = IsRested lock start pass × HaltCause halts.DiskFault start (known pass).seen
  EndCause (HistoryFull entries bytes pass) = IsRested lock start pass × HaltCause (halts.HistoryFull entries bytes) start (known pass).seen
  EndCause OutOfMemory = ⊤
