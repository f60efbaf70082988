-- What contracts see of a store, and the world that it stands in.
use Rattle.std.specs.Prelude.{◌≡◌, ◌≤◌, ℕ, suc, ◌-◌, ◌+◌, ◌^◌, min, ◌==◌, nat_le, List, length, drop, slice_get, reverse, Option, Some, None, Bool, true, false, is_some, if◌then◌else◌}
use Rattle.cluster_types.specs.declared.entry.Entry.{Entry}
use Rattle.cluster_defs.specs.Connections.{channel_on}
use Rattle.cluster_defs.specs.Histories.{History, facts, kept}
use Rattle.cluster_defs.specs.Lives.{Sending, World, kept_end, sendings_to}
use Rattle.cluster_core.specs.Steps.{kept_from}
use Rattle.cluster_store.specs.Queues.{Lines, left_at}
use Rattle.cluster_store.specs.declared.fault.StepError.{StepError}
use Rattle.cluster_store.specs.declared.fault.ServeError.{ServeError}
use Rattle.cluster_store.specs.declared.fault.ServeError.TheVariants.{Step, DiskFault}
use Rattle.cluster_store.specs.declared.fault.StepError.TheVariants.{Reopen, HistoryFull, BatchFull, OutOfMemory}
use Rattle.cluster_core.specs.declared.plan.PlanError.{PlanError}
use Rattle.cluster_core.specs.declared.plan.PlanError.TheVariants as plans
use Rattle.cluster_core.specs.declared.size.HistorySize.{HistorySize}
use Rattle.cluster_core.specs.Size.{size_since, is_past}
use Rattle.task_journal.specs.declared.fault.ExtendFault.{ExtendFault}
use Rattle.task_journal.specs.declared.fault.ExtendFault.TheVariants as extends
use Rattle.record_codec.specs.Records.{spellings}
use Rattle.cluster_store.specs.declared.taken.Taken.{Taken}
use Rattle.cluster_store.specs.declared.taken.Taken.TheVariants.{Out as Hands, NothingYet, Closed}

-- the disk; the history, the newest entry first; how much may come after its last Open; how many of its entries are safe
-- on the disk; the outs that wait, by connection; whether a call of the disk failed; and how many steps the limits refused
pub record StoreView (D : Type 0) : Type 0 where
  pub disk : D
  pub history : History
  pub limits : HistorySize
  pub mark : ℕ
  pub lines : Lines
  pub failed : Bool
  pub fulls : ℕ

-- how many outs to a connection were taken since the last Open: all that were sent to it but those that wait
abbrev pub told : {D : Type 0} → StoreView D → ℕ → ℕ
told v conn = length (sendings_to v.history conn) - length (left_at v.lines conn)

-- a store stands in a world: they have the same history, the same of it is safe, and as many outs were sent
pub record StandsIn {D : Type 0} (v : StoreView D) (w : World) : Type 0 where
  pub history : w.history ≡ v.history
  pub mark : w.mark ≡ v.mark
  pub told_are : (conn : ℕ) → w.told conn ≡ told v conn
  pub up : w.down ≡ false

-- the oldest entries of a history, so many
abbrev pub up_to : ℕ → History → History
up_to n history = drop (length history - n) history

-- what a journal has to hold of a history: its kept entries, the oldest first
abbrev pub written : History → List Entry
written history = reverse (kept history)

-- the next out to a connection, with the history up to its entry
abbrev pub next_to : {D : Type 0} → StoreView D → ℕ → Option Sending
next_to v conn = slice_get (sendings_to v.history conn) (told v conn)

abbrev pub is_live : History → ℕ → Bool
is_live history conn = is_some (channel_on (facts history).connections conn)

-- what a take answers: the next out where all that is kept up to its entry is safe
abbrev pub answer : Bool → ℕ → Option Sending → Taken
answer live mark (Some s) = if nat_le (kept_end s.0) mark then Hands s.1 else NothingYet
answer live mark None = if live then NothingYet else Closed

abbrev pub one_more : Taken → ℕ → ℕ
one_more (Hands out) told = suc told
one_more NothingYet told = told
one_more Closed told = told

-- how many outs to each connection were taken, after a take from one
abbrev pub told_by : Taken → ℕ → (ℕ → ℕ) → ℕ → ℕ
told_by taken conn told c = if c == conn then one_more taken (told c) else told c

-- why a step isn't taken, by why it isn't planned
abbrev pub of_plan : PlanError → StepError
of_plan (plans.HistoryFull entries bytes) = HistoryFull entries bytes
of_plan plans.OutOfMemory = OutOfMemory

abbrev pub of_batch : ExtendFault → StepError
of_batch extends.TooLong = BatchFull
of_batch extends.OutOfMemory = OutOfMemory

-- what is kept behind the mark can't be written at once
abbrev pub IsTooLong : ℕ → History → Type 0
IsTooLong mark history = 2 ^ 32 ≤ length (spellings (kept_from mark history))

-- why a step is refused that would lead to this history: a call of the disk failed before, or else the history would pass
-- the limit, or else what is kept behind the mark would have too many octets
abbrev pub IsRefused : Bool → ℕ → HistorySize → History → StepError → Type 0
IsRefused failed mark limit new Reopen = failed ≡ true
IsRefused failed mark limit new (HistoryFull entries bytes) = (failed ≡ false) × (record { entries = entries; bytes = bytes } ≡ size_since new) × (is_past limit (size_since new) ≡ true)
IsRefused failed mark limit new BatchFull = (failed ≡ false) × (is_past limit (size_since new) ≡ false) × IsTooLong mark new
IsRefused failed mark limit new OutOfMemory = failed ≡ false

-- none of these refuses it
abbrev pub IsTaken : Bool → ℕ → HistorySize → History → Type 0
IsTaken failed mark limit new = (failed ≡ false) × (is_past limit (size_since new) ≡ false) × (IsTooLong mark new → ⊥)

-- why a step is refused that would lead to this history, where these entries would be written at once
abbrev pub IsRefusedFor : HistorySize → History → List Entry → StepError → Type 0
IsRefusedFor limit new batch Reopen = ⊥
IsRefusedFor limit new batch (HistoryFull entries bytes) = (record { entries = entries; bytes = bytes } ≡ size_since new) × (is_past limit (size_since new) ≡ true)
IsRefusedFor limit new batch BatchFull = (is_past limit (size_since new) ≡ false) × (2 ^ 32 ≤ length (spellings batch))
IsRefusedFor limit new batch OutOfMemory = Unit {0}

-- a step that the limits refuse is counted
abbrev pub fulls_by : StepError → ℕ → ℕ
fulls_by (HistoryFull entries bytes) fulls = min (fulls + 1) (2 ^ 64 - 1)
fulls_by _ fulls = fulls

-- what became of a store whose disk, mark and limits stay: its history, how many outs were taken, and how many steps were
-- refused
pub record Becomes {D : Type 0} (old : StoreView D) (history : History) (taken : ℕ → ℕ) (fulls : ℕ) (new : StoreView D) : Type 0 where
  pub disk : new.disk ≡ old.disk
  pub history_is : new.history ≡ history
  pub limits : new.limits ≡ old.limits
  pub mark : new.mark ≡ old.mark
  pub taken_are : (conn : ℕ) → told new conn ≡ taken conn
  pub failed : new.failed ≡ old.failed
  pub fulls_are : new.fulls ≡ fulls

-- A STEP THAT IS SERVED

-- a store behind a step that is safe, and all of whose outs were taken
pub record HasServed {D : Type 0} (old : StoreView D) (history : History) (new : StoreView D) : Type 0 where
  pub history_is : new.history ≡ history
  pub limits : new.limits ≡ old.limits
  pub mark : new.mark ≡ length history
  pub failed : new.failed ≡ false
  pub fulls : new.fulls ≡ old.fulls

-- a store behind a step of which a call of the disk failed
pub record HasFailed {D : Type 0} (old : StoreView D) (history : History) (new : StoreView D) : Type 0 where
  pub history_is : new.history ≡ history
  pub limits : new.limits ≡ old.limits
  pub mark : new.mark ≡ old.mark
  pub failed : new.failed ≡ true
  pub fulls : new.fulls ≡ old.fulls

-- what became of a store whose step isn't served: it is as it was, but for the count, or has the step and failed
abbrev pub IsLeft : {D : Type 0} → StoreView D → History → StoreView D → ServeError → Type 0
IsLeft old history new (Step error) = Becomes old old.history (told old) (fulls_by error old.fulls) new
IsLeft old history new DiskFault = HasFailed old history new

-- why a step isn't served that would lead to this history: it is refused, or else it is taken and can't be written
abbrev pub WhyUnserved : Bool → ℕ → HistorySize → History → ServeError → Type 0
WhyUnserved failed mark limit new (Step error) = IsRefused failed mark limit new error
WhyUnserved failed mark limit new DiskFault = IsTaken failed mark limit new
