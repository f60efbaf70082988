-- What the calls of a desk make of its store.
use Rattle.std.specs.Prelude.{◌≡◌, ◌≢◌, ◌↔◌, ◌≤◌, ◌<◌, ◌+◌, ◌-◌, ◌^◌, min, ℕ, suc, List, ◌∷◌, ◌++◌, length, Bool, true, false, Result, Ok, Err, Some, None, is_err, OnOk, OnErr}
use Rattle.std.specs.List.{list_any}
use Rattle.cluster_types.specs.Causes.{Rose}
use Rattle.cluster_types.specs.declared.config.Channel.{Channel}
use Rattle.cluster_types.specs.declared.message.Message.{Message}
use Rattle.cluster_types.specs.declared.entry.Input.{Input as InputType}
use Rattle.cluster_types.specs.declared.entry.Input.TheVariants.{Down, In}
use Rattle.cluster_types.specs.declared.entry.Entry.{Entry}
use Rattle.cluster_types.specs.declared.entry.Entry.TheVariants.{Input}
use Rattle.cluster_defs.specs.Histories.{History, facts, decide_all}
use Rattle.cluster_core.specs.declared.size.HistorySize.{HistorySize}
use Rattle.cluster_core.specs.Size.{size_since, is_past}
use Rattle.cluster_store.specs.declared.taken.Taken.{Taken}
use Rattle.cluster_store.specs.Stores.{StoreView, Becomes, told, answer, is_live, next_to, told_by}
use Rattle.cluster_store.specs.Queues.{is_news}
use Rattle.task_journal.specs.declared.fault.AppendFault.{AppendFault}
use Rattle.task_journal.specs.declared.fault.AppendFault.TheVariants as appends
use Rattle.controller_desk.specs.declared.acted.Acted.{Acted}
use Rattle.controller_desk.specs.declared.acted.Acted.TheVariants.{Entered, Junk, Gone}
use Rattle.controller_desk.specs.declared.fault.ActError.{ActError}
use Rattle.controller_desk.specs.declared.fault.ActError.TheVariants.{TooManyConnections, Reopen, HistoryFull, OutOfMemory}
use Rattle.controller_desk.specs.Readings.{heard, IsHeard}
use Rattle.controller_desk.specs.Ups.{ups}
use Rattle.link_messages.specs.Identity.{up_of}

abbrev pub is_input : Entry → Bool
is_input (Input input) = true
is_input _ = false

-- A STEP

-- the history with an input, and with all decisions that are then due
abbrev pub behind : History → InputType → History
behind history input = decide_all (Input input ∷ history)

-- a step was taken: the history has the input and all decisions that were then due, and all else stays
pub record HasStepped {D : Type 0} (old : StoreView D) (input : InputType) (new : StoreView D) : Type 0 where
  pub becomes : Becomes old (behind old.history input) (told old) old.fulls new
  pub decisions : List Entry
  pub list : new.history ≡ decisions ++ Input input ∷ old.history
  pub no_inputs : list_any is_input decisions ≡ false
  pub working : old.failed ≡ false
  pub within : is_past old.limits (size_since (behind old.history input)) ≡ false

-- history, mark, limits, counts and disk stay
abbrev pub Stays : {D : Type 0} → StoreView D → StoreView D → Type 0
Stays old new = Becomes old old.history (told old) old.fulls new

-- a step that passes a limit is counted, and nothing else
pub record IsFull {D : Type 0} (old : StoreView D) (input : InputType) (size : HistorySize) (new : StoreView D) : Type 0 where
  pub becomes : Becomes old old.history (told old) (min (old.fulls + 1) (2 ^ 64 - 1)) new
  pub working : old.failed ≡ false
  pub size_is : size ≡ size_since (behind old.history input)
  pub past : is_past old.limits (size_since (behind old.history input)) ≡ true

-- why a step isn't taken, and what it leaves
abbrev pub IsRefusedAs : {D : Type 0} → StoreView D → InputType → ActError → StoreView D → Type 0
IsRefusedAs old input TooManyConnections new = ⊥
IsRefusedAs old input Reopen new = (old.failed ≡ true) × Stays old new
IsRefusedAs old input (HistoryFull entries bytes) new = IsFull old input (record { entries = entries; bytes = bytes }) new
IsRefusedAs old input OutOfMemory new = Stays old new

-- what a call leaves that takes the step of an input
abbrev pub HasTried : {A D : Type 0} → StoreView D → InputType → Result A ActError → StoreView D → Type 0
HasTried old input (Ok x) new = HasStepped old input new
HasTried old input (Err e) new = IsRefusedAs old input e new

-- THE CALLS

-- a message: gone where its connection isn't live, else junk where it means nothing there, else a step
abbrev pub HasActed : {D : Type 0} → StoreView D → ℕ → ℕ → ℕ → Message → Result Acted ActError → StoreView D → Type 0
HasActed old moment word conn message (Ok Entered) new = IsHeard old.history conn message × HasStepped old (In conn moment word message) new
HasActed old moment word conn message (Ok (Junk reason)) new = (heard old.history conn message ≡ Some (Err reason)) × (new ≡ old)
HasActed old moment word conn message (Ok Gone) new = (heard old.history conn message ≡ None) × (new ≡ old)
HasActed old moment word conn message (Err e) new = IsRefusedAs old (In conn moment word message) e new × (e ≢ OutOfMemory → IsHeard old.history conn message)

-- how many connections are live
abbrev pub live_conns : {D : Type 0} → StoreView D → ℕ
live_conns v = length (facts v.history).connections

-- a connection that comes up: refused where 1,024 are live, else a step with the next number
abbrev pub HasOpened : {D : Type 0} → StoreView D → ℕ → ℕ → Channel → List ℕ → Result ℕ ActError → StoreView D → Type 0
HasOpened old moment word channel identity (Ok conn) new =
    (conn ≡ suc (ups old.history)) × (live_conns old < 1024) × HasStepped old (up_of conn channel moment word identity) new
HasOpened old moment word channel identity (Err TooManyConnections) new = (1024 ≤ live_conns old) × (new ≡ old)
HasOpened old moment word channel identity (Err Reopen) new =
    (live_conns old < 1024) × IsRefusedAs old (up_of (suc (ups old.history)) channel moment word identity) Reopen new
HasOpened old moment word channel identity (Err (HistoryFull entries bytes)) new =
    (live_conns old < 1024) × IsRefusedAs old (up_of (suc (ups old.history)) channel moment word identity) (HistoryFull entries bytes) new
HasOpened old moment word channel identity (Err OutOfMemory) new = (live_conns old < 1024) × Stays old new

-- a connection that goes down, where it is live
abbrev pub HasClosed : {D : Type 0} → StoreView D → ℕ → ℕ → ℕ → Result Bool ActError → StoreView D → Type 0
HasClosed old moment word conn (Ok true) new = (is_live old.history conn ≡ true) × HasStepped old (Down conn moment word) new
HasClosed old moment word conn (Ok false) new = (is_live old.history conn ≡ false) × (new ≡ old)
HasClosed old moment word conn (Err e) new = (is_live old.history conn ≡ true) × IsRefusedAs old (Down conn moment word) e new

-- a take: the next out to a connection, where all that is kept up to its entry is safe
pub record HasTaken {D : Type 0} (old : StoreView D) (conn : ℕ) (taken : Taken) (new : StoreView D) : Type 0 where
  pub answered : taken ≡ answer (is_live old.history conn) old.mark (next_to old conn)
  pub becomes : Becomes old old.history (told_by taken conn (told old)) old.fulls new

-- a take for a connection would answer anything but that there is none yet
abbrev pub has_news : {D : Type 0} → StoreView D → ℕ → Bool
has_news v conn = is_news (answer (is_live v.history conn) v.mark (next_to v conn))

-- a flush: all is safe, or the mark stays
pub record HasFlushed {A D : Type 0} (faults : D → ℕ) (old : StoreView D) (result : Result A AppendFault) (new : StoreView D) : Type 0 where
  pub history : new.history ≡ old.history
  pub limits : new.limits ≡ old.limits
  pub told_are : (c : ℕ) → told new c ≡ told old c
  pub fulls : new.fulls ≡ old.fulls
  pub fits : old.mark ≤ length old.history
  pub ok : OnOk result (new.mark ≡ length old.history)
  pub err : OnErr result (new.mark ≡ old.mark)
  pub failed : new.failed ≡ is_err result
  pub reopen : (result ≡ Err appends.Reopen) ↔ (old.failed ≡ true)
  pub later : faults old.disk ≤ faults new.disk
  pub cause : result ≡ Err appends.DiskFault → Rose (faults old.disk) (faults new.disk)

-- what stands behind the journal is cut off, or the disk fails; all else stays
pub record HasTrimmed {A D : Type 0} (faults : D → ℕ) (old : StoreView D) (result : Result A AppendFault) (new : StoreView D) : Type 0 where
  pub same : new ≡ record old { disk = new.disk; failed = is_err result }
  pub reopen : (result ≡ Err appends.Reopen) ↔ (old.failed ≡ true)
  pub later : faults old.disk ≤ faults new.disk
  pub cause : result ≡ Err appends.DiskFault → Rose (faults old.disk) (faults new.disk)
