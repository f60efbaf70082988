-- Why a desk halts its controller.
use Rattle.std.proofs.Common.{◌≡◌, ℕ, ◌≤◌, List, [], ◌∷◌, ◌++◌, Bool, true, false, ◌||◌, ◌&&◌, Result, Ok, Err, refl, sym, ap, subst, arith, le_refl}
use Rattle.std.proofs.lemmas.Bool.Decides.{nat_tests}
use Rattle.std.specs.Prelude.{Option, Some, None, IfErr, IfSome}
use Rattle.std.specs.List.{list_any}
use Rattle.cluster_types.specs.Causes.{Rose}
use Rattle.cluster_types.specs.declared.entry.Input.{Input as InputType}
use Rattle.cluster_types.specs.declared.entry.Input.TheVariants.{Open, Up, Down, In, Beat, Time}
use Rattle.cluster_types.specs.declared.entry.Entry.{Entry}
use Rattle.cluster_types.specs.declared.entry.Entry.TheVariants.{Input, Hand, Settle, Lose}
use Rattle.cluster_defs.specs.Facts.{event_in}
use Rattle.cluster_defs.specs.Histories.{History, facts, asks_shutdown, is_stopping}
use Rattle.cluster_core.specs.declared.size.HistorySize.{HistorySize}
use Rattle.cluster_core.specs.Size.{is_past}
use Rattle.cluster_store.specs.Stores.{StoreView}
use Rattle.controller_desk.specs.declared.fault.ActError.{ActError}
use Rattle.controller_desk.specs.declared.fault.ActError.TheVariants as refusals
use Rattle.controller_desk.specs.Calls.{IsRefusedAs, HasTried, HasFlushed}
use Rattle.controller_desk.specs.Contents.{faults_seen, fulls_seen, limits_seen}
use Rattle.controller_desk.specs.Turns.{InTurn}
use Rattle.controller_desk.proofs.Seen.{past_lower, full_cause}
use Rattle.history_lock.specs.declared.known.Content.{Content}
use Rattle.history_lock.specs.declared.known.View.{View}
use Rattle.history_lock.specs.History.{is_open_entry, Extends}
use Rattle.task_journal.specs.declared.fault.AppendFault.{AppendFault}
use Rattle.task_journal.specs.declared.fault.AppendFault.TheVariants as appends
use Rattle.controller_threads.specs.declared.halt.Halt.{Halt}
use Rattle.controller_threads.specs.declared.halt.Halt.TheVariants as halts
use Rattle.controller_threads.specs.declared.stop.ServeStop.{ServeStop}
use Rattle.controller_threads.specs.Halts.{has_risen, HaltCause, RefusalCause, StopCause, StopsAtStart}
use Rattle.std.proofs.lemmas.Bool.{or_right, and_from}
use Rattle.cluster_types.proofs.Booleans.{or_off_left, or_off_right, and_left}

-- A SHUTDOWN STAYS ASKED

entry_keeps : (e : Entry) (older : History) → is_open_entry e ≡ false → is_stopping older ≡ true → is_stopping (e ∷ older) ≡ true
entry_keeps (Input (Open moment scheme hwm misses)) older off is = cc
entry_keeps (Input (Up conn channel moment word identity)) older off is = or_right (asks_shutdown (event_in (facts older) (Input (Up conn channel moment word identity)))) (is_stopping older) is
entry_keeps (Input (Down conn moment word)) older off is = or_right (asks_shutdown (event_in (facts older) (Input (Down conn moment word)))) (is_stopping older) is
entry_keeps (Input (In conn moment word m)) older off is = or_right (asks_shutdown (event_in (facts older) (Input (In conn moment word m)))) (is_stopping older) is
entry_keeps (Input (Beat moment word)) older off is = or_right (asks_shutdown (event_in (facts older) (Input (Beat moment word)))) (is_stopping older) is
entry_keeps (Input (Time moment word)) older off is = or_right (asks_shutdown (event_in (facts older) (Input (Time moment word)))) (is_stopping older) is
entry_keeps (Hand id n) older off is = or_right (asks_shutdown (event_in (facts older) (Hand id n))) (is_stopping older) is
entry_keeps (Settle id v c) older off is = or_right (asks_shutdown (event_in (facts older) (Settle id v c))) (is_stopping older) is
entry_keeps (Lose n) older off is = or_right (asks_shutdown (event_in (facts older) (Lose n))) (is_stopping older) is

entries_keep : (es old : History) → list_any is_open_entry es ≡ false → is_stopping old ≡ true → is_stopping (es ++ old) ≡ true
entries_keep [] old off is = is
entries_keep (e ∷ es) old off is =
    entry_keeps e (es ++ old) (or_off_left (is_open_entry e) (list_any is_open_entry es) off) (entries_keep es old (or_off_right (is_open_entry e) (list_any is_open_entry es) off) is)

pub still_stopping : (a b : Content) → Extends a b → is_stopping a.list ≡ true → is_stopping b.list ≡ true
still_stopping a b on is = subst (λ (h : History). is_stopping h ≡ true) (sym on.list) (entries_keep on.beyond a.list on.no_open is)

-- CAUSES LAST

and_right : (a b : Bool) → (a && b) ≡ true → b ≡ true
and_right true b is = is
and_right false b is = cc

risen_later : (a b c : ℕ) → has_risen a b ≡ true → b ≤ c → has_risen a c ≡ true
risen_later a b c risen more = grind (arith, nat_tests)

risen_since : (a b c d : ℕ) → a ≤ b → Rose b c → c ≤ d → has_risen a d ≡ true
risen_since a b c d less rose more = grind (arith, nat_tests)

pub halt_later : (halt : Halt) (start a b : Content) → HaltCause halt start a → Extends a b → HaltCause halt start b
halt_later halts.Stopping start a b cause on = still_stopping a b on cause
halt_later halts.DiskFault start a b cause on = risen_later (faults_seen start) (faults_seen a) (faults_seen b) cause (on.counts 0)
halt_later (halts.HistoryFull entries bytes) start a b cause on =
    and_from _ _ (risen_later (fulls_seen start) (fulls_seen a) (fulls_seen b) (and_left _ _ cause) (on.counts 2)) (and_right (has_risen (fulls_seen start) (fulls_seen a)) _ cause)

pub halts_later : (halt : Option Halt) (start a b : Content) → IfSome halt (λ h. HaltCause h start a) → Extends a b → IfSome halt (λ h. HaltCause h start b)
halts_later None start a b cause on = tt
halts_later (Some halt) start a b cause on = halt_later halt start a b cause on

-- CALLS

pub full_halt : (entries bytes : ℕ) (start : Content) (u w : View) → Extends start u.seen → Rose (fulls_seen u.seen) (fulls_seen w.seen) × (is_past (limits_seen u.seen) (record { entries = entries; bytes = bytes }) ≡ true) →
    HaltCause (halts.HistoryFull entries bytes) start w.seen
full_halt entries bytes start u w on cause =
    and_from _ _ (risen_since (fulls_seen start) (fulls_seen u.seen) (fulls_seen w.seen) (fulls_seen w.seen) (on.counts 2) cause.0 (le_refl _))
    (past_lower (limits_seen start) (limits_seen u.seen) (record { entries = entries; bytes = bytes }) (on.counts 4) (on.counts 5) cause.1)

pub refusal_cause : {D : Type 0} (faults : D → ℕ) (start : Content) (u w : View) (before after : StoreView D) (input : InputType) (e : ActError) → Extends start u.seen → InTurn faults u before after w → IsRefusedAs before input e after → RefusalCause e start w.seen
refusal_cause faults start u w before after input (refusals.HistoryFull entries bytes) on turn refused =
    full_halt entries bytes start u w on
    (full_cause faults u w before after (record { entries = entries; bytes = bytes }) turn refused.becomes.fulls_are (subst (λ (s : HistorySize). is_past before.limits s ≡ true) (sym refused.size_is) refused.past))
refusal_cause faults start u w before after input refusals.TooManyConnections on turn refused = tt
refusal_cause faults start u w before after input refusals.Reopen on turn refused = tt
refusal_cause faults start u w before after input refusals.OutOfMemory on turn refused = tt

pub tried_cause : {A D : Type 0} (faults : D → ℕ) (start : Content) (u w : View) (before after : StoreView D) (input : InputType) (tried : Result A ActError) → Extends start u.seen → InTurn faults u before after w → HasTried before input tried after
    → IfErr tried (λ e. RefusalCause e start w.seen)
tried_cause faults start u w before after input (Ok x) on turn t = tt
tried_cause faults start u w before after input (Err e) on turn t = refusal_cause faults start u w before after input e on turn t

pub flush_cause : {A D : Type 0} (faults : D → ℕ) (start : Content) (u w : View) (before after : StoreView D) (flushed : Result A AppendFault) → Extends start u.seen → InTurn faults u before after w → HasFlushed faults before flushed after
    → flushed ≡ Err appends.DiskFault → HaltCause halts.DiskFault start w.seen
flush_cause faults start u w before after flushed on turn f is =
    let seen : faults_seen w.seen ≡ faults after.disk = ap faults_seen turn.seen in
    let less = on.counts 0 in
    let more : faults_seen u.seen ≤ faults before.disk = turn.adds.later.counts 0 in
    risen_since (faults_seen start) (faults before.disk) (faults after.disk) (faults_seen w.seen) (omega (arith, less, more)) (f.cause is) (omega (arith, seen))

-- STARTS

pub stops_at_start : {A P : Type 0} (result : Result A (ServeStop P)) (faults : P → ℕ) (start seen : Content) (before now : ℕ) → IfErr result (λ stop. StopsAtStart before now stop) → IfErr result (λ stop. StopCause faults start seen before now stop)
stops_at_start (Ok x) faults start seen before now all = tt
stops_at_start (Err stop) faults start seen before now all = all faults start seen
