-- What an admission leaves of the caller's passes.
use Rattle.std.proofs.Common.{◌≡◌, ℕ, suc, List, [], ◌∷◌, Result, Err, refl, subst, sym}
use Rattle.std.specs.Prelude.{All}
use Rattle.cluster_types.specs.declared.config.Channel.{Channel}
use Rattle.controller_desk.specs.declared.fault.ActError.{ActError}
use Rattle.controller_desk.specs.declared.fault.ActError.TheVariants as refusals
use Rattle.controller_desk.specs.Ups.{ups}
use Rattle.link_messages.specs.Identity.{up_of}
use Rattle.controller_desk.proofs.Seen.{turn_later}
use Rattle.history_lock.specs.declared.known.Content.{Content}
use Rattle.history_lock.specs.declared.known.View.{View}
use Rattle.history_lock.specs.declared.lock.Pass.{Pass}
use Rattle.history_lock.specs.History.{Extends}
use Rattle.history_lock.proofs.Growing.{extends_self}
use Rattle.history_lock.specs.Names.{LockId, known, IsIdle}
use Rattle.controller_threads.specs.Ends.{AdmitCause}
use Rattle.controller_threads.specs.Halts.{RefusalCause}
use Rattle.controller_threads.specs.Passes.{IsLater, IsSince}
use Rattle.controller_threads.proofs.Halting.{refusal_cause}
use Rattle.session_threads.specs.declared.admission.AdmitEnd.{AdmitEnd}
use Rattle.session_threads.specs.declared.admission.AdmitEnd.TheVariants.{NoPass, Act}
use Rattle.session_threads.specs.Admission.{IsFrom, OpensInTurn}
use Rattle.session_threads.proofs.Admitting.{of_from}

-- the pass that opens goes on
pub opens_later : {D : Type 0} (faults : D → ℕ) (u w : View) (channel : Channel) (identity : List ℕ) (result : Result ℕ ActError) → OpensInTurn faults u channel identity result w → Extends u.seen w.seen
opens_later faults u w channel identity result o = subst (λ (c : Content). Extends c w.seen) o.seen (turn_later faults o.left w o.before o.after o.turn)

-- a refusal of the desk has its cause
pub opens_cause : {D : Type 0} (faults : D → ℕ) (start : Content) (u w : View) (channel : Channel) (identity : List ℕ) (e : ActError) → Extends start u.seen → OpensInTurn faults u channel identity (Err e) w → RefusalCause e start w.seen
opens_cause faults start u w channel identity refusals.TooManyConnections on o = tt
opens_cause faults start u w channel identity refusals.Reopen on o = tt
opens_cause faults start u w channel identity (refusals.HistoryFull entries bytes) on o =
    refusal_cause faults start o.left w o.before o.after (up_of (suc (ups o.before.history)) channel o.moment o.word identity) (refusals.HistoryFull entries bytes) (subst (λ (c : Content). Extends start c) (sym o.seen) on) o.turn o.opened.1
opens_cause faults start u w channel identity refusals.OutOfMemory on o = tt

-- a pass that was given has seen what was seen at the start
pub since_from : {T : Type 0} (lock : LockId) (start : Content) (kept : List (Pass T)) (seen : Content) (pass : Pass T) → All (IsSince lock start) kept → IsLater start seen → IsIdle lock pass → IsFrom kept seen pass → IsSince lock start pass
since_from lock start kept seen pass all on idle from = of_from (IsSince lock start) kept seen pass all (λ same. (idle, subst (IsLater start) (sym same) on)) from

-- so has each that is kept
each_since : {T : Type 0} (lock : LockId) (start : Content) (kept : List (Pass T)) (seen : Content) (passes : List (Pass T)) → All (IsSince lock start) kept → IsLater start seen → All (IsIdle lock) passes → All (IsFrom kept seen) passes → All (IsSince lock start) passes
each_since lock start kept seen passes all on idle from = λ place pass within. since_from lock start kept seen _ all on (idle place pass within) (from place pass within)

pub all_since : {T : Type 0} (desk lock : LockId) (start : Content) (kept : List (Pass T)) (seen : Content) (passes : List (Pass T)) → desk ≡ lock → All (IsSince lock start) kept → IsLater start seen → All (IsIdle desk) passes → All (IsFrom kept seen) passes → All (IsSince lock start) passes
all_since desk lock start kept seen passes same all on idle from = each_since lock start kept seen passes all on (subst (λ (l : LockId). All (IsIdle l) passes) same idle) from

each_idle : {T : Type 0} (lock : LockId) (start : Content) (passes : List (Pass T)) → All (IsSince lock start) passes → All (IsIdle lock) passes
each_idle lock start passes all = λ place pass within. (all place pass within).0

pub all_idle : {T : Type 0} (desk lock : LockId) (start : Content) (passes : List (Pass T)) → desk ≡ lock → All (IsSince lock start) passes → All (IsIdle desk) passes
all_idle desk lock start passes same all = subst (λ (l : LockId). All (IsIdle l) passes) (sym same) (each_idle lock start passes all)

-- at a refusal the pass that opens goes on
pub refused_later : {D : Type 0} (faults : D → ℕ) (u w : View) (channel : Channel) (identity : List ℕ) (end : AdmitEnd) → (end ≡ NoPass → w ≡ u) → ((e : ActError) → end ≡ Act e → OpensInTurn faults u channel identity (Err e) w) → Extends u.seen w.seen
refused_later faults u w channel identity NoPass same opens = subst (λ (v : View). Extends u.seen v.seen) (sym (same refl)) (extends_self u.seen)
refused_later faults u w channel identity (Act e) same opens = opens_later faults u w channel identity (Err e) (opens e refl)

-- at a refusal its cause is there
pub admit_cause : {D : Type 0} (faults : D → ℕ) (start : Content) (u w : View) (channel : Channel) (identity : List ℕ) (end : AdmitEnd) → Extends start u.seen → ((e : ActError) → end ≡ Act e → OpensInTurn faults u channel identity (Err e) w) → AdmitCause end start w.seen
admit_cause faults start u w channel identity NoPass on opens = tt
admit_cause faults start u w channel identity (Act e) on opens = opens_cause faults start u w channel identity e on (opens e refl)
