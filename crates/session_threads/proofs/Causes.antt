-- Why sessions end, over what a pass has seen.
use Rattle.std.proofs.Common.{◌≡◌, ℕ, true, sym, ap, ◌∙◌, subst, arith}
use Rattle.cluster_types.specs.declared.entry.Input.{Input as InputType}
use Rattle.cluster_core.specs.declared.size.HistorySize.{HistorySize}
use Rattle.cluster_core.specs.Size.{is_past}
use Rattle.cluster_store.specs.Stores.{StoreView}
use Rattle.history_lock.specs.declared.known.View.{View}
use Rattle.history_lock.specs.History.{Extends}
use Rattle.history_lock.proofs.Growing.{extends_self}
use Rattle.controller_desk.specs.declared.fault.ActError.{ActError}
use Rattle.controller_desk.specs.declared.fault.ActError.TheVariants as refusals
use Rattle.controller_desk.specs.Calls.{IsRefusedAs}
use Rattle.controller_desk.specs.Contents.{flag, fulls_seen, failed_seen, limits_seen}
use Rattle.controller_desk.specs.Turns.{InTurn}
use Rattle.controller_desk.proofs.Seen.{rose_wider, past_lower, full_cause}
use Rattle.link_messages.specs.declared.end.SessionEnd.{SessionEnd}
use Rattle.link_messages.specs.declared.end.SessionEnd.TheVariants as ends
use Rattle.session_threads.specs.Ends.{IsEndOf, HasDeskCause}

pub cause_within : (end : SessionEnd) (u v w x : View) → Extends u.seen v.seen → HasDeskCause end v w → Extends w.seen x.seen → HasDeskCause end u x
cause_within (ends.HistoryFull entries bytes) u v w x before c after = (
  rose_wider (fulls_seen u.seen) (fulls_seen v.seen) (fulls_seen w.seen) (fulls_seen x.seen) (before.counts 2) c.0 (after.counts 2),
  past_lower (limits_seen u.seen) (limits_seen v.seen) (record { entries = entries; bytes = bytes }) (before.counts 4) (before.counts 5) c.1,
)
cause_within ends.Reopen u v w x before c after = let more = after.counts 3 in omega (arith, c, more)
cause_within ends.Ended u v w x before c after = tt
cause_within ends.Closed u v w x before c after = tt
cause_within ends.LinkFault u v w x before c after = tt
cause_within (ends.ZmtpFault fault) u v w x before c after = tt
cause_within ends.OutOfMemory u v w x before c after = tt

-- a step that is refused
pub refused_cause : {D : Type 0} (faults : D → ℕ) (u w : View) (before after : StoreView D) (input : InputType) (e : ActError) (end : SessionEnd) → InTurn faults u before after w → IsRefusedAs before input e after → IsEndOf e end → HasDeskCause end u w
refused_cause faults u w before after input refusals.TooManyConnections end t r is = absurd r
refused_cause faults u w before after input refusals.Reopen end t r is =
    let failed : failed_seen w.seen ≡ flag after.failed = ap failed_seen t.seen in
    let same : flag after.failed ≡ 1 = ap flag (r.1.failed ∙ r.0) in
    subst (λ (x : SessionEnd). HasDeskCause x u w) (sym is) (omega (arith, failed, same))
refused_cause faults u w before after input (refusals.HistoryFull entries bytes) end t r is =
    subst (λ (x : SessionEnd). HasDeskCause x u w) (sym is) (full_cause faults u w before after (record { entries = entries; bytes = bytes }) t r.becomes.fulls_are (subst (λ (s : HistorySize). is_past before.limits s ≡ true) (sym r.size_is) r.past))
refused_cause faults u w before after input refusals.OutOfMemory end t r is = subst (λ (x : SessionEnd). HasDeskCause x u w) (sym is) tt

pub cause_since : (end : SessionEnd) (u v w : View) → Extends u.seen v.seen → HasDeskCause end v w → HasDeskCause end u w
cause_since end u v w on c = cause_within end u v w w on c (extends_self w.seen)

pub cause_until : (end : SessionEnd) (u v w : View) → HasDeskCause end u v → Extends v.seen w.seen → HasDeskCause end u w
cause_until end u v w c on = cause_within end u u v w (extends_self u.seen) c on
