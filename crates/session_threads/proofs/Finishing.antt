-- The end of a session, behind its Down.
use Rattle.std.proofs.Common.{◌≡◌, ◌⊎◌, inl, inr, ℕ, [], false, refl, sym, subst}
use Rattle.cluster_types.specs.declared.entry.Input.{Input as InputType}
use Rattle.cluster_store.specs.Stores.{StoreView, is_live}
use Rattle.history_lock.specs.declared.known.View.{View}
use Rattle.history_lock.specs.History.{Extends}
use Rattle.controller_desk.specs.declared.fault.ActError.{ActError}
use Rattle.controller_desk.specs.declared.fault.ActError.TheVariants as refusals
use Rattle.controller_desk.specs.Calls.{IsRefusedAs}
use Rattle.controller_desk.specs.Turns.{InTurn}
use Rattle.link_messages.specs.declared.end.SessionEnd.{SessionEnd}
use Rattle.link_messages.specs.declared.end.SessionEnd.TheVariants as ends
use Rattle.session_threads.specs.Ends.{IsEndOf, EndsStream, KeepsEnd, IsRefusedEnd, HasDeskCause}
use Rattle.controller_desk.specs.Contents.{Rests}
use Rattle.session_threads.specs.Reading.{TakesDown}
use Rattle.session_threads.proofs.Causes.{refused_cause, cause_since, cause_until}
use Rattle.session_threads.proofs.Turns.{adds_none}

pub keeps_itself : (end : SessionEnd) → KeepsEnd end end
keeps_itself ends.Ended = refl
keeps_itself ends.Closed = refl
keeps_itself ends.LinkFault = refl
keeps_itself (ends.ZmtpFault fault) = refl
keeps_itself (ends.HistoryFull entries bytes) = tt
keeps_itself ends.Reopen = tt
keeps_itself ends.OutOfMemory = tt

keeps_refusal : (end : SessionEnd) (e : ActError) (result : SessionEnd) → IsEndOf e result → KeepsEnd end result
keeps_refusal end refusals.TooManyConnections result is = absurd is
keeps_refusal end refusals.Reopen result is = subst (KeepsEnd end) (sym is) tt
keeps_refusal end (refusals.HistoryFull entries bytes) result is = subst (KeepsEnd end) (sym is) tt
keeps_refusal end refusals.OutOfMemory result is = subst (KeepsEnd end) (sym is) tt

keeps_same : (end result : SessionEnd) → result ≡ end → KeepsEnd end result
keeps_same end result is = subst (KeepsEnd end) (sym is) (keeps_itself end)

pub keeps_refused : (end : SessionEnd) (e : ActError) (result : SessionEnd) → IsRefusedEnd end e result → KeepsEnd end result
keeps_refused ends.Ended e result is = keeps_refusal ends.Ended e result is
keeps_refused ends.LinkFault e result is = keeps_refusal ends.LinkFault e result is
keeps_refused (ends.ZmtpFault fault) e result is = keeps_refusal (ends.ZmtpFault fault) e result is
keeps_refused ends.Closed e result is = keeps_same ends.Closed result is
keeps_refused (ends.HistoryFull entries bytes) e result is = keeps_same (ends.HistoryFull entries bytes) result is
keeps_refused ends.Reopen e result is = keeps_same ends.Reopen result is
keeps_refused ends.OutOfMemory e result is = keeps_same ends.OutOfMemory result is

no_stream : (e : ActError) (result : SessionEnd) → IsEndOf e result → EndsStream result → ⊥
no_stream refusals.TooManyConnections result is s = absurd is
no_stream refusals.Reopen result is s = absurd (subst EndsStream is s)
no_stream (refusals.HistoryFull entries bytes) result is s = absurd (subst EndsStream is s)
no_stream refusals.OutOfMemory result is s = absurd (subst EndsStream is s)

pub refused_no_stream : (end : SessionEnd) (e : ActError) (result : SessionEnd) → IsRefusedEnd end e result → EndsStream result → ⊥
refused_no_stream ends.Ended e result is s = no_stream e result is s
refused_no_stream ends.LinkFault e result is s = no_stream e result is s
refused_no_stream (ends.ZmtpFault fault) e result is s = no_stream e result is s
refused_no_stream ends.Closed e result is s = absurd (subst EndsStream is s)
refused_no_stream (ends.HistoryFull entries bytes) e result is s = absurd (subst EndsStream is s)
refused_no_stream ends.Reopen e result is s = absurd (subst EndsStream is s)
refused_no_stream ends.OutOfMemory e result is s = absurd (subst EndsStream is s)

pub refused_why : {D : Type 0} (faults : D → ℕ) (u w : View) (before after : StoreView D) (input : InputType) (end : SessionEnd) (e : ActError) (result : SessionEnd) →
    InTurn faults u before after w → IsRefusedAs before input e after → IsRefusedEnd end e result → (result ≡ end) ⊎ HasDeskCause result u w
refused_why faults u w before after input ends.Ended e result t r is = inr (refused_cause faults u w before after input e result t r is)
refused_why faults u w before after input ends.LinkFault e result t r is = inr (refused_cause faults u w before after input e result t r is)
refused_why faults u w before after input (ends.ZmtpFault fault) e result t r is = inr (refused_cause faults u w before after input e result t r is)
refused_why faults u w before after input ends.Closed e result t r is = inl is
refused_why faults u w before after input (ends.HistoryFull entries bytes) e result t r is = inl is
refused_why faults u w before after input ends.Reopen e result t r is = inl is
refused_why faults u w before after input ends.OutOfMemory e result t r is = inl is

pub down_none : (conn : ℕ) (v : View) → TakesDown conn v v
down_none conn v = record { entries = []; adds = adds_none v; is_down = tt }

-- the causes of the whole session
pub cause_of_both : (end result : SessionEnd) (u v w : View) → Extends u.seen v.seen → Extends v.seen w.seen → HasDeskCause end u v → (result ≡ end) ⊎ HasDeskCause result v w → HasDeskCause result u w
cause_of_both end result u v w first second heard (inl is) = subst (λ (e : SessionEnd). HasDeskCause e u w) (sym is) (cause_until end u v w heard second)
cause_of_both end result u v w first second heard (inr down) = cause_since result u v w first down

pub rests_of_both : (end : SessionEnd) (v w : View) → (end ≡ ends.Closed → Rests v.seen) → (end ≡ ends.Closed → w ≡ v) → (end ≡ ends.Closed) ⊎ Rests w.seen → Rests w.seen
rests_of_both end v w heard same (inl is) = subst (λ (x : View). Rests x.seen) (sym (same is)) (heard is)
rests_of_both end v w heard same (inr rests) = rests

pub gone_of_both : (end : SessionEnd) (conn : ℕ) (v w : View) → is_live v.seen.list conn ≡ false → w ≡ v → is_live w.seen.list conn ≡ false
gone_of_both end conn v w off same = subst (λ (x : View). is_live x.seen.list conn ≡ false) (sym same) off
