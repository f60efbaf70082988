-- What entries that have records are, and that they keep them where a purge lets go of what is in them.
use Rattle.std.proofs.Common.{◌≡◌, ℕ, ◌<◌, ◌^◌, Bool, true, false, List, [], ◌∷◌, ◌++◌, length, All, Option, Some, None, reverse, refl, sym, subst, arith}
use Rattle.std.specs.Prelude.{◌&&◌, if◌then◌else◌}
use Rattle.std.proofs.lemmas.List.{reverse-append}
use Rattle.std.proofs.lemmas.List.Elements.{All-nil, All-cons, All-head, All-tail, All-push, All-weaker}
use Rattle.cluster_types.specs.declared.message.Message.{Message}
use Rattle.cluster_types.specs.declared.event.Event.{Event}
use Rattle.cluster_types.specs.declared.event.Event.TheVariants.{Reply}
use Rattle.cluster_types.specs.declared.entry.Input.TheVariants.{Open, Up, Down, In, Beat, Time}
use Rattle.cluster_types.specs.declared.entry.Entry.{Entry}
use Rattle.cluster_types.specs.declared.entry.Entry.TheVariants.{Input, Hand, Settle, Lose}
use Rattle.cluster_defs.specs.Words.{Id}
use Rattle.cluster_defs.specs.Tasks.{counts}
use Rattle.cluster_defs.specs.Facts.{Facts, event_in}
use Rattle.cluster_defs.specs.Acceptance.{Demand, accepted}
use Rattle.cluster_defs.specs.Histories.{History, facts}
use Rattle.cluster_defs.specs.Thin.{no_content, short_reply, with_content, thin_request, thin_reply, thin_entry, thin_by, let_go, thin}
use Rattle.cluster_state.specs.Plain.{InTime}
use Rattle.record_codec.specs.Spelling.{IsShort, HasRecord}
use Rattle.database_text.specs.Compacted.{thin_list}

content_short : (content : List ℕ) (m : Message) → length content < 2 ^ 32 → IsShort m → IsShort (with_content content m)
content_short content m lt short = record {
  target = short.target;
  header = short.header;
  parent = short.parent;
  metadata = short.metadata;
  content = lt;
  number = omega arith;
  buffers = All-nil (λ buffer. length buffer < 2 ^ 32);
}

none_short : length no_content < 2 ^ 32
unfolding no_content
none_short = omega arith

reply_length : (ok : Bool) → length (short_reply ok) < 2 ^ 32
unfolding short_reply
reply_length true = omega arith
reply_length false = omega arith

if_short : (b : Bool) (content : List ℕ) (m : Message) → length content < 2 ^ 32 → IsShort m → IsShort (if b then with_content content m else m)
if_short true content m lt short = content_short content m lt short
if_short false content m lt short = short

request_short : (gone : Id → Bool) (demand : Option Demand) (m : Message) → IsShort m → IsShort (thin_request gone demand m)
request_short gone None m short = short
request_short gone (Some d) m short = if_short (gone d.submission.id) no_content m none_short short

reply_short : (purged : Id → Bool) (f : Facts) (conn : ℕ) (event : Option Event) (m : Message) → IsShort m → IsShort (thin_reply purged f conn event m)
reply_short purged f conn (Some (Reply task header ok declined)) m short = if_short (purged task && counts f.engines.live conn header (f.task task)) (short_reply ok) m (reply_length ok) short
reply_short purged f conn _ m short = short

entry_has : (gone purged : Id → Bool) (f : Facts) (e : Entry) (event : Option Event) → HasRecord e → HasRecord (thin_entry gone purged f e event)
entry_has gone purged f (Input (In conn moment word m)) event has =
    ((has.0.0, reply_short purged f conn event (thin_request gone (accepted f m event) m) (request_short gone (accepted f m event) m has.0.1)), has.1)
entry_has gone purged f e event has = has

by_has : (gone purged : Id → Bool) (history : History) → All HasRecord history → All HasRecord (thin_by gone purged history)
by_has gone purged [] each = All-nil HasRecord
by_has gone purged (e ∷ older) each =
    All-cons HasRecord (thin_entry gone purged (facts older) e (event_in (facts older) e)) (thin_by gone purged older)
    (entry_has gone purged (facts older) e (event_in (facts older) e) (All-head HasRecord e older each)) (by_has gone purged older (All-tail HasRecord e older each))

all_reverse : (list : List Entry) → All HasRecord list → All HasRecord (reverse list)
all_reverse [] each = All-nil HasRecord
all_reverse (e ∷ list) each =
    subst (λ (z : List Entry). All HasRecord z) (sym (reverse-append (e ∷ []) list)) (All-push HasRecord (reverse list) e (all_reverse list (All-tail HasRecord e list each)) (All-head HasRecord e list each))

pub thin_has : (list : List Entry) → All HasRecord list → All HasRecord (thin_list list)
unfolding thin_list
thin_has list each = all_reverse (thin (reverse list)) (by_has (let_go (reverse list)) (facts (reverse list)).purged (reverse list) (all_reverse list each))

in_time : (e : Entry) → HasRecord e → InTime e
in_time (Input (Open moment scheme hwm misses)) has = has.0
in_time (Input (Up conn channel moment word identity)) has = has.0.0
in_time (Input (Down conn moment word)) has = has.0
in_time (Input (In conn moment word m)) has = has.0.0
in_time (Input (Beat moment word)) has = has.0
in_time (Input (Time moment word)) has = has.0
in_time (Hand id engine) has = tt
in_time (Settle id verdict cause) has = tt
in_time (Lose engine) has = tt

pub all_in_time : (list : List Entry) → All HasRecord list → All InTime list
all_in_time list each = All-weaker HasRecord InTime in_time list each
