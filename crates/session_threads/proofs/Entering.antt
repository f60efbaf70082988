-- Messages that are entered, one after another.
use Rattle.std.proofs.Common.{◌≡◌, ◌≢◌, ℕ, suc, ◌+◌, ◌<◌, List, [], ◌∷◌, ◌++◌, length, take, drop, get_or, false, Option, Some, None, Result, Ok, Err, refl, sym, ap, ◌∙◌, subst, arith, append_assoc, take-suc}
use Rattle.std.specs.Prelude.{option_map}
use Rattle.std.specs.Option.{is_some}
use Rattle.std.proofs.lemmas.List.{append-nil, take-append-drop}
use Rattle.cluster_types.specs.declared.message.Message.{Message}
use Rattle.cluster_types.specs.declared.event.Event.{Event}
use Rattle.cluster_types.specs.declared.event.Reason.{Reason}
use Rattle.cluster_types.specs.declared.entry.Input.{Input as InputType}
use Rattle.cluster_types.specs.declared.entry.Input.TheVariants.{In}
use Rattle.cluster_types.specs.declared.entry.Entry.{Entry}
use Rattle.cluster_defs.specs.Event.{event_of}
use Rattle.cluster_defs.specs.Connections.{channel_on}
use Rattle.cluster_defs.specs.Histories.{History, facts}
use Rattle.cluster_store.specs.Stores.{StoreView, is_live}
use Rattle.history_lock.specs.declared.known.Content.{Content}
use Rattle.history_lock.specs.declared.known.View.{View}
use Rattle.history_lock.specs.History.{Extends}
use Rattle.history_lock.proofs.Growing.{extends_self, extends_on}
use Rattle.controller_desk.specs.declared.acted.Acted.TheVariants as acts
use Rattle.controller_desk.specs.declared.fault.ActError.{ActError}
use Rattle.controller_desk.specs.declared.fault.ActError.TheVariants as refusals
use Rattle.controller_desk.specs.Calls.{IsRefusedAs, HasActed}
use Rattle.controller_desk.specs.Contents.{content_of}
use Rattle.controller_desk.specs.Readings.{heard}
use Rattle.controller_desk.specs.Turns.{InTurn}
use Rattle.jupyter_parts.specs.Signed.{read_parts}
use Rattle.link_messages.specs.declared.end.SessionEnd.{SessionEnd}
use Rattle.link_messages.specs.declared.end.SessionEnd.TheVariants as ends
use Rattle.session_threads.specs.Ends.{IsEndOf, EndsHearing}
use Rattle.session_threads.specs.Passes.{AddsBehind, inputs_among}
use Rattle.session_threads.specs.Reading.{IsEnteredAs, IsEntered, HearsAs, HearAll, Entered, EnteredFront}
use Rattle.link_messages.specs.Message.{signed}
use Rattle.session_threads.proofs.Turns.{adds_none, adds_more, entries_of, turn_adds, turn_list, inputs_append, step_inputs, stay_adds}

-- CHAINS

hears_from : (conn : ℕ) (u v w : Content) (o : Option Message) (is : List InputType) → Extends u v → HearsAs conn v o is w → HearsAs conn u o is w
hears_from conn u v w (Some m) is on h = record { before = h.before; later = extends_on u v h.before on h.later; meant = h.meant; extends = h.extends }
hears_from conn u v w None is on h = (h.0, extends_on u v w on h.1)

hear_from : (key : List ℕ) (conn : ℕ) (u v w : Content) (ms : List (List (List ℕ))) (is : List InputType) → Extends u v → HearAll key conn v ms is w → HearAll key conn u ms is w
hear_from key conn u v w [] is on h = (h.0, extends_on u v w on h.1)
hear_from key conn u v w (m ∷ ms) is on (mid, first, rest, hears, more, parts) = (mid, first, rest, hears_from conn u v mid (signed (read_parts key m)) first on hears, more, parts)

hear_append : (key : List ℕ) (conn : ℕ) (u v w : Content) (xs ys : List (List (List ℕ))) (is js : List InputType) → HearAll key conn u xs is v → HearAll key conn v ys js w → HearAll key conn u (xs ++ ys) (js ++ is) w
hear_append key conn u v w [] ys is js a b =
    subst (λ (z : List InputType). HearAll key conn u ys z w) (sym (append-nil js) ∙ ap (λ (z : List InputType). js ++ z) (sym a.0)) (hear_from key conn u v w ys js a.1 b)
hear_append key conn u v w (x ∷ xs) ys is js (mid, first, rest, hears, more, parts) b =
    (mid, first, js ++ rest, hears, hear_append key conn mid v w xs ys rest js more b, ap (λ (z : List InputType). js ++ z) parts ∙ sym (append_assoc js rest first))

-- PASSES

-- nothing came
pub none_entered : (key : List ℕ) (conn : ℕ) (v : View) → Entered key conn [] [] v v
none_entered key conn v = record { entries = []; inputs = []; adds = adds_none v; inputs_are = refl; hears = (refl, extends_self v.seen) }

pub entered_more : (key : List ℕ) (conn : ℕ) (u v w : View) (xs ys : List (List (List ℕ))) (further : List InputType) → Entered key conn xs [] u v → Entered key conn ys further v w → Entered key conn (xs ++ ys) further u w
entered_more key conn u v w xs ys further a b = record {
  entries = b.entries ++ a.entries;
  inputs = b.inputs ++ a.inputs;
  adds = adds_more a.entries b.entries u v w a.adds b.adds;
  inputs_are = inputs_append b.entries a.entries ∙ ap (λ (z : List InputType). z ++ inputs_among a.entries) b.inputs_are ∙ ap (λ (z : List InputType). (further ++ b.inputs) ++ z) a.inputs_are ∙ append_assoc further b.inputs a.inputs;
  hears = hear_append key conn u.seen v.seen w.seen xs ys a.inputs b.inputs a.hears b.hears;
}

-- a turn that adds nothing, behind
pub entered_still : (key : List ℕ) (conn : ℕ) (u w : View) → AddsBehind [] u w → Entered key conn [] [] u w
entered_still key conn u w adds = record { entries = []; inputs = []; adds = adds; inputs_are = refl; hears = (refl, adds.later) }

-- ONE MESSAGE

-- frames that aren't signed with the key
pub passed_over : (key : List ℕ) (conn : ℕ) (frames : List (List ℕ)) (v : View) → signed (read_parts key frames) ≡ None → Entered key conn (frames ∷ []) [] v v
passed_over key conn frames v is = record {
  entries = [];
  inputs = [];
  adds = adds_none v;
  inputs_are = refl;
  hears = (v.seen, [], [], subst (λ (o : Option Message). HearsAs conn v.seen o [] v.seen) (sym is) (refl, extends_self v.seen), (refl, extends_self v.seen), refl);
}

one_entered : (key : List ℕ) (conn : ℕ) (frames : List (List ℕ)) (m : Message) (u w : View) (entries : List (ℕ × Entry)) (inputs : List InputType) →
    signed (read_parts key frames) ≡ Some m → AddsBehind entries u w → inputs_among entries ≡ inputs → IsEntered conn u.seen m inputs w.seen → Entered key conn (frames ∷ []) [] u w
one_entered key conn frames m u w entries inputs is adds are entered = record {
  entries = entries;
  inputs = inputs;
  adds = adds;
  inputs_are = are;
  hears = (w.seen, inputs, [], subst (λ (o : Option Message). HearsAs conn u.seen o inputs w.seen) (sym is) entered, (refl, extends_self w.seen), refl);
}

entered_in : {D : Type 0} (faults : D → ℕ) (conn : ℕ) (m : Message) (u w : View) (before after : StoreView D) (meaning : Option (Result Event Reason)) (inputs : List InputType) →
    InTurn faults u before after w → heard before.history conn m ≡ meaning → IsEnteredAs conn m meaning inputs → IsEntered conn u.seen m inputs w.seen
entered_in faults conn m u w before after meaning inputs t is meant = record {
  before = content_of faults before;
  later = t.adds.later;
  meant = subst (λ (o : Option (Result Event Reason)). IsEnteredAs conn m o inputs) (sym is) meant;
  extends = t.adds.extends;
}

-- a signed message that means something
pub entered_step : {D : Type 0} (faults : D → ℕ) (key : List ℕ) (conn : ℕ) (frames : List (List ℕ)) (m : Message) (u w : View) (before after : StoreView D) (moment word : ℕ) →
    signed (read_parts key frames) ≡ Some m → InTurn faults u before after w → HasActed before moment word conn m (Ok acts.Entered) after → Entered key conn (frames ∷ []) [] u w
entered_step faults key conn frames m u w before after moment word is t a =
    one_entered key conn frames m u w (entries_of before after) (In conn moment word m ∷ []) is (turn_adds faults u w before after t) (step_inputs before after (In conn moment word m) a.1)
    (entered_in faults conn m u w before after (Some (Ok a.0.event)) (In conn moment word m ∷ []) t a.0.is (moment, word, refl))

-- and one that is junk
pub entered_junk : {D : Type 0} (faults : D → ℕ) (key : List ℕ) (conn : ℕ) (frames : List (List ℕ)) (m : Message) (u w : View) (before after : StoreView D) (moment word : ℕ) (reason : Reason) →
    signed (read_parts key frames) ≡ Some m → InTurn faults u before after w → HasActed before moment word conn m (Ok (acts.Junk reason)) after → Entered key conn (frames ∷ []) [] u w
entered_junk faults key conn frames m u w before after moment word reason is t a =
    one_entered key conn frames m u w [] [] is (stay_adds faults u w before after t (ap (λ (v : StoreView _). v.history) a.1)) refl
    (entered_in faults conn m u w before after (Some (Err reason)) [] t a.0 refl)

refused_stays : {D : Type 0} (before : StoreView D) (input : InputType) (e : ActError) (after : StoreView D) → IsRefusedAs before input e after → after.history ≡ before.history
refused_stays before input refusals.TooManyConnections after r = absurd r
refused_stays before input refusals.Reopen after r = r.1.history_is
refused_stays before input (refusals.HistoryFull entries bytes) after r = r.becomes.history_is
refused_stays before input refusals.OutOfMemory after r = r.history_is

pub refused_adds : {D : Type 0} (faults : D → ℕ) (u w : View) (before after : StoreView D) (input : InputType) (e : ActError) → InTurn faults u before after w → IsRefusedAs before input e after → AddsBehind [] u w
refused_adds faults u w before after input e t r = stay_adds faults u w before after t (refused_stays before input e after r)

-- A LIST OF MESSAGES, ONE MORE

take_more : (xs : List (List (List ℕ))) (i : ℕ) (x : List (List ℕ)) → i < length xs → x ≡ get_or xs i x → take (i + 1) xs ≡ take i xs ++ x ∷ []
take_more xs i x lt at =
    let step : suc i ≡ i + 1 = omega arith in
    subst (λ (n : ℕ). take n xs ≡ take i xs ++ x ∷ []) step (take-suc xs i x lt ∙ ap (λ (y : List (List ℕ)). take i xs ++ y ∷ []) (sym at))

pub entered_next : (key : List ℕ) (conn : ℕ) (u v w : View) (messages : List (List (List ℕ))) (i : ℕ) (frames : List (List ℕ)) → i < length messages → frames ≡ get_or messages i frames →
    Entered key conn (take i messages) [] u v → Entered key conn (frames ∷ []) [] v w → Entered key conn (take (i + 1) messages) [] u w
entered_next key conn u v w messages i frames lt at a b =
    subst (λ (ms : List (List (List ℕ))). Entered key conn ms [] u w) (sym (take_more messages i frames lt at)) (entered_more key conn u v w (take i messages) (frames ∷ []) [] a b)

pub front_here : (key : List ℕ) (conn : ℕ) (u v w : View) (messages : List (List (List ℕ))) (i : ℕ) → Entered key conn (take i messages) [] u v → Entered key conn [] [] v w → EnteredFront key conn messages u w
front_here key conn u v w messages i a b = record {
  first = take i messages;
  others = drop i messages;
  parts = sym (take-append-drop i messages);
  entered = subst (λ (ms : List (List (List ℕ))). Entered key conn ms [] u w) (append-nil (take i messages)) (entered_more key conn u v w (take i messages) [] [] a b);
}

pub front_none : (key : List ℕ) (conn : ℕ) (v : View) (messages : List (List (List ℕ))) → EnteredFront key conn messages v v
front_none key conn v messages = record { first = []; others = messages; parts = refl; entered = none_entered key conn v }

-- WHAT A CALL OF THE DESK SAYS

heard_nothing : {A B : Type 0} (f : A → B) (o : Option A) → option_map f o ≡ None → is_some o ≡ false
heard_nothing f None is = refl
heard_nothing f (Some x) is = cc

pub acted_gone : {D : Type 0} (faults : D → ℕ) (u w : View) (before after : StoreView D) (conn : ℕ) (m : Message) (moment word : ℕ) → InTurn faults u before after w → HasActed before moment word conn m (Ok acts.Gone) after → is_live w.seen.list conn ≡ false
acted_gone faults u w before after conn m moment word t a =
    ap (λ (h : History). is_live h conn) (turn_list faults u w before after t ∙ ap (λ (v : StoreView _). v.history) a.1)
    ∙ heard_nothing (λ channel. event_of channel m) (channel_on (facts before.history).connections conn) a.0

pub gone_adds : {D : Type 0} (faults : D → ℕ) (u w : View) (before after : StoreView D) (conn : ℕ) (m : Message) (moment word : ℕ) → InTurn faults u before after w → HasActed before moment word conn m (Ok acts.Gone) after → AddsBehind [] u w
gone_adds faults u w before after conn m moment word t a = stay_adds faults u w before after t (ap (λ (v : StoreView _). v.history) a.1)

pub never_too_many : {D : Type 0} (before : StoreView D) (input : InputType) (e : ActError) (after : StoreView D) → IsRefusedAs before input e after → e ≢ refusals.TooManyConnections
never_too_many before input refusals.TooManyConnections after r is = absurd r
never_too_many before input refusals.Reopen after r is = cc
never_too_many before input (refusals.HistoryFull entries bytes) after r is = cc
never_too_many before input refusals.OutOfMemory after r is = cc

pub ends_hearing : (e : ActError) (end : SessionEnd) → IsEndOf e end → EndsHearing end
ends_hearing refusals.TooManyConnections end is = absurd is
ends_hearing refusals.Reopen end is = subst EndsHearing (sym is) tt
ends_hearing (refusals.HistoryFull entries bytes) end is = subst EndsHearing (sym is) tt
ends_hearing refusals.OutOfMemory end is = subst EndsHearing (sym is) tt

pub never_closed : (e : ActError) (end : SessionEnd) → IsEndOf e end → end ≡ ends.Closed → ⊥
never_closed refusals.TooManyConnections end is closed = absurd is
never_closed refusals.Reopen end is closed = cc
never_closed (refusals.HistoryFull entries bytes) end is closed = cc
never_closed refusals.OutOfMemory end is closed = cc
