-- What engines have said stays true of a history that goes on.
use Rattle.std.proofs.Common.{◌≡◌, ℕ, zero, suc, List, [], ◌∷◌, ◌++◌, Bool, true, false, Option, Some, None, Result, Ok, Err, refl, sym, ap, ◌∙◌, subst, inl, inr}
use Rattle.std.specs.Prelude.{slice_get, nat_le, if◌then◌else◌}
use Rattle.std.specs.List.{list_any}
use Rattle.cluster_types.specs.declared.config.Channel.{Channel}
use Rattle.cluster_types.specs.declared.config.Scheme.{Scheme}
use Rattle.cluster_types.specs.declared.message.Message.{Message}
use Rattle.cluster_types.specs.declared.out.Out.{Out}
use Rattle.cluster_types.specs.declared.out.Out.TheVariants.{Pass, Made}
use Rattle.cluster_types.specs.declared.entry.Input.{Input as InputType}
use Rattle.cluster_types.specs.declared.entry.Input.TheVariants.{Open, Up, Down, In, Beat, Time}
use Rattle.cluster_types.specs.declared.entry.Entry.{Entry}
use Rattle.cluster_types.specs.declared.entry.Entry.TheVariants.{Input, Hand, Settle, Lose}
use Rattle.cluster_types.proofs.Booleans.{or_off_left, or_off_right}
use Rattle.cluster_defs.specs.Histories.{History, decide_all}
use Rattle.cluster_defs.specs.Lives.{Sending, kept_end, sendings_to}
use Rattle.cluster_store.specs.Stores.{StoreView, told, answer, next_to, is_live}
use Rattle.cluster_store.specs.declared.taken.Taken.{Taken}
use Rattle.cluster_store.specs.declared.taken.Taken.TheVariants.{Out as Hands, NothingYet}
use Rattle.cluster_store.proofs.Fits.{decides_to}
use Rattle.controller_desk.proofs.Numbers.{no_inputs}
use Rattle.history_lock.specs.declared.known.Content.{Content}
use Rattle.history_lock.specs.History.{is_open_entry, Extends}
use Rattle.controller_desk.specs.declared.acted.Acted.{Acted}
use Rattle.controller_desk.specs.declared.acted.Acted.TheVariants.{Entered, Junk, Gone}
use Rattle.controller_desk.specs.declared.fault.ActError.{ActError}
use Rattle.controller_desk.specs.declared.fault.ActError.TheVariants.{TooManyConnections, Reopen, HistoryFull, OutOfMemory}
use Rattle.controller_desk.specs.Calls.{is_input, HasStepped, IsRefusedAs, HasActed, HasOpened, HasTaken}
use Rattle.run_book.specs.Kept.{WasPassed, IsFromEngine, MayCome, AreSaid, passed_in}

-- WHAT WAS PASSED ON

get_front : (xs ys : List Sending) (k : ℕ) (s : Sending) → slice_get xs k ≡ Some s → slice_get (xs ++ ys) k ≡ Some s
get_front [] ys k s is = cc
get_front (x ∷ xs) ys zero s is = is
get_front (x ∷ xs) ys (suc k) s is = get_front xs ys k s is

behind : (e : Entry) (older : History) (conn k : ℕ) (s : Sending) → is_open_entry e ≡ false → slice_get (sendings_to older conn) k ≡ Some s → slice_get (sendings_to (e ∷ older) conn) k ≡ Some s
behind (Input (Open moment scheme hwm misses)) older conn k s off is = cc
behind (Input (Up c channel moment word identity)) older conn k s off is = get_front (sendings_to older conn) _ k s is
behind (Input (Down c moment word)) older conn k s off is = get_front (sendings_to older conn) _ k s is
behind (Input (In c moment word m)) older conn k s off is = get_front (sendings_to older conn) _ k s is
behind (Input (Beat moment word)) older conn k s off is = get_front (sendings_to older conn) _ k s is
behind (Input (Time moment word)) older conn k s off is = get_front (sendings_to older conn) _ k s is
behind (Hand id n) older conn k s off is = get_front (sendings_to older conn) _ k s is
behind (Settle id v c) older conn k s off is = get_front (sendings_to older conn) _ k s is
behind (Lose n) older conn k s off is = get_front (sendings_to older conn) _ k s is

-- what was passed on stays passed on, until the next Open
pub passed_on : (es : List Entry) (h : History) (conn : ℕ) (m : Message) → list_any is_open_entry es ≡ false → WasPassed h conn m → WasPassed (es ++ h) conn m
passed_on [] h conn m off p = p
passed_on (e ∷ es) h conn m off p =
    let q = passed_on es h conn m (or_off_right (is_open_entry e) (list_any is_open_entry es) off) p in
    record { place = q.place; sending = q.sending; sent = behind e (es ++ h) conn q.place q.sending (or_off_left (is_open_entry e) (list_any is_open_entry es) off) q.sent; to = q.to; is = q.is }

pub passed_later : (old new : Content) (conn : ℕ) (m : Message) → Extends old new → WasPassed old.list conn m → WasPassed new.list conn m
passed_later old new conn m x p = subst (λ (h : History). WasPassed h conn m) (sym x.list) (passed_on x.beyond old.list conn m x.no_open p)

from_later : (old new : Content) (conn : ℕ) (m : Message) → Extends old new → IsFromEngine old.list conn m → IsFromEngine new.list conn m
from_later old new conn m x (inl r) = inl r
from_later old new conn m x (inr a) = inr (record { request = a.request; passed = passed_later old new conn a.request x a.passed; answer = a.answer })

-- what might come behind a history may come behind a later one
pub may_later : (old new : Content) (conn : ℕ) (m : Message) → Extends old new → MayCome old.list conn m → MayCome new.list conn m
may_later old new conn m x may = λ ne. from_later old new conn m x (may ne)

-- WHAT WAS SAID

decision_said : (d : Entry) (h : History) → is_input d ≡ false → AreSaid h → AreSaid (d ∷ h)
decision_said (Input input) h off said = cc
decision_said (Hand id n) h off said = said
decision_said (Settle id v c) h off said = said
decision_said (Lose n) h off said = said

pub decisions_said : (ds : List Entry) (h : History) → list_any is_input ds ≡ false → AreSaid h → AreSaid (ds ++ h)
decisions_said [] h off said = said
decisions_said (d ∷ ds) h off said =
    decision_said d (ds ++ h) (or_off_left (is_input d) (list_any is_input ds) off) (decisions_said ds h (or_off_right (is_input d) (list_any is_input ds) off) said)

stepped_said : {D : Type 0} (old : StoreView D) (input : InputType) (new : StoreView D) → HasStepped old input new → AreSaid (Input input ∷ old.history) → AreSaid new.history
stepped_said old input new s said = subst AreSaid (sym s.list) (decisions_said s.decisions (Input input ∷ old.history) s.no_inputs said)

stays_said : (h k : History) → k ≡ h → AreSaid h → AreSaid k
stays_said h k same said = subst AreSaid (sym same) said

refused_said : {D : Type 0} (old : StoreView D) (input : InputType) (e : ActError) (new : StoreView D) → IsRefusedAs old input e new → AreSaid old.history → AreSaid new.history
refused_said old input TooManyConnections new r said = absurd r
refused_said old input Reopen new r said = stays_said old.history new.history r.1.history_is said
refused_said old input (HistoryFull entries bytes) new r said = stays_said old.history new.history r.becomes.history_is said
refused_said old input OutOfMemory new r said = stays_said old.history new.history r.history_is said

same_said : {D : Type 0} (old new : StoreView D) → new ≡ old → AreSaid old.history → AreSaid new.history
same_said old new same said = stays_said old.history new.history (ap (λ v. v.history) same) said

pub said_acted : {D : Type 0} (old : StoreView D) (conn : ℕ) (m : Message) (result : Result Acted ActError) (new : StoreView D) → HasActed old 0 0 conn m result new → MayCome old.history conn m → AreSaid old.history → AreSaid new.history
said_acted old conn m (Ok Entered) new a may said = stepped_said old (In conn 0 0 m) new a.1 (may, said)
said_acted old conn m (Ok (Junk reason)) new a may said = same_said old new a.1 said
said_acted old conn m (Ok Gone) new a may said = same_said old new a.1 said
said_acted old conn m (Err e) new a may said = refused_said old (In conn 0 0 m) e new a.0 said

pub said_opened : {D : Type 0} (old : StoreView D) (channel : Channel) (identity : List ℕ) (result : Result ℕ ActError) (new : StoreView D) → HasOpened old 0 0 channel identity result new → AreSaid old.history → AreSaid new.history
said_opened old channel identity (Ok conn) new o said = stepped_said old _ new o.2 said
said_opened old channel identity (Err TooManyConnections) new o said = same_said old new o.1 said
said_opened old channel identity (Err Reopen) new o said = stays_said old.history new.history o.1.1.history_is said
said_opened old channel identity (Err (HistoryFull entries bytes)) new o said = stays_said old.history new.history o.1.becomes.history_is said
said_opened old channel identity (Err OutOfMemory) new o said = stays_said old.history new.history o.1.history_is said

-- A TAKE

passed_next : (history : History) (conn mark place : ℕ) (live : Bool) (next : Option Sending) (m : Message) → slice_get (sendings_to history conn) place ≡ next → passed_in (answer live mark next) ≡ Some m → WasPassed history conn m
passed_next history conn mark place true None m is some = cc
passed_next history conn mark place false None m is some = cc
passed_next history conn mark place live (Some s) m is some = by (nat_le (kept_end s.0) mark) some
  where
    out : (o : Out) → s.1 ≡ o → passed_in (Hands o) ≡ Some m → WasPassed history conn m
    out (Pass to message) same e = record { place = place; sending = s; sent = is; to = to; is = same ∙ ap (Pass to) cc }
    out (Made to moment msg_id msg_type parent content buffers) same e = cc

    by : (b : Bool) → passed_in (if b then Hands s.1 else NothingYet) ≡ Some m → WasPassed history conn m
    by true e = out s.1 refl e
    by false e = cc

-- what was taken had been passed on
pub taken_passed : {D : Type 0} (old new : StoreView D) (conn : ℕ) (taken : Taken) (m : Message) → HasTaken old conn taken new → passed_in taken ≡ Some m → WasPassed new.history conn m
taken_passed old new conn taken m t some =
    subst (λ (h : History). WasPassed h conn m) (sym t.becomes.history_is)
    (passed_next old.history conn old.mark (told old conn) (is_live old.history conn) (next_to old conn) m refl (ap passed_in (sym t.answered) ∙ some))

-- AN OPENING

-- after an Open nothing was said yet
pub said_open : (h base : History) (moment : ℕ) (scheme : Scheme) (hwm misses : ℕ) → h ≡ decide_all (Input (Open moment scheme hwm misses) ∷ base) → AreSaid h
said_open h base moment scheme hwm misses is =
    let to = decides_to (Input (Open moment scheme hwm misses) ∷ base) in
    subst AreSaid (sym (is ∙ to.appended))
    (decisions_said to.decisions (Input (Open moment scheme hwm misses) ∷ base) (no_inputs (Input (Open moment scheme hwm misses) ∷ base) to.decisions to.each_due) tt)
