-- Outs that are taken, one after another.
use Rattle.std.proofs.Common.{◌≡◌, ℕ, zero, suc, ◌+◌, ◌≤◌, ◌<◌, ◌^◌, List, [], ◌∷◌, ◌++◌, length, map, take, drop, Bool, true, false, ◌||◌, Option, Some, None, refl, sym, ap, ◌∙◌, subst, arith, append_assoc, eq-eqb}
use Rattle.std.specs.Prelude.{slice_get, slice_index, nat_le, option_map, if◌then◌else◌}
use Rattle.std.specs.List.{list_any, flat_map}
use Rattle.std.proofs.lemmas.List.{append-nil, map-append}
use Rattle.std.proofs.lemmas.Option.{slice_get-map, none-some}
use Rattle.cluster_types.specs.declared.entry.Input.TheVariants.{Open, Up, Down, In, Beat, Time}
use Rattle.cluster_types.specs.declared.entry.Entry.{Entry}
use Rattle.cluster_types.specs.declared.entry.Entry.TheVariants.{Input, Hand, Settle, Lose}
use Rattle.cluster_types.specs.declared.out.Out.{Out}
use Rattle.cluster_defs.specs.Histories.{History}
use Rattle.cluster_defs.specs.Lives.{Sending, sendings, sendings_to, kept_end}
use Rattle.cluster_defs.specs.Outs.{outs, outs_on, outs_to}
use Rattle.cluster_store.specs.declared.taken.Taken.{Taken}
use Rattle.cluster_store.specs.declared.taken.Taken.TheVariants.{Out as Hands, NothingYet, Closed}
use Rattle.cluster_store.specs.Stores.{StoreView, told, told_by, one_more, answer, is_live, next_to}
use Rattle.history_lock.specs.declared.known.Content.{Content}
use Rattle.history_lock.specs.declared.known.View.{View}
use Rattle.history_lock.specs.History.{is_open_entry, Extends}
use Rattle.history_lock.proofs.Growing.{extends_self, extends_on}
use Rattle.controller_desk.specs.Calls.{HasTaken}
use Rattle.controller_desk.specs.Contents.{first_values, conn_numbers, content_of, taken_place, taken_seen}
use Rattle.controller_desk.specs.Turns.{InTurn}
use Rattle.session_threads.specs.Passes.{AddsBehind}
use Rattle.session_threads.specs.Writing.{Placed, Takes, TakeAll, RiseFrom, StandIn, outs_among, HasNoMore, TookOuts, TookAll, Took}
use Rattle.link_messages.specs.Outs.{octets_of}
use Rattle.session_threads.proofs.Turns.{stay_adds, turn_list}
use Rattle.cluster_store.proofs.Outs.{outs_are}
use Rattle.cluster_types.proofs.Booleans.{or_off_left, or_off_right}

-- COUNTS

values_at : (n k : ℕ) (f : ℕ → ℕ) → k < n → slice_index (first_values n f) k ≡ f k
values_at zero k f lt = absurd (omega (arith, lt))
values_at (suc n) zero f lt = refl
values_at (suc n) (suc k) f lt = values_at n k (λ j. f (suc j)) (omega (arith, lt))

small : (conn : ℕ) → conn < 2 ^ 32 → conn < conn_numbers
unfolding conn_numbers
small conn lt = lt

behind_six : (c : List ℕ) (a b d e f g conn : ℕ) → slice_index (a ∷ b ∷ d ∷ e ∷ f ∷ g ∷ c) (taken_place conn) ≡ slice_index c conn
behind_six c a b d e f g conn =
    let six : conn + 6 ≡ suc (suc (suc (suc (suc (suc conn))))) = omega arith in
    ap (λ (k : ℕ). slice_index (a ∷ b ∷ d ∷ e ∷ f ∷ g ∷ c) k) six

-- the count of a connection is how many outs were taken of it
pub taken_is : {D : Type 0} (faults : D → ℕ) (v : StoreView D) (conn : ℕ) → conn < 2 ^ 32 → taken_seen (content_of faults v) conn ≡ told v conn
taken_is faults v conn lt = behind_six (first_values conn_numbers (told v)) _ _ _ _ _ _ conn ∙ values_at conn_numbers conn (told v) (small conn lt)

-- OUTS

firsts_of : (h : History) (os : List Out) → map (λ s. s.1) (sendings h os) ≡ os
firsts_of h [] = refl
firsts_of h (o ∷ os) = ap (λ (xs : List Out). o ∷ xs) (firsts_of h os)

abbrev firsts : List Sending → List Out
firsts sent = map (λ s. s.1) sent

one_entry : (e : Entry) (older : History) (conn : ℕ) → firsts (sendings_to older conn) ≡ outs_to older conn →
    firsts (sendings_to older conn ++ sendings (e ∷ older) (outs_on conn (outs (e ∷ older)))) ≡ outs_to older conn ++ outs_on conn (outs (e ∷ older))
one_entry e older conn before =
    map-append (λ (s : Sending). s.1) (sendings_to older conn) (sendings (e ∷ older) (outs_on conn (outs (e ∷ older))))
    ∙ ap (λ (xs : List Out). xs ++ firsts (sendings (e ∷ older) (outs_on conn (outs (e ∷ older))))) before
    ∙ ap (λ (xs : List Out). outs_to older conn ++ xs) (firsts_of (e ∷ older) (outs_on conn (outs (e ∷ older))))

out_at : (history : History) (conn place : ℕ) → slice_get (outs_to history conn) place ≡ option_map (λ s. s.1) (slice_get (sendings_to history conn) place)
out_at history conn place = ap (λ (os : List Out). slice_get os place) (sym (outs_are history conn)) ∙ slice_get-map (λ (s : Sending). s.1) (sendings_to history conn) place

-- AN OUT STAYS AT ITS PLACE

get_more : (xs ys : List Out) (place : ℕ) (o : Out) → slice_get xs place ≡ Some o → slice_get (xs ++ ys) place ≡ Some o
get_more [] ys place o is = absurd (none-some _ is)
get_more (x ∷ xs) ys zero o is = is
get_more (x ∷ xs) ys (suc place) o is = get_more xs ys place o is

entry_stays : (e : Entry) (older : History) (conn place : ℕ) (o : Out) → is_open_entry e ≡ false → slice_get (outs_to older conn) place ≡ Some o → slice_get (outs_to (e ∷ older) conn) place ≡ Some o
entry_stays (Input (Open moment scheme hwm misses)) older conn place o off is = cc
entry_stays (Input (Up c channel moment word identity)) older conn place o off is = get_more (outs_to older conn) (outs_on conn (outs (Input (Up c channel moment word identity) ∷ older))) place o is
entry_stays (Input (Down c moment word)) older conn place o off is = get_more (outs_to older conn) (outs_on conn (outs (Input (Down c moment word) ∷ older))) place o is
entry_stays (Input (In c moment word m)) older conn place o off is = get_more (outs_to older conn) (outs_on conn (outs (Input (In c moment word m) ∷ older))) place o is
entry_stays (Input (Beat moment word)) older conn place o off is = get_more (outs_to older conn) (outs_on conn (outs (Input (Beat moment word) ∷ older))) place o is
entry_stays (Input (Time moment word)) older conn place o off is = get_more (outs_to older conn) (outs_on conn (outs (Input (Time moment word) ∷ older))) place o is
entry_stays (Hand id n) older conn place o off is = get_more (outs_to older conn) (outs_on conn (outs (Hand id n ∷ older))) place o is
entry_stays (Settle id v c) older conn place o off is = get_more (outs_to older conn) (outs_on conn (outs (Settle id v c ∷ older))) place o is
entry_stays (Lose n) older conn place o off is = get_more (outs_to older conn) (outs_on conn (outs (Lose n ∷ older))) place o is

out_stays : (es old : History) (conn place : ℕ) (o : Out) → list_any is_open_entry es ≡ false → slice_get (outs_to old conn) place ≡ Some o → slice_get (outs_to (es ++ old) conn) place ≡ Some o
out_stays [] old conn place o off is = is
out_stays (e ∷ es) old conn place o off is =
    entry_stays e (es ++ old) conn place o (or_off_left (is_open_entry e) (list_any is_open_entry es) off) (out_stays es old conn place o (or_off_right (is_open_entry e) (list_any is_open_entry es) off) is)

stays_in : (a b : Content) (conn place : ℕ) (o : Out) → Extends a b → slice_get (outs_to a.list conn) place ≡ Some o → slice_get (outs_to b.list conn) place ≡ Some o
stays_in a b conn place o e is = subst (λ (h : History). slice_get (outs_to h conn) place ≡ Some o) (sym e.list) (out_stays e.beyond a.list conn place o e.no_open is)

-- ONE TAKE

-- the out that was answered is the next one
record IsNext (next : Option Sending) (out : Out) : Type 0 where
  pub sending : Sending
  pub is : next ≡ Some sending
  pub out_is : sending.1 ≡ out

abbrev OutIsNext : Taken → Option Sending → Type 0
OutIsNext (Hands out) next = IsNext next out
OutIsNext NothingYet next = Unit {0}
OutIsNext Closed next = next ≡ None

answer_says : (live : Bool) (mark : ℕ) (next : Option Sending) → OutIsNext (answer live mark next) next
answer_says live mark (Some s) =
    elim (nat_le (kept_end s.0) mark) as (λ b. OutIsNext (if b then Hands s.1 else NothingYet) (Some s)) [
      | true ↦ record { sending = s; is = refl; out_is = refl }
      | false ↦ tt
    ]
answer_says true mark None = tt
answer_says false mark None = refl

abbrev ClosedIsDead : Taken → Bool → Type 0
ClosedIsDead Closed live = live ≡ false
ClosedIsDead _ live = Unit {0}

answer_dead : (live : Bool) (mark : ℕ) (next : Option Sending) → ClosedIsDead (answer live mark next) live
answer_dead live mark (Some s) =
    elim (nat_le (kept_end s.0) mark) as (λ b. ClosedIsDead (if b then Hands s.1 else NothingYet) live) [
      | true ↦ tt
      | false ↦ tt
    ]
answer_dead true mark None = tt
answer_dead false mark None = refl

told_here : (taken : Taken) (conn : ℕ) (f : ℕ → ℕ) → told_by taken conn f conn ≡ one_more taken (f conn)
told_here taken conn f = rw (eq-eqb conn conn refl) refl

pub took_one : {D : Type 0} (faults : D → ℕ) (u w : View) (before after : StoreView D) (conn : ℕ) (out : Out) → conn < 2 ^ 32 → InTurn faults u before after w → HasTaken before conn (Hands out) after → Takes conn u.seen (told before conn, out) w.seen
took_one faults u w before after conn out lt t h =
    let n = subst (λ (x : Taken). OutIsNext x (next_to before conn)) (sym h.answered) (answer_says (is_live before.history conn) before.mark (next_to before conn)) in
    let counted : taken_seen w.seen conn ≡ suc (told before conn) = ap (λ (c : Content). taken_seen c conn) t.seen ∙ taken_is faults after conn lt ∙ h.becomes.taken_are conn ∙ told_here (Hands out) conn (told before) in
    record {
      before = content_of faults before;
      later = t.adds.later;
      first = taken_is faults before conn lt;
      stands = out_at before.history conn (told before conn) ∙ ap (λ (o : Option Sending). option_map (λ s. s.1) o) n.is ∙ ap Some n.out_is;
      extends = t.adds.extends;
      counted = omega (arith, counted);
    }

pub take_adds : {D : Type 0} (faults : D → ℕ) (u w : View) (before after : StoreView D) (conn : ℕ) (taken : Taken) → InTurn faults u before after w → HasTaken before conn taken after → AddsBehind [] u w
take_adds faults u w before after conn taken t h = stay_adds faults u w before after t h.becomes.history_is

pub no_more : {D : Type 0} (faults : D → ℕ) (u w : View) (before after : StoreView D) (conn : ℕ) → conn < 2 ^ 32 → InTurn faults u before after w → HasTaken before conn Closed after → HasNoMore conn w.seen
no_more faults u w before after conn lt t h =
    let none = subst (λ (x : Taken). OutIsNext x (next_to before conn)) (sym h.answered) (answer_says (is_live before.history conn) before.mark (next_to before conn)) in
    let dead = subst (λ (x : Taken). ClosedIsDead x (is_live before.history conn)) (sym h.answered) (answer_dead (is_live before.history conn) before.mark (next_to before conn)) in
    let list : w.seen.list ≡ before.history = turn_list faults u w before after t ∙ h.becomes.history_is in
    let counted : taken_seen w.seen conn ≡ told before conn = ap (λ (c : Content). taken_seen c conn) t.seen ∙ taken_is faults after conn lt ∙ h.becomes.taken_are conn ∙ told_here Closed conn (told before) in
    let nothing : slice_get (outs_to before.history conn) (told before conn) ≡ None = out_at before.history conn (told before conn) ∙ ap (λ (o : Option Sending). option_map (λ s. s.1) o) none in (
      ap (λ (l : History). is_live l conn) list ∙ dead,
      ap (λ (l : History). slice_get (outs_to l conn) (taken_seen w.seen conn)) list ∙ ap (λ (n : ℕ). slice_get (outs_to before.history conn) n) counted ∙ nothing,
    )

-- ONE AFTER ANOTHER

take_to : (conn : ℕ) (u v w : Content) (outs : List Placed) → TakeAll conn u outs v → Extends v w → TakeAll conn u outs w
take_to conn u v w [] a on = extends_on u v w a on
take_to conn u v w (o ∷ os) (mid, first, more) on = (mid, first, take_to conn mid v w os more on)

take_from : (conn : ℕ) (u v w : Content) (outs : List Placed) → Extends u v → TakeAll conn v outs w → TakeAll conn u outs w
take_from conn u v w [] on a = extends_on u v w on a
take_from conn u v w (o ∷ os) on (mid, first, more) =
    (mid, record { before = first.before; later = extends_on u v first.before on first.later; first = first.first; stands = first.stands; extends = first.extends; counted = first.counted }, more)

take_append : (conn : ℕ) (u v w : Content) (xs ys : List Placed) → TakeAll conn u xs v → TakeAll conn v ys w → TakeAll conn u (xs ++ ys) w
take_append conn u v w [] ys a b = take_from conn u v w ys a b
take_append conn u v w (x ∷ xs) ys (mid, first, more) b = (mid, first, take_append conn mid v w xs ys more b)

pub take_extends : (conn : ℕ) (u w : Content) (outs : List Placed) → TakeAll conn u outs w → Extends u w
take_extends conn u w [] a = a
take_extends conn u w (o ∷ os) (mid, first, more) =
    extends_on u first.before w first.later (extends_on first.before mid w first.extends (take_extends conn mid w os more))

-- PASSES AND OCTETS

octets_append : (key : List ℕ) (xs ys : List Placed) → flat_map (octets_of key) (outs_among (xs ++ ys)) ≡ flat_map (octets_of key) (outs_among xs) ++ flat_map (octets_of key) (outs_among ys)
octets_append key [] ys = refl
octets_append key (x ∷ xs) ys = ap (λ (z : List ℕ). octets_of key x.1 ++ z) (octets_append key xs ys) ∙ sym (append_assoc (octets_of key x.1) (flat_map (octets_of key) (outs_among xs)) (flat_map (octets_of key) (outs_among ys)))

pub took_none : (key : List ℕ) (conn : ℕ) (v : View) → Took key conn [] v v
took_none key conn v = ([], record { takes = extends_self v.seen; added = refl; share = refl }, refl)

pub took_more : (key : List ℕ) (conn : ℕ) (u v w : View) (xs ys : List ℕ) → Took key conn xs u v → Took key conn ys v w → Took key conn (xs ++ ys) u w
took_more key conn u v w xs ys (a, s, x) (b, t, y) = (
  a ++ b,
  record { takes = take_append conn u.seen v.seen w.seen a b s.takes t.takes; added = t.added ∙ s.added; share = t.share ∙ s.share },
  ap (λ (z : List ℕ). z ++ ys) x ∙ ap (λ (z : List ℕ). flat_map (octets_of key) (outs_among a) ++ z) y ∙ sym (octets_append key a b),
)

-- a turn that takes nothing
pub took_still : (key : List ℕ) (conn : ℕ) (u w : View) → AddsBehind [] u w → Took key conn [] u w
took_still key conn u w adds = ([], record { takes = adds.later; added = adds.added; share = adds.share }, refl)

pub took_out : (key : List ℕ) (conn : ℕ) (u w : View) (place : ℕ) (out : Out) → AddsBehind [] u w → Takes conn u.seen (place, out) w.seen → Took key conn (octets_of key out) u w
took_out key conn u w place out adds t = (
  (place, out) ∷ [],
  record { takes = (w.seen, t, extends_self w.seen); added = adds.added; share = adds.share },
  sym (append-nil (octets_of key out)),
)

-- one out more
pub took_turn : {D : Type 0} (faults : D → ℕ) (key : List ℕ) (conn : ℕ) (u v w : View) (before after : StoreView D) (out : Out) (octets : List ℕ) → conn < 2 ^ 32 → Took key conn octets u v → InTurn faults v before after w → HasTaken before conn (Hands out) after → Took key conn (octets ++ octets_of key out) u w
took_turn faults key conn u v w before after out octets lt a t h =
    took_more key conn u v w octets (octets_of key out) a (took_out key conn v w (told before conn) out (take_adds faults v w before after conn (Hands out) t h) (took_one faults v w before after conn out lt t h))

-- and none
pub took_nothing : {D : Type 0} (faults : D → ℕ) (key : List ℕ) (conn : ℕ) (u v w : View) (before after : StoreView D) (taken : Taken) (octets : List ℕ) → Took key conn octets u v → InTurn faults v before after w → HasTaken before conn taken after → Took key conn octets u w
took_nothing faults key conn u v w before after taken octets a t h =
    subst (λ (xs : List ℕ). Took key conn xs u w) (append-nil octets) (took_more key conn u v w octets [] a (took_still key conn v w (take_adds faults v w before after conn taken t h)))

-- WHAT IT COMES TO

rise_less : (m n : ℕ) (outs : List Placed) → m ≤ n → RiseFrom n outs → RiseFrom m outs
rise_less m n [] le r = tt
rise_less m n (o ∷ os) le r = let first = r.0 in (omega (arith, le, first), r.1)

rises : (conn : ℕ) (u w : Content) (outs : List Placed) → TakeAll conn u outs w → RiseFrom (taken_seen u conn) outs
rises conn u w [] a = tt
rises conn u w (o ∷ os) (mid, first, more) =
    let less : taken_seen u conn ≤ taken_seen first.before conn = first.later.counts (taken_place conn) in
    let is = first.first in
    (omega (arith, less, is), rise_less (suc o.0) (taken_seen mid conn) os first.counted (rises conn mid w os more))

stand : (conn : ℕ) (u w : Content) (outs : List Placed) → TakeAll conn u outs w → StandIn (outs_to w.list conn) outs
stand conn u w [] a = tt
stand conn u w (o ∷ os) (mid, first, more) =
    (stays_in first.before w conn o.0 o.1 (extends_on first.before mid w first.extends (take_extends conn mid w os more)) first.stands, stand conn mid w os more)

counts_all : (conn : ℕ) (u w : Content) (outs : List Placed) → TakeAll conn u outs w → taken_seen u conn + length outs ≤ taken_seen w conn
counts_all conn u w [] a = let more : taken_seen u conn ≤ taken_seen w conn = a.counts (taken_place conn) in omega (arith, more)
counts_all conn u w (o ∷ os) (mid, first, more) =
    let less : taken_seen u conn ≤ taken_seen first.before conn = first.later.counts (taken_place conn) in
    let is = first.first in
    let counted = first.counted in
    let rest = counts_all conn mid w os more in
    omega (arith, less, is, counted, rest)

drop_get : (xs : List Out) (n : ℕ) (o : Out) → slice_get xs n ≡ Some o → drop n xs ≡ o ∷ drop (suc n) xs
drop_get [] n o is = absurd (none-some _ is)
drop_get (x ∷ xs) zero o is = let same : x ≡ o = cc in ap (λ (y : Out). y ∷ xs) same
drop_get (x ∷ xs) (suc n) o is = drop_get xs n o is

-- where no more were counted than were taken, each was the next one
firsts_behind : (conn : ℕ) (u w : Content) (outs : List Placed) → TakeAll conn u outs w → taken_seen w conn ≡ taken_seen u conn + length outs → outs_among outs ≡ take (length outs) (drop (taken_seen u conn) (outs_to w.list conn))
firsts_behind conn u w [] a is = none (drop (taken_seen u conn) (outs_to w.list conn))
  where
    none : (xs : List Out) → [] ≡ take 0 xs
    none [] = refl
    none (x ∷ xs) = refl
firsts_behind conn u w (o ∷ os) (mid, first, more) is =
    let less : taken_seen u conn ≤ taken_seen first.before conn = first.later.counts (taken_place conn) in
    let here = first.first in
    let counted = first.counted in
    let rest = counts_all conn mid w os more in
    let at : o.0 ≡ taken_seen u conn = omega (arith, less, here, counted, rest, is) in
    let next : taken_seen mid conn ≡ suc (taken_seen u conn) = omega (arith, less, here, counted, rest, is) in
    let all : taken_seen w conn ≡ taken_seen mid conn + length os = omega (arith, is, next) in
    let stands : slice_get (outs_to w.list conn) (taken_seen u conn) ≡ Some o.1 = subst (λ (n : ℕ). slice_get (outs_to w.list conn) n ≡ Some o.1) at (stays_in first.before w conn o.0 o.1 (extends_on first.before mid w first.extends (take_extends conn mid w os more)) first.stands) in
    ap (λ (xs : List Out). o.1 ∷ xs) (firsts_behind conn mid w os more all ∙ ap (λ (n : ℕ). take (length os) (drop n (outs_to w.list conn))) next)
    ∙ ap (λ (xs : List Out). take (suc (length os)) xs) (sym (drop_get (outs_to w.list conn) (taken_seen u conn) o.1 stands))

firsts_at : (conn : ℕ) (u w : Content) (outs : List Placed) → TakeAll conn u outs w → taken_seen w conn ≡ length outs → outs_among outs ≡ take (length outs) (outs_to w.list conn)
firsts_at conn u w outs a is =
    let all = counts_all conn u w outs a in
    let begun : taken_seen u conn ≡ 0 = omega (arith, all, is) in
    firsts_behind conn u w outs a (omega (arith, is, begun)) ∙ ap (λ (n : ℕ). take (length outs) (drop n (outs_to w.list conn))) begun

pub took_outs : (conn : ℕ) (outs : List Placed) (u w : View) → TookAll conn outs u w → TookOuts conn outs u w
took_outs conn outs u w t = record {
  takes = t.takes;
  rise = rises conn u.seen w.seen outs t.takes;
  stand = stand conn u.seen w.seen outs t.takes;
  firsts = λ is. firsts_at conn u.seen w.seen outs t.takes is;
  added = t.added;
  share = t.share;
}
