-- No id is known twice; the live engines ascend by number, and no two have one connection or one uuid.
use Rattle.std.proofs.Common.{◌≡◌, ℕ, ◌+◌, ◌≤◌, List, [], ◌∷◌, ◌++◌, length, map, append-nil, Bool, true, false, cond, not, ◌&&◌, ◌||◌, refl, sym, ap, ◌∙◌, subst, arith, Option, Some, None, bytes_eq}
use Rattle.std.specs.Prelude.{nat_lt, find, filter, option_map, ◌==◌}
use Rattle.std.specs.List.{list_all}
use Rattle.std.proofs.lemmas.Bool.{and_parts, and_from, not-true, false_from_ne_true, both_ways, lt-ltb, ltb-true, ltb-false, eqb-true, eq-eqb, or_from}
use Rattle.std.proofs.lemmas.List.Folds.{list_any-append}
use Rattle.cluster_types.specs.declared.message.Message.{Message}
use Rattle.cluster_types.specs.declared.event.Event.{Event}
use Rattle.cluster_types.specs.declared.event.Event.TheVariants.{Submit, Direct, Reply, Join, Leave, Pong, Purge, Resubmit, Abort, Ask}
use Rattle.cluster_types.specs.declared.entry.Input.TheVariants.{Open, Up, Down, In, Beat, Time}
use Rattle.cluster_types.specs.declared.entry.Entry.{Entry}
use Rattle.cluster_types.specs.declared.entry.Entry.TheVariants.{Input, Hand, Settle, Lose}
use Rattle.cluster_defs.specs.Texts.{resubmit_id}
use Rattle.cluster_defs.specs.declared.engine.Engine.{Engine}
use Rattle.cluster_defs.specs.declared.engine.Joining.TheVariants.{Repeat, AlreadyJoined}
use Rattle.cluster_defs.specs.Words.{Id, is_listed}
use Rattle.cluster_defs.specs.Engines.{Engines, engine_on, engine_named, joining_again, joining_new, joining_at, joining, is_joined, joined, left_engine, echoed, with_engine, without_left, with_mark, marked, raises}
use Rattle.cluster_defs.specs.Facts.{Facts, event_on}
use Rattle.cluster_types.specs.Limits.{most_ids}
use Rattle.cluster_defs.specs.Acceptance.{Demand, accepted, accepted_id}
use Rattle.cluster_defs.specs.Purges.{Copy, copies_from, copied_by, copied_ids}
use Rattle.cluster_defs.specs.Steps.{next}
use Rattle.cluster_defs.specs.Histories.{History, facts, kept}
use Rattle.cluster_defs.specs.Lives.{IsFront}
use Rattle.cluster_defs.specs.Laws.{EachOnce, EnginesAscend}
use Rattle.cluster_defs.proofs.Options.{same_id, id_self, if_some}
use Rattle.cluster_laws.proofs.Kept.{kept_facts}
use Rattle.cluster_laws.proofs.Closed.{listed_stays}
use Rattle.cluster_laws.proofs.Copies.{copies_of}
use Rattle.cluster_laws.proofs.Numbers.{accepted_says, Numbered, numbered, no_copies, AllNew, copies_new, number_given, same_number}
use Rattle.cluster_types.proofs.Booleans.{or_off_left, or_off_right}

-- KNOWN IDS

-- ids of two lists that have none in common
Disjoint : List Id → List Id → Type 0
Disjoint xs [] = Unit {0}
Disjoint xs (y ∷ ys) = (is_listed y xs ≡ false) × Disjoint xs ys

pub turned : (i j : Id) → bytes_eq i j ≡ false → bytes_eq j i ≡ false
turned i j off = false_from_ne_true _ (λ on. both_ways (bytes_eq i j) off (subst (λ x. bytes_eq x j ≡ true) (same_id j i on) (id_self j)))

unlisted_all : (x : Id) (xs ys : List Id) → Disjoint (x ∷ xs) ys → is_listed x ys ≡ false
unfolding Disjoint
unlisted_all x xs [] h = refl
unlisted_all x xs (y ∷ ys) h = or_from (bytes_eq y x) (is_listed x ys) (turned x y (or_off_left _ _ h.0)) (unlisted_all x xs ys h.1)

disjoint_rest : (x : Id) (xs ys : List Id) → Disjoint (x ∷ xs) ys → Disjoint xs ys
unfolding Disjoint
disjoint_rest x xs [] h = tt
disjoint_rest x xs (y ∷ ys) h = (or_off_right _ _ h.0, disjoint_rest x xs ys h.1)

once_append : (xs ys : List Id) → EachOnce xs → EachOnce ys → Disjoint xs ys → EachOnce (xs ++ ys)
once_append [] ys a b h = b
once_append (x ∷ xs) ys a b h =
    (list_any-append (λ i. bytes_eq i x) xs ys ∙ or_from _ _ a.0 (unlisted_all x xs ys h), once_append xs ys a.1 b (disjoint_rest x xs ys h))

copies_once : (number : ℕ) (ids : List Id) → number + length ids ≤ most_ids + 1 → EachOnce (map (λ (c : Copy). c.new) (copies_from number ids))
copies_once number [] within = tt
copies_once number (old ∷ ids) within = (
  false_from_ne_true _ (λ on.
      let at = number_given (number + 1) ids (resubmit_id number) on in
      let low = at.1 in
      let high = at.2 in
      let same : number ≡ at.0 = same_number number at.0 (omega arith) (omega arith) at.3 in
      absurd (omega arith)),
  copies_once (number + 1) ids (omega arith),
)

new_disjoint : (known : List Id) (copies : List Copy) → AllNew known copies → Disjoint known (map (λ (c : Copy). c.new) copies)
unfolding Disjoint
new_disjoint known [] all = tt
new_disjoint known (c ∷ copies) all = (all.0, new_disjoint known copies all.1)

one_disjoint : (known : List Id) (id : Id) → is_listed id known ≡ false → Disjoint known (id ∷ [])
unfolding Disjoint
one_disjoint known id off = (off, tt)

in_once : (f : Facts) (m : Message) (o : Option Event) → Numbered f.known → EachOnce f.known → EachOnce (f.known ++ accepted_id (accepted f m o) ++ copied_ids (copied_by f o))
in_once f m o numbers before = go (accepted f m o) refl
  where
    copies : (c : Option (List Copy)) → copied_by f o ≡ c → EachOnce (f.known ++ [] ++ copied_ids c)
    copies None is = subst EachOnce (sym (append-nil (f.known ++ []) ∙ append-nil f.known)) before
    copies (Some made) is =
        let of = copies_of f o made is in
        let room : length f.known + length of.0 ≤ most_ids = ltb-false most_ids (length f.known + length of.0) of.1.fits in
        let new : EachOnce (map (λ (c : Copy). c.new) made) = subst (λ x. EachOnce (map (λ (c : Copy). c.new) x)) (sym of.1.are) (copies_once (length f.known + 1) of.0 (omega arith)) in
        subst (λ known. EachOnce (known ++ map (λ (c : Copy). c.new) made)) (sym (append-nil f.known))
        (once_append f.known (map (λ (c : Copy). c.new) made) before new (new_disjoint f.known made (copies_new f o made numbers is)))

    go : (a : Option Demand) → accepted f m o ≡ a → EachOnce (f.known ++ accepted_id a ++ copied_ids (copied_by f o))
    go None is = copies (copied_by f o) refl
    go (Some d) is =
        let says = accepted_says f m o d is in
        subst (λ c. EachOnce (f.known ++ d.submission.id ∷ [] ++ copied_ids c)) (sym (no_copies f m o d is))
        (subst EachOnce (sym (append-nil (f.known ++ d.submission.id ∷ []))) (once_append f.known (d.submission.id ∷ []) before (refl, tt) (one_disjoint f.known d.submission.id says.unlisted)))

once_more : (f : Facts) (e : Entry) → Numbered f.known → EachOnce f.known → EachOnce (next f e).known
once_more f (Hand i n) numbers before = before
once_more f (Settle i v c) numbers before = before
once_more f (Lose n) numbers before = before
once_more f (Input (Open moment scheme hwm misses)) numbers before = before
once_more f (Input (Up conn channel moment word identity)) numbers before = before
once_more f (Input (Down conn moment word)) numbers before = before
once_more f (Input (Beat moment word)) numbers before = before
once_more f (Input (Time moment word)) numbers before = before
once_more f (Input (In conn moment word m)) numbers before = in_once f m (event_on f conn m) numbers before

pub known_once : (h : History) → EachOnce (facts h).known
known_once [] = tt
known_once (e ∷ older) = once_more (facts older) e (numbered older) (known_once older)

later_listed : (later : List Entry) (h : History) (id : Id) → is_listed id (facts h).known ≡ true → is_listed id (facts (later ++ h)).known ≡ true
later_listed [] h id is = is
later_listed (e ∷ later) h id is = listed_stays (facts (later ++ h)) e id (later_listed later h id is)

-- what was known when something was sent is known still
pub known_stays : (old history : History) (id : Id) → IsFront (kept old) (kept history) → is_listed id (facts old).known ≡ true → is_listed id (facts history).known ≡ true
known_stays old history id front is =
    let there : is_listed id (facts (kept old)).known ≡ true = ap (λ (f : Facts). is_listed id f.known) (kept_facts old) ∙ is in
    let more = later_listed front.0 (kept old) id there in
    let all : is_listed id (facts (kept history)).known ≡ true = subst (λ h. is_listed id (facts h).known ≡ true) (sym front.1) more in
    sym (ap (λ (f : Facts). is_listed id f.known) (kept_facts history)) ∙ all

-- ENGINES

abbrev apart : Engine → Engine → Bool
apart e d = nat_lt e.number d.number && not (d.conn == e.conn) && not (bytes_eq d.uuid e.uuid)

-- the live engines ascend and are apart, with numbers below the next one
record Ordered (engines : Engines) : Type 0 where
  ascend : EnginesAscend engines.live
  below : list_all (λ e. nat_lt e.number engines.next) engines.live ≡ true

all_filter : {X : Type 0} (q p : X → Bool) (xs : List X) → list_all q xs ≡ true → list_all q (filter p xs) ≡ true
all_filter q p [] h = h
all_filter {X} q p (x ∷ xs) h =
    let both = and_parts _ _ h in
    elim (p x) as (λ b. list_all q (cond b (x ∷ filter p xs) (filter p xs)) ≡ true) [ true ↦ and_from _ _ both.0 (all_filter q p xs both.1) | false ↦ all_filter q p xs both.1 ]

filter_ascends : (p : Engine → Bool) (live : List Engine) → EnginesAscend live → EnginesAscend (filter p live)
filter_ascends p [] h = tt
filter_ascends p (e ∷ live) h =
    elim (p e) as (λ b. EnginesAscend (cond b (e ∷ filter p live) (filter p live))) [
      | true ↦ (all_filter (apart e) p live h.0, filter_ascends p live h.1)
      | false ↦ filter_ascends p live h.1
    ]

left_ordered : (o : Option ℕ) (engines : Engines) → Ordered engines → Ordered (without_left o engines)
left_ordered None engines h = h
left_ordered (Some n) engines h = record { ascend = filter_ascends _ engines.live h.ascend; below = all_filter _ _ engines.live h.below }

-- a mark changes neither number, connection nor uuid
mark_all : (conn beat : ℕ) (q : Engine → Bool) → ((e : Engine) (m : ℕ) → q (record e { mark = m }) ≡ q e) → (live : List Engine) → list_all q live ≡ true → list_all q (map (marked conn beat) live) ≡ true
mark_all conn beat q same [] h = refl
mark_all conn beat q same (e ∷ live) h =
    let both = and_parts _ _ h in
    and_from _ _ (elim (raises conn beat e) as (λ b. q (cond b (record e { mark = beat }) e) ≡ true) [ true ↦ same e beat ∙ both.0 | false ↦ both.0 ]) (mark_all conn beat q same live both.1)

mark_ascends : (conn beat : ℕ) (live : List Engine) → EnginesAscend live → EnginesAscend (map (marked conn beat) live)
mark_ascends conn beat [] h = tt
mark_ascends conn beat (e ∷ live) h =
    let rest : list_all (apart e) (map (marked conn beat) live) ≡ true = mark_all conn beat (apart e) (λ d m. refl) live h.0 in
    (elim (raises conn beat e) as (λ b. list_all (apart (cond b (record e { mark = beat }) e)) (map (marked conn beat) live) ≡ true) [ true ↦ rest | false ↦ rest ], mark_ascends conn beat live h.1)

mark_ordered : (conn : ℕ) (o : Option ℕ) (engines : Engines) → Ordered engines → Ordered (with_mark conn o engines)
mark_ordered conn None engines h = h
mark_ordered conn (Some beat) engines h =
    record { ascend = mark_ascends conn beat engines.live h.ascend; below = mark_all conn beat (λ e. nat_lt e.number engines.next) (λ e m. refl) engines.live h.below }

-- what an accepted join says: no live engine has its connection or its uuid
find_off : {X : Type 0} (p : X → Bool) (xs : List X) → find p xs ≡ None → list_all (λ x. not (p x)) xs ≡ true
find_off p [] h = refl
find_off {X} p (x ∷ xs) h =
    (elim (p x) as (λ b. cond b (Some x) (find p xs) ≡ None → (not b && list_all (λ y. not (p y)) xs) ≡ true) [ true ↦ λ k. cc | false ↦ λ k. find_off p xs k ]) h

again_off : (uuid : List ℕ) (e : Engine) → is_joined (joining_again uuid e) ≡ true → ⊥
again_off uuid e h = (elim (bytes_eq e.uuid uuid) as (λ b. is_joined (cond b (Repeat e.number) (AlreadyJoined e.number)) ≡ true → ⊥) [ true ↦ λ k. cc | false ↦ λ k. cc ]) h

join_free : (engines : Engines) (conn : ℕ) (uuid : List ℕ) → is_joined (joining engines conn uuid) ≡ true → (engine_on engines.live conn ≡ None) × (engine_named engines.live uuid ≡ None)
join_free engines conn uuid h = go (engine_on engines.live conn) refl h
  where
    named : (o : Option Engine) → is_joined (joining_new engines.next o) ≡ true → o ≡ None
    named None k = refl
    named (Some holder) k = cc

    go : (o : Option Engine) → engine_on engines.live conn ≡ o → is_joined (joining_at engines uuid o) ≡ true → (engine_on engines.live conn ≡ None) × (engine_named engines.live uuid ≡ None)
    go (Some e) is k = absurd (again_off uuid e k)
    go None is k = (is, named (engine_named engines.live uuid) k)

joined_free : (engines : Engines) (conn : ℕ) (o : Option Event) (uuid : List ℕ) → joined engines conn o ≡ Some uuid → (engine_on engines.live conn ≡ None) × (engine_named engines.live uuid ≡ None)
joined_free engines conn None uuid h = cc
joined_free engines conn (Some (Join u)) uuid h =
    let is = if_some (is_joined (joining engines conn u)) (Some u) uuid h in
    let same : u ≡ uuid = cc in
    subst (λ x. (engine_on engines.live conn ≡ None) × (engine_named engines.live x ≡ None)) same (join_free engines conn u is.0)
joined_free engines conn (Some (Submit s)) uuid h = cc
joined_free engines conn (Some (Direct s)) uuid h = cc
joined_free engines conn (Some (Reply name header ok declined)) uuid h = cc
joined_free engines conn (Some Leave) uuid h = cc
joined_free engines conn (Some (Pong b)) uuid h = cc
joined_free engines conn (Some (Purge all ids)) uuid h = cc
joined_free engines conn (Some (Resubmit ids)) uuid h = cc
joined_free engines conn (Some (Abort ids)) uuid h = cc
joined_free engines conn (Some (Ask q)) uuid h = cc

flip_eq : (a b : ℕ) → not (a == b) ≡ true → not (b == a) ≡ true
flip_eq a b h = go (b == a) refl
  where
    go : (c : Bool) → (b == a) ≡ c → not c ≡ true
    go false is = refl
    go true is = let same = eqb-true b a is in let on = eq-eqb a b (sym same) in let off = not-true _ h in absurd (both_ways (a == b) off on)

flip_bytes : (a b : List ℕ) → not (bytes_eq a b) ≡ true → not (bytes_eq b a) ≡ true
flip_bytes a b h = ap not (turned a b (not-true _ h))

push_ascends : (live : List Engine) (d : Engine) → EnginesAscend live → list_all (λ e. nat_lt e.number d.number) live ≡ true → list_all (λ e. not (e.conn == d.conn)) live ≡ true → list_all (λ e. not (bytes_eq e.uuid d.uuid)) live ≡ true → EnginesAscend (live ++ d ∷ [])
push_ascends [] d h a b c = (refl, tt)
push_ascends (e ∷ live) d h a b c =
    let x = and_parts _ _ a in
    let y = and_parts _ _ b in
    let z = and_parts _ _ c in
    (push_all (apart e) live d h.0 (and_from _ _ (and_from _ _ x.0 (flip_eq e.conn d.conn y.0)) (flip_bytes e.uuid d.uuid z.0)), push_ascends live d h.1 x.1 y.1 z.1)
  where
    push_all : (q : Engine → Bool) (xs : List Engine) (x : Engine) → list_all q xs ≡ true → q x ≡ true → list_all q (xs ++ x ∷ []) ≡ true
    push_all q [] x k l = and_from _ _ l refl
    push_all q (y ∷ xs) x k l = let both = and_parts _ _ k in and_from _ _ both.0 (push_all q xs x both.1 l)

below_push : (n : ℕ) (live : List Engine) (d : Engine) → d.number ≡ n → list_all (λ e. nat_lt e.number n) live ≡ true → list_all (λ e. nat_lt e.number (n + 1)) (live ++ d ∷ []) ≡ true
below_push n [] d is h = and_from _ _ (lt-ltb d.number (n + 1) (omega arith)) refl
below_push n (e ∷ live) d is h = let both = and_parts _ _ h in let lt = ltb-true e.number n both.0 in and_from _ _ (lt-ltb e.number (n + 1) (omega arith)) (below_push n live d is both.1)

engine_ordered : (engines : Engines) (conn beats : ℕ) (event : Option Event) (o : Option (List ℕ)) → joined engines conn event ≡ o → Ordered engines → Ordered (with_engine conn beats o engines)
engine_ordered engines conn beats event None is h = h
engine_ordered engines conn beats event (Some uuid) is h =
    let free = joined_free engines conn event uuid is in
    let d : Engine = record { number = engines.next; conn = conn; uuid = uuid; mark = beats } in
    record {
      ascend = push_ascends engines.live d h.ascend h.below (find_off (λ e. e.conn == conn) engines.live free.0) (find_off (λ e. bytes_eq e.uuid uuid) engines.live free.1);
      below = below_push engines.next engines.live d refl h.below;
    }

ordered_more : (f : Facts) (e : Entry) → Ordered f.engines → Ordered (next f e).engines
ordered_more f (Hand i n) h = h
ordered_more f (Settle i v c) h = h
ordered_more f (Lose n) h = left_ordered (Some n) f.engines h
ordered_more f (Input (Open moment scheme hwm misses)) h = record { ascend = tt; below = refl }
ordered_more f (Input (Up conn channel moment word identity)) h = h
ordered_more f (Input (Down conn moment word)) h = left_ordered (option_map (λ e. e.number) (engine_on f.engines.live conn)) f.engines h
ordered_more f (Input (Beat moment word)) h = h
ordered_more f (Input (Time moment word)) h = h
ordered_more f (Input (In conn moment word m)) h =
    let o = event_on f conn m in
    mark_ordered conn (echoed f.engines.live conn f.beats o) _ (left_ordered (left_engine f.engines.live conn o) _ (engine_ordered f.engines conn f.beats o (joined f.engines conn o) refl h))

ordered : (h : History) → Ordered (facts h).engines
ordered [] = record { ascend = tt; below = refl }
ordered (e ∷ older) = ordered_more (facts older) e (ordered older)

pub live_ascend : (h : History) → EnginesAscend (facts h).engines.live
live_ascend h = (ordered h).ascend
