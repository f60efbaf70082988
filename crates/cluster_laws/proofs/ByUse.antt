-- The order of the last uses has each live engine, and ascends by the places of the last uses.
use Rattle.std.proofs.Common.{◌≡◌, ℕ, ◌+◌, suc, ◌≤◌, List, [], ◌∷◌, ◌++◌, length, Bool, true, false, cond, not, ◌&&◌, refl, sym, ◌∙◌, subst, arith, Option, Some, None, ⊎_elim}
use Rattle.std.specs.Prelude.{nat_lt, ◌==◌, filter, option_map}
use Rattle.std.specs.List.{list_any, list_all}
use Rattle.std.proofs.lemmas.Bool.{and_parts, and_from, or_cases, or_left, lt-ltb, eq-eqb, eqb-true, or_right}
use Rattle.std.proofs.lemmas.List.Folds.{list_any-append}
use Rattle.cluster_types.specs.declared.entry.Input.TheVariants.{Open, Up, Down, In, Beat, Time}
use Rattle.cluster_types.specs.declared.entry.Entry.{Entry}
use Rattle.cluster_types.specs.declared.entry.Entry.TheVariants.{Input, Hand, Settle, Lose}
use Rattle.cluster_defs.specs.Engines.{engine_on, joined, left_engine, echoed, with_mark, with_engine, without_left}
use Rattle.cluster_defs.specs.Facts.{Facts, event_on, is_direct_id}
use Rattle.cluster_defs.specs.Steps.{next, moved, with_joined}
use Rattle.cluster_defs.specs.Scheduling.{is_live}
use Rattle.cluster_defs.specs.Histories.{History, facts}
use Rattle.cluster_defs.specs.Uses.{joins_as, last_use, Ascends}
use Rattle.cluster_laws.proofs.Later.{came, left_next, in_next}
use Rattle.cluster_laws.proofs.Order.{last_use_within}
use Rattle.cluster_types.proofs.Lists.{all-weaker}

all-filter : {X : Type 0} (q p : X → Bool) (xs : List X) → list_all q xs ≡ true → list_all q (filter p xs) ≡ true
all-filter q p [] h = h
all-filter {X} q p (x ∷ xs) h =
    let both = and_parts _ _ h in
    elim (p x) as (λ b. list_all q (cond b (x ∷ filter p xs) (filter p xs)) ≡ true) [ true ↦ and_from _ _ both.0 (all-filter q p xs both.1) | false ↦ all-filter q p xs both.1 ]

all-push : {X : Type 0} (q : X → Bool) (xs : List X) (x : X) → list_all q xs ≡ true → q x ≡ true → list_all q (xs ++ x ∷ []) ≡ true
all-push q [] x h k = and_from _ _ k refl
all-push q (y ∷ xs) x h k = let both = and_parts _ _ h in and_from _ _ both.0 (all-push q xs x both.1 k)

keeps_order : (f : ℕ → ℕ) (n top x : ℕ) → (n == x) ≡ false → ((m : ℕ) → f m ≤ top) → (ns : List ℕ) → list_all (λ m. nat_lt (f x) (f m)) ns ≡ true → list_all (λ m. nat_lt (cond (n == x) (suc top) (f x)) (cond (n == m) (suc top) (f m))) ns ≡ true
keeps_order f n top x off within ns h = rw off (all-weaker _ _ (λ m lt. raise (n == m) m lt) ns h)
  where
    raise : (b : Bool) (m : ℕ) → nat_lt (f x) (f m) ≡ true → nat_lt (f x) (cond b (suc top) (f m)) ≡ true
    raise true m lt = let le = within x in lt-ltb (f x) (suc top) (omega arith)
    raise false m lt = lt

moved_ascends : (f : ℕ → ℕ) (n top : ℕ) → ((m : ℕ) → f m ≤ top) → (ns : List ℕ) → Ascends f ns → Ascends (λ m. cond (n == m) (suc top) (f m)) (moved n ns)
moved_ascends f n top within [] h = (refl, tt)
moved_ascends f n top within (x ∷ ns) h =
    let rest = moved_ascends f n top within ns h.1 in
    (elim (x == n) as (λ b. (x == n) ≡ b → Ascends (λ m. cond (n == m) (suc top) (f m)) (cond (not b) (x ∷ filter (λ m. not (m == n)) ns) (filter (λ m. not (m == n)) ns) ++ n ∷ [])) [
      | true ↦ λ _. rest
      | false ↦ λ off.
          let apart : (n == x) ≡ false = turned x n off in
          let le = within x in
          let last : nat_lt (cond (n == x) (suc top) (f x)) (cond (n == n) (suc top) (f n)) ≡ true = rw (apart, eq-eqb n n refl) (lt-ltb (f x) (suc top) (omega arith)) in
          (all-push _ (filter (λ m. not (m == n)) ns) n (all-filter _ (λ m. not (m == n)) ns (keeps_order f n top x apart within ns h.0)) last, rest)
    ]) refl
  where
    turned : (a b : ℕ) → (a == b) ≡ false → (b == a) ≡ false
    turned a b off = go (b == a) refl
      where
        go : (c : Bool) → (b == a) ≡ c → c ≡ false
        go true e = let same = eqb-true b a e in let on = eq-eqb a b (sym same) in cc
        go false e = refl

in_ascends : (f : ℕ → ℕ) (next top : ℕ) (o : Option (List ℕ)) → ((m : ℕ) → f m ≤ top) → (ns : List ℕ) → Ascends f ns → Ascends (λ m. cond (joins_as next o m) (suc top) (f m)) (with_joined next o ns)
in_ascends f next top None within ns h = h
in_ascends f next top (Some uuid) within ns h = moved_ascends f next top within ns h

-- what uses of a test say of the places, where the test is off
same_ascends : (f g : ℕ → ℕ) → ((m : ℕ) → g m ≡ f m) → (ns : List ℕ) → Ascends f ns → Ascends g ns
same_ascends f g same [] h = tt
same_ascends f g same (n ∷ ns) h =
    (all-weaker (λ m. nat_lt (f n) (f m)) (λ m. nat_lt (g n) (g m)) (λ m lt. rw (same n, same m) lt) ns h.0, same_ascends f g same ns h.1)

off_use : (a b : Bool) (top old : ℕ) → b ≡ true → cond (a && not b) (suc top) old ≡ old
off_use true true top old h = refl
off_use true false top old h = cc
off_use false b top old h = refl

on_use : (a b : Bool) (top old : ℕ) → b ≡ false → cond (a && not b) (suc top) old ≡ cond a (suc top) old
on_use true true top old h = cc
on_use true false top old h = refl
on_use false b top old h = refl

-- a Hand uses its engine, unless it is of a direct request
hand_ascends : (f : ℕ → ℕ) (n top : ℕ) → ((m : ℕ) → f m ≤ top) → (direct : Bool) (ns : List ℕ) → Ascends f ns →
    Ascends (λ m. cond (n == m && not direct) (suc top) (f m)) (cond direct ns (moved n ns))
hand_ascends f n top within true ns h = same_ascends f _ (λ m. off_use (n == m) true top (f m) refl) ns h
hand_ascends f n top within false ns h = same_ascends _ _ (λ m. on_use (n == m) false top (f m) refl) (moved n ns) (moved_ascends f n top within ns h)

pub by_use_ascends : (h : History) → Ascends (last_use h) (facts h).by_use
by_use_ascends [] = tt
by_use_ascends (Hand id n ∷ older) = hand_ascends (last_use older) n (length older) (last_use_within older) (is_direct_id (facts older) id) (facts older).by_use (by_use_ascends older)
by_use_ascends (Settle id v c ∷ older) = by_use_ascends older
by_use_ascends (Lose n ∷ older) = by_use_ascends older
by_use_ascends (Input (Open moment scheme hwm misses) ∷ older) = by_use_ascends older
by_use_ascends (Input (Up conn channel moment word identity) ∷ older) = by_use_ascends older
by_use_ascends (Input (Down conn moment word) ∷ older) = by_use_ascends older
by_use_ascends (Input (Beat moment word) ∷ older) = by_use_ascends older
by_use_ascends (Input (Time moment word) ∷ older) = by_use_ascends older
by_use_ascends (Input (In conn moment word message) ∷ older) =
    in_ascends (last_use older) (facts older).engines.next (length older) (joined (facts older).engines conn (event_on (facts older) conn message)) (last_use_within older) (facts older).by_use (by_use_ascends older)

-- EACH LIVE ENGINE IS IN IT

has_last : (n x : ℕ) (ns : List ℕ) → (x == n) ≡ true → list_any (λ m. m == n) (ns ++ x ∷ []) ≡ true
has_last n x ns h = list_any-append (λ m. m == n) ns (x ∷ []) ∙ or_right _ _ (or_left _ _ h)

moved_keeps : (n x : ℕ) (ns : List ℕ) → list_any (λ m. m == n) ns ≡ true → list_any (λ m. m == n) (moved x ns) ≡ true
moved_keeps n x [] h = cc
moved_keeps n x (y ∷ ns) h =
    (elim (y == x) as (λ b. (y == x) ≡ b → list_any (λ m. m == n) (cond (not b) (y ∷ filter (λ m. not (m == x)) ns) (filter (λ m. not (m == x)) ns) ++ x ∷ []) ≡ true) [
      | true ↦ λ same. ⊎_elim (λ here. has_last n x (filter (λ m. not (m == x)) ns) (subst (λ z. (z == n) ≡ true) (eqb-true y x same) here)) (moved_keeps n x ns) (or_cases _ _ h)
      | false ↦ λ _. ⊎_elim (λ here. or_left _ _ here) (λ later. or_right _ _ (moved_keeps n x ns later)) (or_cases _ _ h)
    ]) refl

in_keeps : (n next : ℕ) (o : Option (List ℕ)) (ns : List ℕ) → list_any (λ m. m == n) ns ≡ true → list_any (λ m. m == n) (with_joined next o ns) ≡ true
in_keeps n next None ns h = h
in_keeps n next (Some uuid) ns h = moved_keeps n next ns h

in_new : (f : Facts) (conn : ℕ) (beat : Option ℕ) (gone : Option ℕ) (o : Option (List ℕ)) (ns : List ℕ) →
    (with_mark conn beat (without_left gone (with_engine conn f.beats o f.engines))).next ≡ f.engines.next + 1 →
    list_any (λ m. m == f.engines.next) (with_joined f.engines.next o ns) ≡ true
in_new f conn beat gone None ns h = let same = in_next f conn beat gone None in absurd (omega arith)
in_new f conn beat gone (Some uuid) ns h = has_last f.engines.next f.engines.next (filter (λ m. not (m == f.engines.next)) ns) (eq-eqb f.engines.next f.engines.next refl)

hand_keeps : (n x : ℕ) (direct : Bool) (ns : List ℕ) → list_any (λ m. m == n) ns ≡ true → list_any (λ m. m == n) (cond direct ns (moved x ns)) ≡ true
hand_keeps n x true ns h = h
hand_keeps n x false ns h = moved_keeps n x ns h

use_keeps : (f : Facts) (e : Entry) (n : ℕ) → list_any (λ m. m == n) f.by_use ≡ true → list_any (λ m. m == n) (next f e).by_use ≡ true
use_keeps f (Hand id x) n h = hand_keeps n x (is_direct_id f id) f.by_use h
use_keeps f (Settle id v c) n h = h
use_keeps f (Lose x) n h = h
use_keeps f (Input (Open moment scheme hwm misses)) n h = h
use_keeps f (Input (Up conn channel moment word identity)) n h = h
use_keeps f (Input (Down conn moment word)) n h = h
use_keeps f (Input (Beat moment word)) n h = h
use_keeps f (Input (Time moment word)) n h = h
use_keeps f (Input (In conn moment word message)) n h = in_keeps n f.engines.next (joined f.engines conn (event_on f conn message)) f.by_use h

new_used : (f : Facts) (e : Entry) → (next f e).engines.next ≡ f.engines.next + 1 → list_any (λ m. m == f.engines.next) (next f e).by_use ≡ true
new_used f (Hand id x) h = absurd (omega arith)
new_used f (Settle id v c) h = absurd (omega arith)
new_used f (Lose x) h = absurd (omega arith)
new_used f (Input (Open moment scheme hwm misses)) h = absurd (omega arith)
new_used f (Input (Up conn channel moment word identity)) h = absurd (omega arith)
new_used f (Input (Down conn moment word)) h = let same = left_next (option_map (λ e. e.number) (engine_on f.engines.live conn)) f.engines in absurd (omega arith)
new_used f (Input (Beat moment word)) h = absurd (omega arith)
new_used f (Input (Time moment word)) h = absurd (omega arith)
new_used f (Input (In conn moment word message)) h =
    let o = event_on f conn message in
    in_new f conn (echoed f.engines.live conn f.beats o) (left_engine f.engines.live conn o) (joined f.engines conn o) f.by_use h

pub live_used : (h : History) (n : ℕ) → is_live (facts h) n ≡ true → list_any (λ m. m == n) (facts h).by_use ≡ true
live_used [] n live = cc
live_used (e ∷ older) n live =
    ⊎_elim (λ before. use_keeps (facts older) e n (live_used older n before))
    (λ new. subst (λ x. list_any (λ m. m == x) (facts (e ∷ older)).by_use ≡ true) (sym new.0) (new_used (facts older) e new.1)) (came (facts older) e n live)
