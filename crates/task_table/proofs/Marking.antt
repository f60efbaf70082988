-- Which changes of the tasks the sets of places outlast: all, where the places that change were put in before.
use Rattle.std.proofs.Common.{◌≡◌, ℕ, map, bytes_eq, List, [], ◌∷◌, ◌++◌, length, Bool, true, false, not, ◌&&◌, cond, Some, None, ◌||◌, ◌⊎◌, inl, inr, ⊎_elim, refl, sym, subst}
use Rattle.std.specs.Prelude.{slice_get, nat_le}
use Rattle.std.specs.Ordering.{nat_cmp}
use Rattle.std.specs.BTreeMap.{is_at}
use Rattle.std.specs.BTreeSet.{BTreeSet}
use Rattle.place_sets.specs.Sets.{has, holds_at, Covers, Apart}
use Rattle.place_sets.specs.Lanes.{in_lane}
use Rattle.cluster_defs.specs.declared.engine.Engine.{Engine}
use Rattle.cluster_defs.specs.Engines.{lists_number}
use Rattle.place_sets.proofs.Covering.{covers_grown, covers_at, covers_changed, covers_more, first_or_later, same_place}
use Rattle.task_table.specs.declared.marks.Marks.{Marks}
use Rattle.std.specs.Option.{is_some}
use Rattle.cluster_defs.specs.declared.attempt.Attempt.{Attempt}
use Rattle.cluster_defs.specs.declared.attempt.Attempt.TheVariants.{Never, Running, EndedOk, EndedBadly, Lost, Declined, Withdrawn}
use Rattle.cluster_defs.specs.Tasks.{runs, runs_at, after_end, lost}
use Rattle.task_table.specs.Seen.{Seen, place_in, attempted, ended_on, lost_all, on_unsettled}
use Rattle.task_table.specs.Standing.{final_at, direct_at, runs_open}
use Rattle.task_table.specs.Marking.{InSome, Marked, HasAt, HasAll, Woken, AllWoken, AllGrow, Aside}
use Rattle.task_table.specs.Waiting.{settled_in, is_among, Awaited}
use Rattle.task_table.specs.Fitting.{fits, hopeless, late}
use Rattle.task_table.proofs.Fits.{fits_agrees, hopeless_agrees}
use Rattle.task_table.specs.Places.{Alike, name}
use Rattle.task_table.proofs.Waiting.{Outside, kept, settle_outside, others_settled, one_place, alike_settled, all_agree_at, more_settled, get_more}
use Rattle.cluster_defs.specs.Words.{Id}
use Rattle.std.proofs.lemmas.Bool.{both_ways, false_from_ne_true}
use Rattle.cluster_defs.proofs.Attempts.{at_runs}

pub marked_grown : (ts : List Seen) (m n : Marks) → Marked ts m → AllGrow m n → Marked ts n
marked_grown ts m n b g = record {
  finals = covers_grown final_at ts m.finals n.finals b.finals g.finals;
  directs = covers_grown direct_at ts m.directs n.directs b.directs g.directs;
  running = covers_grown runs_open ts m.running n.running b.running g.running;
  free = λ k i on. ⊎_elim (λ here. inl (g.free i here)) (λ here. inr (g.lanes k i here)) (b.free k i on);
  hopeless = λ live i on. ⊎_elim (λ here. inl (g.doubtful i here)) (λ some. inr (some.0, some.1, g.watches some.0 i some.2)) (b.hopeless live i on);
  late = λ now i on. ⊎_elim (λ here. inl (g.doubtful i here)) (λ some. inr (some.0, some.1, g.deadlines some.0 i some.2)) (b.late now i on);
}

-- a place that isn't in a set is none that is
not_there : (s : BTreeSet ℕ) (i place : ℕ) → has s i ≡ false → has s place ≡ true → i ≡ place → ⊥
not_there s i place off on same = both_ways (has s place) (subst (λ k. has s k ≡ false) same off) on

-- where the tasks outside the two sets are the same, and so is what they wait for
module _ (ts us : List Seen) (m : Marks) (b : Marked ts m) where
  free_kept : Outside ts us m.free → (n i : ℕ) → holds_at (λ t. fits us t n) us i ≡ true → (has m.free i ≡ true) ⊎ (in_lane m.lanes n i ≡ true)
  free_kept out n = kept ts us (λ t. fits ts t n) (λ t. fits us t n) m.free (fits_agrees ts us n) (b.free n) out

  hopeless_kept : Outside ts us m.doubtful → (live : List Engine) (i : ℕ) → holds_at (hopeless us live) us i ≡ true → (has m.doubtful i ≡ true) ⊎ InSome (λ n. not (lists_number n live)) m.watches i
  hopeless_kept out live = kept ts us (hopeless ts live) (hopeless us live) m.doubtful (hopeless_agrees ts us live) (b.hopeless live) out

  late_kept : Outside ts us m.doubtful → (now i : ℕ) → holds_at (late now) us i ≡ true → (has m.doubtful i ≡ true) ⊎ InSome (λ n. nat_le n now) m.deadlines i
  late_kept out now = kept ts us (late now) (late now) m.doubtful (λ t _. refl) (b.late now) out

-- any change of the task at a place
pub marked_at : (ts us : List Seen) (m : Marks) (place : ℕ) → Marked ts m → HasAt place m → Apart place ts us → Alike ts us → Marked us m
marked_at ts us m place b h apart alike = record {
  finals = covers_at final_at ts us m.finals place b.finals h.finals apart;
  directs = covers_at direct_at ts us m.directs place b.directs h.directs apart;
  running = covers_at runs_open ts us m.running place b.running h.running apart;
  free = free_kept ts us m b (outside m.free h.woken.free);
  hopeless = hopeless_kept ts us m b (outside m.doubtful h.woken.doubtful);
  late = late_kept ts us m b (outside m.doubtful h.woken.doubtful);
}
  where
    outside : (s : BTreeSet ℕ) → has s place ≡ true → Outside ts us s
    outside s on = λ i off. (apart i (not_there s i place off on), all_agree_at ts us (alike_settled ts us alike) (slice_get ts i))

-- the task of an id is settled, with the places of those that wait for it
pub marked_settled : (ts us : List Seen) (m : Marks) (id : Id) (place : ℕ) (places : List ℕ) → Marked ts m → HasAt place m → AllWoken places m → place_in id ts ≡ Some place → Awaited id ts places → Apart place ts us → map name us ≡ map name ts → Marked us m
marked_settled ts us m id place places b h woken at awaited apart names = record {
  finals = covers_at final_at ts us m.finals place b.finals h.finals apart;
  directs = covers_at direct_at ts us m.directs place b.directs h.directs apart;
  running = covers_at runs_open ts us m.running place b.running h.running apart;
  free = free_kept ts us m b (settle_outside ts us id place places m.free awaited (λ i on. (woken i on).free) h.woken.free apart others);
  hopeless = hopeless_kept ts us m b (settle_outside ts us id place places m.doubtful awaited (λ i on. (woken i on).doubtful) h.woken.doubtful apart others);
  late = late_kept ts us m b (settle_outside ts us id place places m.doubtful awaited (λ i on. (woken i on).doubtful) h.woken.doubtful apart others);
}
  where
    others : (j : Id) → bytes_eq j id ≡ false → settled_in ts j ≡ settled_in us j
    others j off = others_settled ts us id j place names apart at (λ same. one_place ts id j place at same) off

-- any changes of the tasks at some places
module _ (ts us : List Seen) (places : List ℕ) (aside : Aside places ts us) where
  none_of : (s : BTreeSet ℕ) → ((i : ℕ) → is_among i places ≡ true → has s i ≡ true) → (i : ℕ) → has s i ≡ false → is_among i places ≡ false
  none_of s there i off = false_from_ne_true (is_among i places) (λ on. both_ways (has s i) off (there i on))

  covers_aside : (p : Seen → Bool) (s : BTreeSet ℕ) → Covers p ts s → ((i : ℕ) → is_among i places ≡ true → has s i ≡ true) → Covers p us s
  covers_aside p s covers there = covers_changed p ts us s covers (λ i off. aside i (none_of s there i off))

  outside_aside : Alike ts us → (s : BTreeSet ℕ) → ((i : ℕ) → is_among i places ≡ true → has s i ≡ true) → Outside ts us s
  outside_aside alike s there = λ i off. (aside i (none_of s there i off), all_agree_at ts us (alike_settled ts us alike) (slice_get ts i))

  pub marked_aside : (m : Marks) → Marked ts m → HasAll places m → Alike ts us → Marked us m
  marked_aside m b h alike = record {
    finals = covers_aside final_at m.finals b.finals (λ i on. (h i on).finals);
    directs = covers_aside direct_at m.directs b.directs (λ i on. (h i on).directs);
    running = covers_aside runs_open m.running b.running (λ i on. (h i on).running);
    free = free_kept ts us m b (outside_aside alike m.free (λ i on. (h i on).woken.free));
    hopeless = hopeless_kept ts us m b (outside_aside alike m.doubtful (λ i on. (h i on).woken.doubtful));
    late = late_kept ts us m b (outside_aside alike m.doubtful (λ i on. (h i on).woken.doubtful));
  }

-- a task more, which isn't settled
module _ (ts : List Seen) (t : Seen) (none : t.settled ≡ None) where
  outside_more : (s : BTreeSet ℕ) → has s (length ts) ≡ true → Outside ts (ts ++ t ∷ []) s
  outside_more s on = λ i off. (get_more ts t i (not_there s i (length ts) off on), all_agree_at ts (ts ++ t ∷ []) (more_settled ts t none) (slice_get ts i))

  pub marked_more : (m : Marks) → Marked ts m → HasAt (length ts) m → Marked (ts ++ t ∷ []) m
  marked_more m b h = record {
    finals = covers_more final_at ts t m.finals b.finals h.finals;
    directs = covers_more direct_at ts t m.directs b.directs h.directs;
    running = covers_more runs_open ts t m.running b.running h.running;
    free = free_kept ts (ts ++ t ∷ []) m b (outside_more m.free h.woken.free);
    hopeless = hopeless_kept ts (ts ++ t ∷ []) m b (outside_more m.doubtful h.woken.doubtful);
    late = late_kept ts (ts ++ t ∷ []) m b (outside_more m.doubtful h.woken.doubtful);
  }

woken_grown : (place : ℕ) (m n : Marks) → Woken place m → AllGrow m n → Woken place n
woken_grown place m n h g = record { free = g.free place h.free; doubtful = g.doubtful place h.doubtful }

pub has_grown : (place : ℕ) (m n : Marks) → HasAt place m → AllGrow m n → HasAt place n
has_grown place m n h g = record {
  finals = g.finals place h.finals;
  directs = g.directs place h.directs;
  running = g.running place h.running;
  woken = woken_grown place m n h.woken g;
}

pub grow_after : (l m n : Marks) → AllGrow l m → AllGrow m n → AllGrow l n
grow_after l m n a b = record {
  finals = λ i on. b.finals i (a.finals i on);
  directs = λ i on. b.directs i (a.directs i on);
  running = λ i on. b.running i (a.running i on);
  free = λ i on. b.free i (a.free i on);
  doubtful = λ i on. b.doubtful i (a.doubtful i on);
  lanes = λ n i on. b.lanes n i (a.lanes n i on);
  watches = λ n i on. b.watches n i (a.watches n i on);
  deadlines = λ n i on. b.deadlines n i (a.deadlines n i on);
}

pub among_end : (ps : List ℕ) (p i : ℕ) → is_among i (ps ++ p ∷ []) ≡ true → (is_among i ps ≡ true) ⊎ (i ≡ p)
among_end [] p i on = first_or_later (is_at (nat_cmp i) p) false on (λ same. inr (same_place i p same)) (λ h. cc)
among_end (q ∷ ps) p i on =
    first_or_later (is_at (nat_cmp i) q) (is_among i (ps ++ p ∷ [])) on (λ same. inl (left_of _ _ same)) (λ later. ⊎_elim (λ h. inl (right_of _ _ h)) (λ e. inr e) (among_end ps p i later))
  where
    left_of : (a b : Bool) → a ≡ true → (a || b) ≡ true
    left_of true b h = refl
    left_of false b h = cc

    right_of : (a b : Bool) → b ≡ true → (a || b) ≡ true
    right_of true b h = refl
    right_of false b h = h

-- the sets have some places, and then one more
pub all_more : (ps : List ℕ) (p : ℕ) (m n : Marks) → HasAll ps m → AllGrow m n → HasAt p n → HasAll (ps ++ p ∷ []) n
all_more ps p m n h g there = λ i on. ⊎_elim (λ before. has_grown i m n (h i before) g) (λ e. subst (λ k. HasAt k n) (sym e) there) (among_end ps p i on)

-- the same of the sets that hang on how other tasks were settled
pub woken_more : (ps : List ℕ) (p : ℕ) (m n : Marks) → AllWoken ps m → AllGrow m n → Woken p n → AllWoken (ps ++ p ∷ []) n
woken_more ps p m n h g there = λ i on. ⊎_elim (λ before. woken_grown i m n (h i before) g) (λ e. subst (λ k. Woken k n) (sym e) there) (among_end ps p i on)

-- ATTEMPTS THAT END

stays : (s r a : Bool) (x y : Seen) → (not s && r) ≡ false → (a ≡ true → r ≡ true) → cond s x (cond a y x) ≡ x
stays true r a x y off up = refl
stays false r false x y off up = refl
stays false true true x y off up = cc
stays false false true x y off up = cc (up refl)

-- a task that doesn't run isn't changed by an engine's end, nor by an Open
pub idle_ended : (n : ℕ) (t : Seen) → runs_open t ≡ false → on_unsettled (ended_on n) t ≡ t
idle_ended n t off =
    stays (is_some t.settled) (runs t.attempts.last) (runs_at n t.attempts.last) t (attempted (after_end (Some n) t.attempts) t) off (at_runs n t.attempts.last)

pub idle_lost : (t : Seen) → runs_open t ≡ false → on_unsettled lost_all t ≡ t
idle_lost t off = stays (is_some t.settled) (runs t.attempts.last) (runs t.attempts.last) t (attempted (lost t.attempts.last t.attempts) t) off (λ h. h)
