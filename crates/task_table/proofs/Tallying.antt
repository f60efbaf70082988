-- How what is counted changes with one task, or with all that ran.
use Rattle.std.proofs.Common.{◌≡◌, ap, sym, ◌∙◌, ℕ, zero, suc, ◌+◌, List, [], ◌∷◌, ◌++◌, map, Bool, cond, refl, subst, Option, Some, None, arith}
use Rattle.std.specs.Prelude.{⊤, slice_get, count_by, Result, Ok, Err, OnOk, OnErr}
use Rattle.std.specs.Option.{option_and_then}
use Rattle.std.specs.Global.{Vec}
use Rattle.std.specs.Ordering.{nat_cmp}
use Rattle.std.specs.List.Sorted.{IsStrictlySortedBy}
use Rattle.std.proofs.lemmas.List.Sums.{sum_by-cons, sum_by_push}
use Rattle.place_sets.specs.Sets.{holds, holds_at, at_place, at_places}
use Rattle.place_sets.proofs.Changing.{count_changed, count_past}
use Rattle.place_sets.proofs.Recounting.{recounted}
use Rattle.place_sets.specs.Counts.{count_of, hits, one_at, Moved}
use Rattle.task_graph.specs.Listing.{Waits}
use Rattle.task_table.specs.declared.marks.Marks.{Marks}
use Rattle.task_table.specs.declared.tallies.Classes.{Classes}
use Rattle.task_table.specs.declared.tallies.Tallies.{Tallies}
use Rattle.task_table.specs.Seen.{Seen}
use Rattle.task_table.specs.Loading.{load_in, loaded, Counted}
use Rattle.task_table.specs.Tallying.{direct_class, finished_class, waiting_class, classes, no_classes, class_at, classes_at, tally_in, tally_at, Told, AllTold, no_tallies, Followed, Less, More, AllLess, AllMore}
use Rattle.task_table.specs.Marking.{Marked}
use Rattle.task_table.specs.Places.{Alike, Beside}
use Rattle.task_table.proofs.Loading.{loads_hits}
use Rattle.task_table.proofs.Waiting.{indexed_alike}

at_there : (f : Seen → Seen) (p : ℕ) (ts : List Seen) (t : Seen) → slice_get ts p ≡ Some t → slice_get (at_place f p ts) p ≡ Some (f t)
at_there f p [] t is = cc
at_there f zero (u ∷ ts) t is = let same : u ≡ t = cc in ap (λ v. Some (f v)) same
at_there f (suc p) (u ∷ ts) t is = at_there f p ts t is

-- ONE CLASS

module _ (class : Seen → Option ℕ) where
  abbrev hit : ℕ → Seen → Bool
  hit n t = hits (class t) n

  abbrev Tells : List Seen → List ℕ → Type 0
  Tells ts counts = (n : ℕ) → count_of counts n ≡ tally_in class ts n

  -- a change at a place
  changed_tally : (f : Seen → Seen) (p : ℕ) (ts : List Seen) (o : Option Seen) (old new : List ℕ) → slice_get ts p ≡ o → Tells ts old
      → ((n : ℕ) → count_of new n + one_at (class_at class ts p) n ≡ count_of old n + one_at (class_at class (at_place f p ts) p) n) → Tells (at_place f p ts) new
  changed_tally f p ts None old new is told moved = λ n.
      let same : at_place f p ts ≡ ts = count_past (hit n) f p ts is in
      let here : one_at (class_at class ts p) n ≡ 0 = ap (λ o. one_at (option_and_then class o) n) is in
      let there : one_at (class_at class (at_place f p ts) p) n ≡ 0 = ap (λ us. one_at (class_at class us p) n) same ∙ here in
      let all = moved n in
      let was = told n in
      let load : tally_in class (at_place f p ts) n ≡ tally_in class ts n = ap (λ us. tally_in class us n) same in
      omega (arith, here, there, all, was, load)
  changed_tally f p ts (Some t) old new is told moved = λ n.
      let change : tally_in class (at_place f p ts) n + one_at (class t) n ≡ tally_in class ts n + one_at (class (f t)) n = count_changed (hit n) f p ts t is in
      let here : one_at (class_at class ts p) n ≡ one_at (class t) n = ap (λ o. one_at (option_and_then class o) n) is in
      let there : one_at (class_at class (at_place f p ts) p) n ≡ one_at (class (f t)) n = ap (λ o. one_at (option_and_then class o) n) (at_there f p ts t is) in
      let all = moved n in
      let was = told n in
      omega (arith, change, here, there, all, was)

  moved_told : (f : Seen → Seen) (p : ℕ) (ts us : List Seen) (old new : Option (Vec ℕ)) (before after : Option ℕ) → Told class ts old → us ≡ at_place f p ts
      → before ≡ class_at class ts p → after ≡ class_at class us p → Moved old before after new → Told class us new
  moved_told f p ts us None new before after told is one two moved = subst (λ o. Told class us o) (sym moved) tt
  moved_told f p ts us (Some old) None before after told is one two moved = tt
  moved_told f p ts us (Some old) (Some new) before after told is one two moved =
      subst (λ xs. Tells xs new.items) (sym is) (changed_tally f p ts (slice_get ts p) old.items new.items refl told
      (λ n. ap (λ o. count_of new.items n + one_at o n) (sym one) ∙ moved n ∙ ap (λ o. count_of old.items n + one_at o n) (two ∙ ap (λ xs. class_at class xs p) is)))

  -- a task more
  tally_cons : (n : ℕ) (t : Seen) (ts : List Seen) → tally_in class (t ∷ ts) n ≡ one_at (class t) n + tally_in class ts n
  tally_cons n t ts = sum_by-cons (λ u. cond (hit n u) 1 0) t ts

  tally_more : (n : ℕ) (ts : List Seen) (t : Seen) → tally_in class (ts ++ t ∷ []) n ≡ tally_in class ts n + one_at (class t) n
  tally_more n [] t = let one : tally_in class (t ∷ []) n ≡ one_at (class t) n + tally_in class [] n = tally_cons n t [] in omega (arith, one)
  tally_more n (u ∷ ts) t =
      let new : tally_in class (u ∷ ts ++ t ∷ []) n ≡ one_at (class u) n + tally_in class (ts ++ t ∷ []) n = tally_cons n u (ts ++ t ∷ []) in
      let old : tally_in class (u ∷ ts) n ≡ one_at (class u) n + tally_in class ts n = tally_cons n u ts in
      let more = tally_more n ts t in
      omega (arith, new, old, more)

  pushed_told : (ts us : List Seen) (t : Seen) (old new : Option (Vec ℕ)) (after : Option ℕ) → Told class ts old → us ≡ ts ++ t ∷ [] → after ≡ class t → Moved old None after new → Told class us new
  pushed_told ts us t None new after told is two moved = subst (λ o. Told class us o) (sym moved) tt
  pushed_told ts us t (Some old) None after told is two moved = tt
  pushed_told ts us t (Some old) (Some new) after told is two moved =
      subst (λ xs. Tells xs new.items) (sym is) (λ n.
      let more = tally_more n ts t in
      let here : one_at after n ≡ one_at (class t) n = ap (λ o. one_at o n) two in
      let none : one_at None n ≡ 0 = refl in
      let all = moved n in
      let was = told n in
      omega (arith, more, here, none, all, was))

  -- some places
  one_there : (n : ℕ) (o : Option Seen) → cond (holds (hit n) o) 1 0 ≡ one_at (option_and_then class o) n
  one_there n None = refl
  one_there n (Some t) = refl

  at_more : (ts : List Seen) (ps : List ℕ) (p n : ℕ) → tally_at class ts (ps ++ p ∷ []) n ≡ tally_at class ts ps n + one_at (class_at class ts p) n
  at_more ts ps p n = sum_by_push (λ k. cond (holds_at (hit n) ts k) 1 0) ps p ∙ ap (λ k. tally_at class ts ps n + k) (one_there n (slice_get ts p))

  pub less_none : (ts : List Seen) (o : Option (Vec ℕ)) → Less class ts [] o o
  less_none ts None = refl
  less_none ts (Some counts) = λ n. let none : tally_at class ts [] n ≡ 0 = refl in omega (arith, none)

  pub less_more : (ts : List Seen) (ps : List ℕ) (p : ℕ) (old mid new : Option (Vec ℕ)) (before : Option ℕ) → Less class ts ps old mid → before ≡ class_at class ts p → Moved mid before None new → Less class ts (ps ++ p ∷ []) old new
  less_more ts ps p None mid new before less is moved = none mid less moved
    where
      none : (m : Option (Vec ℕ)) → m ≡ None → Moved m before None new → new ≡ None
      none None e moved = moved
      none (Some counts) e moved = cc
  less_more ts ps p (Some old) mid None before less is moved = tt
  less_more ts ps p (Some old) None (Some new) before less is moved = cc
  less_more ts ps p (Some old) (Some mid) (Some new) before less is moved = λ n.
      let more = at_more ts ps p n in
      let here : one_at before n ≡ one_at (class_at class ts p) n = ap (λ o. one_at o n) is in
      let none : one_at None n ≡ 0 = refl in
      let all = moved n in
      let was = less n in
      omega (arith, more, here, none, all, was)

  pub more_none : (ts : List Seen) (o : Option (Vec ℕ)) → More class ts [] o o
  more_none ts None = refl
  more_none ts (Some counts) = λ n. let none : tally_at class ts [] n ≡ 0 = refl in omega (arith, none)

  pub more_more : (ts : List Seen) (ps : List ℕ) (p : ℕ) (old mid new : Option (Vec ℕ)) (after : Option ℕ) → More class ts ps old mid → after ≡ class_at class ts p → Moved mid None after new → More class ts (ps ++ p ∷ []) old new
  more_more ts ps p None mid new after rose is moved = none mid rose moved
    where
      none : (m : Option (Vec ℕ)) → m ≡ None → Moved m None after new → new ≡ None
      none None e moved = moved
      none (Some counts) e moved = cc
  more_more ts ps p (Some old) mid None after rose is moved = tt
  more_more ts ps p (Some old) None (Some new) after rose is moved = cc
  more_more ts ps p (Some old) (Some mid) (Some new) after rose is moved = λ n.
      let more = at_more ts ps p n in
      let here : one_at after n ≡ one_at (class_at class ts p) n = ap (λ o. one_at o n) is in
      let none : one_at None n ≡ 0 = refl in
      let all = moved n in
      let was = rose n in
      omega (arith, more, here, none, all, was)

  -- those at some places were set aside, changed and counted again
  pub swept_told : (f : Seen → Seen) (ps : List ℕ) (ts us : List Seen) (old mid new : Option (Vec ℕ)) → IsStrictlySortedBy nat_cmp ps → us ≡ at_places f ps ts → Told class ts old
      → Less class ts ps old mid → More class us ps mid new → Told class us new
  swept_told f ps ts us old mid None sorted is told less rose = tt
  swept_told f ps ts us None mid (Some new) sorted is told less rose = none mid less rose
    where
      none : (m : Option (Vec ℕ)) → m ≡ None → More class us ps m (Some new) → Told class us (Some new)
      none None e rose = cc
      none (Some counts) e rose = cc
  swept_told f ps ts us (Some old) None (Some new) sorted is told less rose = cc
  swept_told f ps ts us (Some old) (Some mid) (Some new) sorted is told less rose = λ n.
      let all : tally_in class us n + tally_at class ts ps n ≡ tally_in class ts n + tally_at class us ps n =
      subst (λ xs. tally_in class xs n + tally_at class ts ps n ≡ tally_in class ts n + tally_at class xs ps n) (sym is) (recounted (hit n) f ps ts sorted) in
      let was = told n in
      let fell = less n in
      let up = rose n in
      omega (arith, all, was, fell, up)

-- THE LOADS

same_load : (ts : List Seen) (n : ℕ) → load_in ts n ≡ tally_in loaded ts n
same_load ts n = λ i. count_by (λ t. loads_hits t n i) ts

pub counted_told : (ts : List Seen) (o : Option (Vec ℕ)) → Counted ts o → Told loaded ts o
counted_told ts None counted = tt
counted_told ts (Some counts) counted = λ n. counted n ∙ same_load ts n

pub told_counted : (ts : List Seen) (o : Option (Vec ℕ)) → Told loaded ts o → Counted ts o
told_counted ts None told = tt
told_counted ts (Some counts) told = λ n. told n ∙ sym (same_load ts n)

-- ALL CLASSES

pub none_told : (ts : List Seen) → AllTold ts no_tallies
none_told ts = record { loads = tt; directs = tt; finished = tt; unassigned = tt }

pub all_moved : (f : Seen → Seen) (p : ℕ) (ts us : List Seen) (old new : Tallies) (before after : Classes) → AllTold ts old → us ≡ at_place f p ts
    → before ≡ classes_at ts p → after ≡ classes_at us p → Followed old before after new → AllTold us new
all_moved f p ts us old new before after told is one two moved = record {
  loads = told_counted us new.loads (moved_told loaded f p ts us old.loads new.loads before.loads after.loads (counted_told ts old.loads told.loads) is (ap (λ c. c.loads) one) (ap (λ c. c.loads) two) moved.loads);
  directs = moved_told direct_class f p ts us old.directs new.directs before.directs after.directs told.directs is (ap (λ c. c.directs) one) (ap (λ c. c.directs) two) moved.directs;
  finished = moved_told finished_class f p ts us old.finished new.finished before.finished after.finished told.finished is (ap (λ c. c.finished) one) (ap (λ c. c.finished) two) moved.finished;
  unassigned = moved_told waiting_class f p ts us old.unassigned new.unassigned before.unassigned after.unassigned told.unassigned is (ap (λ c. c.unassigned) one) (ap (λ c. c.unassigned) two) moved.unassigned;
}

all_pushed : (ts us : List Seen) (t : Seen) (old new : Tallies) (before after : Classes) → AllTold ts old → us ≡ ts ++ t ∷ [] → before ≡ no_classes → after ≡ classes t → Followed old before after new → AllTold us new
all_pushed ts us t old new before after told is one two moved =
    let all : Followed old no_classes after new = subst (λ c. Followed old c after new) one moved in
    record {
      loads = told_counted us new.loads (pushed_told loaded ts us t old.loads new.loads after.loads (counted_told ts old.loads told.loads) is (ap (λ c. c.loads) two) all.loads);
      directs = pushed_told direct_class ts us t old.directs new.directs after.directs told.directs is (ap (λ c. c.directs) two) all.directs;
      finished = pushed_told finished_class ts us t old.finished new.finished after.finished told.finished is (ap (λ c. c.finished) two) all.finished;
      unassigned = pushed_told waiting_class ts us t old.unassigned new.unassigned after.unassigned told.unassigned is (ap (λ c. c.unassigned) two) all.unassigned;
    }

all_swept : (f : Seen → Seen) (ps : List ℕ) (ts us : List Seen) (old mid new : Tallies) → IsStrictlySortedBy nat_cmp ps → us ≡ at_places f ps ts → AllTold ts old → AllLess ts ps old mid → AllMore us ps mid new → AllTold us new
all_swept f ps ts us old mid new sorted is told less rose = record {
  loads = told_counted us new.loads (swept_told loaded f ps ts us old.loads mid.loads new.loads sorted is (counted_told ts old.loads told.loads) less.loads rose.loads);
  directs = swept_told direct_class f ps ts us old.directs mid.directs new.directs sorted is told.directs less.directs rose.directs;
  finished = swept_told finished_class f ps ts us old.finished mid.finished new.finished sorted is told.finished less.finished rose.finished;
  unassigned = swept_told waiting_class f ps ts us old.unassigned mid.unassigned new.unassigned sorted is told.unassigned less.unassigned rose.unassigned;
}

pub all_less_none : (ts : List Seen) (old : Tallies) → AllLess ts [] old old
all_less_none ts old = record { loads = less_none loaded ts old.loads; directs = less_none direct_class ts old.directs; finished = less_none finished_class ts old.finished; unassigned = less_none waiting_class ts old.unassigned }

pub all_more_none : (ts : List Seen) (old : Tallies) → AllMore ts [] old old
all_more_none ts old = record { loads = more_none loaded ts old.loads; directs = more_none direct_class ts old.directs; finished = more_none finished_class ts old.finished; unassigned = more_none waiting_class ts old.unassigned }

pub all_less_more : (ts : List Seen) (ps : List ℕ) (p : ℕ) (old mid new : Tallies) (before after : Classes) → AllLess ts ps old mid → before ≡ classes_at ts p → after ≡ no_classes → Followed mid before after new → AllLess ts (ps ++ p ∷ []) old new
all_less_more ts ps p old mid new before after less one two moved =
    let all : Followed mid before no_classes new = subst (λ c. Followed mid before c new) two moved in
    record {
      loads = less_more loaded ts ps p old.loads mid.loads new.loads before.loads less.loads (ap (λ c. c.loads) one) all.loads;
      directs = less_more direct_class ts ps p old.directs mid.directs new.directs before.directs less.directs (ap (λ c. c.directs) one) all.directs;
      finished = less_more finished_class ts ps p old.finished mid.finished new.finished before.finished less.finished (ap (λ c. c.finished) one) all.finished;
      unassigned = less_more waiting_class ts ps p old.unassigned mid.unassigned new.unassigned before.unassigned less.unassigned (ap (λ c. c.unassigned) one) all.unassigned;
    }

pub all_more_more : (ts : List Seen) (ps : List ℕ) (p : ℕ) (old mid new : Tallies) (before after : Classes) → AllMore ts ps old mid → before ≡ no_classes → after ≡ classes_at ts p → Followed mid before after new → AllMore ts (ps ++ p ∷ []) old new
all_more_more ts ps p old mid new before after rose one two moved =
    let all : Followed mid no_classes after new = subst (λ c. Followed mid c after new) one moved in
    record {
      loads = more_more loaded ts ps p old.loads mid.loads new.loads after.loads rose.loads (ap (λ c. c.loads) two) all.loads;
      directs = more_more direct_class ts ps p old.directs mid.directs new.directs after.directs rose.directs (ap (λ c. c.directs) two) all.directs;
      finished = more_more finished_class ts ps p old.finished mid.finished new.finished after.finished rose.finished (ap (λ c. c.finished) two) all.finished;
      unassigned = more_more waiting_class ts ps p old.unassigned mid.unassigned new.unassigned after.unassigned rose.unassigned (ap (λ c. c.unassigned) two) all.unassigned;
    }

-- WHAT IS KEPT BESIDE THE TASKS

-- after a change that leaves the requests and who is settled: where the counts are lost, and where they are right
pub beside_lost : (ts us : List Seen) (m n : Marks) (waits : Waits) (o : Tallies) → Beside ts m waits o → Alike ts us → Marked us n → Beside us n waits no_tallies
beside_lost ts us m n waits o b same marked = record { marked = marked; indexed = indexed_alike ts us waits b.indexed same; counted = none_told us }

pub beside_counted : (ts us : List Seen) (m n : Marks) (waits : Waits) (o p : Tallies) → Beside ts m waits o → Alike ts us → Marked us n → AllTold us p → Beside us n waits p
beside_counted ts us m n waits o p b same marked counted = record { marked = marked; indexed = indexed_alike ts us waits b.indexed same; counted = counted }

-- where the counts are taken out
pub beside_out : (ts : List Seen) (m : Marks) (waits : Waits) (o p : Tallies) → Beside ts m waits o → p ≡ no_tallies → Beside ts m waits p
beside_out ts m waits o p b out = record { marked = b.marked; indexed = b.indexed; counted = subst (λ q. AllTold ts q) (sym out) (none_told ts) }

-- after a change at a place, where the counts follow it
pub beside_moved : (f : Seen → Seen) (p : ℕ) (ts us : List Seen) (m n : Marks) (waits : Waits) (o kept new : Tallies) (before after : Classes) → Beside ts m waits o → kept ≡ o → Alike ts us → Marked us n
    → us ≡ at_place f p ts → before ≡ classes_at ts p → after ≡ classes_at us p → Followed kept before after new → Beside us n waits new
beside_moved f p ts us m n waits o kept new before after b kept_is same marked is one two moved =
    beside_counted ts us m n waits o new b same marked (all_moved f p ts us kept new before after (subst (λ k. AllTold ts k) (sym kept_is) b.counted) is one two moved)

-- after changes at some places, whose tasks were set aside
pub beside_swept : {E : Type 0} (r : Result ⊤ E) (f : Seen → Seen) (ps : List ℕ) (ts us : List Seen) (m n : Marks) (waits : Waits) (o rest taken new : Tallies) → Beside ts m waits o → Alike ts us → Marked us n
    → IsStrictlySortedBy nat_cmp ps → us ≡ at_places f ps ts → AllLess ts ps o rest → taken ≡ no_tallies → OnOk r (AllMore us ps rest new) → OnErr r (new ≡ taken) → Beside us n waits new
beside_swept (Ok x) f ps ts us m n waits o rest taken new b same marked sorted is less out ok err =
    beside_counted ts us m n waits o new b same marked (all_swept f ps ts us o rest new sorted is b.counted less ok)
beside_swept (Err e) f ps ts us m n waits o rest taken new b same marked sorted is less out ok err =
    beside_counted ts us m n waits o new b same marked (subst (λ p. AllTold us p) (sym (err ∙ out)) (none_told us))

pub counted_pushed : {E : Type 0} (r : Result ⊤ E) (ts us : List Seen) (t : Seen) (o kept taken new : Tallies) (before after : Classes) → AllTold ts o → kept ≡ o → taken ≡ no_tallies → us ≡ ts ++ t ∷ [] → before ≡ no_classes → after ≡ classes t
    → OnOk r (Followed kept before after new) → OnErr r (new ≡ taken) → AllTold us new
counted_pushed (Ok x) ts us t o kept taken new before after told same out is one two ok err = all_pushed ts us t kept new before after (subst (λ k. AllTold ts k) (sym same) told) is one two ok
counted_pushed (Err e) ts us t o kept taken new before after told same out is one two ok err = subst (λ p. AllTold us p) (sym (err ∙ out)) (none_told us)
