-- How the loads of engines are counted.
use Rattle.std.proofs.Common.{◌≡◌, ◌<◌, ◌⊎◌, inl, inr, ap, sym, ◌∙◌, ℕ, ◌+◌, List, [], ◌∷◌, ◌++◌, Bool, true, false, cond, not, ◌&&◌, refl, subst, Option, Some, None, arith}
use Rattle.std.specs.Prelude.{◌==◌, slice_get, count_by, Result, Ok, Err, IfOk}
use Rattle.std.specs.Option.{is_some, option_and_then}
use Rattle.std.specs.Global.{Vec}
use Rattle.std.proofs.lemmas.Bool.{eq-eqb}
use Rattle.std.proofs.lemmas.List.Sums.{sum_by_push}
use Rattle.std.specs.Ordering.{nat_cmp}
use Rattle.std.specs.List.Sorted.{IsStrictlySortedBy}
use Rattle.std.specs.BTreeSet.{BTreeSet}
use Rattle.place_sets.specs.Sets.{holds, holds_at, Covers}
use Rattle.place_sets.proofs.Counting.{count_covered}
use Rattle.place_sets.specs.Counts.{hits, one_at, count_of, greatest, AreAt, Moved}
use Rattle.cluster_defs.specs.declared.attempt.Attempt.{Attempt}
use Rattle.cluster_defs.specs.declared.attempt.Attempt.TheVariants.{Never, Running, EndedOk, EndedBadly, Lost, Declined, Withdrawn}
use Rattle.cluster_defs.specs.Tasks.{runs, runs_at}
use Rattle.cluster_defs.specs.Facts.{is_direct_id}
use Rattle.task_table.specs.Seen.{Seen}
use Rattle.task_table.specs.Standing.{alone, runs_open}
use Rattle.task_table.specs.Loading.{loads, load_in, load_among, loaded, loaded_at, running_on, CountedAnew, Tallied}
use Rattle.cluster_defs.proofs.Attempts.{at_runs}

-- ONE TASK

hits_as : (s d : Bool) (a : Attempt) (n : ℕ) → (s && (runs_at n a && d)) ≡ hits (cond (s && d) (running_on a) None) n
hits_as true true (Running m) n = and_true (m == n)
  where
    and_true : (b : Bool) → (b && true) ≡ b
    and_true true = refl
    and_true false = refl
hits_as true true Never n = refl
hits_as true true (EndedOk m) n = refl
hits_as true true (EndedBadly m) n = refl
hits_as true true (Lost m) n = refl
hits_as true true (Declined m) n = refl
hits_as true true (Withdrawn m) n = refl
hits_as true false a n = and_false (runs_at n a)
  where
    and_false : (b : Bool) → (b && false) ≡ false
    and_false true = refl
    and_false false = refl
hits_as false d a n = refl

-- a task loads the engine that it is said to
pub loads_hits : (t : Seen) (n : ℕ) → loads n t ≡ hits (loaded t) n
loads_hits t n = hits_as (not (is_some t.settled)) (not (is_direct_id (alone t) t.row.id)) t.attempts.last n

one_of : (t : Seen) (n : ℕ) → cond (loads n t) 1 0 ≡ one_at (loaded t) n
one_of t n = ap (λ b. cond b 1 0) (loads_hits t n)

-- SOME PLACES

one_there : (n : ℕ) (o : Option Seen) → cond (holds (loads n) o) 1 0 ≡ one_at (option_and_then loaded o) n
one_there n None = refl
one_there n (Some t) = one_of t n

-- one place more, of which at most one engine is loaded more
one_place : (ts : List Seen) (ps : List ℕ) (p n : ℕ) → load_among ts (ps ++ p ∷ []) n ≡ load_among ts ps n + one_at (loaded_at ts p) n
one_place ts ps p n =
    let q : ℕ → Bool = holds_at (loads n) ts in
    let more : count_by q (ps ++ p ∷ []) ≡ count_by q ps + cond (q p) 1 0 = sum_by_push (λ k. cond (q k) 1 0) ps p in
    more ∙ ap (λ k. count_by q ps + k) (one_there n (slice_get ts p))

past_more : (ts : List Seen) (ps : List ℕ) (p : ℕ) → (n : ℕ) × (greatest < load_among ts ps n) → (n : ℕ) × (greatest < load_among ts (ps ++ p ∷ []) n)
past_more ts ps p (n, past) = (n, subst (λ k. greatest < k) (sym (one_place ts ps p n)) (omega (arith, past)))

hits_itself : (n : ℕ) → one_at (Some n) n ≡ 1
hits_itself n = ap (λ b. cond b 1 0) (eq-eqb n n refl)

full_more : (ts : List Seen) (ps : List ℕ) (p : ℕ) (old : List ℕ) (after : Option ℕ) → ((n : ℕ) → count_of old n ≡ load_among ts ps n) → after ≡ loaded_at ts p → AreAt greatest old after → (n : ℕ) × (greatest < load_among ts (ps ++ p ∷ []) n)
full_more ts ps p old None tallied is full = absurd full
full_more ts ps p old (Some n) tallied is full =
    let more : load_among ts (ps ++ p ∷ []) n ≡ load_among ts ps n + 1 = one_place ts ps p n ∙ ap (λ o. load_among ts ps n + one_at o n) (sym is) ∙ ap (λ k. load_among ts ps n + k) (hits_itself n) in
    let was : count_of old n ≡ load_among ts ps n = tallied n in
    (n, omega (arith, more, was, full))

full_or_none : (ts : List Seen) (ps : List ℕ) (p : ℕ) (old : List ℕ) (after : Option ℕ) → ((n : ℕ) → count_of old n ≡ load_among ts ps n) → after ≡ loaded_at ts p → ⊥ ⊎ AreAt greatest old after → (n : ℕ) × (greatest < load_among ts (ps ++ p ∷ []) n)
full_or_none ts ps p old after tallied is (inl none) = absurd none
full_or_none ts ps p old after tallied is (inr full) = full_more ts ps p old after tallied is full

pub tallied_more : (ts : List Seen) (ps : List ℕ) (p : ℕ) (old new : Option (Vec ℕ)) (after : Option ℕ) → Tallied ts ps old → after ≡ loaded_at ts p → Moved old None after new → Tallied ts (ps ++ p ∷ []) new
tallied_more ts ps p None new after tallied is moved = subst (λ o. Tallied ts (ps ++ p ∷ []) o) (sym moved) (past_more ts ps p tallied)
tallied_more ts ps p (Some old) None after tallied is moved = full_or_none ts ps p old.items after tallied is moved
tallied_more ts ps p (Some old) (Some new) after tallied is moved = λ n.
    let q : ℕ → Bool = holds_at (loads n) ts in
    let more : count_by q (ps ++ p ∷ []) ≡ count_by q ps + cond (q p) 1 0 = sum_by_push (λ k. cond (q k) 1 0) ps p in
    let here : one_at after n ≡ cond (q p) 1 0 = ap (λ o. one_at o n) is ∙ sym (one_there n (slice_get ts p)) in
    let none : one_at None n ≡ 0 = refl in
    let all = moved n in
    let was = tallied n in
    omega (arith, more, here, none, all, was)

runs_if : (s r a d : Bool) → (a ≡ true → r ≡ true) → (not s && (a && d)) ≡ true → (not s && r) ≡ true
runs_if true r a d up on = on
runs_if false r true d up on = up refl
runs_if false r false d up on = cc

loading : (n : ℕ) (o : Option Seen) → holds (loads n) o ≡ true → holds runs_open o ≡ true
loading n None on = on
loading n (Some t) on = runs_if (is_some t.settled) (runs t.attempts.last) (runs_at n t.attempts.last) (not (is_direct_id (alone t) t.row.id)) (at_runs n t.attempts.last) on

all_loads : (ts : List Seen) (s : BTreeSet ℕ) → IsStrictlySortedBy nat_cmp s.keys → Covers runs_open ts s → (n : ℕ) → load_among ts s.keys n ≡ load_in ts n
all_loads ts s sorted covers n = count_covered (loads n) ts s sorted (λ i on. covers i (loading n (slice_get ts i) on))

-- where all that run are counted, the counts tell the load of each engine
pub tallied_counted : (ts : List Seen) (s : BTreeSet ℕ) (o : Option (Vec ℕ)) → IsStrictlySortedBy nat_cmp s.keys → Covers runs_open ts s → Tallied ts s.keys o → CountedAnew ts o
tallied_counted ts s None sorted covers (n, past) = (n, subst (λ k. greatest < k) (all_loads ts s sorted covers n) past)
tallied_counted ts s (Some counts) sorted covers tallied = λ n. tallied n ∙ all_loads ts s sorted covers n

pub all_counted : {E : Type 0} (ts : List Seen) (s : BTreeSet ℕ) (ps : List ℕ) (r : Result (Option (Vec ℕ)) E) → IsStrictlySortedBy nat_cmp s.keys → Covers runs_open ts s → ps ≡ s.keys → IfOk r (λ o. Tallied ts ps o) → IfOk r (λ o. CountedAnew ts o)
all_counted ts s ps (Ok o) sorted covers is tallied = tallied_counted ts s o sorted covers (subst (λ qs. Tallied ts qs o) is tallied)
all_counted ts s ps (Err e) sorted covers is tallied = tt
