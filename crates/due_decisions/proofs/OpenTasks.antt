-- What may run and what fails is in the sets that are for it.
use Rattle.std.proofs.Common.{◌≡◌, ap, sym, ◌∙◌, ℕ, List, [], Bool, true, false, cond, not, ◌&&◌, ◌||◌, refl, Option, Some, None, ◌⊎◌, inl, inr, ⊎_elim, suc, length, arith, ◌∷◌}
use Rattle.std.specs.Prelude.{◌==◌, nat_le, slice_get, filter, find}
use Rattle.std.specs.Ordering.{nat_cmp}
use Rattle.std.specs.BTreeMap.{is_at}
use Rattle.std.specs.List.{list_any}
use Rattle.std.specs.Option.{is_some}
use Rattle.std.proofs.lemmas.Bool.{both_ways, ne_eqb, eq-eqb, false_from_ne_true, or_left, or_right}
use Rattle.place_sets.proofs.Covering.{found_none}
use Rattle.place_sets.specs.Sets.{has, holds, holds_at}
use Rattle.place_sets.specs.Lanes.{in_lane, in_some}
use Rattle.place_sets.proofs.Leasts.{lane_among}
use Rattle.cluster_types.specs.declared.verdict.Cause.{Cause}
use Rattle.cluster_types.specs.declared.verdict.Cause.TheVariants.{ImpossibleDependency, InvalidDependency, TaskTimeout}
use Rattle.cluster_defs.specs.declared.engine.Engine.{Engine}
use Rattle.cluster_defs.specs.Engines.{lists_number}
use Rattle.cluster_defs.specs.Tasks.{Task}
use Rattle.cluster_defs.specs.Words.{Id, is_empty}
use Rattle.cluster_defs.specs.Requests.{Request, is_direct, is_bound, is_target}
use Rattle.cluster_defs.specs.Dependencies.{asked, met, quantified, on_engine}
use Rattle.cluster_defs.specs.Scheduling.{may_run_as, excludes, rests, failing_as, is_dead, is_timed_out}
use Rattle.task_table.specs.declared.marks.Marks.{Marks}
use Rattle.task_table.specs.Seen.{Seen}
use Rattle.task_table.specs.Marking.{Marked}
use Rattle.task_table.specs.Fitting.{hopeless_as, late_as, is_tied}
use Rattle.due_decisions.specs.declared.rooms.Room.{Room}
use Rattle.due_decisions.specs.Table.{settled_in, alone, among, failing_in, ready_as, ready, takes_as, takes, fits, hopeless, late, rooms_for}
use Rattle.due_decisions.proofs.LaneSteps.{in_none}
use Rattle.due_decisions.proofs.Lists.{any_and, any_same, filter_none}
use Rattle.dependency_sets.proofs.Scattered.{any_among}
use Rattle.cluster_types.proofs.Lists.{same_filter}

regroup : (b k fo ta e : Bool) → (b && (k && fo && ta) && e) ≡ (b && k && (fo && ta && e))
regroup true true fo ta e = refl
regroup true false fo ta e = refl
regroup false k fo ta e = refl

no_request : (b e : Bool) → (b && false && e) ≡ (b && false && (false && e))
no_request true e = refl
no_request false e = refl

fits_as : (ts : List Seen) (a : Task) (n : ℕ) (b e : Bool) (o : Option Request) → (b && may_run_as (among ts [] 0 a) [] n o && e) ≡ (b && ready_as (settled_in ts) a o && (takes_as ts n o && e))
fits_as ts a n b e None = no_request b e
fits_as ts a n b e (Some r) = regroup b (ready_as (settled_in ts) a (Some r)) (met r.follow (λ i. on_engine n (settled_in ts i))) (is_target n r) e

pub fits_split : (ts : List Seen) (t : Seen) (n : ℕ) → fits ts t n ≡ (ready ts t && takes ts t n)
fits_split ts t n = fits_as ts t.attempts n (rests (alone t) t.row.id) (not (excludes (alone t) t.row.id n)) t.request

-- some of the rooms fit a task
pub fits_some : (ts : List Seen) (t : Seen) (rooms : List Room) → (ready ts t && list_any (λ r. takes ts t r.engine) rooms) ≡ list_any (λ r. fits ts t r.engine) rooms
fits_some ts t rooms = sym (any_same (λ r. fits ts t r.engine) (λ r. ready ts t && takes ts t r.engine) (λ r. fits_split ts t r.engine) rooms ∙ any_and (ready ts t) (λ r. takes ts t r.engine) rooms)

-- the rooms that take a task that is ready are those where it may run, and there are none where it isn't
pub rooms_ready : (ts : List Seen) (t : Seen) (rooms : List Room) → ready ts t ≡ true → filter (λ r. takes ts t r.engine) rooms ≡ rooms_for ts rooms t
rooms_ready ts t rooms on = same_filter (λ (r : Room). takes ts t r.engine) (λ r. fits ts t r.engine) (λ r. sym (fits_split ts t r.engine ∙ ap (λ b. b && takes ts t r.engine) on)) rooms

pub rooms_unready : (ts : List Seen) (t : Seen) (rooms : List Room) → ready ts t ≡ false → [] ≡ rooms_for ts rooms t
rooms_unready ts t rooms off = sym (filter_none (λ (r : Room). fits ts t r.engine) (λ r. fits_split ts t r.engine ∙ ap (λ b. b && takes ts t r.engine) off) rooms)

-- a task that is ready, isn't tied and was declined by no engine may run on any
any_target : (b e : Bool) (targets mets : Bool) → (b || not e) ≡ false → ((e || mets) && (not b || targets)) ≡ true
any_target false true targets mets off = refl
any_target true e targets mets off = cc
any_target false false targets mets off = cc

fits_untied : (ts : List Seen) (t : Seen) (r : Request) → t.request ≡ Some r → ready ts t ≡ true → is_tied r ≡ false → t.attempts.excluded ≡ [] → (n : ℕ) → fits ts t n ≡ true
fits_untied ts t r is ready_now free none = λ n.
    let takes_it : takes_as ts n t.request ≡ true = ap (takes_as ts n) is ∙ any_target (is_bound r) (is_empty r.follow.ids) (list_any (λ m. m == n) r.targets) (quantified r.follow.all (λ i. asked r.follow (on_engine n (settled_in ts i))) r.follow.ids) free in
    let kept : not (excludes (alone t) t.row.id n) ≡ true = ap (λ ns. not (list_any (λ m. m == n) ns)) none in
    fits_split ts t n ∙ rw (ready_now, takes_it, kept) refl

no_and : (b : Bool) → (b && false) ≡ true → ⊥
no_and true on = cc
no_and false on = cc

pub fits_any : (ts : List Seen) (t : Seen) → ready ts t ≡ true → ((r : Request) → t.request ≡ Some r → is_tied r ≡ false) → t.attempts.excluded ≡ [] → (n : ℕ) → fits ts t n ≡ true
fits_any ts t ready_now free none =
    elim t.request as (λ o. t.request ≡ o → (n : ℕ) → fits ts t n ≡ true) [
      | None ↦ λ is. absurd (no_and (rests (alone t) t.row.id) (sym (ap (λ o. rests (alone t) t.row.id && ready_as (settled_in ts) t.attempts o) is) ∙ ready_now))
      | Some r ↦ λ is. fits_untied ts t r is ready_now (free r is) none
    ] refl

filter_all : {X : Type 0} (p : X → Bool) → ((x : X) → p x ≡ true) → (xs : List X) → xs ≡ filter p xs
filter_all p on [] = refl
filter_all p on (x ∷ xs) = rw (on x) (ap (λ ys. x ∷ ys) (filter_all p on xs))

pub rooms_all : (ts : List Seen) (t : Seen) (rooms : List Room) → ((n : ℕ) → fits ts t n ≡ true) → rooms ≡ rooms_for ts rooms t
rooms_all ts t rooms on = filter_all (λ (r : Room). fits ts t r.engine) (λ r. on r.engine) rooms

-- WHAT MAY RUN

holds_one : (p : Seen → Bool) (o : Option Seen) {P : Type 0} → holds p o ≡ true → ((t : Seen) → o ≡ Some t → p t ≡ true → P) → P
holds_one p None on give = cc
holds_one p (Some t) on give = give t refl on

held : (p : Seen → Bool) (o : Option Seen) (t : Seen) → o ≡ Some t → p t ≡ true → holds p o ≡ true
held p o t is on = ap (holds p) is ∙ on

-- what may run on an engine with room is free, or in the lane of such an engine
pub fits_covers : (ts : List Seen) (rooms : List Room) (m : Marks) → Marked ts m
    → (i : ℕ) → holds_at (λ t. list_any (λ r. fits ts t r.engine) rooms) ts i ≡ true → (has m.free i || in_some (λ n. list_any (λ r. r.engine == n) rooms) m.lanes i) ≡ true
fits_covers ts rooms m is i on =
    let looks : ℕ → Bool = λ n. list_any (λ (r : Room). r.engine == n) rooms in
    holds_one (λ t. list_any (λ r. fits ts t r.engine) rooms) (slice_get ts i) on (λ t at fit.
    let a = any_among (λ (r : Room). fits ts t r.engine) rooms fit in
    let n = a.one.engine in
    ⊎_elim
    (λ here. or_left (has m.free i) (in_some looks m.lanes i) here)
    (λ here. or_right (has m.free i) (in_some looks m.lanes i) (lane_among looks m.lanes n i (a.again (λ r. r.engine == n) (eq-eqb n n refl)) here))
    (is.free n i (held (λ u. fits ts u n) (slice_get ts i) t at a.passes)))

-- where no set of those that may run has a place, none may
pub none_fit : (ts : List Seen) (m : Marks) → Marked ts m → m.free.keys ≡ [] → m.lanes ≡ [] → (rooms : List Room) → find (λ t. list_any (λ r. fits ts t r.engine) rooms) ts ≡ None
none_fit ts m is free lanes rooms =
    sym (found_none (λ (t : Seen). list_any (λ (r : Room). fits ts t r.engine) rooms) ts (λ i. false_from_ne_true (holds_at (λ (t : Seen). list_any (λ (r : Room). fits ts t r.engine) rooms) ts i) (λ on.
    holds_one (λ t. list_any (λ r. fits ts t r.engine) rooms) (slice_get ts i) on (λ t at fit.
    let a = any_among (λ (r : Room). fits ts t r.engine) rooms fit in
    let n = a.one.engine in
    ⊎_elim
    (λ here. both_ways (has m.free i) (ap (list_any (is_at (nat_cmp i))) free) here)
    (λ here. both_ways (in_lane m.lanes n i) (in_none m.lanes n i lanes) here)
    (is.free n i (held (λ u. fits ts u n) (slice_get ts i) t at a.passes))))))

find_never : {X : Type 0} (p : X → Bool) → ((x : X) → p x ≡ false) → (xs : List X) → find p xs ≡ None
find_never p off [] = refl
find_never p off (x ∷ xs) = rw (off x) (find_never p off xs)

empty_list : {X : Type 0} (xs : List X) → (length xs == 0) ≡ true → xs ≡ []
empty_list [] h = refl
empty_list (x ∷ xs) h = absurd (both_ways (length (x ∷ xs) == 0) (ne_eqb (suc (length xs)) 0 (λ e. omega arith)) h)

-- no room, no task that may run
pub no_rooms : (ts : List Seen) (rooms : List Room) → true ≡ (length rooms == 0) → None ≡ find (λ t. list_any (λ r. fits ts t r.engine) rooms) ts
no_rooms ts rooms h =
    sym (find_never (λ (t : Seen). list_any (λ r. fits ts t r.engine) rooms) (λ t. ap (list_any (λ r. fits ts t r.engine)) (empty_list rooms (sym h))) ts)

-- WHAT FAILS

fails_as : (rest d inv dead after : Bool) (x y z : Cause) → is_some (cond rest (cond d None (cond inv (Some x) (cond dead (Some y) (cond after (Some z) None)))) None) ≡ true
    → ((rest && (not d && (inv || dead))) ≡ true) ⊎ ((rest && (not d && after)) ≡ true)
fails_as false d inv dead after x y z on = cc
fails_as true true inv dead after x y z on = cc
fails_as true false true dead after x y z on = inl refl
fails_as true false false true after x y z on = inl refl
fails_as true false false false true x y z on = inr refl
fails_as true false false false false x y z on = cc

request_fails : (ts : List Seen) (live : List Engine) (now : ℕ) (a : Task) (id : Id) (rest : Bool) (o : Option Request) → is_some (cond rest (failing_as (among ts live now a) id o) None) ≡ true
    → ((rest && hopeless_as ts live a o) ≡ true) ⊎ ((rest && late_as now o) ≡ true)
request_fails ts live now a id true None on = cc
request_fails ts live now a id false None on = cc
request_fails ts live now a id rest (Some q) on =
    let f = among ts live now a in
    fails_as rest (is_direct q) q.invalid (is_dead f id q) (is_timed_out f q) InvalidDependency ImpossibleDependency TaskTimeout on

-- what fails is in the set of what may, in the lane of an engine that isn't live, or in that of a moment that came
pub fails_covers : (ts : List Seen) (live : List Engine) (now : ℕ) (m : Marks) → Marked ts m → (i : ℕ) → holds_at (λ t. is_some (failing_in ts live now t)) ts i ≡ true
    → ((has m.doubtful i || in_some (λ n. not (lists_number n live)) m.watches i) || in_some (λ n. nat_le n now) m.deadlines i) ≡ true
fails_covers ts live now m is i on =
    holds_one (λ t. is_some (failing_in ts live now t)) (slice_get ts i) on (λ t at fails.
    let d = has m.doubtful i in
    let w = in_some (λ n. not (lists_number n live)) m.watches i in
    let l = in_some (λ n. nat_le n now) m.deadlines i in
    ⊎_elim
    (λ dead. or_left (d || w) l (⊎_elim (λ here. or_left d w here) (λ some. or_right d w (lane_among (λ n. not (lists_number n live)) m.watches some.0 i some.1 some.2)) (is.hopeless live i (held (hopeless ts live) (slice_get ts i) t at dead))))
    (λ after. ⊎_elim (λ here. or_left (d || w) l (or_left d w here)) (λ some. or_right (d || w) l (lane_among (λ n. nat_le n now) m.deadlines some.0 i some.1 some.2)) (is.late now i (held (late now) (slice_get ts i) t at after)))
    (request_fails ts live now t.attempts t.row.id (rests (alone t) t.row.id) t.request fails))
