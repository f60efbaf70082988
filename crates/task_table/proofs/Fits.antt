-- What it hangs on where a task fits, and whether it can't run for good.
use Rattle.std.proofs.Common.{◌≡◌, ℕ, List, [], ◌∷◌, Bool, true, false, not, ◌&&◌, ◌||◌, cond, refl, sym, ap, ◌∙◌, subst, Option, Some, None, arith}
use Rattle.std.specs.Prelude.{nat_eq, nat_le, ◌==◌, filter_map}
use Rattle.std.specs.Ordering.{nat_cmp}
use Rattle.std.specs.BTreeMap.{is_at}
use Rattle.std.specs.List.{list_any, list_all, cons_option}
use Rattle.std.specs.Option.{is_some, is_none, option_and_then}
use Rattle.std.proofs.lemmas.Bool.{both_ways, eqb-true, and_from, or_left, or_right}
use Rattle.cluster_types.specs.declared.event.Dep.{Dep}
use Rattle.cluster_defs.specs.declared.engine.Engine.{Engine}
use Rattle.cluster_defs.specs.Words.{Id, is_empty, is_listed, is_number}
use Rattle.cluster_defs.specs.Engines.{lists_number}
use Rattle.cluster_defs.specs.declared.settled.Settled.{Settled}
use Rattle.cluster_defs.specs.Tasks.{Task, runs}
use Rattle.cluster_defs.specs.Dependencies.{asked, met, quantified, unreachable, on_engine, apart, scattered}
use Rattle.cluster_defs.specs.Requests.{Request, is_direct, is_bound, is_target}
use Rattle.cluster_defs.specs.Scheduling.{rests, excludes, usable_on, spoils, follow_spoilt, follow_dead, no_target, is_dead, may_run_as}
use Rattle.task_table.specs.Seen.{Seen}
use Rattle.task_table.specs.Standing.{alone}
use Rattle.task_table.specs.Live.{lone}
use Rattle.task_table.specs.Waiting.{settled_in, ready_as, ready, awaits_as, awaits, is_among}
use Rattle.task_table.specs.Fitting.{among, fits, hopeless_as, hopeless, is_tied, tied}
use Rattle.task_table.proofs.Waiting.{any_agree, all_agree, met_agrees, unreachable_agrees, Agrees}
use Rattle.cluster_types.proofs.Booleans.{and_left}
use Rattle.cluster_types.proofs.Lists.{all-weaker}

-- WHAT HANGS ON LISTED IDS ALONE

-- a task that is settled waits no more
settled_rests : (t : Seen) → is_none t.settled ≡ false → rests (alone t) t.row.id ≡ false
settled_rests t done = by_settled t.settled done
  where
    by_settled : (o : Option Settled) → is_none o ≡ false → (not (is_some o) && not (runs t.attempts.last)) ≡ false
    by_settled None done = cc
    by_settled (Some s) done = refl

module _ (ts us : List Seen) where
  abbrev Same : List Id → Type 0
  Same ids = (i : Id) → is_listed i ids ≡ true → settled_in ts i ≡ settled_in us i

  after_same : (r : Request) → ((i : Id) → awaits_as i (Some r) ≡ true → settled_in ts i ≡ settled_in us i) → Same r.after.ids
  after_same r same = λ i on. same i (or_left (is_listed i r.after.ids) (is_listed i r.follow.ids) on)

  follow_same : (r : Request) → ((i : Id) → awaits_as i (Some r) ≡ true → settled_in ts i ≡ settled_in us i) → Same r.follow.ids
  follow_same r same = λ i on. same i (or_right (is_listed i r.after.ids) (is_listed i r.follow.ids) on)

  fits_as : (a : Task) (id : Id) (n : ℕ) (o : Option Request) → ((i : Id) → awaits_as i o ≡ true → settled_in ts i ≡ settled_in us i) → may_run_as (among ts [] 0 a) id n o ≡ may_run_as (among us [] 0 a) id n o
  fits_as a id n None same = refl
  fits_as a id n (Some r) same =
      ap (λ b. not (is_direct r) && nat_le a.spent r.retries && b && met r.follow (λ i. on_engine n (settled_in ts i)) && is_target n r) (met_agrees (settled_in ts) (settled_in us) r.after (after_same r same))
      ∙ ap (λ b. not (is_direct r) && nat_le a.spent r.retries && met r.after (settled_in us) && b && is_target n r)
      (met_agrees (λ i. on_engine n (settled_in ts i)) (λ i. on_engine n (settled_in us i)) r.follow (λ i on. ap (on_engine n) (follow_same r same i on)))

  pub fits_agrees : (n : ℕ) (t : Seen) → Agrees ts us (Some t) → fits ts t n ≡ fits us t n
  fits_agrees n t same =
      elim (is_none t.settled) as (λ b. is_none t.settled ≡ b → fits ts t n ≡ fits us t n) [
        | true ↦ λ open_yet.
            ap (λ b. rests (alone t) t.row.id && b && not (excludes (alone t) t.row.id n))
            (fits_as t.attempts t.row.id n t.request (λ i on. same i (and_from (is_none t.settled) (awaits i t) open_yet on)))
        | false ↦ λ done.
            ap (λ b. b && may_run_as (among ts [] 0 t.attempts) t.row.id n t.request && not (excludes (alone t) t.row.id n)) (settled_rests t done)
            ∙ sym (ap (λ b. b && may_run_as (among us [] 0 t.attempts) t.row.id n t.request && not (excludes (alone t) t.row.id n)) (settled_rests t done))
      ] refl

  spoils_same : (live : List Engine) (a : Task) (r : Request) (o : Option Settled) → spoils (among ts live 0 a) [] r o ≡ spoils (among us live 0 a) [] r o
  spoils_same live a r None = refl
  spoils_same live a r (Some s) = by_engine s.engine
    where
      by_engine : (e : Option ℕ) → not (asked r.follow (Some s) && usable_on (among ts live 0 a) [] r e) ≡ not (asked r.follow (Some s) && usable_on (among us live 0 a) [] r e)
      by_engine None = refl
      by_engine (Some n) = refl

  scattered_same : (ids : List Id) → Same ids → scattered (settled_in ts) ids ≡ scattered (settled_in us) ids
  scattered_same ids same =
      any_agree (λ i. list_any (λ j. apart (settled_in ts i) (settled_in ts j)) ids) (λ i. list_any (λ j. apart (settled_in us i) (settled_in us j)) ids) ids
      (λ i on. ap (λ o. list_any (λ j. apart o (settled_in ts j)) ids) (same i on)
      ∙ any_agree (λ j. apart (settled_in us i) (settled_in ts j)) (λ j. apart (settled_in us i) (settled_in us j)) ids (λ j here. ap (apart (settled_in us i)) (same j here)))

  spoilt_same : (live : List Engine) (a : Task) (r : Request) (all : Bool) → Same r.follow.ids → follow_spoilt (among ts live 0 a) [] r all ≡ follow_spoilt (among us live 0 a) [] r all
  spoilt_same live a r true same =
      let f = among ts live 0 a in
      let g = among us live 0 a in
      ap (λ b. b || scattered (settled_in ts) r.follow.ids) (any_agree (λ i. spoils f [] r (settled_in ts i)) (λ i. spoils g [] r (settled_in us i)) r.follow.ids (λ i on. spoils_same live a r (settled_in ts i) ∙ ap (spoils g [] r) (same i on)))
      ∙ ap (λ b. list_any (λ i. spoils g [] r (settled_in us i)) r.follow.ids || b) (scattered_same r.follow.ids same)
  spoilt_same live a r false same =
      let f = among ts live 0 a in
      let g = among us live 0 a in
      all_agree (λ i. spoils f [] r (settled_in ts i)) (λ i. spoils g [] r (settled_in us i)) r.follow.ids (λ i on. spoils_same live a r (settled_in ts i) ∙ ap (spoils g [] r) (same i on))

  dead_same : (live : List Engine) (a : Task) (r : Request) → Same r.after.ids → Same r.follow.ids → is_dead (among ts live 0 a) [] r ≡ is_dead (among us live 0 a) [] r
  dead_same live a r one two =
      let n = no_target (among us live 0 a) [] r in
      ap (λ b. b || n || follow_dead (among ts live 0 a) [] r) (unreachable_agrees (settled_in ts) (settled_in us) r.after one)
      ∙ ap (λ b. unreachable r.after (settled_in us) || n || (not (is_empty r.follow.ids) && b)) (spoilt_same live a r r.follow.all two)

  hopeless_as_same : (live : List Engine) (a : Task) (o : Option Request) → ((i : Id) → awaits_as i o ≡ true → settled_in ts i ≡ settled_in us i) → hopeless_as ts live a o ≡ hopeless_as us live a o
  hopeless_as_same live a None same = refl
  hopeless_as_same live a (Some r) same = ap (λ b. not (is_direct r) && (r.invalid || b)) (dead_same live a r (after_same r same) (follow_same r same))

  pub hopeless_agrees : (live : List Engine) (t : Seen) → Agrees ts us (Some t) → hopeless ts live t ≡ hopeless us live t
  hopeless_agrees live t same =
      elim (is_none t.settled) as (λ b. is_none t.settled ≡ b → hopeless ts live t ≡ hopeless us live t) [
        | true ↦ λ open_yet.
            ap (λ b. rests (alone t) t.row.id && b)
            (hopeless_as_same live t.attempts t.request (λ i on. same i (and_from (is_none t.settled) (awaits i t) open_yet on)))
        | false ↦ λ done.
            ap (λ b. b && hopeless_as ts live t.attempts t.request) (settled_rests t done) ∙ sym (ap (λ b. b && hopeless_as us live t.attempts t.request) (settled_rests t done))
      ] refl

-- MORE LIVE ENGINES, MORE HOPE

and_right : (a b : Bool) → (a && b) ≡ true → b ≡ true
and_right true b on = on
and_right false b on = cc

or_up : (a b c d : Bool) → (a ≡ true → c ≡ true) → (b ≡ true → d ≡ true) → (a || b) ≡ true → (c || d) ≡ true
or_up true b c d one two on = or_left c d (one refl)
or_up false b c d one two on = or_right c d (two on)

and_up : (a b c : Bool) → (b ≡ true → c ≡ true) → (a && b) ≡ true → (a && c) ≡ true
and_up true b c up on = up on
and_up false b c up on = on

not_up : (a b : Bool) → (b ≡ true → a ≡ true) → not a ≡ true → not b ≡ true
not_up true b up on = cc
not_up false true up on = let none : false ≡ true = up refl in cc
not_up false false up on = refl

any_up : {X : Type 0} (p q : X → Bool) → ((x : X) → p x ≡ true → q x ≡ true) → (xs : List X) → list_any p xs ≡ true → list_any q xs ≡ true
any_up p q up [] on = on
any_up p q up (x ∷ xs) on = or_up (p x) (list_any p xs) (q x) (list_any q xs) (up x) (any_up p q up xs) on

module _ (ts : List Seen) (few many : List Engine) (a : Task) (r : Request) (more : (n : ℕ) → lists_number n few ≡ true → lists_number n many ≡ true) where
  lost_up : (n : ℕ) → not (lists_number n many && not (excludes (among ts many 0 a) [] n)) ≡ true → not (lists_number n few && not (excludes (among ts few 0 a) [] n)) ≡ true
  lost_up n on =
      not_up (lists_number n many && not (excludes (among ts many 0 a) [] n)) (lists_number n few && not (excludes (among ts few 0 a) [] n))
      (λ here. and_from (lists_number n many) (not (excludes (among ts many 0 a) [] n)) (more n (and_left (lists_number n few) (not (excludes (among ts few 0 a) [] n)) here)) (and_right (lists_number n few) (not (excludes (among ts few 0 a) [] n)) here)) on

  usable_up : (e : Option ℕ) → usable_on (among ts few 0 a) [] r e ≡ true → usable_on (among ts many 0 a) [] r e ≡ true
  usable_up None on = on
  usable_up (Some n) on = step (lists_number n few) (lists_number n many) (not (excludes (among ts few 0 a) [] n)) (is_target n r) (more n) on
    where
      step : (l m x y : Bool) → (l ≡ true → m ≡ true) → (l && x && y) ≡ true → (m && x && y) ≡ true
      step true m x y up on = rw (up refl) on
      step false m x y up on = cc

  spoils_up : (o : Option Settled) → spoils (among ts many 0 a) [] r o ≡ true → spoils (among ts few 0 a) [] r o ≡ true
  spoils_up None on = on
  spoils_up (Some s) on =
      not_up (asked r.follow (Some s) && usable_on (among ts many 0 a) [] r s.engine) (asked r.follow (Some s) && usable_on (among ts few 0 a) [] r s.engine)
      (and_up (asked r.follow (Some s)) (usable_on (among ts few 0 a) [] r s.engine) (usable_on (among ts many 0 a) [] r s.engine) (usable_up s.engine)) on

  spoilt_up : (all : Bool) → follow_spoilt (among ts many 0 a) [] r all ≡ true → follow_spoilt (among ts few 0 a) [] r all ≡ true
  spoilt_up true on =
      let f = among ts many 0 a in
      let g = among ts few 0 a in
      or_up (list_any (λ i. spoils f [] r (settled_in ts i)) r.follow.ids) (scattered (settled_in ts) r.follow.ids) (list_any (λ i. spoils g [] r (settled_in ts i)) r.follow.ids) (scattered (settled_in ts) r.follow.ids)
      (any_up (λ i. spoils f [] r (settled_in ts i)) (λ i. spoils g [] r (settled_in ts i)) (λ i. spoils_up (settled_in ts i)) r.follow.ids) (λ h. h) on
  spoilt_up false on =
      all-weaker (λ i. spoils (among ts many 0 a) [] r (settled_in ts i)) (λ i. spoils (among ts few 0 a) [] r (settled_in ts i)) (λ i. spoils_up (settled_in ts i)) r.follow.ids on

  dead_up : is_dead (among ts many 0 a) [] r ≡ true → is_dead (among ts few 0 a) [] r ≡ true
  dead_up on =
      let f = among ts many 0 a in
      let g = among ts few 0 a in
      three (unreachable r.after (settled_in ts)) (no_target f [] r) (no_target g [] r) (follow_dead f [] r) (follow_dead g [] r)
      (and_up (is_bound r) (list_all (λ n. not (lists_number n many && not (excludes f [] n))) r.targets) (list_all (λ n. not (lists_number n few && not (excludes g [] n))) r.targets)
      (all-weaker (λ n. not (lists_number n many && not (excludes f [] n))) (λ n. not (lists_number n few && not (excludes g [] n))) lost_up r.targets))
      (and_up (not (is_empty r.follow.ids)) (follow_spoilt f [] r r.follow.all) (follow_spoilt g [] r r.follow.all) (spoilt_up r.follow.all)) on
    where
      three : (u n m c d : Bool) → (n ≡ true → m ≡ true) → (c ≡ true → d ≡ true) → (u || n || c) ≡ true → (u || m || d) ≡ true
      three true n m c d one two on = refl
      three false true m c d one two on = rw (one refl) refl
      three false false true c d one two on = refl
      three false false false c d one two on = two on

hopeless_as_up : (ts : List Seen) (few many : List Engine) (a : Task) (o : Option Request) → ((n : ℕ) → lists_number n few ≡ true → lists_number n many ≡ true) → hopeless_as ts many a o ≡ true → hopeless_as ts few a o ≡ true
hopeless_as_up ts few many a None more on = on
hopeless_as_up ts few many a (Some r) more on =
    and_up (not (is_direct r)) (r.invalid || is_dead (among ts many 0 a) [] r) (r.invalid || is_dead (among ts few 0 a) [] r)
    (or_up r.invalid (is_dead (among ts many 0 a) [] r) r.invalid (is_dead (among ts few 0 a) [] r) (λ h. h) (dead_up ts few many a r more)) on

-- what is hopeless with some engines is hopeless with fewer
hopeless_up : (ts : List Seen) (few many : List Engine) (t : Seen) → ((n : ℕ) → lists_number n few ≡ true → lists_number n many ≡ true) → hopeless ts many t ≡ true → hopeless ts few t ≡ true
hopeless_up ts few many t more on =
    and_up (rests (alone t) t.row.id) (hopeless_as ts many t.attempts t.request) (hopeless_as ts few t.attempts t.request) (hopeless_as_up ts few many t.attempts t.request more) on

-- what has hope with no engine has hope with any
pub hope_without : (ts : List Seen) (live : List Engine) (t : Seen) → hopeless ts [] t ≡ false → hopeless ts live t ≡ true → ⊥
hope_without ts live t off on = both_ways (hopeless ts [] t) off (hopeless_up ts [] live t (λ n none. cc) on)

lone_among : (n m : ℕ) (live : List Engine) → lists_number n live ≡ true → lists_number m (lone n ∷ []) ≡ true → lists_number m live ≡ true
lone_among n m live here on = subst (λ k. lists_number k live ≡ true) (eqb-true n m (one (n == m) on)) here
  where
    one : (b : Bool) → (b || false) ≡ true → b ≡ true
    one true on = refl
    one false on = on

-- what has hope with one engine alone is hopeless where that isn't live
pub hope_with : (ts : List Seen) (n : ℕ) (live : List Engine) (t : Seen) → hopeless ts (lone n ∷ []) t ≡ false → hopeless ts live t ≡ true → not (lists_number n live) ≡ true
hope_with ts n live t off on =
    elim (lists_number n live) as (λ b. lists_number n live ≡ b → not b ≡ true) [
      | true ↦ λ here. absurd (both_ways (hopeless ts (lone n ∷ []) t) off (hopeless_up ts (lone n ∷ []) live t (λ m. lone_among n m live here) on))
      | false ↦ λ _. refl
    ] refl

-- WHERE A TIED TASK FITS

number_at : (n m : ℕ) → (m == n) ≡ true → is_at (nat_cmp n) m ≡ true
number_at n m same = let e : m ≡ n = eqb-true m n same in subst (λ k. is_at (nat_cmp k) m ≡ true) e (grind (arith))

target_among : (n : ℕ) (ns : List ℕ) → list_any (λ m. m == n) ns ≡ true → is_among n ns ≡ true
target_among n ns on = any_up (λ m. m == n) (is_at (nat_cmp n)) (number_at n) ns on

engine_in : (s : Option Settled) → Option ℕ
engine_in o = option_and_then (λ (s : Settled). s.engine) o

-- an engine where an id finished comes before others
there_first : (d : Dep) (n : ℕ) (o : Option Settled) (rest : List ℕ) → asked d (on_engine n o) ≡ true → is_among n (cons_option (option_and_then (λ s. s.engine) o) rest) ≡ true
there_first d n None rest on = cc
there_first d n (Some s) rest on = here s.engine on
  where
    here : (e : Option ℕ) → asked d (cond (is_number n e) (Some s) None) ≡ true → is_among n (cons_option e rest) ≡ true
    here None on = cc
    here (Some m) on =
        (elim (nat_eq m n) as (λ b. nat_eq m n ≡ b → asked d (cond b (Some s) None) ≡ true → is_among n (m ∷ rest) ≡ true) [
          | true ↦ λ same _. or_left (is_at (nat_cmp n) m) (is_among n rest) (number_at n m same)
          | false ↦ λ _ none. cc
        ]) refl on

there_later : (n : ℕ) (e : Option ℕ) (rest : List ℕ) → is_among n rest ≡ true → is_among n (cons_option e rest) ≡ true
there_later n None rest on = on
there_later n (Some m) rest on = or_right (is_at (nat_cmp n) m) (is_among n rest) on

module _ (settled : Id → Option Settled) (d : Dep) (n : ℕ) where
  engines_of : List Id → List ℕ
  engines_of ids = filter_map (λ i. option_and_then (λ s. s.engine) (settled i)) ids

  any_there : (ids : List Id) → list_any (λ i. asked d (on_engine n (settled i))) ids ≡ true → is_among n (filter_map (λ i. option_and_then (λ s. s.engine) (settled i)) ids) ≡ true
  any_there [] on = cc
  any_there (i ∷ ids) on =
      either (asked d (on_engine n (settled i))) (list_any (λ i. asked d (on_engine n (settled i))) ids) on
      (λ here. there_first d n (settled i) (filter_map (λ i. option_and_then (λ s. s.engine) (settled i)) ids) here)
      (λ later. there_later n (option_and_then (λ s. s.engine) (settled i)) (filter_map (λ i. option_and_then (λ s. s.engine) (settled i)) ids) (any_there ids later))
    where
      either : (b c : Bool) {P : Type 0} → (b || c) ≡ true → (b ≡ true → P) → (c ≡ true → P) → P
      either true c on one two = one refl
      either false c on one two = two on

  kind_there : (all : Bool) (ids : List Id) → not (is_empty ids) ≡ true → quantified all (λ i. asked d (on_engine n (settled i))) ids ≡ true → is_among n (filter_map (λ i. option_and_then (λ s. s.engine) (settled i)) ids) ≡ true
  kind_there false ids some on = any_there ids on
  kind_there true [] some on = cc
  kind_there true (i ∷ ids) some on =
      there_first d n (settled i) (filter_map (λ i. option_and_then (λ s. s.engine) (settled i)) ids) (and_left (asked d (on_engine n (settled i))) (list_all (λ i. asked d (on_engine n (settled i))) ids) on)

tied_there : (ts : List Seen) (n : ℕ) (r : Request) (b e : Bool) → is_bound r ≡ b → is_empty r.follow.ids ≡ e → (b || not e) ≡ true → is_target n r ≡ true → met r.follow (λ i. on_engine n (settled_in ts i)) ≡ true
    → is_among n (cond b r.targets (filter_map (λ i. option_and_then (λ s. s.engine) (settled_in ts i)) r.follow.ids)) ≡ true
tied_there ts n r true e is has some target met_there = target_among n r.targets (sym (ap (λ b. not b || list_any (λ m. m == n) r.targets) is) ∙ target)
tied_there ts n r false true is has some target met_there = cc
tied_there ts n r false false is has some target met_there =
    kind_there (settled_in ts) r.follow n r.follow.all r.follow.ids (ap not has)
    (sym (ap (λ b. b || quantified r.follow.all (λ i. asked r.follow (on_engine n (settled_in ts i))) r.follow.ids) has) ∙ met_there)

fits_parts : (r d l m f t e : Bool) {P : Type 0} → (r && (d && l && m && f && t) && e) ≡ true → (f ≡ true → t ≡ true → P) → P
fits_parts true true true true true true e on give = give refl refl
fits_parts true true true true true false e on give = cc
fits_parts true true true true false t e on give = cc
fits_parts true true true false f t e on give = cc
fits_parts true true false m f t e on give = cc
fits_parts true false l m f t e on give = cc
fits_parts false d l m f t e on give = cc

-- where a tied task fits is one of the engines that tell where it may run
pub fits_tied : (ts : List Seen) (t : Seen) (n : ℕ) (r : Request) → t.request ≡ Some r → is_tied r ≡ true → fits ts t n ≡ true → is_among n (tied ts r) ≡ true
fits_tied ts t n r is some on =
    let here : (rests (alone t) t.row.id && may_run_as (among ts [] 0 t.attempts) t.row.id n (Some r) && not (excludes (alone t) t.row.id n)) ≡ true =
    subst (λ o. (rests (alone t) t.row.id && may_run_as (among ts [] 0 t.attempts) t.row.id n o && not (excludes (alone t) t.row.id n)) ≡ true) is on in
    fits_parts (rests (alone t) t.row.id) (not (is_direct r)) (nat_le t.attempts.spent r.retries) (met r.after (settled_in ts)) (met r.follow (λ i. on_engine n (settled_in ts i))) (is_target n r) (not (excludes (alone t) t.row.id n)) here
    (λ follows target. tied_there ts n r (is_bound r) (is_empty r.follow.ids) refl refl some target follows)

-- what fits is ready
fits_waits : (r d l m f t e : Bool) → (r && (d && l && m && f && t) && e) ≡ true → (r && (d && l && m)) ≡ true
fits_waits true true true true f t e on = refl
fits_waits true true true false f t e on = cc
fits_waits true true false m f t e on = cc
fits_waits true false l m f t e on = cc
fits_waits false d l m f t e on = cc

pub fits_ready : (ts : List Seen) (t : Seen) (n : ℕ) → fits ts t n ≡ true → ready ts t ≡ true
fits_ready ts t n on = by_request t.request on
  where
    by_request : (o : Option Request) → (rests (alone t) t.row.id && may_run_as (among ts [] 0 t.attempts) t.row.id n o && not (excludes (alone t) t.row.id n)) ≡ true → (rests (alone t) t.row.id && ready_as (settled_in ts) t.attempts o) ≡ true
    by_request None on = none (rests (alone t) t.row.id) on
      where
        none : (b : Bool) → (b && false && not (excludes (alone t) t.row.id n)) ≡ true → (b && false) ≡ true
        none true on = cc
        none false on = on
    by_request (Some r) on =
        fits_waits (rests (alone t) t.row.id) (not (is_direct r)) (nat_le t.attempts.spent r.retries) (met r.after (settled_in ts)) (met r.follow (λ i. on_engine n (settled_in ts i))) (is_target n r) (not (excludes (alone t) t.row.id n)) on
