-- Counts of distinct ids: what they tell, and how they change.
use Rattle.std.proofs.Common.{◌≡◌, ap, sym, ◌∙◌, ℕ, zero, suc, ◌+◌, ◌<◌, ◌≤◌, List, [], ◌∷◌, ◌++◌, length, Bool, true, false, not, ◌&&◌, ◌||◌, cond, refl, subst, Option, Some, None, bytes_eq, arith}
use Rattle.std.specs.Prelude.{◌==◌}
use Rattle.std.specs.List.{list_any, list_all}
use Rattle.std.specs.Option.{is_none}
use Rattle.std.proofs.lemmas.Bool.{or_left, or_right, ne_eqb, both_ways, false_from_ne_true}
use Rattle.cluster_types.specs.declared.event.Dep.{Dep}
use Rattle.cluster_types.specs.Verdicts.{completed}
use Rattle.cluster_defs.specs.Words.{Id, is_empty, is_listed}
use Rattle.cluster_defs.specs.declared.settled.Settled.{Settled}
use Rattle.cluster_defs.specs.Dependencies.{asked, other_kind, quantified, met, unreachable}
use Rattle.cluster_defs.proofs.Options.{same_id, id_self}
use Rattle.dependency_sets.specs.declared.id_counts.IdCounts.{IdCounts}
use Rattle.dependency_sets.specs.Counting.{one_if, distinct, counts_among, counts_of, with_one, counted, HasOne}

-- WHAT COUNTS TELL

pub any_listed : (p : Id → Bool) (id : Id) (ids : List Id) → is_listed id ids ≡ true → p id ≡ true → list_any p ids ≡ true
any_listed p id [] on passes = cc
any_listed p id (i ∷ ids) on passes =
    (elim (bytes_eq i id) as (λ b. bytes_eq i id ≡ b → (b || is_listed id ids) ≡ true → (p i || list_any p ids) ≡ true) [
      | true ↦ λ same _. or_left (p i) (list_any p ids) (ap p (same_id i id same) ∙ passes)
      | false ↦ λ _ later. or_right (p i) (list_any p ids) (any_listed p id ids later passes)
    ]) refl on

none_more : (a l : Bool) (n : ℕ) → a ≡ false → n ≡ 0 → one_if (a && not l) + n ≡ 0
none_more true l n off zeroes = cc
none_more false l n off zeroes = omega (arith, zeroes)

or_off : (a b : Bool) → (a || b) ≡ false → (a ≡ false) × (b ≡ false)
or_off true b off = cc
or_off false b off = (refl, off)

pub none_counted : (p : Id → Bool) (ids : List Id) → list_any p ids ≡ false → distinct p ids ≡ 0
none_counted p [] off = refl
none_counted p (i ∷ ids) off =
    let both = or_off (p i) (list_any p ids) off in
    none_more (p i) (is_listed i ids) (distinct p ids) both.0 (none_counted p ids both.1)

some_more : (a l b : Bool) (n : ℕ) → (a || b) ≡ true → (a ≡ true → l ≡ true → b ≡ true) → (b ≡ true → 1 ≤ n) → 1 ≤ one_if (a && not l) + n
some_more true true b n on again later = let some : 1 ≤ n = later (again refl refl) in omega (arith, some)
some_more true false b n on again later = omega arith
some_more false l b n on again later = let some : 1 ≤ n = later on in omega (arith, some)

pub some_counted : (p : Id → Bool) (ids : List Id) → list_any p ids ≡ true → 1 ≤ distinct p ids
some_counted p [] on = cc
some_counted p (i ∷ ids) on =
    some_more (p i) (is_listed i ids) (list_any p ids) (distinct p ids) on (λ passes here. any_listed p i ids here passes) (some_counted p ids)

-- there are none where none passes
pub tells_none : (p : Id → Bool) (ids : List Id) → (distinct p ids == 0) ≡ not (list_any p ids)
tells_none p ids =
    elim (list_any p ids) as (λ b. list_any p ids ≡ b → (distinct p ids == 0) ≡ not b) [
      | true ↦ λ on. let some : 1 ≤ distinct p ids = some_counted p ids on in ne_eqb (distinct p ids) 0 (λ e. omega (arith, some, e))
      | false ↦ λ off. ap (λ n. n == 0) (none_counted p ids off)
    ] refl

neither : (u v s t : Bool) → ((not u && not v) && (not s && not t)) ≡ (not (u || s) && not (v || t))
neither true v s t = refl
neither false true true t = refl
neither false true false t = refl
neither false false s t = refl

all_neither : (p u v : Id → Bool) (ids : List Id) → ((i : Id) → p i ≡ (not (u i) && not (v i))) → list_all p ids ≡ (not (list_any u ids) && not (list_any v ids))
all_neither p u v [] parts = refl
all_neither p u v (i ∷ ids) parts = rw (parts i, all_neither p u v ids parts) (neither (u i) (v i) (list_any u ids) (list_any v ids))

-- all pass where there are none of the two other kinds
pub tells_all : (p u v : Id → Bool) (ids : List Id) → ((i : Id) → p i ≡ (not (u i) && not (v i))) → ((distinct u ids == 0) && (distinct v ids == 0)) ≡ list_all p ids
tells_all p u v ids parts = rw (tells_none u ids, tells_none v ids) (sym (all_neither p u v ids parts))

not_twice : (b : Bool) → not (not b) ≡ b
not_twice true = refl
not_twice false = refl

-- some pass where there are any
pub tells_any : (p : Id → Bool) (ids : List Id) → not (distinct p ids == 0) ≡ list_any p ids
tells_any p ids = ap not (tells_none p ids) ∙ not_twice (list_any p ids)

-- THE THREE KINDS

asked_as : (c s f : Bool) → cond c s f ≡ not (cond c (not s) (not f))
asked_as true true f = refl
asked_as true false f = refl
asked_as false s true = refl
asked_as false s false = refl

other_as : (c s f : Bool) → cond c (not s) (not f) ≡ not (cond c s f)
other_as true s f = refl
other_as false s f = refl

pub asked_is : (d : Dep) (o : Option Settled) → asked d o ≡ (not (is_none o) && not (other_kind d o))
asked_is d None = refl
asked_is d (Some s) = asked_as (completed s.verdict) d.success d.failure

pub other_is : (d : Dep) (o : Option Settled) → other_kind d o ≡ (not (is_none o) && not (asked d o))
other_is d None = refl
other_is d (Some s) = other_as (completed s.verdict) d.success d.failure

-- JUDGED BY THE COUNTS

module _ (d : Dep) (settled : Id → Option Settled) where
  pub met_by : (e a : Bool) → is_empty d.ids ≡ e → d.all ≡ a → cond e true (cond a (((counts_of d settled).pending == 0) && ((counts_of d settled).other == 0)) (not ((counts_of d settled).asked == 0))) ≡ met d settled
  met_by true a empty all = rw empty refl
  met_by false true empty all = rw (empty, all) (tells_all (λ i. asked d (settled i)) (λ i. is_none (settled i)) (λ i. other_kind d (settled i)) d.ids (λ i. asked_is d (settled i)))
  met_by false false empty all = rw (empty, all) (tells_any (λ i. asked d (settled i)) d.ids)

  pub unreachable_by : (e a : Bool) → is_empty d.ids ≡ e → d.all ≡ a → cond e false (cond a (not ((counts_of d settled).other == 0)) (((counts_of d settled).pending == 0) && ((counts_of d settled).asked == 0))) ≡ unreachable d settled
  unreachable_by true a empty all = rw empty refl
  unreachable_by false true empty all = rw (empty, all) (tells_any (λ i. other_kind d (settled i)) d.ids)
  unreachable_by false false empty all = rw (empty, all) (tells_all (λ i. other_kind d (settled i)) (λ i. is_none (settled i)) (λ i. asked d (settled i)) d.ids (λ i. other_is d (settled i)))

-- ONE ID MORE

pub listed_more : (ids : List Id) (x i : Id) → is_listed i (ids ++ x ∷ []) ≡ (is_listed i ids || bytes_eq x i)
listed_more [] x i = last (bytes_eq x i)
  where
    last : (b : Bool) → (b || false) ≡ b
    last true = refl
    last false = refl
listed_more (j ∷ ids) x i = ap (λ b. bytes_eq j i || b) (listed_more ids x i) ∙ assoc (bytes_eq j i) (is_listed i ids) (bytes_eq x i)
  where
    assoc : (a b c : Bool) → (a || (b || c)) ≡ ((a || b) || c)
    assoc true b c = refl
    assoc false b c = refl

-- HOW COUNTS CHANGE WITH ONE ID

here : (l p q : Bool) (m n : ℕ) → n + one_if (l && p) ≡ m + one_if (l && q) → (one_if (q && not l) + n) + one_if p ≡ (one_if (p && not l) + m) + one_if q
here true true true m n before = omega (arith, before)
here true true false m n before = omega (arith, before)
here true false true m n before = omega (arith, before)
here true false false m n before = omega (arith, before)
here false true true m n before = omega (arith, before)
here false true false m n before = omega (arith, before)
here false false true m n before = omega (arith, before)
here false false false m n before = omega (arith, before)

-- where the tests are alike but for one id
pub changed : (p q : Id → Bool) (id : Id) (ids : List Id) → ((j : Id) → bytes_eq j id ≡ false → p j ≡ q j)
    → distinct q ids + one_if (is_listed id ids && p id) ≡ distinct p ids + one_if (is_listed id ids && q id)
changed p q id [] same = refl
changed p q id (i ∷ ids) same =
    elim (bytes_eq i id) as (λ b. bytes_eq i id ≡ b → distinct q (i ∷ ids) + one_if ((b || is_listed id ids) && p id) ≡ distinct p (i ∷ ids) + one_if ((b || is_listed id ids) && q id)) [
      | true ↦ λ on.
          subst (λ k. (one_if (q k && not (is_listed k ids)) + distinct q ids) + one_if (p id) ≡ (one_if (p k && not (is_listed k ids)) + distinct p ids) + one_if (q id)) (sym (same_id i id on))
          (here (is_listed id ids) (p id) (q id) (distinct p ids) (distinct q ids) (changed p q id ids same))
      | false ↦ λ off.
          let before = changed p q id ids same in
          subst (λ b. (one_if (q i && not (is_listed i ids)) + distinct q ids) + one_if (is_listed id ids && p id) ≡ (one_if (b && not (is_listed i ids)) + distinct p ids) + one_if (is_listed id ids && q id)) (sym (same i off))
          (omega (arith, before))
    ] refl

listed_here : (l p q : Bool) (m n : ℕ) → l ≡ true → n + one_if (l && p) ≡ m + one_if (l && q) → n + one_if p ≡ m + one_if q
listed_here true p q m n on before = before
listed_here false p q m n on before = cc

listed_not : (l p q : Bool) (m n : ℕ) → l ≡ false → n + one_if (l && p) ≡ m + one_if (l && q) → n ≡ m
listed_not true p q m n off before = cc
listed_not false p q m n off before = omega (arith, before)

-- an id that is settled otherwise, and all others as before
module _ (d : Dep) (f g : Id → Option Settled) (id : Id) (ids : List Id) (same : (j : Id) → bytes_eq j id ≡ false → f j ≡ g j) where
  pub counts_moved : is_listed id ids ≡ true → with_one d (f id) (counts_among d g ids) ≡ with_one d (g id) (counts_among d f ids)
  counts_moved on =
      let pending = listed_here (is_listed id ids) (is_none (f id)) (is_none (g id)) (distinct (λ i. is_none (f i)) ids) (distinct (λ i. is_none (g i)) ids) on
      (changed (λ i. is_none (f i)) (λ i. is_none (g i)) id ids (λ j off. ap is_none (same j off))) in
      let as_asked = listed_here (is_listed id ids) (asked d (f id)) (asked d (g id)) (distinct (λ i. asked d (f i)) ids) (distinct (λ i. asked d (g i)) ids) on
      (changed (λ i. asked d (f i)) (λ i. asked d (g i)) id ids (λ j off. ap (asked d) (same j off))) in
      let otherwise = listed_here (is_listed id ids) (other_kind d (f id)) (other_kind d (g id)) (distinct (λ i. other_kind d (f i)) ids) (distinct (λ i. other_kind d (g i)) ids) on
      (changed (λ i. other_kind d (f i)) (λ i. other_kind d (g i)) id ids (λ j off. ap (other_kind d) (same j off))) in
      rw (pending, as_asked, otherwise) refl

  pub counts_stay : is_listed id ids ≡ false → counts_among d g ids ≡ counts_among d f ids
  counts_stay off =
      let pending = listed_not (is_listed id ids) (is_none (f id)) (is_none (g id)) (distinct (λ i. is_none (f i)) ids) (distinct (λ i. is_none (g i)) ids) off
      (changed (λ i. is_none (f i)) (λ i. is_none (g i)) id ids (λ j apart. ap is_none (same j apart))) in
      let as_asked = listed_not (is_listed id ids) (asked d (f id)) (asked d (g id)) (distinct (λ i. asked d (f i)) ids) (distinct (λ i. asked d (g i)) ids) off
      (changed (λ i. asked d (f i)) (λ i. asked d (g i)) id ids (λ j apart. ap (asked d) (same j apart))) in
      let otherwise = listed_not (is_listed id ids) (other_kind d (f id)) (other_kind d (g id)) (distinct (λ i. other_kind d (f i)) ids) (distinct (λ i. other_kind d (g i)) ids) off
      (changed (λ i. other_kind d (f i)) (λ i. other_kind d (g i)) id ids (λ j apart. ap (other_kind d) (same j apart))) in
      rw (pending, as_asked, otherwise) refl

-- what is counted is there
pub has_listed : (d : Dep) (f : Id → Option Settled) (id : Id) (ids : List Id) → is_listed id ids ≡ true → HasOne d (f id) (counts_among d f ids)
has_listed d f id ids on = record {
  pending = there (λ i. is_none (f i));
  asked = there (λ i. asked d (f i));
  other = there (λ i. other_kind d (f i));
}
  where
    there : (p : Id → Bool) → one_if (p id) ≤ distinct p ids
    there p = elim (p id) as (λ b. p id ≡ b → one_if b ≤ distinct p ids) [
      | true ↦ λ passes. some_counted p ids (any_listed p id ids on passes)
      | false ↦ λ _. omega arith
    ] refl

-- ONE ID MORE AT THE END

-- the same id stood there already, or comes again
again : (p l : Bool) (m n : ℕ) → n ≡ m + one_if (p && not l) → one_if (p && false) + n ≡ (one_if (p && not l) + m) + one_if (p && false)
again true true m n before = omega (arith, before)
again true false m n before = omega (arith, before)
again false l m n before = omega (arith, before)

or_true : (b : Bool) → (b || true) ≡ true
or_true true = refl
or_true false = refl

or_false : (b : Bool) → (b || false) ≡ b
or_false true = refl
or_false false = refl

-- one more counts where it isn't listed before
pub distinct_more : (p : Id → Bool) (ids : List Id) (x : Id) → distinct p (ids ++ x ∷ []) ≡ distinct p ids + one_if (p x && not (is_listed x ids))
distinct_more p [] x = omega arith
distinct_more p (i ∷ ids) x =
    ap (λ b. one_if (p i && not b) + distinct p (ids ++ x ∷ [])) (listed_more ids x i)
    ∙ (elim (bytes_eq x i) as (λ b. bytes_eq x i ≡ b → one_if (p i && not (is_listed i ids || b)) + distinct p (ids ++ x ∷ []) ≡ (one_if (p i && not (is_listed i ids)) + distinct p ids) + one_if (p x && not (bytes_eq i x || is_listed x ids))) [
      | true ↦ λ on.
          let before = distinct_more p ids x in
          subst (λ k. one_if (p k && not (is_listed k ids || true)) + distinct p (ids ++ x ∷ []) ≡ (one_if (p k && not (is_listed k ids)) + distinct p ids) + one_if (p x && not (bytes_eq k x || is_listed x ids))) (same_id x i on)
          (rw (or_true (is_listed x ids), id_self x) (again (p x) (is_listed x ids) (distinct p ids) (distinct p (ids ++ x ∷ [])) before))
      | false ↦ λ off.
          let before = distinct_more p ids x in
          let apart : bytes_eq i x ≡ false = false_from_ne_true (bytes_eq i x) (λ on. both_ways (bytes_eq x i) off (subst (λ k. bytes_eq k i ≡ true) (same_id i x on) (id_self i))) in
          rw (or_false (is_listed i ids), apart) (omega (arith, before))
    ]) refl

unlisted : (a l : Bool) → l ≡ false → (a && not l) ≡ a
unlisted true l off = ap not off
unlisted false l off = refl

listed_off : (a l : Bool) → l ≡ true → (a && not l) ≡ false
listed_off true l on = ap not on
listed_off false l on = refl

module _ (d : Dep) (f : Id → Option Settled) (ids : List Id) (x : Id) where
  more_by : (p : Id → Bool) (b : Bool) → (p x && not (is_listed x ids)) ≡ b → distinct p (ids ++ x ∷ []) ≡ distinct p ids + one_if b
  more_by p b is = distinct_more p ids x ∙ ap (λ e. distinct p ids + one_if e) is

  pub counts_more : is_listed x ids ≡ false → counts_among d f (ids ++ x ∷ []) ≡ with_one d (f x) (counts_among d f ids)
  counts_more off =
      let pending = more_by (λ i. is_none (f i)) (is_none (f x)) (unlisted (is_none (f x)) (is_listed x ids) off) in
      let as_asked = more_by (λ i. asked d (f i)) (asked d (f x)) (unlisted (asked d (f x)) (is_listed x ids) off) in
      let otherwise = more_by (λ i. other_kind d (f i)) (other_kind d (f x)) (unlisted (other_kind d (f x)) (is_listed x ids) off) in
      rw (pending, as_asked, otherwise) refl

  plain : (p : Id → Bool) → is_listed x ids ≡ true → distinct p (ids ++ x ∷ []) ≡ distinct p ids
  plain p on = let more = more_by p false (listed_off (p x) (is_listed x ids) on) in omega (arith, more)

  pub counts_again : is_listed x ids ≡ true → counts_among d f (ids ++ x ∷ []) ≡ counts_among d f ids
  counts_again on = rw (plain (λ i. is_none (f i)) on, plain (λ i. asked d (f i)) on, plain (λ i. other_kind d (f i)) on) refl

-- HOW MANY THEY ARE

kinds : (c s f : Bool) → one_if (cond c s f) + one_if (cond c (not s) (not f)) ≡ 1
kinds true true f = refl
kinds true false f = refl
kinds false s true = refl
kinds false s false = refl

pub one_kind : (d : Dep) (o : Option Settled) → one_if (is_none o) + (one_if (asked d o) + one_if (other_kind d o)) ≡ 1
one_kind d None = refl
one_kind d (Some s) = let one = kinds (completed s.verdict) d.success d.failure in omega (arith, one)

less : (b l : Bool) → one_if (b && not l) ≤ one_if b
less true true = omega arith
less true false = omega arith
less false l = omega arith

pub counted_most : (d : Dep) (f : Id → Option Settled) (ids : List Id) → counted (counts_among d f ids) ≤ length ids
counted_most d f [] = omega arith
counted_most d f (i ∷ ids) =
    let one = one_kind d (f i) in
    let a = less (is_none (f i)) (is_listed i ids) in
    let b = less (asked d (f i)) (is_listed i ids) in
    let e = less (other_kind d (f i)) (is_listed i ids) in
    let rest = counted_most d f ids in
    omega (arith, one, a, b, e, rest)

-- COUNTS THAT ARE THE SAME

pub alike : (p q : Id → Bool) (ids : List Id) → ((j : Id) → p j ≡ q j) → distinct p ids ≡ distinct q ids
alike p q [] same = refl
alike p q (i ∷ ids) same = rw (same i, alike p q ids same) refl

pub counts_alike : (d : Dep) (f g : Id → Option Settled) (ids : List Id) → ((j : Id) → f j ≡ g j) → counts_among d f ids ≡ counts_among d g ids
counts_alike d f g ids same =
    let pending = alike (λ i. is_none (f i)) (λ i. is_none (g i)) ids (λ j. ap is_none (same j)) in
    let as_asked = alike (λ i. asked d (f i)) (λ i. asked d (g i)) ids (λ j. ap (asked d) (same j)) in
    let otherwise = alike (λ i. other_kind d (f i)) (λ i. other_kind d (g i)) ids (λ j. ap (other_kind d) (same j)) in
    rw (pending, as_asked, otherwise) refl

off_both : (a b n : ℕ) → a + n ≡ b + n → a ≡ b
off_both a b n same = omega (arith, same)

-- two counts that are the same with one id more
pub without_one : (d : Dep) (o : Option Settled) (a b : IdCounts) → with_one d o a ≡ with_one d o b → a ≡ b
without_one d o a b same =
    let pending = off_both a.pending b.pending (one_if (is_none o)) (ap (λ (k : IdCounts). k.pending) same) in
    let as_asked = off_both a.asked b.asked (one_if (asked d o)) (ap (λ (k : IdCounts). k.asked) same) in
    let otherwise = off_both a.other b.other (one_if (other_kind d o)) (ap (λ (k : IdCounts). k.other) same) in
    let counts : ℕ → ℕ → ℕ → IdCounts = λ l m n. record { pending = l; asked = m; other = n } in
    ap (λ n. counts n a.asked a.other) pending ∙ ap (λ n. counts b.pending n a.other) as_asked ∙ ap (λ n. counts b.pending b.asked n) otherwise
