-- The least place of a set where a test holds, and that of several sets.
use Rattle.std.proofs.Common.{◌≡◌, ap, sym, ◌∙◌, ℕ, ◌<◌, List, [], ◌∷◌, ◌++◌, Bool, true, false, cond, ◌||◌, ◌&&◌, refl, subst, Option, Some, None, arith}
use Rattle.std.specs.Prelude.{find, slice_get}
use Rattle.std.specs.Ordering.{nat_cmp}
use Rattle.std.specs.List.{list_any}
use Rattle.std.specs.List.Sorted.{IsStrictlySortedBy}
use Rattle.std.specs.Option.{option_and_then}
use Rattle.std.specs.Map.{lookup}
use Rattle.std.specs.BTreeMap.{is_at}
use Rattle.std.specs.BTreeSet.{BTreeSet}
use Rattle.std.proofs.lemmas.Bool.{both_ways, or_right, or_left, and_from, false_from_ne_true}
use Rattle.std.proofs.lemmas.Map.Keys.{sorted_head, sorted_tail}
use Rattle.place_sets.specs.Sets.{has, holds_at}
use Rattle.place_sets.specs.Lanes.{LaneList, in_set, in_lane, in_some}
use Rattle.place_sets.specs.Least.{IsLeast}
use Rattle.place_sets.proofs.Covering.{member, first_or_later, same_place, above, found_none}
use Rattle.place_sets.proofs.Changing.{least_found}

-- the first member that passes is the least
pub least_members : (test : ℕ → Bool) (ms : List ℕ) → IsStrictlySortedBy nat_cmp ms → IsLeast test (member ms) (find test ms)
least_members test [] sorted = λ i on. cc
least_members test (m ∷ ms) sorted =
    elim (test m) as (λ b. test m ≡ b → IsLeast test (member (m ∷ ms)) (cond b (Some m) (find test ms))) [
      | true ↦ λ on. (
        on,
        λ i among _.
            first_or_later (is_at (nat_cmp i) m) (member ms i) among
            (λ same. let e : i ≡ m = same_place i m same in omega (arith, e))
            (λ later. let up : m < i = above m ms i (sorted_head nat_cmp m ms sorted) later in omega (arith, up)),
      )
      | false ↦ λ off. rest off (find test ms) (least_members test ms (sorted_tail nat_cmp m ms sorted))
    ] refl
  where
    rest : test m ≡ false → (o : Option ℕ) → IsLeast test (member ms) o → IsLeast test (member (m ∷ ms)) o
    rest off None least = λ i among. first_or_later (is_at (nat_cmp i) m) (member ms i) among (λ same. ap test (same_place i m same) ∙ off) (λ later. least i later)
    rest off (Some p) least = (
      least.0,
      λ i among on. first_or_later (is_at (nat_cmp i) m) (member ms i) among
          (λ same. absurd (both_ways (test m) off (subst (λ k. test k ≡ true) (same_place i m same) on))) (λ later. least.1 i later on),
    )

pub least_in : (test : ℕ → Bool) (s : BTreeSet ℕ) → IsStrictlySortedBy nat_cmp s.keys → IsLeast test (has s) (find test s.keys)
least_in test s sorted = least_members test s.keys sorted

-- the least of no places
pub least_none : (test : ℕ → Bool) → IsLeast test (λ i. false) None
least_none test = λ i on. cc

-- the least of fewer places that are all where the test holds
pub least_of : (test among all : ℕ → Bool) (o : Option ℕ) → IsLeast test among o → ((i : ℕ) → all i ≡ true → test i ≡ true → among i ≡ true) → IsLeast test all o
least_of test among all None least in_it = λ i on. false_from_ne_true (test i) (λ passes. both_ways (test i) (least i (in_it i on passes)) passes)
least_of test among all (Some p) least in_it = (least.0, λ i on passes. least.1 i (in_it i on passes) passes)

-- the item at the least of the places where the test holds is the first that passes
pub least_is : {X : Type 0} (p : X → Bool) (xs : List X) (among : ℕ → Bool) (o : Option ℕ) → IsLeast (holds_at p xs) among o → ((i : ℕ) → holds_at p xs i ≡ true → among i ≡ true) → option_and_then (slice_get xs) o ≡ find p xs
least_is p xs among None least covers = found_none p xs (λ i. false_from_ne_true (holds_at p xs i) (λ on. both_ways (holds_at p xs i) (least i (covers i on)) on))
least_is p xs among (Some i) least covers = least_found p xs i least.0 (λ j on. least.1 j (covers j on) on)

-- LANES

-- the lane of a number that passes is one of them
pub lane_among : (looks : ℕ → Bool) (lanes : LaneList) (n i : ℕ) → looks n ≡ true → in_lane lanes n i ≡ true → in_some looks lanes i ≡ true
lane_among looks [] n i on here = cc
lane_among looks (e ∷ es) n i on here =
    (elim (is_at (nat_cmp n) e.0) as (λ b. is_at (nat_cmp n) e.0 ≡ b → in_set (cond b (Some e.1) (lookup (is_at (nat_cmp n)) es)) i ≡ true → in_some looks (e ∷ es) i ≡ true) [
      | true ↦ λ same has_it. or_left (looks e.0 && has e.1 i) (in_some looks es i) (and_from (looks e.0) (has e.1 i) (ap looks (sym (same_place n e.0 same)) ∙ on) has_it)
      | false ↦ λ _ later. or_right (looks e.0 && has e.1 i) (in_some looks es i) (lane_among looks es n i on later)
    ]) refl here

pub any_push : {X : Type 0} (p : X → Bool) (xs : List X) (x : X) → list_any p (xs ++ x ∷ []) ≡ (list_any p xs || p x)
any_push p [] x = first (p x)
  where
    first : (b : Bool) → (b || false) ≡ (false || b)
    first true = refl
    first false = refl
any_push p (y ∷ xs) x = ap (λ b. p y || b) (any_push p xs x) ∙ turn (p y) (list_any p xs) (p x)
  where
    turn : (a b c : Bool) → (a || (b || c)) ≡ ((a || b) || c)
    turn true b c = refl
    turn false b c = refl

-- a lane more
pub some_more : (looks : ℕ → Bool) (lanes : LaneList) (e : ℕ × BTreeSet ℕ) (i : ℕ) → in_some looks (lanes ++ e ∷ []) i ≡ (in_some looks lanes i || (looks e.0 && has e.1 i))
some_more looks lanes e i = any_push (λ f. looks f.0 && has f.1 i) lanes e
