-- How a count changes with the items at some places.
use Rattle.std.proofs.Common.{◌≡◌, ap, sym, ◌∙◌, ℕ, zero, suc, ◌+◌, ◌<◌, List, [], ◌∷◌, Bool, true, false, cond, ◌||◌, refl, subst, Option, Some, None, arith}
use Rattle.std.specs.Prelude.{count_by, slice_get, option_map}
use Rattle.std.specs.Ordering.{nat_cmp}
use Rattle.std.specs.List.Sorted.{IsStrictlySortedBy}
use Rattle.std.specs.BTreeMap.{is_at}
use Rattle.std.proofs.lemmas.Bool.{both_ways, or_right, false_from_ne_true}
use Rattle.std.proofs.lemmas.List.Sums.{sum_by-cons}
use Rattle.std.proofs.lemmas.Map.Keys.{sorted_head, sorted_tail}
use Rattle.place_sets.specs.Sets.{holds, holds_at, at_place, at_places}
use Rattle.place_sets.proofs.Covering.{member, above, lt_not}
use Rattle.place_sets.proofs.Changing.{count_changed, count_past}
use Rattle.place_sets.proofs.Sweeping.{apart_at, here_at, others}

count_cons : (q : ℕ → Bool) (m : ℕ) (ms : List ℕ) → count_by q (m ∷ ms) ≡ cond (q m) 1 0 + count_by q ms
count_cons q m ms = sum_by-cons (λ k. cond (q k) 1 0) m ms

-- tests that are alike at the members
count_alike : (q r : ℕ → Bool) (ms : List ℕ) → ((i : ℕ) → member ms i ≡ true → q i ≡ r i) → count_by q ms ≡ count_by r ms
count_alike q r [] same = refl
count_alike q r (m ∷ ms) same =
    count_cons q m ms ∙ ap (λ b. cond b 1 0 + count_by q ms) (same m (first m)) ∙ ap (λ n. cond (r m) 1 0 + n) (count_alike q r ms (λ i on. same i (or_right (is_at (nat_cmp i) m) (member ms i) on))) ∙ sym (count_cons r m ms)
  where
    self_is : (i : ℕ) → is_at (nat_cmp i) i ≡ true
    self_is i = grind (arith)

    first : (k : ℕ) → member (k ∷ ms) k ≡ true
    first k = rw (self_is k) refl

module _ {X : Type 0} (p : X → Bool) (f : X → X) where
  one_changed : (m : ℕ) (xs : List X) (o : Option X) → slice_get xs m ≡ o → count_by p (at_place f m xs) + cond (holds p o) 1 0 ≡ count_by p xs + cond (holds p (option_map f o)) 1 0
  one_changed m xs None is = ap (λ ys. count_by p ys + 0) (count_past p f m xs is)
  one_changed m xs (Some x) is = count_changed p f m xs x is

  -- what was counted at the places goes, and what is counted there comes
  pub recounted : (ms : List ℕ) (xs : List X) → IsStrictlySortedBy nat_cmp ms → count_by p (at_places f ms xs) + count_by (holds_at p xs) ms ≡ count_by p xs + count_by (holds_at p (at_places f ms xs)) ms
  recounted [] xs sorted = refl
  recounted (m ∷ ms) xs sorted =
      let ys = at_place f m xs in
      let zs = at_places f ms ys in
      let up : (i : ℕ) → member ms i ≡ true → m < i = λ i on. above m ms i (sorted_head nat_cmp m ms sorted) on in
      let out : member ms m ≡ false = false_from_ne_true (member ms m) (λ on. lt_not m (up m on)) in
      let rest = recounted ms ys (sorted_tail nat_cmp m ms sorted) in
      let one = one_changed m xs (slice_get xs m) refl in
      let there : slice_get zs m ≡ option_map f (slice_get xs m) = others f ms ys m out ∙ here_at f m xs in
      let before : count_by (holds_at p xs) (m ∷ ms) ≡ cond (holds p (slice_get xs m)) 1 0 + count_by (holds_at p xs) ms = count_cons (holds_at p xs) m ms in
      let after : count_by (holds_at p zs) (m ∷ ms) ≡ cond (holds p (option_map f (slice_get xs m))) 1 0 + count_by (holds_at p zs) ms =
      count_cons (holds_at p zs) m ms ∙ ap (λ o. cond (holds p o) 1 0 + count_by (holds_at p zs) ms) there in
      let same : count_by (holds_at p ys) ms ≡ count_by (holds_at p xs) ms =
      count_alike (holds_at p ys) (holds_at p xs) ms (λ i on. ap (holds p) (apart_at f m xs i (λ e. lt_not m (subst (λ k. m < k) e (up i on))))) in
      omega (arith, rest, one, before, after, same)
