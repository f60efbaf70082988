-- What is counted over the members of a set that covers a test.
use Rattle.std.proofs.Common.{◌≡◌, ap, sym, ◌∙◌, ℕ, zero, suc, ◌+◌, ◌-◌, ◌<◌, ◌≤◌, ⊎_elim, List, [], ◌∷◌, Bool, true, false, cond, ◌||◌, refl, ◌⊎◌, inl, inr, arith}
use Rattle.std.specs.Prelude.{count_by}
use Rattle.std.specs.Ordering.{nat_cmp}
use Rattle.std.specs.declared.cmp.Ordering.TheVariants.{Less}
use Rattle.std.specs.List.{AllByRecursion}
use Rattle.std.specs.List.Sorted.{IsStrictlySortedBy}
use Rattle.std.specs.BTreeSet.{BTreeSet}
use Rattle.std.specs.BTreeMap.{is_at}
use Rattle.std.proofs.lemmas.Bool.{both_ways, or_right, false_from_ne_true}
use Rattle.std.proofs.lemmas.List.Sums.{sum_by-cons}
use Rattle.std.proofs.lemmas.Map.Keys.{sorted_head, sorted_tail}
use Rattle.place_sets.specs.Sets.{holds_at, Covers}
use Rattle.place_sets.proofs.Covering.{member, first_or_later, same_place, above, lt_not}

count_cons : {X : Type 0} (p : X → Bool) (x : X) (xs : List X) → count_by p (x ∷ xs) ≡ cond (p x) 1 0 + count_by p xs
count_cons p x xs = sum_by-cons (λ y. cond (p y) 1 0) x xs

self_is : (i : ℕ) → is_at (nat_cmp i) i ≡ true
self_is i = grind (arith)

pub member_first : (m : ℕ) (ms : List ℕ) → member (m ∷ ms) m ≡ true
member_first m ms = rw (self_is m) refl

plus_off : (b : Bool) (n : ℕ) → b ≡ false → cond b 1 0 + n ≡ n
plus_off true n h = cc
plus_off false n h = omega arith

count_off : (q : ℕ → Bool) (ms : List ℕ) → ((i : ℕ) → member ms i ≡ true → q i ≡ false) → count_by q ms ≡ 0
count_off q [] off = refl
count_off q (m ∷ ms) off = count_cons q m ms ∙ plus_off (q m) (count_by q ms) (off m (member_first m ms)) ∙ count_off q ms (λ i on. off i (or_right (is_at (nat_cmp i) m) (member ms i) on))

pub past : (at i : ℕ) → at ≤ i → at + (i - at) ≡ i
past at i le = omega arith

pub at_least : (m : ℕ) (ms : List ℕ) (i : ℕ) → AllByRecursion (λ y. nat_cmp m y ≡ Less) ms → member (m ∷ ms) i ≡ true → m ≤ i
at_least m ms i all on =
    first_or_later (is_at (nat_cmp i) m) (member ms i) on (λ same. let e : i ≡ m = same_place i m same in omega (arith, e)) (λ later. let up : m < i = above m ms i all later in omega (arith, up))

pub by_le : (a b : ℕ) → a ≤ b → (a ≡ b) ⊎ (a < b)
by_le zero zero le = inl refl
by_le zero (suc b) le = inr (omega arith)
by_le (suc a) zero le = absurd (omega arith)
by_le (suc a) (suc b) le = ⊎_elim (λ e. inl (ap suc e)) (λ lt. inr (omega (arith, lt))) (by_le a b (omega (arith, le)))

module _ {X : Type 0} (p : X → Bool) (q : ℕ → Bool) where
  count_from : (xs : List X) (at : ℕ) (ms : List ℕ) → IsStrictlySortedBy nat_cmp ms → ((i : ℕ) → member ms i ≡ true → at ≤ i) → ((i : ℕ) → q (at + i) ≡ holds_at p xs i) → ((i : ℕ) → at ≤ i → q i ≡ true → member ms i ≡ true) → count_by q ms ≡ count_by p xs
  count_from [] at ms sorted low is covers = count_off q ms (λ i on. ap q (sym (past at i (low i on))) ∙ is (i - at))
  count_from (x ∷ xs) at [] sorted low is covers =
      let here : at + 0 ≡ at = omega arith in
      let off : p x ≡ false = false_from_ne_true (p x) (λ on. both_ways false refl (covers at (omega arith) (ap q (sym here) ∙ is 0 ∙ on))) in
      let rest = count_from xs (suc at) [] sorted (λ i on. cc) (λ i. let e : suc at + i ≡ at + suc i = omega arith in ap q e ∙ is (suc i)) (λ i le on. covers i (omega (arith, le)) on) in
      rest ∙ sym (count_cons p x xs ∙ plus_off (p x) (count_by p xs) off)
  count_from (x ∷ xs) at (m ∷ ms) sorted low is covers =
      let here : at + 0 ≡ at = omega arith in
      let shift : (i : ℕ) → q (suc at + i) ≡ holds_at p xs i = λ i. let e : suc at + i ≡ at + suc i = omega arith in ap q e ∙ is (suc i) in
      ⊎_elim
      (λ (same : at ≡ m).
      let first : q m ≡ p x = ap q (sym same ∙ sym here) ∙ is 0 in
      let rest = count_from xs (suc at) ms (sorted_tail nat_cmp m ms sorted)
      (λ i on. let up : m < i = above m ms i (sorted_head nat_cmp m ms sorted) on in omega (arith, up, same)) shift
      (λ i le on. first_or_later (is_at (nat_cmp i) m) (member ms i) (covers i (omega (arith, le)) on) (λ e. let e2 : i ≡ m = same_place i m e in absurd (omega (arith, le, e2, same))) (λ later. later)) in
      count_cons q m ms ∙ ap (λ b. cond b 1 0 + count_by q ms) first ∙ ap (λ n. cond (p x) 1 0 + n) rest ∙ sym (count_cons p x xs))
      (λ (lt : at < m).
      let off : p x ≡ false = false_from_ne_true (p x) (λ on. let le : m ≤ at = at_least m ms at (sorted_head nat_cmp m ms sorted) (covers at (omega arith) (ap q (sym here) ∙ is 0 ∙ on)) in lt_not at (omega (arith, lt, le))) in
      let rest = count_from xs (suc at) (m ∷ ms) sorted (λ i on. let le : m ≤ i = at_least m ms i (sorted_head nat_cmp m ms sorted) on in omega (arith, lt, le)) shift (λ i le on. covers i (omega (arith, le)) on) in
      rest ∙ sym (count_cons p x xs ∙ plus_off (p x) (count_by p xs) off))
      (by_le at m (low m (member_first m ms)))

-- a count over the members is a count over all
pub count_covered : {X : Type 0} (p : X → Bool) (xs : List X) (s : BTreeSet ℕ) → IsStrictlySortedBy nat_cmp s.keys → Covers p xs s → count_by (holds_at p xs) s.keys ≡ count_by p xs
count_covered p xs s sorted covers = count_from p (holds_at p xs) xs 0 s.keys sorted (λ i on. omega arith) (λ i. let e : 0 + i ≡ i = omega arith in ap (holds_at p xs) e) (λ i le on. covers i on)
