-- The places in a set that has those where a test holds and no others: they are all of these, ascending.
use Rattle.std.proofs.Common.{◌≡◌, ap, sym, ◌∙◌, ℕ, zero, suc, ◌+◌, ◌-◌, ◌<◌, ◌≤◌, ⊎_elim, List, [], ◌∷◌, Bool, true, false, cond, ◌||◌, refl, subst, arith}
use Rattle.std.specs.Prelude.{filter}
use Rattle.std.specs.Ordering.{nat_cmp}
use Rattle.std.specs.List.Sorted.{IsStrictlySortedBy}
use Rattle.std.specs.BTreeSet.{BTreeSet}
use Rattle.std.specs.BTreeMap.{is_at}
use Rattle.std.proofs.lemmas.Bool.{both_ways, or_right, false_from_ne_true}
use Rattle.std.proofs.lemmas.Map.Keys.{sorted_head, sorted_tail}
use Rattle.place_sets.specs.Sets.{holds_at, places_from, places_where}
use Rattle.place_sets.proofs.Covering.{member, first_or_later, same_place, above, lt_not}
use Rattle.place_sets.proofs.Counting.{member_first, at_least, by_le, past}

module _ {X : Type 0} (p : X → Bool) where
  -- places of a list whose first item has a place
  members_from : (xs : List X) (at : ℕ) (ms : List ℕ) → IsStrictlySortedBy nat_cmp ms → ((i : ℕ) → member ms i ≡ true → at ≤ i) → ((i : ℕ) → member ms (at + i) ≡ holds_at p xs i) → ms ≡ places_from at p xs
  members_from [] at [] sorted low exact = refl
  members_from [] at (m ∷ ms) sorted low exact =
      let here : at + (m - at) ≡ m = past at m (low m (member_first m ms)) in
      let off : member (m ∷ ms) m ≡ false = ap (member (m ∷ ms)) (sym here) ∙ exact (m - at) in
      absurd (both_ways (member (m ∷ ms) m) off (member_first m ms))
  members_from (x ∷ xs) at [] sorted low exact =
      let off : p x ≡ false = sym (exact 0) in
      let rest = members_from xs (suc at) [] sorted (λ i on. cc) (λ i. exact (suc i)) in
      rw off rest
  members_from (x ∷ xs) at (m ∷ ms) sorted low exact =
      let start : at + 0 ≡ at = omega arith in
      let shift : (i : ℕ) → suc at + i ≡ at + suc i = λ i. omega arith in
      ⊎_elim
      (λ (same : at ≡ m).
      let on : p x ≡ true = sym (exact 0) ∙ ap (member (m ∷ ms)) (start ∙ same) ∙ member_first m ms in
      let up : (i : ℕ) → member ms i ≡ true → suc at ≤ i = λ i here. (let lt : m < i = above m ms i (sorted_head nat_cmp m ms sorted) here in omega (arith, lt, same)) in
      let rest : ms ≡ places_from (suc at) p xs =
      members_from xs (suc at) ms (sorted_tail nat_cmp m ms sorted) up (λ i. later_only at m ms i same ∙ ap (member (m ∷ ms)) (shift i) ∙ exact (suc i)) in
      rw (on, sym same) (ap (λ ks. at ∷ ks) rest))
      (λ (lt : at < m).
      let none : member (m ∷ ms) at ≡ false = false_from_ne_true (member (m ∷ ms) at) (λ here. let le : m ≤ at = at_least m ms at (sorted_head nat_cmp m ms sorted) here in lt_not at (omega (arith, lt, le))) in
      let off : p x ≡ false = sym (exact 0) ∙ ap (member (m ∷ ms)) start ∙ none in
      let rest : m ∷ ms ≡ places_from (suc at) p xs =
      members_from xs (suc at) (m ∷ ms) sorted (λ i here. let le : m ≤ i = at_least m ms i (sorted_head nat_cmp m ms sorted) here in omega (arith, lt, le)) (λ i. ap (member (m ∷ ms)) (shift i) ∙ exact (suc i)) in
      rw off rest)
      (by_le at m (low m (member_first m ms)))
    where
      past_first : (b c : Bool) → b ≡ false → c ≡ (b || c)
      past_first true c off = cc
      past_first false c off = refl

      later_only : (at m : ℕ) (ms : List ℕ) (i : ℕ) → at ≡ m → member ms (suc at + i) ≡ member (m ∷ ms) (suc at + i)
      later_only at m ms i same =
          past_first (is_at (nat_cmp (suc at + i)) m) (member ms (suc at + i))
          (false_from_ne_true (is_at (nat_cmp (suc at + i)) m) (λ here. let e : suc at + i ≡ m = same_place (suc at + i) m here in lt_not m (omega (arith, e, same))))

  -- places that ascend, and are those where the test holds
  pub members_are : (xs : List X) (ms : List ℕ) → IsStrictlySortedBy nat_cmp ms → ((i : ℕ) → member ms i ≡ holds_at p xs i) → ms ≡ places_where p xs
  members_are xs ms sorted exact = members_from xs 0 ms sorted (λ i _. omega arith) (λ i. let start : 0 + i ≡ i = omega arith in ap (member ms) start ∙ exact i)

-- of the places where one test holds, those where a narrower one does
filtered_step : (q : ℕ → Bool) (b c : Bool) (at : ℕ) (ps rs : List ℕ) → (c ≡ true → b ≡ true) → q at ≡ c → filter q ps ≡ rs → filter q (cond b (at ∷ ps) ps) ≡ cond c (at ∷ rs) rs
filtered_step q true true at ps rs up on rest = rw on (ap (λ ks. at ∷ ks) rest)
filtered_step q true false at ps rs up off rest = rw off rest
filtered_step q false true at ps rs up on rest = cc (up refl)
filtered_step q false false at ps rs up off rest = rest

module _ {X : Type 0} (p r : X → Bool) (up : (x : X) → r x ≡ true → p x ≡ true) where
  filtered_from : (q : ℕ → Bool) (xs : List X) (at : ℕ) → ((i : ℕ) → q (at + i) ≡ holds_at r xs i) → filter q (places_from at p xs) ≡ places_from at r xs
  filtered_from q [] at is = refl
  filtered_from q (x ∷ xs) at is =
      let start : at + 0 ≡ at = omega arith in
      let shift : (i : ℕ) → suc at + i ≡ at + suc i = λ i. omega arith in
      filtered_step q (p x) (r x) at (places_from (suc at) p xs) (places_from (suc at) r xs) (up x) (ap q (sym start) ∙ is 0) (filtered_from q xs (suc at) (λ i. ap q (shift i) ∙ is (suc i)))

  pub filtered : (xs : List X) → filter (holds_at r xs) (places_where p xs) ≡ places_where r xs
  filtered xs = filtered_from (holds_at r xs) xs 0 (λ i. let start : 0 + i ≡ i = omega arith in ap (holds_at r xs) start)
