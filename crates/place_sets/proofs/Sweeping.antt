-- Changes at the members of a set that covers all that a change changes.
use Rattle.std.proofs.Common.{◌≡◌, ap, sym, ◌∙◌, ℕ, zero, suc, ◌<◌, List, [], ◌∷◌, map, Bool, true, false, ◌||◌, refl, subst, Option, Some, None, arith}
use Rattle.std.specs.Prelude.{slice_get, option_map}
use Rattle.std.specs.Ordering.{nat_cmp}
use Rattle.std.specs.List.Sorted.{IsStrictlySortedBy}
use Rattle.std.specs.BTreeSet.{BTreeSet}
use Rattle.std.specs.BTreeMap.{is_at}
use Rattle.std.proofs.lemmas.Bool.{both_ways, false_from_ne_true}
use Rattle.std.proofs.lemmas.Map.Keys.{sorted_head, sorted_tail}
use Rattle.place_sets.specs.Sets.{has, holds, holds_at, Covers, Apart, at_place, at_places}
use Rattle.place_sets.proofs.Covering.{member, first_or_later, same_place, above, lt_not}

pub same_lists : {X : Type 0} (xs ys : List X) → ((i : ℕ) → slice_get xs i ≡ slice_get ys i) → xs ≡ ys
same_lists [] [] same = refl
same_lists [] (y ∷ ys) same = cc (same 0)
same_lists (x ∷ xs) [] same = cc (same 0)
same_lists (x ∷ xs) (y ∷ ys) same =
    let head : Some x ≡ Some y = same 0 in
    let first : x ≡ y = cc in
    let rest : xs ≡ ys = same_lists xs ys (λ i. same (suc i)) in
    rw (first, rest) refl

-- a change at a place leaves the others
pub apart_at : {X : Type 0} (f : X → X) (place : ℕ) (xs : List X) → Apart place xs (at_place f place xs)
apart_at f place [] i other = refl
apart_at f zero (x ∷ xs) zero other = absurd (other refl)
apart_at f zero (x ∷ xs) (suc i) other = refl
apart_at f (suc place) (x ∷ xs) zero other = refl
apart_at f (suc place) (x ∷ xs) (suc i) other = apart_at f place xs i (λ e. other (ap suc e))

pub here_at : {X : Type 0} (f : X → X) (place : ℕ) (xs : List X) → slice_get (at_place f place xs) place ≡ option_map f (slice_get xs place)
here_at f place [] = refl
here_at f zero (x ∷ xs) = refl
here_at f (suc place) (x ∷ xs) = here_at f place xs

map_get : {X : Type 0} (f : X → X) (xs : List X) (i : ℕ) → slice_get (map f xs) i ≡ option_map f (slice_get xs i)
map_get f [] i = refl
map_get f (x ∷ xs) zero = refl
map_get f (x ∷ xs) (suc i) = map_get f xs i

pub others : {X : Type 0} (f : X → X) (ms : List ℕ) (xs : List X) (i : ℕ) → member ms i ≡ false → slice_get (at_places f ms xs) i ≡ slice_get xs i
others f [] xs i off = refl
others f (m ∷ ms) xs i off =
    others f ms (at_place f m xs) i (false_from_ne_true (member ms i) (λ on. both_ways (member (m ∷ ms) i) off (later (is_at (nat_cmp i) m) (member ms i) on)))
    ∙ apart_at f m xs i (λ e. both_ways (member (m ∷ ms) i) off (first (is_at (nat_cmp i) m) (member ms i) (itself i m e)))
  where
    later : (b c : Bool) → c ≡ true → (b || c) ≡ true
    later true c h = refl
    later false c h = h

    first : (b c : Bool) → b ≡ true → (b || c) ≡ true
    first true c h = refl
    first false c h = cc

    itself : (i m : ℕ) → i ≡ m → is_at (nat_cmp i) m ≡ true
    itself i m e = grind (arith, e)

listed : {X : Type 0} (f : X → X) (ms : List ℕ) (xs : List X) (i : ℕ) → IsStrictlySortedBy nat_cmp ms → member ms i ≡ true → slice_get (at_places f ms xs) i ≡ option_map f (slice_get xs i)
listed f [] xs i sorted on = cc
listed f (m ∷ ms) xs i sorted on =
    first_or_later (is_at (nat_cmp i) m) (member ms i) on
    (λ same. let e : i ≡ m = same_place i m same in
    others f ms (at_place f m xs) i (false_from_ne_true (member ms i) (λ later. let up : m < i = above m ms i (sorted_head nat_cmp m ms sorted) later in lt_not i (subst (λ k. k < i) (sym e) up)))
    ∙ subst (λ k. slice_get (at_place f m xs) k ≡ option_map f (slice_get xs k)) (sym e) (here_at f m xs))
    (λ later. let up : m < i = above m ms i (sorted_head nat_cmp m ms sorted) later in
    listed f ms (at_place f m xs) i (sorted_tail nat_cmp m ms sorted) later
    ∙ ap (option_map f) (apart_at f m xs i (λ e. lt_not m (subst (λ k. m < k) e up))))

-- a change that leaves all but the members as they are
pub sweep : {X : Type 0} (p : X → Bool) (f : X → X) (xs : List X) (s : BTreeSet ℕ) → IsStrictlySortedBy nat_cmp s.keys → Covers p xs s → ((x : X) → p x ≡ false → f x ≡ x) → at_places f s.keys xs ≡ map f xs
sweep {X} p f xs s sorted covers idle = same_lists (at_places f s.keys xs) (map f xs) (λ i. at i ∙ sym (map_get f xs i))
  where
    stays : (o : Option X) → holds p o ≡ false → o ≡ option_map f o
    stays None off = refl
    stays (Some x) off = ap (λ y. Some y) (sym (idle x off))

    at : (i : ℕ) → slice_get (at_places f s.keys xs) i ≡ option_map f (slice_get xs i)
    at i = elim (member s.keys i) as (λ b. member s.keys i ≡ b → slice_get (at_places f s.keys xs) i ≡ option_map f (slice_get xs i)) [
      | true ↦ λ on. listed f s.keys xs i sorted on
      | false ↦ λ off. others f s.keys xs i off ∙ stays (slice_get xs i) (false_from_ne_true (holds_at p xs i) (λ on. both_ways (has s i) off (covers i on)))
    ] refl
