-- Which names a set has after one is put in.
use Rattle.std.proofs.Common.{◌≡◌, ℕ, Bool, true, false, List, [], ◌∷◌, refl, sym, ap, ◌∙◌, map, ◌||◌, bytes_eq}
use Rattle.std.specs.Ordering.{is_eq, nat_cmp, match_ordering}
use Rattle.std.specs.declared.cmp.Ordering.TheVariants.{Less, Equal, Greater}
use Rattle.std.specs.Cmp.Lexicographic.{slice_cmp}
use Rattle.std.specs.List.{list_any}
use Rattle.std.specs.BTreeSet.{insert_key}
use Rattle.std.proofs.lemmas.Map.Text.{is_eq-slice_cmp}
use Rattle.std.proofs.lemmas.Slice.Eq.{bytes_eq-Decides}
use Rattle.cluster_types.proofs.Booleans.{or_swap}

or_same : (a b : Bool) → (a || b) ≡ (a || (a || b))
or_same true b = refl
or_same false b = refl

pub held : {K : Type 0} (items : K → List ℕ) (k : K) (ks : List K)
    → list_any (λ x. is_eq (slice_cmp nat_cmp (items k) (items x))) ks ≡ list_any (bytes_eq (items k)) (map items ks)
held items k [] = refl
held items k (x ∷ xs) = rw (is_eq-slice_cmp (items k) (items x), held items k xs) refl

abbrev Put : {K : Type 0} → (K → List ℕ) → List ℕ → K → List K → List K → Type 0
Put items q k ks new = list_any (bytes_eq q) (map items new) ≡ (bytes_eq q (items k) || list_any (bytes_eq q) (map items ks))

same_key : (a b : List ℕ) → slice_cmp nat_cmp a b ≡ Equal → a ≡ b
same_key a b e = (bytes_eq-Decides a b).0 (sym (is_eq-slice_cmp a b) ∙ ap is_eq e)

pub put : {K : Type 0} (items : K → List ℕ) (q : List ℕ) (k : K) (ks : List K)
    → Put items q k ks (insert_key (λ x y. slice_cmp nat_cmp (items x) (items y)) ks k)
put items q k [] = refl
put items q k (x ∷ xs) =
    elim (slice_cmp nat_cmp (items k) (items x)) as (λ o. slice_cmp nat_cmp (items k) (items x) ≡ o
    → Put items q k (x ∷ xs) (match_ordering o (k ∷ x ∷ xs) (x ∷ xs) (x ∷ insert_key (λ a b. slice_cmp nat_cmp (items a) (items b)) xs k))) [
      | Less ↦ λ e. refl
      | Equal ↦ λ e. rw (same_key (items k) (items x) e) (or_same (bytes_eq q (items x)) (list_any (bytes_eq q) (map items xs)))
      | Greater ↦ λ e. rw (put items q k xs) (or_swap (bytes_eq q (items x)) (bytes_eq q (items k)) (list_any (bytes_eq q) (map items xs)))
    ] refl
