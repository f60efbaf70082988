-- Two of some ids that finished on different engines, found by the first that finished.
use Rattle.std.proofs.Common.{◌≡◌, ap, sym, ◌∙◌, ℕ, List, [], ◌∷◌, Bool, true, false, cond, not, ◌||◌, refl, subst, Option, Some, None, ◌⊎◌, inl, inr, ⊎_elim}
use Rattle.std.specs.Prelude.{find, nat_eq}
use Rattle.std.specs.List.{list_any}
use Rattle.std.specs.Option.{is_some}
use Rattle.std.proofs.lemmas.Bool.{eqb-true, or_right, or_left}
use Rattle.cluster_defs.specs.Words.{Id}
use Rattle.cluster_defs.specs.declared.settled.Settled.{Settled}
use Rattle.cluster_defs.specs.Dependencies.{same_engine, apart, scattered}
use Rattle.cluster_types.proofs.Lists.{any_never, found_passes}

pub same_truth : (a b : Bool) → (a ≡ true → b ≡ true) → (b ≡ true → a ≡ true) → a ≡ b
same_truth true b to from = sym (to refl)
same_truth false true to from = from refl
same_truth false false to from = refl

-- what is found is one of them
pub found_any : {X : Type 0} (p q : X → Bool) (xs : List X) (x : X) → find p xs ≡ Some x → q x ≡ true → list_any q xs ≡ true
found_any p q [] x e h = cc
found_any {X} p q (y ∷ ys) x e h =
    (elim (p y) as (λ b. cond b (Some y) (find p ys) ≡ Some x → (q y || list_any q ys) ≡ true) [
      | true ↦ λ here. let same : y ≡ x = cc in or_left _ _ (ap q same ∙ h)
      | false ↦ λ rest. or_right _ _ (found_any p q ys x rest h)
    ]) e

-- one that passes, and what passes of it passes of some
pub record Among {X : Type 0} (p : X → Bool) (xs : List X) : Type 0 where
  pub one : X
  pub passes : p one ≡ true
  pub again : (q : X → Bool) → q one ≡ true → list_any q xs ≡ true

pub any_among : {X : Type 0} (p : X → Bool) (xs : List X) → list_any p xs ≡ true → Among p xs
any_among p [] h = cc
any_among {X} p (x ∷ xs) h =
    (elim (p x) as (λ b. p x ≡ b → (b || list_any p xs) ≡ true → Among p (x ∷ xs)) [
      | true ↦ λ on _. record { one = x; passes = on; again = λ q is. or_left _ _ is }
      | false ↦ λ _ rest. let a = any_among p xs rest in record { one = a.one; passes = a.passes; again = λ q is. or_right _ _ (a.again q is) }
    ]) refl h

-- SCATTERED

far : (a x y : Option ℕ) → not (same_engine x y) ≡ true → (not (same_engine a x) ≡ true) ⊎ (not (same_engine a y) ≡ true)
far None x y h = inl refl
far (Some m) None y h = inl refl
far (Some m) (Some n) None h = inr refl
far (Some m) (Some n) (Some k) h =
    elim (nat_eq n m) as (λ b. nat_eq n m ≡ b → (not b ≡ true) ⊎ (not (nat_eq k m) ≡ true)) [
      | true ↦ λ on. inr (let same : n ≡ m = eqb-true n m on in subst (λ z. not (nat_eq k z) ≡ true) same h)
      | false ↦ λ _. inl refl
    ] refl

far_from : (f : Settled) (a b : Option Settled) → apart a b ≡ true → (apart (Some f) a ≡ true) ⊎ (apart (Some f) b ≡ true)
far_from f None b h = cc
far_from f (Some x) None h = cc
far_from f (Some x) (Some y) h = far f.engine x.engine y.engine h

first_apart : (s : Id → Option Settled) (ids : List Id) (first : Id) (f : Settled) → s first ≡ Some f → find (λ i. is_some (s i)) ids ≡ Some first → list_any (λ j. apart (Some f) (s j)) ids ≡ scattered s ids
first_apart s ids first f is found =
    same_truth (list_any (λ j. apart (Some f) (s j)) ids) (scattered s ids)
    (λ on. found_any (λ i. is_some (s i)) (λ i. list_any (λ j. apart (s i) (s j)) ids) ids first found (ap (λ o. list_any (λ j. apart o (s j)) ids) is ∙ on))
    (λ on. let i = any_among (λ i. list_any (λ j. apart (s i) (s j)) ids) ids on in
    let j = any_among (λ j. apart (s i.one) (s j)) ids i.passes in
    ⊎_elim (i.again (λ k. apart (Some f) (s k))) (j.again (λ k. apart (Some f) (s k))) (far_from f (s i.one) (s j.one) j.passes))

at_first : (s : Id → Option Settled) (ids : List Id) (first : Id) (o : Option Settled) → s first ≡ o → is_some o ≡ true → find (λ i. is_some (s i)) ids ≡ Some first → list_any (λ j. apart o (s j)) ids ≡ scattered s ids
at_first s ids first None is on found = cc
at_first s ids first (Some f) is on found = first_apart s ids first f is found

-- two of some ids finished on different engines where one did on another than the first that finished
pub scattered_by_first : (s : Id → Option Settled) (ids : List Id) (first : Id) → find (λ i. is_some (s i)) ids ≡ Some first → list_any (λ j. apart (s first) (s j)) ids ≡ scattered s ids
scattered_by_first s ids first found = at_first s ids first (s first) refl (found_passes (λ i. is_some (s i)) ids first found) found

none_apart : (s : Id → Option Settled) (ids xs : List Id) → find (λ i. is_some (s i)) xs ≡ None → list_any (λ i. list_any (λ j. apart (s i) (s j)) ids) xs ≡ false
none_apart s ids [] e = refl
none_apart s ids (x ∷ xs) e =
    (elim (s x) as (λ o. s x ≡ o → cond (is_some o) (Some x) (find (λ i. is_some (s i)) xs) ≡ None → (list_any (λ j. apart (s x) (s j)) ids || list_any (λ i. list_any (λ j. apart (s i) (s j)) ids) xs) ≡ false) [
      | None ↦ λ is rest. rw (is, any_never (λ j. apart None (s j)) (λ j. refl) ids) (none_apart s ids xs rest)
      | Some f ↦ λ _ none. cc
    ]) refl e

pub scattered_none : (s : Id → Option Settled) (ids : List Id) → find (λ i. is_some (s i)) ids ≡ None → scattered s ids ≡ false
scattered_none s ids e = none_apart s ids ids e
