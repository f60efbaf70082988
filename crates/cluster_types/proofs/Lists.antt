-- Lists.
use Rattle.std.proofs.Common.{◌≡◌, ◌+◌, ℕ, zero, suc, List, [], ◌∷◌, ◌++◌, take, slice_get, Some, ap, Bool, false, refl, sym, ◌∙◌, true, cond, map}
use Rattle.std.proofs.lemmas.Bool.{and_parts, and_from}
use Rattle.std.specs.List.{list_any, list_all}
use Rattle.std.specs.Prelude.{find, filter}

pub all-weaker : {X : Type 0} (p q : X → Bool) → ((x : X) → p x ≡ true → q x ≡ true) → (xs : List X) → list_all p xs ≡ true → list_all q xs ≡ true
all-weaker p q weaker [] h = h
all-weaker p q weaker (x ∷ xs) h = let both = and_parts _ _ h in and_from _ _ (weaker x both.0) (all-weaker p q weaker xs both.1)

pub any_never : {X : Type 0} (p : X → Bool) → ((x : X) → p x ≡ false) → (xs : List X) → list_any p xs ≡ false
any_never p off [] = refl
any_never p off (x ∷ xs) = rw (off x) (any_never p off xs)

pub found_passes : {X : Type 0} (p : X → Bool) (xs : List X) (x : X) → find p xs ≡ Some x → p x ≡ true
found_passes p [] x e = cc
found_passes {X} p (y ∷ ys) x e =
    (elim (p y) as (λ b. p y ≡ b → cond b (Some y) (find p ys) ≡ Some x → p x ≡ true) [
      | true ↦ λ on is. let same : y ≡ x = cc in ap p (sym same) ∙ on
      | false ↦ λ _ is. found_passes p ys x is
    ]) refl e

pub front_at : {A : Type 0} (xs : List A) (i : ℕ) (x : A) → slice_get xs i ≡ Some x → take (suc i) xs ≡ take i xs ++ x ∷ []
front_at [] i x h = cc
front_at (y ∷ ys) zero x h = cc
front_at (y ∷ ys) (suc i) x h = ap (λ z. y ∷ z) (front_at ys i x h)

pub same_filter : {X : Type 0} (p q : X → Bool) → ((x : X) → p x ≡ q x) → (xs : List X) → filter p xs ≡ filter q xs
same_filter p q same [] = refl
same_filter p q same (x ∷ xs) = rw (same x, same_filter p q same xs) refl

pub same_map : {X Y : Type 0} (g h : X → Y) → ((x : X) → g x ≡ h x) → (xs : List X) → map g xs ≡ map h xs
same_map g h same [] = refl
same_map g h same (x ∷ xs) = rw (same x, same_map g h same xs) refl
