-- Tests of some and of all elements of a list.
use Rattle.std.proofs.Common.{◌≡◌, ℕ, ◌<◌, List, [], ◌∷◌, Bool, true, false, cond, not, ◌&&◌, ◌||◌, refl, ⊎_elim}
use Rattle.std.specs.Prelude.{filter, map, nat_lt}
use Rattle.std.specs.List.{list_any, list_all}
use Rattle.std.proofs.lemmas.Bool.{or_cases, and_parts, and_from, or_left, lt-ltb, eq-eqb, or_right}
use Rattle.cluster_defs.specs.declared.engine.Engine.{Engine}
use Rattle.cluster_defs.specs.Words.{Id}
use Rattle.cluster_defs.specs.Engines.{lists_number}
use Rattle.cluster_defs.specs.Dependencies.{quantified}

-- what a filtered list has, the list has
pub any-filter : {X : Type 0} (q p : X → Bool) (xs : List X) → list_any q (filter p xs) ≡ true → list_any q xs ≡ true
any-filter q p [] h = h
any-filter {X} q p (x ∷ xs) h =
    (elim (p x) as (λ b. list_any q (cond b (x ∷ filter p xs) (filter p xs)) ≡ true → (q x || list_any q xs) ≡ true) [
      | true ↦ λ k. ⊎_elim (λ l. or_left _ _ l) (λ r. or_right _ _ (any-filter q p xs r)) (or_cases _ _ k)
      | false ↦ λ k. or_right _ _ (any-filter q p xs k)
    ]) h

pub any-map : {X : Type 0} (q : X → Bool) (g : X → X) → ((x : X) → q (g x) ≡ q x) → (xs : List X) → list_any q (map g xs) ≡ list_any q xs
any-map q g same [] = refl
any-map q g same (x ∷ xs) = rw (same x, any-map q g same xs) refl

pub all-both : {X : Type 0} (p q : X → Bool) (xs : List X) → list_all p xs ≡ true → list_all q xs ≡ true → list_all (λ x. p x && q x) xs ≡ true
all-both p q [] h k = refl
all-both p q (x ∷ xs) h k =
    let a = and_parts _ _ h in let b = and_parts _ _ k in and_from _ _ (and_from _ _ a.0 b.0) (all-both p q xs a.1 b.1)

-- what all pass, and what some pass, can't exclude each other
pub clash : {X : Type 0} (p q : X → Bool) → ((x : X) → p x ≡ true → q x ≡ true → ⊥) → (xs : List X) → list_all p xs ≡ true → list_any q xs ≡ true → ⊥
clash p q never [] h k = cc
clash p q never (x ∷ xs) h k = let a = and_parts _ _ h in ⊎_elim (never x a.0) (clash p q never xs a.1) (or_cases _ _ k)

pub clash_quantified : (all : Bool) (p q : Id → Bool) → ((i : Id) → p i ≡ true → q i ≡ true → ⊥) → (ids : List Id) → quantified (not all) p ids ≡ true → quantified all q ids ≡ true → ⊥
clash_quantified true p q never ids h k = clash q p (λ i a b. never i b a) ids k h
clash_quantified false p q never ids h k = clash p q never ids h k

-- the numbers of some engines are below what all numbers are below
pub numbers-below : (next : ℕ) (p : Engine → Bool) (live : List Engine) → ((n : ℕ) → lists_number n live ≡ true → n < next) → list_all (λ m. nat_lt m next) (map (λ e. e.number) (filter p live)) ≡ true
numbers-below next p [] below = refl
numbers-below next p (e ∷ live) below =
    let rest = numbers-below next p live (λ n h. below n (or_right _ _ h)) in
    elim (p e) as (λ b. list_all (λ m. nat_lt m next) (map (λ e. e.number) (cond b (e ∷ filter p live) (filter p live))) ≡ true) [
      | true ↦ and_from _ _ (lt-ltb e.number next (below e.number (or_left _ _ (eq-eqb e.number e.number refl)))) rest
      | false ↦ rest
    ]
