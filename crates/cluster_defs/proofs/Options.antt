-- Small lemmas on options, ids and searches.
use Rattle.std.proofs.Common.{ap, ◌≡◌, ℕ, zero, suc, List, [], ◌∷◌, Bool, true, false, cond, refl, Option, Some, None, bytes_eq, ◌⊎◌, inl, inr}
use Rattle.std.specs.Prelude.{option_map, filter, slice_get}
use Rattle.std.specs.Option.{option_and_then}
use Rattle.std.proofs.lemmas.Slice.Eq.{bytes_eq-Decides}
use Rattle.cluster_defs.specs.Words.{Id, or_else}

pub or_else-None : {X : Type 0} (o : Option X) → or_else o None ≡ o
or_else-None None = refl
or_else-None (Some x) = refl

pub same_id : (i j : Id) → bytes_eq i j ≡ true → i ≡ j
same_id i j h = (bytes_eq-Decides i j).0 h

pub id_self : (i : Id) → bytes_eq i i ≡ true
id_self i = (bytes_eq-Decides i i).1 refl

-- what an option is that was made from others
pub or_else_some : {X : Type 0} (o p : Option X) (x : X) → or_else o p ≡ Some x → (o ≡ Some x) ⊎ ((o ≡ None) × (p ≡ Some x))
or_else_some None p x e = inr (refl, e)
or_else_some (Some y) p x e = inl e

pub map_some : {X Y : Type 0} (g : X → Y) (o : Option X) (y : Y) → option_map g o ≡ Some y → (x : X) × (o ≡ Some x) × (g x ≡ y)
map_some g None y e = cc
map_some g (Some x) y e = (x, refl, cc)

pub then_some : {X Y : Type 0} (g : X → Option Y) (o : Option X) (y : Y) → option_and_then g o ≡ Some y → (x : X) × (o ≡ Some x) × (g x ≡ Some y)
then_some g None y e = cc
then_some g (Some x) y e = (x, refl, e)

-- an option that is there only where a test passes
pub if_some : {X : Type 0} (b : Bool) (o : Option X) (x : X) → cond b o None ≡ Some x → (b ≡ true) × (o ≡ Some x)
if_some true o x e = (refl, e)
if_some false o x e = cc

at_first : (p : ℕ → Bool) (x : ℕ) (rest : List ℕ) (n : ℕ) → ((k : ℕ) → slice_get rest k ≡ Some n → p n ≡ true) → (k : ℕ) → p x ≡ true → slice_get (x ∷ rest) k ≡ Some n → p n ≡ true
at_first p x rest n later zero passes is = let same : x ≡ n = cc in rw (← same) passes
at_first p x rest n later (suc k) passes is = later k is

-- what stands at a place of those that pass a test, passes it
pub place_passes : (p : ℕ → Bool) (xs : List ℕ) (place n : ℕ) → slice_get (filter p xs) place ≡ Some n → p n ≡ true
place_passes p [] place n e = cc
place_passes p (x ∷ xs) place n e =
    (elim (p x) as (λ b. p x ≡ b → slice_get (cond b (x ∷ filter p xs) (filter p xs)) place ≡ Some n → p n ≡ true) [
      | true ↦ λ passes is. at_first p x (filter p xs) n (λ k. place_passes p xs k n) place passes is
      | false ↦ λ _ is. place_passes p xs place n is
    ]) refl e

-- equal options hold equal things, also where these are pairs
pub some_inj : {X : Type 0} {x y : X} → Some x ≡ Some y → x ≡ y
some_inj {X} {x} {y} e = ap (or_that x) e
  where
    or_that : X → Option X → X
    or_that z None = z
    or_that z (Some w) = w
