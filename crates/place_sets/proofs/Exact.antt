-- What a set has once a place came in, and once one was taken out: each place, and no other.
use Rattle.std.proofs.Common.{◌≡◌, sym, ℕ, Bool, true, false, not, ◌&&◌, ◌||◌, refl, subst}
use Rattle.std.specs.Prelude.{◌==◌}
use Rattle.std.specs.BTreeSet.{BTreeSet}
use Rattle.std.proofs.lemmas.Bool.{both_ways, eqb-true, eq-eqb}
use Rattle.place_sets.specs.Sets.{has, Grows, Without}

pub same_bools : (a b : Bool) → (a ≡ true → b ≡ true) → (b ≡ true → a ≡ true) → a ≡ b
same_bools true b up down = sym (up refl)
same_bools false true up down = down refl
same_bools false false up down = refl

module _ (old new : BTreeSet ℕ) (place : ℕ) where
  pub exactly_added : has new place ≡ true → Grows old new → Without place new old → (i : ℕ) → has new i ≡ ((i == place) || has old i)
  exactly_added there grows only i =
      elim (i == place) as (λ b. (i == place) ≡ b → has new i ≡ (b || has old i)) [
        | true ↦ λ same. subst (λ k. has new k ≡ true) (sym (eqb-true i place same)) there
        | false ↦ λ off. same_bools (has new i) (has old i) (only i (λ e. both_ways (i == place) off (eq-eqb i place e))) (grows i)
      ] refl

  pub exactly_left_out : Without place old new → has new place ≡ false → Grows new old → (i : ℕ) → has new i ≡ (not (i == place) && has old i)
  exactly_left_out stay gone only i =
      elim (i == place) as (λ b. (i == place) ≡ b → has new i ≡ (not b && has old i)) [
        | true ↦ λ same. subst (λ k. has new k ≡ false) (sym (eqb-true i place same)) gone
        | false ↦ λ off. same_bools (has new i) (has old i) (only i) (stay i (λ e. both_ways (i == place) off (eq-eqb i place e)))
      ] refl
