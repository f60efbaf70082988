-- Two texts of which pieces come, and where they differ.
use Rattle.std.specs.Prelude.{◌≡◌, ◌⊎◌, ℕ, ◌+◌, ◌-◌, ◌^◌, ◌==◌, List, [], ◌∷◌, ◌++◌, length, min, Option, Some, None, option_map, if◌then◌else◌}

-- what came of each
pub record Texts : Type 0 where
  pub input : List ℕ
  pub printed : List ℕ

-- the first place within both at which they differ, where their first octets have the place `at`
abbrev pub first_difference : ℕ → List ℕ → List ℕ → Option ℕ
first_difference at [] ys = None
first_difference at (x ∷ xs) [] = None
first_difference at (x ∷ xs) (y ∷ ys) = if x == y then first_difference (at + 1) xs ys else Some at

-- the same of whole texts: where one of them is a front of the other, they differ where it ends
abbrev pub end_difference : ℕ → List ℕ → List ℕ → Option ℕ
end_difference at [] [] = None
end_difference at [] (y ∷ ys) = Some at
end_difference at (x ∷ xs) [] = Some at
end_difference at (x ∷ xs) (y ∷ ys) = if x == y then end_difference (at + 1) xs ys else Some at

-- a place as a number of 64 bits: the greatest one stands for each place from it on
abbrev pub counted : ℕ → ℕ
counted place = min place (2 ^ 64 - 1)

-- two texts that don't differ within both: each is their common front and what it is ahead, which one of them isn't
pub record Agree (own other : List ℕ) (same : ℕ) (own_ahead other_ahead : List ℕ) : Type 0 where
  pub common : List ℕ
  pub own_is : own ≡ common ++ own_ahead
  pub other_is : other ≡ common ++ other_ahead
  pub same_is : same ≡ counted (length common)
  pub one : (own_ahead ≡ []) ⊎ (other_ahead ≡ [])

-- what is known of two texts: the first place at which they differ, or how far they are the same
abbrev pub Stand : List ℕ → List ℕ → Option ℕ → ℕ → List ℕ → List ℕ → Type 0
Stand own other (Some place) same own_ahead other_ahead = option_map counted (first_difference 0 own other) ≡ Some place
Stand own other None same own_ahead other_ahead = Agree own other same own_ahead other_ahead
