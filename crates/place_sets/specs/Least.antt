-- The least of some places where a test holds.
use Rattle.std.specs.Prelude.{◌≡◌, ◌≤◌, ℕ, Option, Some, None, Bool, true, false}

-- the test holds at it, and at none of the places below it; it holds at none of the places where there is none
abbrev pub IsLeast : (ℕ → Bool) → (ℕ → Bool) → Option ℕ → Type 0
IsLeast test among None = (i : ℕ) → among i ≡ true → test i ≡ false
IsLeast test among (Some place) = (test place ≡ true) × ((i : ℕ) → among i ≡ true → test i ≡ true → place ≤ i)
