-- Where octets differ from others.
use Rattle.std.specs.Prelude.{ℕ, ◌+◌, ◌==◌, List, [], ◌∷◌, Option, Some, None, if◌then◌else◌}

-- the place of the first octet that differs from the wanted ones, of which the first has the place `at`
abbrev pub difference : ℕ → List ℕ → List ℕ → Option ℕ
difference at [] octets = None
difference at (x ∷ xs) [] = Some at
difference at (x ∷ xs) (y ∷ ys) = if x == y then difference (at + 1) xs ys else Some at
