-- Numbers that come one after another, the last of them again and again.
use Rattle.std.specs.Prelude.{◌≡◌, ℕ, List, [], ◌∷◌, Option, Some, None}

-- the number that comes next, 0 where there is none
abbrev pub next_of : List ℕ → ℕ
next_of [] = 0
next_of (n ∷ rest) = n

-- what comes after it: the last one stays
abbrev pub after_next : List ℕ → List ℕ
after_next [] = []
after_next (n ∷ []) = n ∷ []
after_next (n ∷ m ∷ rest) = m ∷ rest

-- this number came
abbrev pub Comes : ℕ → List ℕ → List ℕ → Type 0
Comes n old new = (n ≡ next_of old) × (new ≡ after_next old)

-- this number came, where it is told what comes. None: it is not told, and never will be.
abbrev pub Draws : ℕ → Option (List ℕ) → Option (List ℕ) → Type 0
Draws n (Some old) new = (n ≡ next_of old) × (new ≡ Some (after_next old))
Draws n None new = new ≡ None
