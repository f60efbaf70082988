use Rattle.std.specs.Prelude.{ℕ, ◌==◌, List, [], ◌∷◌, if◌then◌else◌}

-- what stands before the item at a place of a list
abbrev pub comma : ℕ → List ℕ
comma place = if place == 0 then [] else 44 ∷ []
