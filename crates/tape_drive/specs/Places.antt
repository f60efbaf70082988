-- The places of links among links.
use Rattle.std.specs.Prelude.{ℕ, ◌+◌, ◌==◌, List, [], ◌∷◌, Option, Some, None, if◌then◌else◌}
use Rattle.tape_drive.specs.Links.{Link}

-- the place of the first link of a number, where the first link has this place
abbrev pub place_from : ℕ → ℕ → List Link → Option ℕ
place_from at conn [] = None
place_from at conn (l ∷ links) = if l.conn == conn then Some at else place_from (at + 1) conn links
