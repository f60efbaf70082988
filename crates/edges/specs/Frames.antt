use Rattle.std.specs.Prelude.{◌≡◌, ◌≤◌, ℕ, zero, suc, List, [], ◌∷◌, length, slice_index_or, slice_range}

-- the parts of a list of octets from a place on, each up to its end
abbrev pub cut : ℕ → List ℕ → List ℕ → List (List ℕ)
cut from [] octets = []
cut from (end ∷ ends) octets = slice_range octets from end ∷ cut end ends octets

-- the ends ascend from a place on, up to the end of the octets
abbrev pub AreEnds : ℕ → List ℕ → List ℕ → Type 0
AreEnds from [] octets = from ≡ length octets
AreEnds from (end ∷ ends) octets = (from ≤ end) × AreEnds end ends octets

-- where the part at a place begins
abbrev pub start_at : ℕ → List ℕ → ℕ → ℕ
start_at from ends zero = from
start_at from ends (suc before) = slice_index_or ends before 0
