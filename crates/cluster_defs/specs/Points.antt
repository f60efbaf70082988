-- Timeouts that are written with a fraction of 0, as `5.0`.
use Rattle.std.specs.Prelude.{ℕ, ◌-◌, ◌&&◌, ◌||◌, ◌==◌, Bool, false, List, [], ◌∷◌, ◌++◌, length, take, nat_eq, nat_le, if◌then◌else◌, codes}
use Rattle.std.specs.Char.{is_ascii_digit}
use Rattle.std.specs.List.{ends_with, suffix_len}

-- a text that ends in `"timeout":` and at most one space
unfoldable pub ends_in_name : List ℕ → Bool
ends_in_name text = ends_with nat_eq text (codes "\"timeout\":") || ends_with nat_eq text (codes "\"timeout\": ")

-- a text that ends in 1 to 10 decimal digits, and has the name before them
abbrev pub ends_in_timeout : List ℕ → Bool
ends_in_timeout text =
    nat_le 1 (suffix_len is_ascii_digit text) && nat_le (suffix_len is_ascii_digit text) 10
    && ends_in_name (take (length text - suffix_len is_ascii_digit text) text)

-- a text that begins with `.0`, and has `,` or `}` behind it
abbrev pub begins_with_fraction : List ℕ → Bool
begins_with_fraction (x ∷ y ∷ z ∷ rest) = (x == 46) && (y == 48) && ((z == 44) || (z == 125))
begins_with_fraction (x ∷ y ∷ []) = false
begins_with_fraction (x ∷ []) = false
begins_with_fraction [] = false

-- the rest of a text, of which a front was looked through, with each `.0` taken off that stands behind such a front
abbrev pub whole_behind : List ℕ → List ℕ → List ℕ
whole_behind front [] = []
whole_behind front (x ∷ []) = x ∷ []
whole_behind front (x ∷ y ∷ rest) =
    if begins_with_fraction (x ∷ y ∷ rest) && ends_in_timeout front
    then whole_behind (front ++ x ∷ y ∷ []) rest
    else x ∷ whole_behind (front ++ x ∷ []) (y ∷ rest)

-- a text with each `.0` taken off that stands behind `"timeout":`, at most one space and 1 to 10 decimal digits, and before `,` or `}`
unfoldable pub whole_timeouts : List ℕ → List ℕ
whole_timeouts octets = whole_behind [] octets
