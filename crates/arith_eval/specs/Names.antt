-- Names and their values.
use Rattle.std.specs.Global.{Global}
use Rattle.std.specs.Prelude.{◌≡◌, map, take, string_bytes, String, ℕ, ℤ, List, [], ◌∷◌, Option, Some, None, bytes_eq, if◌then◌else◌}

-- the values of the names that have one
abbrev pub Environment : Type 0
Environment = List ℕ → Option ℤ

-- names with their values
abbrev pub Assigned : Type 0
Assigned = List (List ℕ × ℤ)

abbrev pub value_in : Assigned → Environment
value_in [] x = None
value_in (n ∷ names) x = if bytes_eq x n.0 then Some n.1 else value_in names x

-- a name has a value from here on
abbrev pub assign : Environment → List ℕ → ℤ → Environment
assign names x v = λ y. if bytes_eq x y then Some v else names y

-- names behind assignments that were made one after another
abbrev pub behind : Environment → Assigned → Environment
behind names [] = names
behind names (n ∷ made) = behind (assign names n.0 n.1) made

-- of these assignments the first were made, in order, and no others
pub record FirstStand (made : Assigned) (before after : Environment) : Type 0 where
  pub count : ℕ
  pub names : after ≡ behind before (take count made)

-- the entries of a map, by the octets of their names
abbrev pub assignments : List (String Global × ℤ) → Assigned
assignments entries = map (λ e. (string_bytes e.0, e.1)) entries
