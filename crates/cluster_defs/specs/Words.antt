-- Small words on lists and options that the definitions use.
use Rattle.std.specs.Prelude.{ℕ, nat_eq, List, [], ◌∷◌, length, take, Option, Some, None, Bool, true, false, not, ◌&&◌, filter, bytes_eq}
use Rattle.std.specs.List.{list_any}

-- an id of a task, and any other text, is the list of its octets
abbrev pub Id : Type 0
Id = List ℕ

-- the first of two that is there
abbrev pub or_else : {T : Type 0} → Option T → Option T → Option T
or_else None other = other
or_else (Some x) other = Some x

abbrev pub is_empty : {T : Type 0} → List T → Bool
is_empty [] = true
is_empty (_ ∷ _) = false

-- whether two answers are the same
abbrev pub alike : Bool → Bool → Bool
alike true b = b
alike false b = not b

-- whether an id stands in a list
abbrev pub is_listed : Id → List Id → Bool
is_listed id = list_any (λ i. bytes_eq i id)

-- each id of a list once, at its first place
abbrev pub once : List Id → List Id
once [] = []
once (id ∷ ids) = id ∷ filter (λ i. not (bytes_eq i id)) (once ids)

-- whether two lists of octet lists are the same
abbrev pub same_lists : List (List ℕ) → List (List ℕ) → Bool
same_lists [] [] = true
same_lists (x ∷ xs) (y ∷ ys) = bytes_eq x y && same_lists xs ys
same_lists _ _ = false

-- whether a text begins with another
abbrev pub begins_with : List ℕ → List ℕ → Bool
begins_with front text = bytes_eq (take (length front) text) front

-- whether a number is there, and is this one
abbrev pub is_number : ℕ → Option ℕ → Bool
is_number n None = false
is_number n (Some m) = nat_eq m n
