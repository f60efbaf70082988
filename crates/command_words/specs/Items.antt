-- The words behind a command as items: positional words, and options with their values.
use Rattle.std.specs.Prelude.{ℕ, ◌==◌, ◌&&◌, ◌||◌, Bool, true, not, List, [], ◌∷◌, length, nat_eq, nat_lt, filter_map, option_and_then, bytes_eq, Option, Some, None, codes, if◌then◌else◌}
use Rattle.std.specs.List.{starts_with, list_all, list_any, before_first, after_first}

-- a positional word, or an option: its name, with the dashes, and its value
pub data Item : Type 0 where
  place : List ℕ → Item
  choice : (name value : List ℕ) → Item

unfoldable pub dash : List ℕ
dash = codes "-"

unfoldable pub dashes : List ℕ
dashes = codes "--"

abbrev pub is_dashed : List ℕ → Bool
is_dashed word = starts_with nat_eq word dash

-- a word that begins with `-` begins with `--`, and more stands behind that
abbrev pub is_formed : List ℕ → Bool
is_formed word = not (is_dashed word) || (starts_with nat_eq word dashes && nat_lt 2 (length word))

-- `=`
abbrev pub is_equals : ℕ → Bool
is_equals octet = octet == 61

abbrev pub has_equals : List ℕ → Bool
has_equals word = list_any is_equals word

-- a word that is the name of an option alone, so that its value is the next word
abbrev pub is_name : List ℕ → Bool
is_name word = is_dashed word && not (has_equals word)

-- an option and its value in one word, which the first equals sign parts
abbrev pub joined : List ℕ → Item
joined word = choice (before_first is_equals word) (after_first is_equals word)

-- what a word is that isn't a name alone
abbrev pub alone : List ℕ → Item
alone word = if is_dashed word then joined word else place word

-- a name and the word behind it, which may not begin with a dash
abbrev pub parted : List ℕ → List ℕ → Option Item
parted name value = if is_dashed value then None else Some (choice name value)

abbrev pub ahead : Option Item → Option (List Item) → Option (List Item)
ahead (Some item) (Some items) = Some (item ∷ items)
ahead _ _ = None

-- the items that words are, in order, where each name has a value
abbrev pub items_of : List (List ℕ) → Option (List Item)
items_of [] = Some []
items_of (word ∷ []) = if is_name word then None else Some (alone word ∷ [])
items_of (word ∷ next ∷ words) =
    if is_name word then ahead (parted word next) (items_of words) else ahead (Some (alone word)) (items_of (next ∷ words))

-- THE PARTS OF A LIST OF ITEMS

abbrev pub place_in : Item → Option (List ℕ)
place_in (place word) = Some word
place_in (choice name value) = None

-- the positional words, in order
abbrev pub places : List Item → List (List ℕ)
places items = filter_map place_in items

-- the name of an option with its dashes
abbrev pub dashed : List ℕ → List ℕ
dashed name = 45 ∷ 45 ∷ name

abbrev pub value_under : List ℕ → Item → Option (List ℕ)
value_under name (place word) = None
value_under name (choice given value) = if bytes_eq given (dashed name) then Some value else None

-- the values of the options of a name, in order
abbrev pub values : List ℕ → List Item → List (List ℕ)
values name items = filter_map (value_under name) items

-- an option has one of these names
abbrev pub is_known : List (List ℕ) → Item → Bool
is_known names (place word) = true
is_known names (choice given value) = list_any (λ name. bytes_eq (dashed name) given) names

-- the items where each option has one of these names
abbrev pub known : List (List ℕ) → List Item → Option (List Item)
known names items = if list_all (is_known names) items then Some items else None

-- the items that words are: each word that begins with `-` is an option, and has one of these names
abbrev pub known_items : List (List ℕ) → List (List ℕ) → Option (List Item)
known_items names words = if list_all is_formed words then option_and_then (known names) (items_of words) else None
