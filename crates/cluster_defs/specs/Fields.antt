-- The values that fields have. Each takes the field's name, and what the object has there.
use Rattle.std.specs.Prelude.{ℕ, ◌&&◌, Bool, List, [], ◌∷◌, length, nat_lt, nat_le, if◌then◌else◌, Option, Some, None, Ok, Err, is_some, unwrap_or, option_map, option_and_then}
use Rattle.serde_json.specs.Data.{Data, Items, no_items, item}
use Rattle.serde_json.specs.Find.{as_null, as_bool, as_number, as_str, as_array, as_u64}
use Rattle.cluster_defs.specs.declared.fault.ReadError.TheVariants.{Missing, BadField}
use Rattle.cluster_defs.specs.Json.{Reading}

-- an id is a text of 1 to 255 octets
abbrev pub is_id : List ℕ → Bool
is_id text = nat_lt 0 (length text) && nat_le (length text) 255

abbrev pub id_of : Option (List ℕ) → Option (List ℕ)
id_of None = None
id_of (Some text) = if is_id text then Some text else None

-- the id that a value is
abbrev pub id_in : Data → Option (List ℕ)
id_in value = id_of (as_str value)

-- a value, or else the field is at fault
abbrev pub or_bad : {A : Type 0} → List ℕ → Option A → Reading A
or_bad field (Some found) = Ok found
or_bad field None = Err (BadField field)

-- a field that has to be there, and has to be an id
abbrev pub id_from : List ℕ → Option Data → Reading (List ℕ)
id_from field None = Err (Missing field)
id_from field (Some value) = or_bad field (id_in value)

-- a field that may be anything: its text, or the empty one
abbrev pub text_from : Option Data → List ℕ
text_from found = unwrap_or (option_and_then as_str found) []

-- a field that may be absent, and otherwise is a boolean
abbrev pub flag_from : List ℕ → Bool → Option Data → Reading Bool
flag_from field default None = Ok default
flag_from field default (Some value) = or_bad field (as_bool value)

-- the whole number below 2^64 that a value is; a number with a fraction or an exponent, and `-0`, are none
abbrev pub whole_in : Data → Option ℕ
whole_in value = option_and_then as_u64 (as_number value)

abbrev pub at_most : ℕ → Option ℕ → Option ℕ
at_most most None = None
at_most most (Some n) = if nat_le n most then Some n else None

-- a field that may be absent or null, which is 0, and otherwise is a whole number up to a bound
abbrev pub whole_from : List ℕ → ℕ → Option Data → Reading ℕ
whole_from field most None = Ok 0
whole_from field most (Some value) = if is_some (as_null value) then Ok 0 else or_bad field (at_most most (whole_in value))

-- what each of a list's values is, where each is one
abbrev pub each_of : {A : Type 0} → (Data → Option A) → Items → Option (List A)
each_of one no_items = Some []
each_of one (item value values) = option_and_then (λ first. option_map (λ rest. first ∷ rest) (each_of one values)) (one value)

abbrev pub list_in : {A : Type 0} → (Data → Option A) → Data → Option (List A)
list_in one value = option_and_then (each_of one) (as_array value)

-- a field that may be absent or null, which is the empty list, and otherwise is a list
abbrev pub list_from : {A : Type 0} → (Data → Option A) → List ℕ → Option Data → Reading (List A)
list_from one field None = Ok []
list_from one field (Some value) = if is_some (as_null value) then Ok [] else or_bad field (list_in one value)

-- a field that has to be there, and has to be a list of ids
abbrev pub ids_from : List ℕ → Option Data → Reading (List (List ℕ))
ids_from field None = Err (Missing field)
ids_from field (Some value) = or_bad field (list_in id_in value)
