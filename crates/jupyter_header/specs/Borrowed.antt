-- The data that a borrowed value of `json` is, as `serde_json` converts it. Both read the same grammar.
use Rattle.std.specs.Prelude.{ℕ, List, Bool, true, ◌&&◌, negsuc, is_some, unwrap_or}
use Rattle.json.specs.Json as json
use Rattle.json.specs.Value.{value_view, items_view as json_items}
use Rattle.json.specs.declared.value.Value.{Value}
use Rattle.serde_json.specs.Data.{Num, negative, Data, null, boolean, number, string, array, object, Items, no_items, item, Members, no_members, put}
use Rattle.serde_json.specs.Read.{number_of}

-- the number that a numeral writes; one out of range, which no text that is read has, is -1
abbrev pub number_in : List ℕ → Num
number_in numeral = unwrap_or (number_of numeral) (negative (negsuc 0))

-- the members go in one after another, so the last value of a key stays
abbrev mutual
  pub data_of : json.Json → Data
  data_of json.null = null
  data_of (json.boolean b) = boolean b
  data_of (json.number s) = number (number_in s)
  data_of (json.string s) = string s
  data_of (json.array js) = array (items js)
  data_of (json.object ms) = object (members ms no_members)

  pub items : json.Items → Items
  items json.no_items = no_items
  items (json.item j js) = item (data_of j) (items js)

  pub members : json.Members → Members → Members
  members json.no_members found = found
  members (json.member k j ms) found = members ms (put k (data_of j) found)

-- whether each number is in range: an integer of 64 bits, or else a finite float
abbrev mutual
  pub in_range : json.Json → Bool
  in_range json.null = true
  in_range (json.boolean b) = true
  in_range (json.number s) = is_some (number_of s)
  in_range (json.string s) = true
  in_range (json.array js) = items_in_range js
  in_range (json.object ms) = members_in_range ms

  pub items_in_range : json.Items → Bool
  items_in_range json.no_items = true
  items_in_range (json.item j js) = in_range j && items_in_range js

  pub members_in_range : json.Members → Bool
  members_in_range json.no_members = true
  members_in_range (json.member k j ms) = in_range j && members_in_range ms

abbrev pub view : {A : Type 0} → Value A → Data
view value = data_of (value_view value)

abbrev pub items_view : {A : Type 0} → List (Value A) → Items
items_view values = items (json_items values)
