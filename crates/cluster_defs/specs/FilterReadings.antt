-- When the content of a database query reads, and which of its fields is at fault.
use Rattle.std.specs.Prelude.{ℕ, List, Bool, true, false, ◌&&◌, nat_le, if◌then◌else◌, Option, Some, None, Ok, Err, is_some, codes, option_map, option_and_then}
use Rattle.serde_json.specs.Data.{Data, Items, Members, no_members, member}
use Rattle.serde_json.specs.Events.{items_len}
use Rattle.serde_json.specs.Find.{get, as_null, as_str, as_array, as_object}
use Rattle.cluster_defs.specs.declared.fault.ReadError.TheVariants.{BadField}
use Rattle.cluster_defs.specs.Fields.{or_bad, each_of, list_in, whole_in}
use Rattle.cluster_defs.specs.Json.{Reading, reading_then, read_object}
use Rattle.cluster_defs.specs.Words.{or_else}
use Rattle.cluster_defs.specs.FilterWords.{field_name, field_of, all_fields, once, is_word}
use Rattle.cluster_defs.specs.declared.filter.Vocabulary.{Vocabulary}
use Rattle.cluster_defs.specs.declared.filter.Vocabulary.TheVariants.{Fields, Operators}
use Rattle.cluster_defs.specs.declared.filter.Asked.{Asked}
use Rattle.cluster_defs.specs.declared.filter.Conditions.{Conditions}
use Rattle.cluster_defs.specs.declared.filter.Field.{Field}
use Rattle.cluster_defs.specs.declared.filter.Field.TheVariants.{MsgId, Number as NumberField, Kind, Engine, State, Cause}
use Rattle.cluster_defs.specs.declared.filter.Scalar.{Scalar}
use Rattle.cluster_defs.specs.declared.filter.Scalar.TheVariants.{Null, Text, Number}
use Rattle.cluster_defs.specs.declared.filter.Test.{Test}
use Rattle.cluster_defs.specs.declared.filter.Test.TheVariants.{Is, Meets}
use Rattle.cluster_defs.specs.declared.filter.Tests.{Tests}

-- VALUES

-- a text or a whole number below 2^64
abbrev pub bound_in : Data → Option Scalar
bound_in value = or_else (option_map Text (as_str value)) (option_map Number (whole_in value))

-- null, a text or a whole number below 2^64
abbrev pub scalar_in : Data → Option Scalar
scalar_in value = if is_some (as_null value) then Some Null else bound_in value

-- a list of at most 4,096 values
abbrev pub at_most_4096 : Items → Option (List Scalar)
at_most_4096 values = if nat_le (items_len values) 4096 then each_of scalar_in values else None

abbrev pub choices_in : Data → Option (List Scalar)
choices_in value = option_and_then at_most_4096 (as_array value)

-- NAMES

-- whether each key of an object is one of some words
abbrev pub each_key : Vocabulary → Members → Bool
each_key words no_members = true
each_key words (member key value members) = is_word words key && each_key words members

abbrev pub keys_among : Vocabulary → Option Members → Bool
keys_among words None = false
keys_among words (Some members) = each_key words members

-- whether a value is an object that has no other keys
abbrev pub has_only : Vocabulary → Data → Bool
has_only words value = keys_among words (as_object value)

-- TESTS

abbrev pub bad_query : {A : Type 0} → Reading A
bad_query = Err (BadField (codes "query"))

-- what may be absent, and otherwise has to read
abbrev pub optional_from : {A : Type 0} → (Data → Option A) → Option Data → Reading (Option A)
optional_from one None = Ok None
optional_from one (Some value) = or_bad (codes "query") (option_map Some (one value))

abbrev pub conditions_in : Data → Reading Conditions
conditions_in value =
    reading_then (optional_from choices_in (get (codes "$in") value)) (λ among.
    reading_then (optional_from scalar_in (get (codes "$ne") value)) (λ other_than.
    reading_then (optional_from bound_in (get (codes "$lt") value)) (λ below.
    reading_then (optional_from bound_in (get (codes "$gt") value)) (λ above.
    Ok (record { among = among; other_than = other_than; below = below; above = above })))))

-- an object of operators alone, or else a value
abbrev pub test_from : Data → Reading Test
test_from value =
    if is_some (as_object value)
    then (if has_only Operators value then reading_then (conditions_in value) (λ conditions. Ok (Meets conditions)) else bad_query)
    else reading_then (or_bad (codes "query") (scalar_in value)) (λ scalar. Ok (Is scalar))

abbrev pub optional_test : Option Data → Reading (Option Test)
optional_test None = Ok None
optional_test (Some value) = reading_then (test_from value) (λ test. Ok (Some test))

abbrev pub test_of : Field → Data → Reading (Option Test)
test_of field value = optional_test (get (field_name field) value)

abbrev pub tests_in : Data → Reading Tests
tests_in value =
    reading_then (test_of MsgId value) (λ msg_id.
    reading_then (test_of NumberField value) (λ number.
    reading_then (test_of Kind value) (λ kind.
    reading_then (test_of Engine value) (λ engine.
    reading_then (test_of State value) (λ state.
    reading_then (test_of Cause value) (λ cause.
    Ok (record { msg_id = msg_id; number = number; kind = kind; engine = engine; state = state; cause = cause })))))))

abbrev pub no_tests : Tests
no_tests = record { msg_id = None; number = None; kind = None; engine = None; state = None; cause = None }

-- no tests where `query` is absent; else an object of tests by the names of their fields
abbrev pub tests_from : Option Data → Reading Tests
tests_from None = Ok no_tests
tests_from (Some value) = if has_only Fields value then tests_in value else bad_query

-- KEYS

abbrev pub field_in : Data → Option Field
field_in value = option_and_then field_of (as_str value)

-- all fields where `keys` is absent; else those that are listed, each once
abbrev pub keys_from : Option Data → Reading (List Field)
keys_from None = Ok all_fields
keys_from (Some value) = reading_then (or_bad (codes "keys") (list_in field_in value)) (λ fields. Ok (once fields))

-- THE QUERY

abbrev pub asked_from : Data → Reading Asked
asked_from value =
    reading_then (tests_from (get (codes "query") value)) (λ tests.
    reading_then (keys_from (get (codes "keys") value)) (λ keys.
    Ok (record { tests = tests; keys = keys })))

unfoldable pub read_query : List ℕ → Reading Asked
read_query content = reading_then (read_object content) asked_from
