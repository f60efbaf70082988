-- What a database query is answered.
use Rattle.std.specs.Prelude.{ℕ, List, [], ◌++◌, map, Ok, Err, codes, decimal}
use Rattle.json.specs.Print.{quoted}
use Rattle.cluster_types.specs.declared.record.Record.{Record}
use Rattle.cluster_defs.specs.Event.{fault_field}
use Rattle.cluster_defs.specs.Json.{Reading}
use Rattle.cluster_defs.specs.Texts.{parted, object_text, error_content}
use Rattle.cluster_defs.specs.FilterWords.{field_name}
use Rattle.cluster_defs.specs.Filter.{value_of, found}
use Rattle.cluster_defs.specs.FilterReadings.{read_query}
use Rattle.cluster_defs.specs.declared.filter.Asked.{Asked}
use Rattle.cluster_defs.specs.declared.filter.Field.{Field}
use Rattle.cluster_defs.specs.declared.filter.Scalar.{Scalar}
use Rattle.cluster_defs.specs.declared.filter.Scalar.TheVariants.{Null, Text, Number}

-- a value as JSON writes it
abbrev pub scalar_text : Scalar → List ℕ
scalar_text Null = codes "null"
scalar_text (Text text) = quoted text
scalar_text (Number number) = decimal number

-- a field's name with the colon behind it
unfoldable pub key_text : Field → List ℕ
key_text field = quoted (field_name field) ++ codes ":"

-- what a record has in a field
abbrev pub field_member : Record → Field → List ℕ
field_member r field = key_text field ++ scalar_text (value_of field r)

-- the object of a record, with these fields
abbrev pub record_text : List Field → Record → List ℕ
record_text keys r = object_text (map (field_member r) keys)

unfoldable pub front_text : List ℕ
front_text = codes "{\"status\":\"ok\",\"records\":["

unfoldable pub end_text : List ℕ
end_text = codes "]}"

-- the records, each with these fields
abbrev pub records_content : List Field → List Record → List ℕ
records_content keys records = front_text ++ (parted (map (record_text keys) records) ++ end_text)

-- the records that are found, or a refusal with the field at fault
abbrev pub content_for : List Record → Reading Asked → List ℕ
content_for records (Ok asked) = records_content asked.keys (found asked.tests records)
content_for records (Err fault) = error_content (codes "BadContent") (fault_field (codes "content") fault) []

-- the answer to a query, by the records in order of number
abbrev pub query_content : List Record → List ℕ → List ℕ
query_content records content = content_for records (read_query content)
