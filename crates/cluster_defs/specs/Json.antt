-- JSON texts (RFC 8259), as `serde_json` reads them, and the first fault of one.
use Rattle.std.specs.Prelude.{ℕ, List, if◌then◌else◌, Option, Some, None, Result, Ok, Err, is_some}
use Rattle.std.specs.Str.{is_utf8}
use Rattle.serde_json.specs.Data.{Data}
use Rattle.serde_json.specs.Find.{as_object}
use Rattle.serde_json.specs.Read.{read}
use Rattle.cluster_defs.specs.declared.fault.ReadError.{ReadError}
use Rattle.cluster_defs.specs.declared.fault.ReadError.TheVariants.{NotJson, NotObject}

-- a reading, or the first fault
abbrev pub Reading : Type 0 → Type 0
Reading A = Result A ReadError

-- a reading that goes on with what was read before, and ends with the first fault
abbrev pub reading_then : {A B : Type 0} → Reading A → (A → Reading B) → Reading B
reading_then (Ok a) go = go a
reading_then (Err fault) go = Err fault

-- the value of a JSON text: octets that are UTF-8, and that the JSON reader reads
abbrev pub json_of : List ℕ → Option Data
json_of octets = if is_utf8 octets then read octets else None

abbrev pub object_in : Option Data → Reading Data
object_in None = Err NotJson
object_in (Some value) = if is_some (as_object value) then Ok value else Err NotObject

-- the object that a JSON text is
abbrev pub read_object : List ℕ → Reading Data
read_object octets = object_in (json_of octets)
