-- What the header of a message says (Jupyter messaging 5.3, "General Message Format"), or the first fault.
use Rattle.std.specs.Prelude.{ℕ, List, [], Ok, Err, codes}
use Rattle.serde_json.specs.Data.{Data}
use Rattle.serde_json.specs.Find.{get}
use Rattle.cluster_types.specs.declared.message.Message.{Message}
use Rattle.cluster_defs.specs.declared.header.Header.{Header as HeaderType}
use Rattle.cluster_defs.specs.Json.{Reading, reading_then, read_object}
use Rattle.cluster_defs.specs.Fields.{id_from, text_from}

abbrev pub header_from : Data → Reading HeaderType
header_from value =
    reading_then (id_from (codes "msg_id") (get (codes "msg_id") value)) (λ msg_id.
    reading_then (id_from (codes "msg_type") (get (codes "msg_type") value)) (λ msg_type.
    Ok (record { msg_id = msg_id; msg_type = msg_type; session = text_from (get (codes "session") value); username = text_from (get (codes "username") value) })))

unfoldable pub read_header : List ℕ → Reading HeaderType
read_header octets = reading_then (read_object octets) header_from

-- the type that a header tells, empty where it doesn't read
abbrev pub type_in : Reading HeaderType → List ℕ
type_in (Ok header) = header.msg_type
type_in (Err fault) = []

-- the type of a message
abbrev pub message_type : Message → List ℕ
message_type m = type_in (read_header m.header)
