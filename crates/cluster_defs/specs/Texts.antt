-- The texts of the messages that the controller, its engines and its clients make. Texts in JSON are written without blanks.
use Rattle.std.specs.Prelude.{ℕ, ◌-◌, Bool, true, false, List, [], ◌∷◌, ◌++◌, length, take, map, flat_map, if◌then◌else◌, Option, Some, None, codes, decimal}
use Rattle.json.specs.Print.{quoted}
use Rattle.cluster_types.specs.declared.message.Message.{Message}
use Rattle.cluster_defs.specs.Event.{is_request}

-- a header (Jupyter messaging 5.3), of texts that are quoted already and a date
unfoldable pub header_text : List ℕ → List ℕ → List ℕ → List ℕ → List ℕ → List ℕ
header_text id session username date kind =
    codes "{\"msg_id\":" ++ id
    ++ codes ",\"session\":" ++ session
    ++ codes ",\"username\":" ++ username
    ++ codes ",\"date\":\"" ++ date
    ++ codes "\",\"msg_type\":" ++ kind
    ++ codes ",\"version\":\"5.3\"}"

-- a header with a session and a user of its own: id, session, username, type, date
abbrev pub resubmit_header : List ℕ → List ℕ → List ℕ → List ℕ → List ℕ → List ℕ
resubmit_header msg_id session username msg_type date =
    header_text (quoted msg_id) (quoted session) (quoted username) date (quoted msg_type)

-- a header of the controller: id, type, date
abbrev pub made_header : List ℕ → List ℕ → List ℕ → List ℕ
made_header msg_id msg_type date = resubmit_header msg_id (codes "controller") (codes "controller") msg_type date

-- a type without `_request` at its end, if it has that
abbrev pub stem_of : List ℕ → List ℕ
stem_of msg_type = if is_request msg_type then take (length msg_type - 8) msg_type else msg_type

-- the type of the answer to a message
unfoldable pub reply_type : List ℕ → List ℕ
reply_type msg_type = stem_of msg_type ++ codes "_reply"

-- the type of the refusal of a request for a task
unfoldable pub submit_refused : List ℕ
submit_refused = codes "submit_refused"

-- the type of a heartbeat
unfoldable pub beat_request : List ℕ
beat_request = codes "beat_request"

-- the id of the answer to the input at a place after the last Open, the Open being 0, where so many Opens stand
unfoldable pub answer_id : ℕ → ℕ → List ℕ
answer_id opens place = codes "hub-" ++ decimal opens ++ codes "-" ++ decimal place

-- the id of a heartbeat to an engine
unfoldable pub beat_id : ℕ → ℕ → ℕ → List ℕ
beat_id opens place engine = answer_id opens place ++ codes "-" ++ decimal engine

-- the id of an outcome that the controller makes, by the number of the task
unfoldable pub outcome_id : ℕ → List ℕ
outcome_id number = codes "out-" ++ decimal number

-- the id of a task that was submitted again, by its new number
unfoldable pub resubmit_id : ℕ → List ℕ
resubmit_id number = codes "resubmit:" ++ decimal number

-- pieces with a comma between each two
abbrev pub parted : List (List ℕ) → List ℕ
parted [] = []
parted (first ∷ rest) = first ++ flat_map (λ piece. 44 ∷ piece) rest

-- lists and objects of JSON, of values and members that are written already
abbrev pub list_text : List (List ℕ) → List ℕ
list_text values = 91 ∷ (parted values ++ 93 ∷ [])

abbrev pub object_text : List (List ℕ) → List ℕ
object_text members = 123 ∷ (parted members ++ 125 ∷ [])

abbrev pub texts_list : List (List ℕ) → List ℕ
texts_list texts = list_text (map quoted texts)

-- a member with a text as its value
abbrev pub text_member : List ℕ × List ℕ → List ℕ
text_member member = quoted member.0 ++ 58 ∷ quoted member.1

unfoldable pub empty_object : List ℕ
empty_object = codes "{}"

-- an answer without a word more
unfoldable pub ok_content : List ℕ
ok_content = codes "{\"status\":\"ok\"}"

-- of a registration
unfoldable pub join_content : ℕ → List ℕ
join_content number = codes "{\"status\":\"ok\",\"id\":" ++ decimal number ++ codes "}"

-- of the heartbeat with a number
unfoldable pub beat_content : ℕ → List ℕ
beat_content beat = codes "{\"beat\":" ++ decimal beat ++ codes "}"

-- of a refusal: its name, its value, and the ids concerned
unfoldable pub error_content : List ℕ → List ℕ → List (List ℕ) → List ℕ
error_content ename evalue ids =
    codes "{\"status\":\"error\",\"ename\":" ++ quoted ename ++ codes ",\"evalue\":" ++ quoted evalue
    ++ codes ",\"traceback\":[],\"ids\":" ++ texts_list ids ++ codes "}"

-- of an outcome that the controller makes
unfoldable pub outcome_content : List ℕ → List ℕ → List ℕ
outcome_content ename evalue =
    codes "{\"status\":\"error\",\"ename\":" ++ quoted ename ++ codes ",\"evalue\":" ++ quoted evalue ++ codes ",\"traceback\":[]}"

-- of a resubmission, with the old and the new ids
unfoldable pub resubmit_content : List (List ℕ × List ℕ) → List ℕ
resubmit_content renamed = codes "{\"status\":\"ok\",\"resubmitted\":" ++ object_text (map text_member renamed) ++ codes "}"

-- of an abort, with the ids that it took back
unfoldable pub abort_content : List (List ℕ) → List ℕ
abort_content ids = codes "{\"status\":\"ok\",\"aborted\":" ++ texts_list ids ++ codes "}"

-- an engine by its number, with its uuid
abbrev pub engine_member : ℕ × List ℕ → List ℕ
engine_member engine = quoted (decimal engine.0) ++ 58 ∷ quoted engine.1

-- the live engines
unfoldable pub connection_content : List (ℕ × List ℕ) → List ℕ
connection_content engines = codes "{\"status\":\"ok\",\"engines\":" ++ object_text (map engine_member engines) ++ codes "}"

-- the ids that aren't purged
unfoldable pub history_content : List (List ℕ) → List ℕ
history_content ids = codes "{\"status\":\"ok\",\"history\":" ++ texts_list ids ++ codes "}"

-- how many ids there are, or which, where that was asked
abbrev pub counted : Bool → List (List ℕ) → List ℕ
counted true ids = texts_list ids
counted false ids = decimal (length ids)

-- the ids that an engine has: those sent to it alone that it runs, those that finished there, and the other ones that it runs
pub record EngineQueue : Type 0 where
  pub number : ℕ
  pub queue : List (List ℕ)
  pub completed : List (List ℕ)
  pub tasks : List (List ℕ)

unfoldable pub queue_member : Bool → EngineQueue → List ℕ
queue_member verbose engine =
    quoted (decimal engine.number) ++ codes ":{\"queue\":" ++ counted verbose engine.queue
    ++ codes ",\"completed\":" ++ counted verbose engine.completed ++ codes ",\"tasks\":" ++ counted verbose engine.tasks ++ codes "}"

-- the ids that no engine has, and those of each engine
unfoldable pub queue_content : Bool → List (List ℕ) → List EngineQueue → List ℕ
queue_content verbose unassigned engines =
    object_text (codes "\"status\":\"ok\"" ∷ (codes "\"unassigned\":" ++ counted verbose unassigned) ∷ map (queue_member verbose) engines)

-- the number of an engine, or that there was none
abbrev pub engine_or_null : Option ℕ → List ℕ
engine_or_null None = codes "null"
engine_or_null (Some number) = decimal number

-- what a settled task left: its last engine, its verdict and cause by name, and the parts of its outcome as they are
pub record Settled : Type 0 where
  pub id : List ℕ
  pub engine : Option ℕ
  pub verdict : List ℕ
  pub cause : List ℕ
  pub outcome : Message

unfoldable pub settled_member : Settled → List ℕ
settled_member task =
    quoted task.id ++ codes ":{\"engine\":" ++ engine_or_null task.engine
    ++ codes ",\"verdict\":" ++ quoted task.verdict ++ codes ",\"cause\":" ++ quoted task.cause
    ++ codes ",\"header\":" ++ task.outcome.header ++ codes ",\"metadata\":" ++ task.outcome.metadata
    ++ codes ",\"content\":" ++ task.outcome.content ++ codes ",\"buffers\":" ++ decimal (length task.outcome.buffers) ++ codes "}"

-- the unsettled ids, the settled ids, and what the settled ones left, where that was asked
unfoldable pub result_content : List (List ℕ) → List (List ℕ) → List Settled → List ℕ
result_content pending completed settled =
    codes "{\"status\":\"ok\",\"pending\":" ++ texts_list pending ++ codes ",\"completed\":" ++ texts_list completed
    ++ codes ",\"results\":" ++ object_text (map settled_member settled) ++ codes "}"
