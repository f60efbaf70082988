-- Worked readings, computed.
use Rattle.std.proofs.Common.{◌≡◌, refl, codes, Ok, Err, false, [], ◌∷◌, Some}
use Rattle.serde_json.proofs.OnLiterals.{serde_json_on_literals}
use Rattle.std.specs.Str.{is_utf8, chars}
use Rattle.json.specs.Print.{escape_byte}
use Rattle.cluster_types.specs.declared.config.Channel.TheVariants.{Task, Mux, Engine}
use Rattle.cluster_types.specs.declared.event.Reason.TheVariants.{BadHeader, BadType, NoTarget, BadReply}
use Rattle.cluster_types.specs.declared.event.Event.TheVariants.{Ask}
use Rattle.cluster_types.specs.declared.event.Query.TheVariants.{Bad}
use Rattle.cluster_defs.specs.declared.fault.ReadError.TheVariants.{NotJson, NotObject, Missing, BadField}
use Rattle.cluster_defs.specs.declared.content.HubContent.TheVariants.{Result}
use Rattle.cluster_defs.specs.Header.{read_header}
use Rattle.cluster_defs.specs.Points.{whole_timeouts, ends_in_name}
use Rattle.cluster_defs.specs.Submit.{read_submit, plain_dependency}
use Rattle.cluster_defs.specs.Reply.{read_task}
use Rattle.cluster_defs.specs.Hub.{read_hub, request_of, read_content}
use Rattle.cluster_defs.specs.Event.{event_of, is_request, is_reply, is_leave}
use Rattle.cluster_defs.specs.Texts.{header_text, made_header, error_content, reply_type}

pub header_not_json : read_header (codes "{") ≡ Err NotJson
unfolding serde_json_on_literals is_utf8 chars read_header
header_not_json = refl

pub header_no_object : read_header (codes "[]") ≡ Err NotObject
unfolding serde_json_on_literals is_utf8 chars read_header
header_no_object = refl

pub header_missing : read_header (codes "{}") ≡ Err (Missing (codes "msg_id"))
unfolding serde_json_on_literals is_utf8 chars read_header
header_missing = refl

pub header_bad : read_header (codes "{\"msg_id\":1}") ≡ Err (BadField (codes "msg_id"))
unfolding serde_json_on_literals is_utf8 chars read_header
header_bad = refl

pub header_read : read_header (codes "{\"msg_id\":\"a\",\"msg_type\":\"t\",\"session\":1}") ≡ Ok (record { msg_id = codes "a"; msg_type = codes "t"; session = codes ""; username = codes "" })
unfolding serde_json_on_literals is_utf8 chars read_header
header_read = refl

pub points_taken : whole_timeouts (codes "{\"timeout\": 0.0,\"a\":{\"timeout\":5.0}}") ≡ codes "{\"timeout\": 0,\"a\":{\"timeout\":5}}"
unfolding whole_timeouts ends_in_name
points_taken = refl

pub points_kept : whole_timeouts (codes "{\"timeout\":  0.0,\"timeout\":12345678901.0,\"timeout\":1.5,\"timeout\":1.00,\"retries\":1.0}") ≡ codes "{\"timeout\":  0.0,\"timeout\":12345678901.0,\"timeout\":1.5,\"timeout\":1.00,\"retries\":1.0}"
unfolding whole_timeouts ends_in_name
points_kept = refl

pub submit_retries : read_submit (codes "{\"retries\":1001}") ≡ Err (BadField (codes "retries"))
unfolding serde_json_on_literals is_utf8 chars read_submit whole_timeouts ends_in_name
submit_retries = refl

pub submit_read : read_submit (codes "{\"after\": [], \"follow\": \"a\", \"timeout\": 5.0, \"targets\": [\"e0\"], \"retries\": 1000}") ≡ Ok (record { after = plain_dependency []; follow = plain_dependency (codes "a" ∷ []); targets = codes "e0" ∷ []; timeout = 5; retries = 1000 })
unfolding serde_json_on_literals is_utf8 chars read_submit whole_timeouts ends_in_name
submit_read = refl

pub result_missing : read_hub (codes "result_request") (codes "{}") ≡ Some (Err (Missing (codes "msg_ids")))
unfolding serde_json_on_literals is_utf8 chars request_of read_content
result_missing = refl

pub result_read : read_hub (codes "result_request") (codes "{\"msg_ids\":[\"a\"]}") ≡ Some (Ok (Result (codes "a" ∷ []) false))
unfolding serde_json_on_literals is_utf8 chars request_of read_content
result_read = refl

pub task_bad_header : event_of Task (record { target = []; header = codes "[]"; parent = codes "{}"; metadata = codes "{}"; content = codes "{}"; buffers = [] }) ≡ Err BadHeader
unfolding serde_json_on_literals is_utf8 chars event_of read_header
task_bad_header = refl

pub task_bad_type : event_of Task (record { target = []; header = codes "{\"msg_id\":\"a\",\"msg_type\":\"execute_reply\"}"; parent = codes "{}"; metadata = codes "{}"; content = codes "{}"; buffers = [] }) ≡ Err BadType
unfolding serde_json_on_literals is_utf8 chars event_of read_header is_request
task_bad_type = refl

pub mux_no_target : event_of Mux (record { target = []; header = codes "{\"msg_id\":\"a\",\"msg_type\":\"execute_request\"}"; parent = codes "{}"; metadata = codes "{}"; content = codes "{}"; buffers = [] }) ≡ Err NoTarget
unfolding serde_json_on_literals is_utf8 chars event_of read_header is_request
mux_no_target = refl

pub engine_bad_reply : event_of Engine (record { target = []; header = codes "{\"msg_id\":\"a\",\"msg_type\":\"execute_reply\"}"; parent = codes "{}"; metadata = codes "{}"; content = codes "{}"; buffers = [] }) ≡ Err BadReply
unfolding serde_json_on_literals is_utf8 chars event_of read_header is_leave is_reply request_of read_task
engine_bad_reply = refl

pub task_bad_metadata : event_of Task (record { target = []; header = codes "{\"msg_id\":\"a\",\"msg_type\":\"execute_request\"}"; parent = codes "{}"; metadata = codes "{\"timeout\":1.5}"; content = codes "{}"; buffers = [] }) ≡ Ok (Ask (Bad (codes "timeout")))
unfolding serde_json_on_literals is_utf8 chars event_of read_header is_request read_submit whole_timeouts ends_in_name
task_bad_metadata = refl

pub made : made_header (codes "hub-1-2") (codes "queue_reply") (codes "1970-01-01T00:00:00.000Z") ≡ codes "{\"msg_id\":\"hub-1-2\",\"session\":\"controller\",\"username\":\"controller\",\"date\":\"1970-01-01T00:00:00.000Z\",\"msg_type\":\"queue_reply\",\"version\":\"5.3\"}"
unfolding header_text escape_byte
made = refl

pub refused : error_content (codes "Inflight") [] (codes "b" ∷ codes "c" ∷ []) ≡ codes "{\"status\":\"error\",\"ename\":\"Inflight\",\"evalue\":\"\",\"traceback\":[],\"ids\":[\"b\",\"c\"]}"
unfolding error_content escape_byte
refused = refl

pub replies : reply_type (codes "queue_request") ≡ codes "queue_reply"
unfolding reply_type is_request
replies = refl
