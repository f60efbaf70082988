-- Worked identifiers, messages and answers, computed.
use Rattle.std.proofs.Common.{◌≡◌, refl, codes, true, false, None, [], ◌∷◌, ◌++◌, List, ℕ, arith}
use Rattle.std.proofs.lemmas.Fmt.{decimal_digit}
use Rattle.serde_json.proofs.OnLiterals.{serde_json_on_literals}
use Rattle.std.specs.Str.{is_utf8, chars}
use Rattle.json.specs.Print.{escape_byte}
use Rattle.uuid.specs.Text.{by_index}
use Rattle.cluster_defs.specs.Header.{read_header}
use Rattle.cluster_defs.specs.Reply.{read_task, read_status}
use Rattle.cluster_defs.specs.Texts.{submit_refused}
use Rattle.cluster_defs.specs.declared.content.SubmitMeta.{SubmitMeta}
use Rattle.cluster_types.specs.declared.message.Message.{Message}
use Rattle.client_core.specs.declared.took.Took.TheVariants.{Settled, Other, Stranger}
use Rattle.client_core.specs.Identifier.{client_id}
use Rattle.client_core.specs.Limits.{is_within_limits, is_engine}
use Rattle.client_core.specs.Messages.{dependency_text, submit_metadata, execute_content}
use Rattle.client_core.specs.declared.answered.Answered.TheVariants.{Failed}
use Rattle.client_core.specs.declared.stand.Stand.TheVariants.{Unsettled, Settled as StandSettled}
use Rattle.client_core.specs.Clients.{Used}
use Rattle.client_core.specs.Numbers.{numbered, numbered_id}
use Rattle.client_core.specs.Answers.{answered}
use Rattle.client_core.specs.Taking.{took, type_in, task_in}

pub zero_octets : client_id (0 ∷ 0 ∷ 0 ∷ 0 ∷ 0 ∷ 0 ∷ 0 ∷ 0 ∷ 0 ∷ 0 ∷ 0 ∷ 0 ∷ 0 ∷ 0 ∷ 0 ∷ 0 ∷ []) ≡ codes "00000000-0000-4000-8000-000000000000"
unfolding client_id by_index
zero_octets = refl

-- the example of RFC 9562, appendix A.3, with other bits in the places of the version and the variant
pub example_octets : client_id (0x91 ∷ 0x91 ∷ 0x08 ∷ 0xf7 ∷ 0x52 ∷ 0xd1 ∷ 0xf3 ∷ 0x20 ∷ 0x5b ∷ 0xac ∷ 0xf8 ∷ 0x47 ∷ 0xdb ∷ 0x41 ∷ 0x48 ∷ 0xa8 ∷ [])
    ≡ codes "919108f7-52d1-4320-9bac-f847db4148a8"
unfolding client_id by_index
example_octets = refl

abbrev worked_meta : SubmitMeta
worked_meta = record {
  after = record { ids = codes "a" ∷ codes "b\"" ∷ codes "a" ∷ []; all = true; success = false; failure = true };
  follow = record { ids = []; all = false; success = true; failure = false };
  targets = codes "e0" ∷ codes "e0" ∷ [];
  timeout = 0;
  retries = 3;
}

pub metadata_written : submit_metadata worked_meta
    ≡ codes "{\"after\":{\"dependencies\":[\"a\",\"b\\\"\",\"a\"],\"all\":true,\"success\":false,\"failure\":true},\"follow\":{\"dependencies\":[],\"all\":false,\"success\":true,\"failure\":false},\"targets\":[\"e0\",\"e0\"],\"timeout\":0,\"retries\":3}"
unfolding submit_metadata dependency_text escape_byte
metadata_written = rw (decimal_digit 0 (omega arith), decimal_digit 3 (omega arith)) refl

pub content_written : execute_content (codes "6*7")
    ≡ codes "{\"code\":\"6*7\",\"silent\":false,\"store_history\":true,\"user_expressions\":{},\"allow_stdin\":false,\"stop_on_error\":true}"
unfolding execute_content escape_byte
content_written = refl

pub within : is_within_limits worked_meta ≡ true
within = refl

pub delimiter_is_no_engine : is_engine (codes "<IDS|MSG>") ≡ false
delimiter_is_no_engine = refl

-- a message with these parts
abbrev answer : List ℕ → List ℕ → List ℕ → Message
answer msg_type parent content = record {
  target = [];
  header = codes "{\"msg_id\":\"r\",\"msg_type\":\"" ++ msg_type ++ codes "\"}";
  parent = parent;
  metadata = codes "{}";
  content = content;
  buffers = [];
}

abbrev used : Used
used = (codes "a", Unsettled false) ∷ (codes "b", StandSettled None) ∷ []

pub outcome : took used (answer (codes "execute_reply") (codes "{\"msg_id\":\"a\"}") (codes "{\"status\":\"ok\"}")) ≡ Settled (codes "a") true
unfolding serde_json_on_literals is_utf8 chars took type_in task_in read_header read_task read_status submit_refused
outcome = refl

pub failed_outcome : took used (answer (codes "execute_reply") (codes "{\"msg_id\":\"a\"}") (codes "{\"status\":\"aborted\"}")) ≡ Settled (codes "a") false
unfolding serde_json_on_literals is_utf8 chars took type_in task_in read_header read_task read_status submit_refused
failed_outcome = refl

pub refusal : took used (answer (codes "submit_refused") (codes "{\"msg_id\":\"a\"}") (codes "{\"status\":\"error\"}")) ≡ Other
unfolding serde_json_on_literals is_utf8 chars took type_in task_in read_header read_task read_status submit_refused
refusal = refl

pub no_status : took used (answer (codes "execute_reply") (codes "{\"msg_id\":\"a\"}") (codes "[]")) ≡ Other
unfolding serde_json_on_literals is_utf8 chars took type_in task_in read_header read_task read_status submit_refused
no_status = refl

pub again : took used (answer (codes "execute_reply") (codes "{\"msg_id\":\"b\"}") (codes "{\"status\":\"ok\"}")) ≡ Other
unfolding serde_json_on_literals is_utf8 chars took type_in task_in read_header read_task read_status submit_refused
again = refl

pub of_another_client : took used (answer (codes "execute_reply") (codes "{\"msg_id\":\"c\"}") (codes "{\"status\":\"ok\"}")) ≡ Stranger
unfolding serde_json_on_literals is_utf8 chars took type_in task_in read_header read_task read_status submit_refused
of_another_client = refl

pub no_parent : took used (answer (codes "execute_reply") (codes "{}") (codes "{\"status\":\"ok\"}")) ≡ Stranger
unfolding serde_json_on_literals is_utf8 chars took type_in task_in read_header read_task read_status submit_refused
no_parent = refl

-- the numbers 0 and 513 as ids
pub id_of_0 : numbered_id 0 ≡ codes "00000000-0000-4000-8000-000000000000"
unfolding client_id by_index numbered
id_of_0 = refl

pub id_of_513 : numbered_id 513 ≡ codes "00000000-0000-4000-8000-000000000201"
unfolding client_id by_index numbered
id_of_513 = refl

pub no_value : answered (codes "{\"status\":\"error\",\"ename\":\"ZeroDivision\",\"evalue\":7,\"result\":\"42\"}") ≡ Failed (codes "ZeroDivision") []
unfolding serde_json_on_literals is_utf8 chars answered
no_value = refl

pub nothing_said : answered (codes "[]") ≡ Failed [] []
unfolding serde_json_on_literals is_utf8 chars answered
nothing_said = refl
