-- Worked rows on repeats, purges, direct requests, resubmissions and questions, computed. Nothing rests on them.
use Rattle.std.proofs.Common.{List, [], ◌∷◌, Some, None, true, false, refl}
use Rattle.std.specs.Prelude.{codes}
use Rattle.std.specs.Fmt.{digits}
use Rattle.std.specs.Str.{is_utf8, chars}
use Rattle.json.specs.Print.{escape_byte}
use Rattle.serde_json.proofs.OnLiterals.{serde_json_on_literals}
use Rattle.hex.specs.Hex.{encode_with}
use Rattle.edges.specs.Date.{date_of, day_text, time_text, digits as date_digits, civil_date, from_year, from_month}
use Rattle.cluster_types.specs.Verdicts.{engine_lost_text}
use Rattle.cluster_types.specs.declared.config.Channel.TheVariants.{Hub, Task, Mux, Engine}
use Rattle.cluster_types.specs.declared.config.Scheme.TheVariants.{LeastLoad}
use Rattle.cluster_types.specs.declared.verdict.Verdict.TheVariants.{Completed, Failed}
use Rattle.cluster_types.specs.declared.verdict.Cause.TheVariants.{Reply as ByReply, EngineError}
use Rattle.cluster_types.specs.declared.message.Message.{Message}
use Rattle.cluster_types.specs.declared.event.Event.TheVariants.{Submit, Direct, Reply, Join, Leave, Purge, Resubmit, Ask}
use Rattle.cluster_types.specs.declared.event.Query.TheVariants.{Queue, Result, History, Bad}
use Rattle.cluster_types.specs.declared.out.Out.TheVariants.{Pass, Made}
use Rattle.cluster_types.specs.declared.entry.Input.TheVariants.{Open, Up, Down, In}
use Rattle.cluster_types.specs.declared.entry.Entry.TheVariants.{Input, Hand, Settle}
use Rattle.cluster_defs.specs.Event.{event_of, is_db, is_request, is_reply, is_leave}
use Rattle.cluster_defs.specs.Points.{whole_timeouts, ends_in_name}
use Rattle.cluster_defs.specs.Submit.{read_submit}
use Rattle.cluster_defs.specs.Reply.{read_task, read_declined, read_status}
use Rattle.cluster_defs.specs.Hub.{request_of, read_content}
use Rattle.cluster_defs.specs.Header.{read_header}
use Rattle.cluster_defs.specs.Texts.{answer_id, beat_id, beat_request, outcome_id, resubmit_id, header_text, reply_type, submit_refused, empty_object, ok_content, join_content, beat_content, error_content, outcome_content, resubmit_content, connection_content, history_content, queue_member, queue_content, settled_member, result_content}
use Rattle.cluster_defs.specs.Acceptance.{no_dependency, reserved_front}
use Rattle.cluster_types.specs.Chance.{next_word}
use Rattle.cluster_defs.specs.Histories.{Legal}
use Rattle.worked_rows.proofs.Told.{Line, line, decision, message, submission, IsTold, goes_on, told_legal}

abbrev repeat_and_known_id_m0 : Message
repeat_and_known_id_m0 = message [] (codes "{\"msg_id\":\"join-e0\",\"msg_type\":\"registration_request\"}") (codes "{}") (codes "{}") (codes "{\"uuid\":\"e0\"}") []

abbrev repeat_and_known_id_m1 : Message
repeat_and_known_id_m1 = message [] (codes "{\"msg_id\":\"a\",\"msg_type\":\"execute_request\"}") (codes "{}") (codes "{}") (codes "{\"code\":\"6*7\"}") []

abbrev repeat_and_known_id_m2 : Message
repeat_and_known_id_m2 = message [] (codes "{\"msg_id\":\"r1\",\"msg_type\":\"execute_reply\"}") (codes "{\"msg_id\":\"a\"}") (codes "{}") (codes "{\"status\":\"ok\",\"result\":\"42\"}") []

abbrev repeat_and_known_id_m3 : Message
repeat_and_known_id_m3 = message [] (codes "{\"msg_id\":\"a\",\"msg_type\":\"execute_request\"}") (codes "{}") (codes "{}") (codes "{\"code\":\"1\"}") []

abbrev repeat_and_known_id_m4 : Message
repeat_and_known_id_m4 = message [] (codes "{\"msg_id\":\"resubmit:9\",\"msg_type\":\"execute_request\"}") (codes "{}") (codes "{}") (codes "{\"code\":\"1\"}") []

-- a repeat sends the outcome again; another content is refused, and so is a reserved id
abbrev pub repeat_and_known_id : List Line
repeat_and_known_id =
    line (Input (Open 0 LeastLoad 1 10)) None true []
    ∷ line (Input (Up 1 Engine 0 0 (codes "e"))) None true []
    ∷ line (Input (In 1 0 0 repeat_and_known_id_m0)) (Some (Join (codes "e0"))) true (Made 1 0 (codes "hub-1-2") (codes "registration_reply") (codes "{\"msg_id\":\"join-e0\",\"msg_type\":\"registration_request\"}") (codes "{\"status\":\"ok\",\"id\":0}") [] ∷ [])
    ∷ line (Input (Up 2 Task 0 0 (codes "c"))) None true []
    ∷ line (Input (In 2 0 0 repeat_and_known_id_m1)) (Some (Submit (submission (codes "a") (codes "execute_request") [] [] no_dependency no_dependency [] 0 0))) true []
    ∷ decision (Hand (codes "a") 0) (Pass 1 repeat_and_known_id_m1 ∷ [])
    ∷ line (Input (In 1 0 0 repeat_and_known_id_m2)) (Some (Reply (codes "a") (codes "r1") true false)) true []
    ∷ decision (Settle (codes "a") Completed ByReply) (Pass 2 repeat_and_known_id_m2 ∷ [])
    ∷ line (Input (In 2 0 0 repeat_and_known_id_m1)) (Some (Submit (submission (codes "a") (codes "execute_request") [] [] no_dependency no_dependency [] 0 0))) false (Pass 2 repeat_and_known_id_m2 ∷ [])
    ∷ line (Input (In 2 0 0 repeat_and_known_id_m3)) (Some (Submit (submission (codes "a") (codes "execute_request") [] [] no_dependency no_dependency [] 0 0))) false (Made 2 0 (codes "hub-1-9") (codes "submit_refused") (codes "{\"msg_id\":\"a\",\"msg_type\":\"execute_request\"}") (codes "{\"status\":\"error\",\"ename\":\"KnownId\",\"evalue\":\"a\",\"traceback\":[],\"ids\":[]}") [] ∷ [])
    ∷ line (Input (In 2 0 0 repeat_and_known_id_m4)) (Some (Submit (submission (codes "resubmit:9") (codes "execute_request") [] [] no_dependency no_dependency [] 0 0))) false (Made 2 0 (codes "hub-1-10") (codes "submit_refused") (codes "{\"msg_id\":\"resubmit:9\",\"msg_type\":\"execute_request\"}") (codes "{\"status\":\"error\",\"ename\":\"ReservedId\",\"evalue\":\"resubmit:9\",\"traceback\":[],\"ids\":[]}") [] ∷ [])
    ∷ []

pub repeat_and_known_id_is_told : IsTold repeat_and_known_id
unfolding digits escape_byte reserved_front next_word answer_id beat_id beat_request outcome_id resubmit_id header_text reply_type submit_refused empty_object ok_content join_content beat_content error_content outcome_content resubmit_content connection_content history_content queue_member queue_content settled_member result_content engine_lost_text date_of day_text time_text date_digits civil_date from_year from_month encode_with serde_json_on_literals is_utf8 chars event_of read_header is_request is_reply is_leave read_submit whole_timeouts ends_in_name is_db request_of read_content read_task read_declined read_status
repeat_and_known_id_is_told = record { goes = refl; reads = refl; rests = refl }

pub repeat_and_known_id_legal : Legal (goes_on [] repeat_and_known_id)
repeat_and_known_id_legal = told_legal repeat_and_known_id repeat_and_known_id_is_told

abbrev purge_m0 : Message
purge_m0 = message [] (codes "{\"msg_id\":\"join-e0\",\"msg_type\":\"registration_request\"}") (codes "{}") (codes "{}") (codes "{\"uuid\":\"e0\"}") []

abbrev purge_m1 : Message
purge_m1 = message [] (codes "{\"msg_id\":\"a\",\"msg_type\":\"execute_request\"}") (codes "{}") (codes "{}") (codes "{\"code\":\"6*7\"}") []

abbrev purge_m2 : Message
purge_m2 = message [] (codes "{\"msg_id\":\"r1\",\"msg_type\":\"execute_reply\"}") (codes "{\"msg_id\":\"a\"}") (codes "{}") (codes "{\"status\":\"ok\"}") []

abbrev purge_m3 : Message
purge_m3 = message [] (codes "{\"msg_id\":\"b\",\"msg_type\":\"execute_request\"}") (codes "{}") (codes "{}") (codes "{\"code\":\"6*7\"}") []

abbrev purge_m4 : Message
purge_m4 = message [] (codes "{\"msg_id\":\"ask\",\"msg_type\":\"purge_request\"}") (codes "{}") (codes "{}") (codes "{\"msg_ids\":[\"a\",\"b\"]}") []

abbrev purge_m5 : Message
purge_m5 = message [] (codes "{\"msg_id\":\"ask\",\"msg_type\":\"history_request\"}") (codes "{}") (codes "{}") (codes "{}") []

abbrev purge_m6 : Message
purge_m6 = message [] (codes "{\"msg_id\":\"r2\",\"msg_type\":\"execute_reply\"}") (codes "{\"msg_id\":\"b\"}") (codes "{}") (codes "{\"status\":\"ok\"}") []

abbrev purge_m7 : Message
purge_m7 = message [] (codes "{\"msg_id\":\"ask\",\"msg_type\":\"result_request\"}") (codes "{}") (codes "{}") (codes "{\"msg_ids\":[\"a\"]}") []

-- a purge of a settled and a running id drops nothing; of two settled ones both, for good
abbrev pub purge : List Line
purge =
    line (Input (Open 0 LeastLoad 1 10)) None true []
    ∷ line (Input (Up 1 Engine 0 0 (codes "e"))) None true []
    ∷ line (Input (In 1 0 0 purge_m0)) (Some (Join (codes "e0"))) true (Made 1 0 (codes "hub-1-2") (codes "registration_reply") (codes "{\"msg_id\":\"join-e0\",\"msg_type\":\"registration_request\"}") (codes "{\"status\":\"ok\",\"id\":0}") [] ∷ [])
    ∷ line (Input (Up 2 Task 0 0 (codes "c"))) None true []
    ∷ line (Input (In 2 0 0 purge_m1)) (Some (Submit (submission (codes "a") (codes "execute_request") [] [] no_dependency no_dependency [] 0 0))) true []
    ∷ decision (Hand (codes "a") 0) (Pass 1 purge_m1 ∷ [])
    ∷ line (Input (In 1 0 0 purge_m2)) (Some (Reply (codes "a") (codes "r1") true false)) true []
    ∷ decision (Settle (codes "a") Completed ByReply) (Pass 2 purge_m2 ∷ [])
    ∷ line (Input (In 2 0 0 purge_m3)) (Some (Submit (submission (codes "b") (codes "execute_request") [] [] no_dependency no_dependency [] 0 0))) true []
    ∷ decision (Hand (codes "b") 0) (Pass 1 purge_m3 ∷ [])
    ∷ line (Input (Up 4 Hub 0 0 (codes "h"))) None true []
    ∷ line (Input (In 4 0 0 purge_m4)) (Some (Purge false ((codes "a") ∷ (codes "b") ∷ []))) false (Made 4 0 (codes "hub-1-11") (codes "purge_reply") (codes "{\"msg_id\":\"ask\",\"msg_type\":\"purge_request\"}") (codes "{\"status\":\"error\",\"ename\":\"Inflight\",\"evalue\":\"\",\"traceback\":[],\"ids\":[\"b\"]}") [] ∷ [])
    ∷ line (Input (In 4 0 0 purge_m5)) (Some (Ask History)) false (Made 4 0 (codes "hub-1-12") (codes "history_reply") (codes "{\"msg_id\":\"ask\",\"msg_type\":\"history_request\"}") (codes "{\"status\":\"ok\",\"history\":[\"a\",\"b\"]}") [] ∷ [])
    ∷ line (Input (In 1 0 0 purge_m6)) (Some (Reply (codes "b") (codes "r2") true false)) true []
    ∷ decision (Settle (codes "b") Completed ByReply) (Pass 2 purge_m6 ∷ [])
    ∷ line (Input (In 4 0 0 purge_m4)) (Some (Purge false ((codes "a") ∷ (codes "b") ∷ []))) true (Made 4 0 (codes "hub-1-15") (codes "purge_reply") (codes "{\"msg_id\":\"ask\",\"msg_type\":\"purge_request\"}") (codes "{\"status\":\"ok\"}") [] ∷ [])
    ∷ line (Input (In 2 0 0 purge_m1)) (Some (Submit (submission (codes "a") (codes "execute_request") [] [] no_dependency no_dependency [] 0 0))) false (Made 2 0 (codes "hub-1-16") (codes "submit_refused") (codes "{\"msg_id\":\"a\",\"msg_type\":\"execute_request\"}") (codes "{\"status\":\"error\",\"ename\":\"Purged\",\"evalue\":\"a\",\"traceback\":[],\"ids\":[]}") [] ∷ [])
    ∷ line (Input (In 4 0 0 purge_m7)) (Some (Ask (Result ((codes "a") ∷ []) false))) false (Made 4 0 (codes "hub-1-17") (codes "result_reply") (codes "{\"msg_id\":\"ask\",\"msg_type\":\"result_request\"}") (codes "{\"status\":\"error\",\"ename\":\"UnknownIds\",\"evalue\":\"\",\"traceback\":[],\"ids\":[\"a\"]}") [] ∷ [])
    ∷ []

pub purge_is_told : IsTold purge
unfolding digits escape_byte reserved_front next_word answer_id beat_id beat_request outcome_id resubmit_id header_text reply_type submit_refused empty_object ok_content join_content beat_content error_content outcome_content resubmit_content connection_content history_content queue_member queue_content settled_member result_content engine_lost_text date_of day_text time_text date_digits civil_date from_year from_month encode_with serde_json_on_literals is_utf8 chars event_of read_header is_request is_reply is_leave read_submit whole_timeouts ends_in_name is_db request_of read_content read_task read_declined read_status
purge_is_told = record { goes = refl; reads = refl; rests = refl }

pub purge_legal : Legal (goes_on [] purge)
purge_legal = told_legal purge purge_is_told

abbrev metadata_as_sent_m0 : Message
metadata_as_sent_m0 = message [] (codes "{\"msg_id\":\"join-e0\",\"msg_type\":\"registration_request\"}") (codes "{}") (codes "{}") (codes "{\"uuid\":\"e0\"}") []

abbrev metadata_as_sent_m1 : Message
metadata_as_sent_m1 = message [] (codes "{\"msg_id\": \"a\", \"session\": \"s\", \"username\": \"u\", \"date\": \"2023-11-14T22:13:20.000Z\", \"msg_type\": \"execute_request\", \"version\": \"5.3\"}") (codes "{}") (codes "{\"after\": [], \"follow\": [], \"timeout\": 0.0, \"targets\": [], \"retries\": 0}") (codes "{\"code\": \"1\"}") []

abbrev metadata_as_sent_m2 : Message
metadata_as_sent_m2 = message [] (codes "{\"msg_id\":\"b\",\"msg_type\":\"execute_request\"}") (codes "{}") (codes "{\"timeout\":1.5}") (codes "{\"code\":\"6*7\"}") []

-- header, metadata and content are handed out with all octets as they came; a timeout with a fraction is refused
abbrev pub metadata_as_sent : List Line
metadata_as_sent =
    line (Input (Open 0 LeastLoad 1 10)) None true []
    ∷ line (Input (Up 1 Engine 0 0 (codes "e"))) None true []
    ∷ line (Input (In 1 0 0 metadata_as_sent_m0)) (Some (Join (codes "e0"))) true (Made 1 0 (codes "hub-1-2") (codes "registration_reply") (codes "{\"msg_id\":\"join-e0\",\"msg_type\":\"registration_request\"}") (codes "{\"status\":\"ok\",\"id\":0}") [] ∷ [])
    ∷ line (Input (Up 2 Task 0 0 (codes "c"))) None true []
    ∷ line (Input (In 2 0 0 metadata_as_sent_m1)) (Some (Submit (submission (codes "a") (codes "execute_request") (codes "s") (codes "u") no_dependency no_dependency [] 0 0))) true []
    ∷ decision (Hand (codes "a") 0) (Pass 1 metadata_as_sent_m1 ∷ [])
    ∷ line (Input (In 2 0 0 metadata_as_sent_m2)) (Some (Ask (Bad (codes "timeout")))) false (Made 2 0 (codes "hub-1-6") (codes "submit_refused") (codes "{\"msg_id\":\"b\",\"msg_type\":\"execute_request\"}") (codes "{\"status\":\"error\",\"ename\":\"BadMetadata\",\"evalue\":\"timeout\",\"traceback\":[],\"ids\":[]}") [] ∷ [])
    ∷ []

pub metadata_as_sent_is_told : IsTold metadata_as_sent
unfolding digits escape_byte reserved_front next_word answer_id beat_id beat_request outcome_id resubmit_id header_text reply_type submit_refused empty_object ok_content join_content beat_content error_content outcome_content resubmit_content connection_content history_content queue_member queue_content settled_member result_content engine_lost_text date_of day_text time_text date_digits civil_date from_year from_month encode_with serde_json_on_literals is_utf8 chars event_of read_header is_request is_reply is_leave read_submit whole_timeouts ends_in_name is_db request_of read_content read_task read_declined read_status
metadata_as_sent_is_told = record { goes = refl; reads = refl; rests = refl }

pub metadata_as_sent_legal : Legal (goes_on [] metadata_as_sent)
metadata_as_sent_legal = told_legal metadata_as_sent metadata_as_sent_is_told

abbrev direct_m0 : Message
direct_m0 = message [] (codes "{\"msg_id\":\"join-e0\",\"msg_type\":\"registration_request\"}") (codes "{}") (codes "{}") (codes "{\"uuid\":\"e0\"}") []

abbrev direct_m1 : Message
direct_m1 = message (codes "e0") (codes "{\"msg_id\":\"d\",\"msg_type\":\"execute_request\"}") (codes "{}") (codes "{}") (codes "{\"code\":\"6*7\"}") []

abbrev direct_m2 : Message
direct_m2 = message [] (codes "{\"msg_id\":\"d\",\"msg_type\":\"execute_request\"}") (codes "{}") (codes "{}") (codes "{\"code\":\"6*7\"}") []

abbrev direct_m3 : Message
direct_m3 = message [] (codes "{\"msg_id\":\"r1\",\"msg_type\":\"execute_reply\"}") (codes "{\"msg_id\":\"d\"}") (codes "{}") (codes "{\"status\":\"ok\"}") []

abbrev direct_m4 : Message
direct_m4 = message [] (codes "{\"msg_id\":\"ask\",\"msg_type\":\"result_request\"}") (codes "{}") (codes "{}") (codes "{\"msg_ids\":[\"d\"]}") []

abbrev direct_m5 : Message
direct_m5 = message (codes "e9") (codes "{\"msg_id\":\"f\",\"msg_type\":\"execute_request\"}") (codes "{}") (codes "{}") (codes "{\"code\":\"6*7\"}") []

-- a request to an engine is handed out at once; its entry in a result names the engine; an unknown target is refused
abbrev pub direct : List Line
direct =
    line (Input (Open 0 LeastLoad 1 10)) None true []
    ∷ line (Input (Up 1 Engine 0 0 (codes "e"))) None true []
    ∷ line (Input (In 1 0 0 direct_m0)) (Some (Join (codes "e0"))) true (Made 1 0 (codes "hub-1-2") (codes "registration_reply") (codes "{\"msg_id\":\"join-e0\",\"msg_type\":\"registration_request\"}") (codes "{\"status\":\"ok\",\"id\":0}") [] ∷ [])
    ∷ line (Input (Up 2 Task 0 0 (codes "c"))) None true []
    ∷ line (Input (Up 4 Mux 0 0 (codes "m"))) None true []
    ∷ line (Input (Up 5 Hub 0 0 (codes "h"))) None true []
    ∷ line (Input (In 4 0 0 direct_m1)) (Some (Direct (submission (codes "d") (codes "execute_request") [] [] no_dependency no_dependency [] 0 0))) true []
    ∷ decision (Hand (codes "d") 0) (Pass 1 direct_m2 ∷ [])
    ∷ line (Input (In 1 0 0 direct_m3)) (Some (Reply (codes "d") (codes "r1") true false)) true []
    ∷ decision (Settle (codes "d") Completed ByReply) (Pass 4 direct_m3 ∷ [])
    ∷ line (Input (In 5 0 0 direct_m4)) (Some (Ask (Result ((codes "d") ∷ []) false))) false (Made 5 0 (codes "hub-1-10") (codes "result_reply") (codes "{\"msg_id\":\"ask\",\"msg_type\":\"result_request\"}") (codes "{\"status\":\"ok\",\"pending\":[],\"completed\":[\"d\"],\"results\":{\"d\":{\"engine\":0,\"verdict\":\"completed\",\"cause\":\"Reply\",\"header\":{\"msg_id\":\"r1\",\"msg_type\":\"execute_reply\"},\"metadata\":{},\"content\":{\"status\":\"ok\"},\"buffers\":0}}}") [] ∷ [])
    ∷ line (Input (In 4 0 0 direct_m5)) (Some (Direct (submission (codes "f") (codes "execute_request") [] [] no_dependency no_dependency [] 0 0))) false (Made 4 0 (codes "hub-1-11") (codes "submit_refused") (codes "{\"msg_id\":\"f\",\"msg_type\":\"execute_request\"}") (codes "{\"status\":\"error\",\"ename\":\"NoSuchEngine\",\"evalue\":\"6539\",\"traceback\":[],\"ids\":[]}") [] ∷ [])
    ∷ []

pub direct_is_told : IsTold direct
unfolding digits escape_byte reserved_front next_word answer_id beat_id beat_request outcome_id resubmit_id header_text reply_type submit_refused empty_object ok_content join_content beat_content error_content outcome_content resubmit_content connection_content history_content queue_member queue_content settled_member result_content engine_lost_text date_of day_text time_text date_digits civil_date from_year from_month encode_with serde_json_on_literals is_utf8 chars event_of read_header is_request is_reply is_leave read_submit whole_timeouts ends_in_name is_db request_of read_content read_task read_declined read_status
direct_is_told = record { goes = refl; reads = refl; rests = refl }

pub direct_legal : Legal (goes_on [] direct)
direct_legal = told_legal direct direct_is_told

abbrev resubmit_m0 : Message
resubmit_m0 = message [] (codes "{\"msg_id\":\"join-e0\",\"msg_type\":\"registration_request\"}") (codes "{}") (codes "{}") (codes "{\"uuid\":\"e0\"}") []

abbrev resubmit_m1 : Message
resubmit_m1 = message [] (codes "{\"msg_id\":\"a\",\"msg_type\":\"execute_request\"}") (codes "{}") (codes "{}") (codes "{\"code\":\"6*7\"}") []

abbrev resubmit_m2 : Message
resubmit_m2 = message [] (codes "{\"msg_id\":\"r1\",\"msg_type\":\"execute_reply\"}") (codes "{\"msg_id\":\"a\"}") (codes "{}") (codes "{\"status\":\"ok\",\"result\":\"42\"}") []

abbrev resubmit_m3 : Message
resubmit_m3 = message [] (codes "{\"msg_id\":\"ask\",\"msg_type\":\"resubmit_request\"}") (codes "{}") (codes "{}") (codes "{\"msg_ids\":[\"a\"]}") []

abbrev resubmit_m4 : Message
resubmit_m4 = message [] (codes "{\"msg_id\":\"resubmit:2\",\"session\":\"\",\"username\":\"\",\"date\":\"1970-01-01T00:00:00.000Z\",\"msg_type\":\"execute_request\",\"version\":\"5.3\"}") (codes "{}") (codes "{}") (codes "{\"code\":\"6*7\"}") []

-- a settled task is resubmitted, and handed out under its new id
abbrev pub resubmit : List Line
resubmit =
    line (Input (Open 0 LeastLoad 1 10)) None true []
    ∷ line (Input (Up 1 Engine 0 0 (codes "e"))) None true []
    ∷ line (Input (In 1 0 0 resubmit_m0)) (Some (Join (codes "e0"))) true (Made 1 0 (codes "hub-1-2") (codes "registration_reply") (codes "{\"msg_id\":\"join-e0\",\"msg_type\":\"registration_request\"}") (codes "{\"status\":\"ok\",\"id\":0}") [] ∷ [])
    ∷ line (Input (Up 2 Task 0 0 (codes "c"))) None true []
    ∷ line (Input (In 2 0 0 resubmit_m1)) (Some (Submit (submission (codes "a") (codes "execute_request") [] [] no_dependency no_dependency [] 0 0))) true []
    ∷ decision (Hand (codes "a") 0) (Pass 1 resubmit_m1 ∷ [])
    ∷ line (Input (In 1 0 0 resubmit_m2)) (Some (Reply (codes "a") (codes "r1") true false)) true []
    ∷ decision (Settle (codes "a") Completed ByReply) (Pass 2 resubmit_m2 ∷ [])
    ∷ line (Input (Up 4 Hub 0 0 (codes "h"))) None true []
    ∷ line (Input (In 4 0 0 resubmit_m3)) (Some (Resubmit ((codes "a") ∷ []))) true (Made 4 0 (codes "hub-1-9") (codes "resubmit_reply") (codes "{\"msg_id\":\"ask\",\"msg_type\":\"resubmit_request\"}") (codes "{\"status\":\"ok\",\"resubmitted\":{\"a\":\"resubmit:2\"}}") [] ∷ [])
    ∷ decision (Hand (codes "resubmit:2") 0) (Pass 1 resubmit_m4 ∷ [])
    ∷ []

pub resubmit_is_told : IsTold resubmit
unfolding digits escape_byte reserved_front next_word answer_id beat_id beat_request outcome_id resubmit_id header_text reply_type submit_refused empty_object ok_content join_content beat_content error_content outcome_content resubmit_content connection_content history_content queue_member queue_content settled_member result_content engine_lost_text date_of day_text time_text date_digits civil_date from_year from_month encode_with serde_json_on_literals is_utf8 chars event_of read_header is_request is_reply is_leave read_submit whole_timeouts ends_in_name is_db request_of read_content read_task read_declined read_status
resubmit_is_told = record { goes = refl; reads = refl; rests = refl }

pub resubmit_legal : Legal (goes_on [] resubmit)
resubmit_legal = told_legal resubmit resubmit_is_told

abbrev joins_and_leaves_m0 : Message
joins_and_leaves_m0 = message [] (codes "{\"msg_id\":\"join-e0\",\"msg_type\":\"registration_request\"}") (codes "{}") (codes "{}") (codes "{\"uuid\":\"e0\"}") []

abbrev joins_and_leaves_m1 : Message
joins_and_leaves_m1 = message [] (codes "{\"msg_id\":\"join-e9\",\"msg_type\":\"registration_request\"}") (codes "{}") (codes "{}") (codes "{\"uuid\":\"e9\"}") []

abbrev joins_and_leaves_m2 : Message
joins_and_leaves_m2 = message [] (codes "{\"msg_id\":\"leave-3\",\"msg_type\":\"unregistration_request\"}") (codes "{}") (codes "{}") (codes "{}") []

-- a repeated join, and the refusals of joins and leaves
abbrev pub joins_and_leaves : List Line
joins_and_leaves =
    line (Input (Open 0 LeastLoad 1 10)) None true []
    ∷ line (Input (Up 1 Engine 0 0 (codes "e"))) None true []
    ∷ line (Input (In 1 0 0 joins_and_leaves_m0)) (Some (Join (codes "e0"))) true (Made 1 0 (codes "hub-1-2") (codes "registration_reply") (codes "{\"msg_id\":\"join-e0\",\"msg_type\":\"registration_request\"}") (codes "{\"status\":\"ok\",\"id\":0}") [] ∷ [])
    ∷ line (Input (In 1 0 0 joins_and_leaves_m0)) (Some (Join (codes "e0"))) false (Made 1 0 (codes "hub-1-3") (codes "registration_reply") (codes "{\"msg_id\":\"join-e0\",\"msg_type\":\"registration_request\"}") (codes "{\"status\":\"ok\",\"id\":0}") [] ∷ [])
    ∷ line (Input (In 1 0 0 joins_and_leaves_m1)) (Some (Join (codes "e9"))) false (Made 1 0 (codes "hub-1-4") (codes "registration_reply") (codes "{\"msg_id\":\"join-e9\",\"msg_type\":\"registration_request\"}") (codes "{\"status\":\"error\",\"ename\":\"AlreadyJoined\",\"evalue\":\"0\",\"traceback\":[],\"ids\":[]}") [] ∷ [])
    ∷ line (Input (Up 3 Engine 0 0 (codes "f"))) None true []
    ∷ line (Input (In 3 0 0 joins_and_leaves_m0)) (Some (Join (codes "e0"))) false (Made 3 0 (codes "hub-1-6") (codes "registration_reply") (codes "{\"msg_id\":\"join-e0\",\"msg_type\":\"registration_request\"}") (codes "{\"status\":\"error\",\"ename\":\"UuidInUse\",\"evalue\":\"0\",\"traceback\":[],\"ids\":[]}") [] ∷ [])
    ∷ line (Input (In 3 0 0 joins_and_leaves_m2)) (Some (Leave)) false (Made 3 0 (codes "hub-1-7") (codes "unregistration_reply") (codes "{\"msg_id\":\"leave-3\",\"msg_type\":\"unregistration_request\"}") (codes "{\"status\":\"error\",\"ename\":\"NotJoined\",\"evalue\":\"\",\"traceback\":[],\"ids\":[]}") [] ∷ [])
    ∷ []

pub joins_and_leaves_is_told : IsTold joins_and_leaves
unfolding digits escape_byte reserved_front next_word answer_id beat_id beat_request outcome_id resubmit_id header_text reply_type submit_refused empty_object ok_content join_content beat_content error_content outcome_content resubmit_content connection_content history_content queue_member queue_content settled_member result_content engine_lost_text date_of day_text time_text date_digits civil_date from_year from_month encode_with serde_json_on_literals is_utf8 chars event_of read_header is_request is_reply is_leave read_submit whole_timeouts ends_in_name is_db request_of read_content read_task read_declined read_status
joins_and_leaves_is_told = record { goes = refl; reads = refl; rests = refl }

pub joins_and_leaves_legal : Legal (goes_on [] joins_and_leaves)
joins_and_leaves_legal = told_legal joins_and_leaves joins_and_leaves_is_told

abbrev leave_while_running_m0 : Message
leave_while_running_m0 = message [] (codes "{\"msg_id\":\"join-e0\",\"msg_type\":\"registration_request\"}") (codes "{}") (codes "{}") (codes "{\"uuid\":\"e0\"}") []

abbrev leave_while_running_m1 : Message
leave_while_running_m1 = message [] (codes "{\"msg_id\":\"a\",\"msg_type\":\"execute_request\"}") (codes "{}") (codes "{\"retries\":0}") (codes "{\"code\":\"6*7\"}") []

abbrev leave_while_running_m2 : Message
leave_while_running_m2 = message [] (codes "{\"msg_id\":\"leave-1\",\"msg_type\":\"unregistration_request\"}") (codes "{}") (codes "{}") (codes "{}") []

abbrev leave_while_running_m3 : Message
leave_while_running_m3 = message [] (codes "{\"msg_id\":\"out-1\",\"session\":\"controller\",\"username\":\"controller\",\"date\":\"1970-01-01T00:00:00.000Z\",\"msg_type\":\"execute_reply\",\"version\":\"5.3\"}") (codes "{\"msg_id\":\"a\",\"msg_type\":\"execute_request\"}") (codes "{}") (codes "{\"status\":\"error\",\"ename\":\"EngineError\",\"evalue\":\"engine 0 was lost while it ran this task\",\"traceback\":[]}") []

-- an engine leaves while a task without retries runs on it
abbrev pub leave_while_running : List Line
leave_while_running =
    line (Input (Open 0 LeastLoad 1 10)) None true []
    ∷ line (Input (Up 1 Engine 0 0 (codes "e"))) None true []
    ∷ line (Input (In 1 0 0 leave_while_running_m0)) (Some (Join (codes "e0"))) true (Made 1 0 (codes "hub-1-2") (codes "registration_reply") (codes "{\"msg_id\":\"join-e0\",\"msg_type\":\"registration_request\"}") (codes "{\"status\":\"ok\",\"id\":0}") [] ∷ [])
    ∷ line (Input (Up 2 Task 0 0 (codes "c"))) None true []
    ∷ line (Input (In 2 0 0 leave_while_running_m1)) (Some (Submit (submission (codes "a") (codes "execute_request") [] [] no_dependency no_dependency [] 0 0))) true []
    ∷ decision (Hand (codes "a") 0) (Pass 1 leave_while_running_m1 ∷ [])
    ∷ line (Input (In 1 0 0 leave_while_running_m2)) (Some (Leave)) true (Made 1 0 (codes "hub-1-6") (codes "unregistration_reply") (codes "{\"msg_id\":\"leave-1\",\"msg_type\":\"unregistration_request\"}") (codes "{\"status\":\"ok\"}") [] ∷ [])
    ∷ decision (Settle (codes "a") Failed EngineError) (Pass 2 leave_while_running_m3 ∷ [])
    ∷ []

pub leave_while_running_is_told : IsTold leave_while_running
unfolding digits escape_byte reserved_front next_word answer_id beat_id beat_request outcome_id resubmit_id header_text reply_type submit_refused empty_object ok_content join_content beat_content error_content outcome_content resubmit_content connection_content history_content queue_member queue_content settled_member result_content engine_lost_text date_of day_text time_text date_digits civil_date from_year from_month encode_with serde_json_on_literals is_utf8 chars event_of read_header is_request is_reply is_leave read_submit whole_timeouts ends_in_name is_db request_of read_content read_task read_declined read_status
leave_while_running_is_told = record { goes = refl; reads = refl; rests = refl }

pub leave_while_running_legal : Legal (goes_on [] leave_while_running)
leave_while_running_legal = told_legal leave_while_running leave_while_running_is_told

abbrev queue_and_pending_result_m0 : Message
queue_and_pending_result_m0 = message [] (codes "{\"msg_id\":\"join-e0\",\"msg_type\":\"registration_request\"}") (codes "{}") (codes "{}") (codes "{\"uuid\":\"e0\"}") []

abbrev queue_and_pending_result_m1 : Message
queue_and_pending_result_m1 = message [] (codes "{\"msg_id\":\"ask\",\"msg_type\":\"queue_request\"}") (codes "{}") (codes "{}") (codes "{\"targets\":[7]}") []

abbrev queue_and_pending_result_m2 : Message
queue_and_pending_result_m2 = message [] (codes "{\"msg_id\":\"a\",\"msg_type\":\"execute_request\"}") (codes "{}") (codes "{}") (codes "{\"code\":\"6*7\"}") []

abbrev queue_and_pending_result_m3 : Message
queue_and_pending_result_m3 = message [] (codes "{\"msg_id\":\"ask\",\"msg_type\":\"result_request\"}") (codes "{}") (codes "{}") (codes "{\"msg_ids\":[\"a\"]}") []

-- a queue request for an engine that isn't live, and a result request for a pending id
abbrev pub queue_and_pending_result : List Line
queue_and_pending_result =
    line (Input (Open 0 LeastLoad 1 10)) None true []
    ∷ line (Input (Up 1 Engine 0 0 (codes "e"))) None true []
    ∷ line (Input (In 1 0 0 queue_and_pending_result_m0)) (Some (Join (codes "e0"))) true (Made 1 0 (codes "hub-1-2") (codes "registration_reply") (codes "{\"msg_id\":\"join-e0\",\"msg_type\":\"registration_request\"}") (codes "{\"status\":\"ok\",\"id\":0}") [] ∷ [])
    ∷ line (Input (Up 2 Task 0 0 (codes "c"))) None true []
    ∷ line (Input (Up 4 Hub 0 0 (codes "h"))) None true []
    ∷ line (Input (In 4 0 0 queue_and_pending_result_m1)) (Some (Ask (Queue (7 ∷ []) false))) false (Made 4 0 (codes "hub-1-5") (codes "queue_reply") (codes "{\"msg_id\":\"ask\",\"msg_type\":\"queue_request\"}") (codes "{\"status\":\"error\",\"ename\":\"NoSuchEngine\",\"evalue\":\"7\",\"traceback\":[],\"ids\":[]}") [] ∷ [])
    ∷ line (Input (In 2 0 0 queue_and_pending_result_m2)) (Some (Submit (submission (codes "a") (codes "execute_request") [] [] no_dependency no_dependency [] 0 0))) true []
    ∷ decision (Hand (codes "a") 0) (Pass 1 queue_and_pending_result_m2 ∷ [])
    ∷ line (Input (In 4 0 0 queue_and_pending_result_m3)) (Some (Ask (Result ((codes "a") ∷ []) false))) false (Made 4 0 (codes "hub-1-8") (codes "result_reply") (codes "{\"msg_id\":\"ask\",\"msg_type\":\"result_request\"}") (codes "{\"status\":\"ok\",\"pending\":[\"a\"],\"completed\":[],\"results\":{}}") [] ∷ [])
    ∷ []

pub queue_and_pending_result_is_told : IsTold queue_and_pending_result
unfolding digits escape_byte reserved_front next_word answer_id beat_id beat_request outcome_id resubmit_id header_text reply_type submit_refused empty_object ok_content join_content beat_content error_content outcome_content resubmit_content connection_content history_content queue_member queue_content settled_member result_content engine_lost_text date_of day_text time_text date_digits civil_date from_year from_month encode_with serde_json_on_literals is_utf8 chars event_of read_header is_request is_reply is_leave read_submit whole_timeouts ends_in_name is_db request_of read_content read_task read_declined read_status
queue_and_pending_result_is_told = record { goes = refl; reads = refl; rests = refl }

pub queue_and_pending_result_legal : Legal (goes_on [] queue_and_pending_result)
queue_and_pending_result_legal = told_legal queue_and_pending_result queue_and_pending_result_is_told

abbrev resubmit_refused_in_order_m0 : Message
resubmit_refused_in_order_m0 = message [] (codes "{\"msg_id\":\"join-e0\",\"msg_type\":\"registration_request\"}") (codes "{}") (codes "{}") (codes "{\"uuid\":\"e0\"}") []

abbrev resubmit_refused_in_order_m1 : Message
resubmit_refused_in_order_m1 = message [] (codes "{\"msg_id\":\"a\",\"msg_type\":\"execute_request\"}") (codes "{}") (codes "{}") (codes "{\"code\":\"6*7\"}") []

abbrev resubmit_refused_in_order_m2 : Message
resubmit_refused_in_order_m2 = message [] (codes "{\"msg_id\":\"r1\",\"msg_type\":\"execute_reply\"}") (codes "{\"msg_id\":\"a\"}") (codes "{}") (codes "{\"status\":\"ok\",\"result\":\"42\"}") []

abbrev resubmit_refused_in_order_m3 : Message
resubmit_refused_in_order_m3 = message [] (codes "{\"msg_id\":\"c\",\"msg_type\":\"execute_request\"}") (codes "{}") (codes "{}") (codes "{\"code\":\"6*7\"}") []

abbrev resubmit_refused_in_order_m4 : Message
resubmit_refused_in_order_m4 = message [] (codes "{\"msg_id\":\"r2\",\"msg_type\":\"execute_reply\"}") (codes "{\"msg_id\":\"c\"}") (codes "{}") (codes "{\"status\":\"ok\"}") []

abbrev resubmit_refused_in_order_m5 : Message
resubmit_refused_in_order_m5 = message [] (codes "{\"msg_id\":\"b\",\"msg_type\":\"execute_request\"}") (codes "{}") (codes "{}") (codes "{\"code\":\"6*7\"}") []

abbrev resubmit_refused_in_order_m6 : Message
resubmit_refused_in_order_m6 = message [] (codes "{\"msg_id\":\"ask\",\"msg_type\":\"purge_request\"}") (codes "{}") (codes "{}") (codes "{\"msg_ids\":[\"c\"]}") []

abbrev resubmit_refused_in_order_m7 : Message
resubmit_refused_in_order_m7 = message [] (codes "{\"msg_id\":\"ask\",\"msg_type\":\"resubmit_request\"}") (codes "{}") (codes "{}") (codes "{\"msg_ids\":[\"z\",\"c\"]}") []

abbrev resubmit_refused_in_order_m8 : Message
resubmit_refused_in_order_m8 = message [] (codes "{\"msg_id\":\"ask\",\"msg_type\":\"resubmit_request\"}") (codes "{}") (codes "{}") (codes "{\"msg_ids\":[\"c\",\"b\"]}") []

abbrev resubmit_refused_in_order_m9 : Message
resubmit_refused_in_order_m9 = message [] (codes "{\"msg_id\":\"ask\",\"msg_type\":\"resubmit_request\"}") (codes "{}") (codes "{}") (codes "{\"msg_ids\":[\"b\"]}") []

-- the refusals of a resubmission, in their order
abbrev pub resubmit_refused_in_order : List Line
resubmit_refused_in_order =
    line (Input (Open 0 LeastLoad 1 10)) None true []
    ∷ line (Input (Up 1 Engine 0 0 (codes "e"))) None true []
    ∷ line (Input (In 1 0 0 resubmit_refused_in_order_m0)) (Some (Join (codes "e0"))) true (Made 1 0 (codes "hub-1-2") (codes "registration_reply") (codes "{\"msg_id\":\"join-e0\",\"msg_type\":\"registration_request\"}") (codes "{\"status\":\"ok\",\"id\":0}") [] ∷ [])
    ∷ line (Input (Up 2 Task 0 0 (codes "c"))) None true []
    ∷ line (Input (In 2 0 0 resubmit_refused_in_order_m1)) (Some (Submit (submission (codes "a") (codes "execute_request") [] [] no_dependency no_dependency [] 0 0))) true []
    ∷ decision (Hand (codes "a") 0) (Pass 1 resubmit_refused_in_order_m1 ∷ [])
    ∷ line (Input (In 1 0 0 resubmit_refused_in_order_m2)) (Some (Reply (codes "a") (codes "r1") true false)) true []
    ∷ decision (Settle (codes "a") Completed ByReply) (Pass 2 resubmit_refused_in_order_m2 ∷ [])
    ∷ line (Input (In 2 0 0 resubmit_refused_in_order_m3)) (Some (Submit (submission (codes "c") (codes "execute_request") [] [] no_dependency no_dependency [] 0 0))) true []
    ∷ decision (Hand (codes "c") 0) (Pass 1 resubmit_refused_in_order_m3 ∷ [])
    ∷ line (Input (In 1 0 0 resubmit_refused_in_order_m4)) (Some (Reply (codes "c") (codes "r2") true false)) true []
    ∷ decision (Settle (codes "c") Completed ByReply) (Pass 2 resubmit_refused_in_order_m4 ∷ [])
    ∷ line (Input (In 2 0 0 resubmit_refused_in_order_m5)) (Some (Submit (submission (codes "b") (codes "execute_request") [] [] no_dependency no_dependency [] 0 0))) true []
    ∷ decision (Hand (codes "b") 0) (Pass 1 resubmit_refused_in_order_m5 ∷ [])
    ∷ line (Input (Up 4 Hub 0 0 (codes "h"))) None true []
    ∷ line (Input (In 4 0 0 resubmit_refused_in_order_m6)) (Some (Purge false ((codes "c") ∷ []))) true (Made 4 0 (codes "hub-1-15") (codes "purge_reply") (codes "{\"msg_id\":\"ask\",\"msg_type\":\"purge_request\"}") (codes "{\"status\":\"ok\"}") [] ∷ [])
    ∷ line (Input (In 4 0 0 resubmit_refused_in_order_m7)) (Some (Resubmit ((codes "z") ∷ (codes "c") ∷ []))) false (Made 4 0 (codes "hub-1-16") (codes "resubmit_reply") (codes "{\"msg_id\":\"ask\",\"msg_type\":\"resubmit_request\"}") (codes "{\"status\":\"error\",\"ename\":\"UnknownIds\",\"evalue\":\"\",\"traceback\":[],\"ids\":[\"z\"]}") [] ∷ [])
    ∷ line (Input (In 4 0 0 resubmit_refused_in_order_m8)) (Some (Resubmit ((codes "c") ∷ (codes "b") ∷ []))) false (Made 4 0 (codes "hub-1-17") (codes "resubmit_reply") (codes "{\"msg_id\":\"ask\",\"msg_type\":\"resubmit_request\"}") (codes "{\"status\":\"error\",\"ename\":\"Purged\",\"evalue\":\"\",\"traceback\":[],\"ids\":[\"c\"]}") [] ∷ [])
    ∷ line (Input (In 4 0 0 resubmit_refused_in_order_m9)) (Some (Resubmit ((codes "b") ∷ []))) false (Made 4 0 (codes "hub-1-18") (codes "resubmit_reply") (codes "{\"msg_id\":\"ask\",\"msg_type\":\"resubmit_request\"}") (codes "{\"status\":\"error\",\"ename\":\"Inflight\",\"evalue\":\"\",\"traceback\":[],\"ids\":[\"b\"]}") [] ∷ [])
    ∷ []

pub resubmit_refused_in_order_is_told : IsTold resubmit_refused_in_order
unfolding digits escape_byte reserved_front next_word answer_id beat_id beat_request outcome_id resubmit_id header_text reply_type submit_refused empty_object ok_content join_content beat_content error_content outcome_content resubmit_content connection_content history_content queue_member queue_content settled_member result_content engine_lost_text date_of day_text time_text date_digits civil_date from_year from_month encode_with serde_json_on_literals is_utf8 chars event_of read_header is_request is_reply is_leave read_submit whole_timeouts ends_in_name is_db request_of read_content read_task read_declined read_status
resubmit_refused_in_order_is_told = record { goes = refl; reads = refl; rests = refl }

pub resubmit_refused_in_order_legal : Legal (goes_on [] resubmit_refused_in_order)
resubmit_refused_in_order_legal = told_legal resubmit_refused_in_order resubmit_refused_in_order_is_told

abbrev resubmit_to_target_m0 : Message
resubmit_to_target_m0 = message [] (codes "{\"msg_id\":\"join-e0\",\"msg_type\":\"registration_request\"}") (codes "{}") (codes "{}") (codes "{\"uuid\":\"e0\"}") []

abbrev resubmit_to_target_m1 : Message
resubmit_to_target_m1 = message [] (codes "{\"msg_id\":\"a\",\"msg_type\":\"execute_request\"}") (codes "{}") (codes "{\"targets\":[\"e0\"]}") (codes "{\"code\":\"6*7\"}") []

abbrev resubmit_to_target_m2 : Message
resubmit_to_target_m2 = message [] (codes "{\"msg_id\":\"r1\",\"msg_type\":\"execute_reply\"}") (codes "{\"msg_id\":\"a\"}") (codes "{}") (codes "{\"status\":\"ok\"}") []

abbrev resubmit_to_target_m3 : Message
resubmit_to_target_m3 = message [] (codes "{\"msg_id\":\"join-e1\",\"msg_type\":\"registration_request\"}") (codes "{}") (codes "{}") (codes "{\"uuid\":\"e1\"}") []

abbrev resubmit_to_target_m4 : Message
resubmit_to_target_m4 = message [] (codes "{\"msg_id\":\"again\",\"msg_type\":\"registration_request\"}") (codes "{}") (codes "{}") (codes "{\"uuid\":\"e0\"}") []

abbrev resubmit_to_target_m5 : Message
resubmit_to_target_m5 = message [] (codes "{\"msg_id\":\"ask\",\"msg_type\":\"resubmit_request\"}") (codes "{}") (codes "{}") (codes "{\"msg_ids\":[\"a\"]}") []

abbrev resubmit_to_target_m6 : Message
resubmit_to_target_m6 = message [] (codes "{\"msg_id\":\"resubmit:2\",\"session\":\"\",\"username\":\"\",\"date\":\"1970-01-01T00:00:00.000Z\",\"msg_type\":\"execute_request\",\"version\":\"5.3\"}") (codes "{}") (codes "{\"targets\":[\"e0\"]}") (codes "{\"code\":\"6*7\"}") []

-- a resubmitted task goes to the engine that has its target's uuid now
abbrev pub resubmit_to_target : List Line
resubmit_to_target =
    line (Input (Open 0 LeastLoad 1 10)) None true []
    ∷ line (Input (Up 1 Engine 0 0 (codes "e"))) None true []
    ∷ line (Input (In 1 0 0 resubmit_to_target_m0)) (Some (Join (codes "e0"))) true (Made 1 0 (codes "hub-1-2") (codes "registration_reply") (codes "{\"msg_id\":\"join-e0\",\"msg_type\":\"registration_request\"}") (codes "{\"status\":\"ok\",\"id\":0}") [] ∷ [])
    ∷ line (Input (Up 2 Task 0 0 (codes "c"))) None true []
    ∷ line (Input (In 2 0 0 resubmit_to_target_m1)) (Some (Submit (submission (codes "a") (codes "execute_request") [] [] no_dependency no_dependency ((codes "e0") ∷ []) 0 0))) true []
    ∷ decision (Hand (codes "a") 0) (Pass 1 resubmit_to_target_m1 ∷ [])
    ∷ line (Input (In 1 0 0 resubmit_to_target_m2)) (Some (Reply (codes "a") (codes "r1") true false)) true []
    ∷ decision (Settle (codes "a") Completed ByReply) (Pass 2 resubmit_to_target_m2 ∷ [])
    ∷ line (Input (Down 1 0 0)) None true []
    ∷ line (Input (Up 3 Engine 0 0 (codes "f"))) None true []
    ∷ line (Input (In 3 0 0 resubmit_to_target_m3)) (Some (Join (codes "e1"))) true (Made 3 0 (codes "hub-1-10") (codes "registration_reply") (codes "{\"msg_id\":\"join-e1\",\"msg_type\":\"registration_request\"}") (codes "{\"status\":\"ok\",\"id\":1}") [] ∷ [])
    ∷ line (Input (Up 5 Engine 0 0 (codes "e"))) None true []
    ∷ line (Input (In 5 0 0 resubmit_to_target_m4)) (Some (Join (codes "e0"))) true (Made 5 0 (codes "hub-1-12") (codes "registration_reply") (codes "{\"msg_id\":\"again\",\"msg_type\":\"registration_request\"}") (codes "{\"status\":\"ok\",\"id\":2}") [] ∷ [])
    ∷ line (Input (Up 6 Hub 0 0 (codes "h"))) None true []
    ∷ line (Input (In 6 0 0 resubmit_to_target_m5)) (Some (Resubmit ((codes "a") ∷ []))) true (Made 6 0 (codes "hub-1-14") (codes "resubmit_reply") (codes "{\"msg_id\":\"ask\",\"msg_type\":\"resubmit_request\"}") (codes "{\"status\":\"ok\",\"resubmitted\":{\"a\":\"resubmit:2\"}}") [] ∷ [])
    ∷ decision (Hand (codes "resubmit:2") 2) (Pass 5 resubmit_to_target_m6 ∷ [])
    ∷ []

pub resubmit_to_target_is_told : IsTold resubmit_to_target
unfolding digits escape_byte reserved_front next_word answer_id beat_id beat_request outcome_id resubmit_id header_text reply_type submit_refused empty_object ok_content join_content beat_content error_content outcome_content resubmit_content connection_content history_content queue_member queue_content settled_member result_content engine_lost_text date_of day_text time_text date_digits civil_date from_year from_month encode_with serde_json_on_literals is_utf8 chars event_of read_header is_request is_reply is_leave read_submit whole_timeouts ends_in_name is_db request_of read_content read_task read_declined read_status
resubmit_to_target_is_told = record { goes = refl; reads = refl; rests = refl }

pub resubmit_to_target_legal : Legal (goes_on [] resubmit_to_target)
resubmit_to_target_legal = told_legal resubmit_to_target resubmit_to_target_is_told

abbrev resubmit_direct_m0 : Message
resubmit_direct_m0 = message [] (codes "{\"msg_id\":\"join-e0\",\"msg_type\":\"registration_request\"}") (codes "{}") (codes "{}") (codes "{\"uuid\":\"e0\"}") []

abbrev resubmit_direct_m1 : Message
resubmit_direct_m1 = message (codes "e0") (codes "{\"msg_id\":\"d\",\"msg_type\":\"execute_request\"}") (codes "{}") (codes "{}") (codes "{\"code\":\"6*7\"}") []

abbrev resubmit_direct_m2 : Message
resubmit_direct_m2 = message [] (codes "{\"msg_id\":\"d\",\"msg_type\":\"execute_request\"}") (codes "{}") (codes "{}") (codes "{\"code\":\"6*7\"}") []

abbrev resubmit_direct_m3 : Message
resubmit_direct_m3 = message [] (codes "{\"msg_id\":\"out-1\",\"session\":\"controller\",\"username\":\"controller\",\"date\":\"1970-01-01T00:00:00.000Z\",\"msg_type\":\"execute_reply\",\"version\":\"5.3\"}") (codes "{\"msg_id\":\"d\",\"msg_type\":\"execute_request\"}") (codes "{}") (codes "{\"status\":\"error\",\"ename\":\"EngineError\",\"evalue\":\"engine 0 was lost while it ran this task\",\"traceback\":[]}") []

abbrev resubmit_direct_m4 : Message
resubmit_direct_m4 = message [] (codes "{\"msg_id\":\"join-e7\",\"msg_type\":\"registration_request\"}") (codes "{}") (codes "{}") (codes "{\"uuid\":\"e7\"}") []

abbrev resubmit_direct_m5 : Message
resubmit_direct_m5 = message [] (codes "{\"msg_id\":\"ask\",\"msg_type\":\"resubmit_request\"}") (codes "{}") (codes "{}") (codes "{\"msg_ids\":[\"d\"]}") []

abbrev resubmit_direct_m6 : Message
resubmit_direct_m6 = message [] (codes "{\"msg_id\":\"resubmit:2\",\"session\":\"\",\"username\":\"\",\"date\":\"1970-01-01T00:00:00.000Z\",\"msg_type\":\"execute_request\",\"version\":\"5.3\"}") (codes "{}") (codes "{}") (codes "{\"code\":\"6*7\"}") []

-- a resubmitted direct request may run anywhere
abbrev pub resubmit_direct : List Line
resubmit_direct =
    line (Input (Open 0 LeastLoad 1 10)) None true []
    ∷ line (Input (Up 1 Engine 0 0 (codes "e"))) None true []
    ∷ line (Input (In 1 0 0 resubmit_direct_m0)) (Some (Join (codes "e0"))) true (Made 1 0 (codes "hub-1-2") (codes "registration_reply") (codes "{\"msg_id\":\"join-e0\",\"msg_type\":\"registration_request\"}") (codes "{\"status\":\"ok\",\"id\":0}") [] ∷ [])
    ∷ line (Input (Up 2 Task 0 0 (codes "c"))) None true []
    ∷ line (Input (Up 4 Mux 0 0 (codes "m"))) None true []
    ∷ line (Input (Up 5 Hub 0 0 (codes "h"))) None true []
    ∷ line (Input (In 4 0 0 resubmit_direct_m1)) (Some (Direct (submission (codes "d") (codes "execute_request") [] [] no_dependency no_dependency [] 0 0))) true []
    ∷ decision (Hand (codes "d") 0) (Pass 1 resubmit_direct_m2 ∷ [])
    ∷ line (Input (Down 1 0 0)) None true []
    ∷ decision (Settle (codes "d") Failed EngineError) (Pass 4 resubmit_direct_m3 ∷ [])
    ∷ line (Input (Up 6 Engine 0 0 (codes "f"))) None true []
    ∷ line (Input (In 6 0 0 resubmit_direct_m4)) (Some (Join (codes "e7"))) true (Made 6 0 (codes "hub-1-11") (codes "registration_reply") (codes "{\"msg_id\":\"join-e7\",\"msg_type\":\"registration_request\"}") (codes "{\"status\":\"ok\",\"id\":1}") [] ∷ [])
    ∷ line (Input (In 5 0 0 resubmit_direct_m5)) (Some (Resubmit ((codes "d") ∷ []))) true (Made 5 0 (codes "hub-1-12") (codes "resubmit_reply") (codes "{\"msg_id\":\"ask\",\"msg_type\":\"resubmit_request\"}") (codes "{\"status\":\"ok\",\"resubmitted\":{\"d\":\"resubmit:2\"}}") [] ∷ [])
    ∷ decision (Hand (codes "resubmit:2") 1) (Pass 6 resubmit_direct_m6 ∷ [])
    ∷ []

pub resubmit_direct_is_told : IsTold resubmit_direct
unfolding digits escape_byte reserved_front next_word answer_id beat_id beat_request outcome_id resubmit_id header_text reply_type submit_refused empty_object ok_content join_content beat_content error_content outcome_content resubmit_content connection_content history_content queue_member queue_content settled_member result_content engine_lost_text date_of day_text time_text date_digits civil_date from_year from_month encode_with serde_json_on_literals is_utf8 chars event_of read_header is_request is_reply is_leave read_submit whole_timeouts ends_in_name is_db request_of read_content read_task read_declined read_status
resubmit_direct_is_told = record { goes = refl; reads = refl; rests = refl }

pub resubmit_direct_legal : Legal (goes_on [] resubmit_direct)
resubmit_direct_legal = told_legal resubmit_direct resubmit_direct_is_told

abbrev queue_after_purge_m0 : Message
queue_after_purge_m0 = message [] (codes "{\"msg_id\":\"join-e0\",\"msg_type\":\"registration_request\"}") (codes "{}") (codes "{}") (codes "{\"uuid\":\"e0\"}") []

abbrev queue_after_purge_m1 : Message
queue_after_purge_m1 = message [] (codes "{\"msg_id\":\"a\",\"msg_type\":\"execute_request\"}") (codes "{}") (codes "{}") (codes "{\"code\":\"6*7\"}") []

abbrev queue_after_purge_m2 : Message
queue_after_purge_m2 = message [] (codes "{\"msg_id\":\"r1\",\"msg_type\":\"execute_reply\"}") (codes "{\"msg_id\":\"a\"}") (codes "{}") (codes "{\"status\":\"ok\",\"result\":\"42\"}") []

abbrev queue_after_purge_m3 : Message
queue_after_purge_m3 = message [] (codes "{\"msg_id\":\"b\",\"msg_type\":\"execute_request\"}") (codes "{}") (codes "{}") (codes "{\"code\":\"6*7\"}") []

abbrev queue_after_purge_m4 : Message
queue_after_purge_m4 = message [] (codes "{\"msg_id\":\"r2\",\"msg_type\":\"execute_reply\"}") (codes "{\"msg_id\":\"b\"}") (codes "{}") (codes "{\"status\":\"ok\"}") []

abbrev queue_after_purge_m5 : Message
queue_after_purge_m5 = message [] (codes "{\"msg_id\":\"ask\",\"msg_type\":\"purge_request\"}") (codes "{}") (codes "{}") (codes "{\"msg_ids\":[\"a\"]}") []

abbrev queue_after_purge_m6 : Message
queue_after_purge_m6 = message [] (codes "{\"msg_id\":\"ask\",\"msg_type\":\"queue_request\"}") (codes "{}") (codes "{}") (codes "{\"verbose\":true}") []

-- what is purged isn't listed as completed
abbrev pub queue_after_purge : List Line
queue_after_purge =
    line (Input (Open 0 LeastLoad 1 10)) None true []
    ∷ line (Input (Up 1 Engine 0 0 (codes "e"))) None true []
    ∷ line (Input (In 1 0 0 queue_after_purge_m0)) (Some (Join (codes "e0"))) true (Made 1 0 (codes "hub-1-2") (codes "registration_reply") (codes "{\"msg_id\":\"join-e0\",\"msg_type\":\"registration_request\"}") (codes "{\"status\":\"ok\",\"id\":0}") [] ∷ [])
    ∷ line (Input (Up 2 Task 0 0 (codes "c"))) None true []
    ∷ line (Input (In 2 0 0 queue_after_purge_m1)) (Some (Submit (submission (codes "a") (codes "execute_request") [] [] no_dependency no_dependency [] 0 0))) true []
    ∷ decision (Hand (codes "a") 0) (Pass 1 queue_after_purge_m1 ∷ [])
    ∷ line (Input (In 1 0 0 queue_after_purge_m2)) (Some (Reply (codes "a") (codes "r1") true false)) true []
    ∷ decision (Settle (codes "a") Completed ByReply) (Pass 2 queue_after_purge_m2 ∷ [])
    ∷ line (Input (In 2 0 0 queue_after_purge_m3)) (Some (Submit (submission (codes "b") (codes "execute_request") [] [] no_dependency no_dependency [] 0 0))) true []
    ∷ decision (Hand (codes "b") 0) (Pass 1 queue_after_purge_m3 ∷ [])
    ∷ line (Input (In 1 0 0 queue_after_purge_m4)) (Some (Reply (codes "b") (codes "r2") true false)) true []
    ∷ decision (Settle (codes "b") Completed ByReply) (Pass 2 queue_after_purge_m4 ∷ [])
    ∷ line (Input (Up 4 Hub 0 0 (codes "h"))) None true []
    ∷ line (Input (In 4 0 0 queue_after_purge_m5)) (Some (Purge false ((codes "a") ∷ []))) true (Made 4 0 (codes "hub-1-13") (codes "purge_reply") (codes "{\"msg_id\":\"ask\",\"msg_type\":\"purge_request\"}") (codes "{\"status\":\"ok\"}") [] ∷ [])
    ∷ line (Input (In 4 0 0 queue_after_purge_m6)) (Some (Ask (Queue [] true))) false (Made 4 0 (codes "hub-1-14") (codes "queue_reply") (codes "{\"msg_id\":\"ask\",\"msg_type\":\"queue_request\"}") (codes "{\"status\":\"ok\",\"unassigned\":[],\"0\":{\"queue\":[],\"completed\":[\"b\"],\"tasks\":[]}}") [] ∷ [])
    ∷ []

pub queue_after_purge_is_told : IsTold queue_after_purge
unfolding digits escape_byte reserved_front next_word answer_id beat_id beat_request outcome_id resubmit_id header_text reply_type submit_refused empty_object ok_content join_content beat_content error_content outcome_content resubmit_content connection_content history_content queue_member queue_content settled_member result_content engine_lost_text date_of day_text time_text date_digits civil_date from_year from_month encode_with serde_json_on_literals is_utf8 chars event_of read_header is_request is_reply is_leave read_submit whole_timeouts ends_in_name is_db request_of read_content read_task read_declined read_status
queue_after_purge_is_told = record { goes = refl; reads = refl; rests = refl }

pub queue_after_purge_legal : Legal (goes_on [] queue_after_purge)
queue_after_purge_legal = told_legal queue_after_purge queue_after_purge_is_told

abbrev purge_unknown_first_m0 : Message
purge_unknown_first_m0 = message [] (codes "{\"msg_id\":\"join-e0\",\"msg_type\":\"registration_request\"}") (codes "{}") (codes "{}") (codes "{\"uuid\":\"e0\"}") []

abbrev purge_unknown_first_m1 : Message
purge_unknown_first_m1 = message [] (codes "{\"msg_id\":\"a\",\"msg_type\":\"execute_request\"}") (codes "{}") (codes "{}") (codes "{\"code\":\"6*7\"}") []

abbrev purge_unknown_first_m2 : Message
purge_unknown_first_m2 = message [] (codes "{\"msg_id\":\"ask\",\"msg_type\":\"purge_request\"}") (codes "{}") (codes "{}") (codes "{\"msg_ids\":[\"a\",\"z\"]}") []

-- of an unknown and a running id the unknown one is named
abbrev pub purge_unknown_first : List Line
purge_unknown_first =
    line (Input (Open 0 LeastLoad 1 10)) None true []
    ∷ line (Input (Up 1 Engine 0 0 (codes "e"))) None true []
    ∷ line (Input (In 1 0 0 purge_unknown_first_m0)) (Some (Join (codes "e0"))) true (Made 1 0 (codes "hub-1-2") (codes "registration_reply") (codes "{\"msg_id\":\"join-e0\",\"msg_type\":\"registration_request\"}") (codes "{\"status\":\"ok\",\"id\":0}") [] ∷ [])
    ∷ line (Input (Up 2 Task 0 0 (codes "c"))) None true []
    ∷ line (Input (In 2 0 0 purge_unknown_first_m1)) (Some (Submit (submission (codes "a") (codes "execute_request") [] [] no_dependency no_dependency [] 0 0))) true []
    ∷ decision (Hand (codes "a") 0) (Pass 1 purge_unknown_first_m1 ∷ [])
    ∷ line (Input (Up 4 Hub 0 0 (codes "h"))) None true []
    ∷ line (Input (In 4 0 0 purge_unknown_first_m2)) (Some (Purge false ((codes "a") ∷ (codes "z") ∷ []))) false (Made 4 0 (codes "hub-1-7") (codes "purge_reply") (codes "{\"msg_id\":\"ask\",\"msg_type\":\"purge_request\"}") (codes "{\"status\":\"error\",\"ename\":\"UnknownIds\",\"evalue\":\"\",\"traceback\":[],\"ids\":[\"z\"]}") [] ∷ [])
    ∷ []

pub purge_unknown_first_is_told : IsTold purge_unknown_first
unfolding digits escape_byte reserved_front next_word answer_id beat_id beat_request outcome_id resubmit_id header_text reply_type submit_refused empty_object ok_content join_content beat_content error_content outcome_content resubmit_content connection_content history_content queue_member queue_content settled_member result_content engine_lost_text date_of day_text time_text date_digits civil_date from_year from_month encode_with serde_json_on_literals is_utf8 chars event_of read_header is_request is_reply is_leave read_submit whole_timeouts ends_in_name is_db request_of read_content read_task read_declined read_status
purge_unknown_first_is_told = record { goes = refl; reads = refl; rests = refl }

pub purge_unknown_first_legal : Legal (goes_on [] purge_unknown_first)
purge_unknown_first_legal = told_legal purge_unknown_first purge_unknown_first_is_told
