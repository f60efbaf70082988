-- Short histories that a second, independent model of the cluster drew at random, with what it says of each entry. Nothing rests on them.
use Rattle.std.proofs.Common.{List, [], ◌∷◌, Some, None, true, false, refl}
use Rattle.std.specs.Prelude.{codes}
use Rattle.std.specs.Fmt.{digits}
use Rattle.std.specs.Str.{is_utf8, chars}
use Rattle.json.specs.Print.{escape_byte}
use Rattle.serde_json.proofs.OnLiterals.{serde_json_on_literals}
use Rattle.hex.specs.Hex.{encode_with}
use Rattle.edges.specs.Date.{date_of, day_text, time_text, digits as date_digits, civil_date, from_year, from_month}
use Rattle.cluster_types.specs.Verdicts.{engine_lost_text}
use Rattle.cluster_types.specs.declared.config.Channel.TheVariants.{Hub, Task, Mux, Engine}
use Rattle.cluster_types.specs.declared.config.Scheme.TheVariants.{Lru, PlainRandom, TwoBin}
use Rattle.cluster_types.specs.declared.verdict.Verdict.TheVariants.{Completed, Failed}
use Rattle.cluster_types.specs.declared.verdict.Cause.TheVariants.{Reply as ByReply, EngineError, ImpossibleDependency}
use Rattle.cluster_types.specs.declared.message.Message.{Message}
use Rattle.cluster_types.specs.declared.event.Event.TheVariants.{Submit, Direct, Reply, Join, Leave, Pong, Purge, Resubmit, Ask}
use Rattle.cluster_types.specs.declared.event.Query.TheVariants.{Connection, Queue, Result, History, Bad}
use Rattle.cluster_types.specs.declared.out.Out.TheVariants.{Pass, Made}
use Rattle.cluster_types.specs.declared.entry.Input.TheVariants.{Open, Up, In, Beat, Time}
use Rattle.cluster_types.specs.declared.entry.Entry.TheVariants.{Input, Hand, Settle, Lose}
use Rattle.cluster_defs.specs.Event.{event_of, is_db, is_request, is_reply, is_leave}
use Rattle.cluster_defs.specs.Points.{whole_timeouts, ends_in_name}
use Rattle.cluster_defs.specs.Submit.{read_submit}
use Rattle.cluster_defs.specs.Reply.{read_task, read_declined, read_status}
use Rattle.cluster_defs.specs.Hub.{request_of, read_content}
use Rattle.cluster_defs.specs.Header.{read_header}
use Rattle.cluster_defs.specs.Texts.{answer_id, beat_id, beat_request, outcome_id, resubmit_id, header_text, reply_type, submit_refused, empty_object, ok_content, join_content, beat_content, error_content, outcome_content, resubmit_content, connection_content, history_content, queue_member, queue_content, settled_member, result_content}
use Rattle.cluster_defs.specs.Acceptance.{no_dependency, reserved_front}
use Rattle.cluster_types.specs.Chance.{next_word}
use Rattle.cluster_defs.specs.Histories.{Legal}
use Rattle.worked_rows.proofs.Told.{Line, line, decision, message, dep, submission, IsTold, goes_on, told_legal}

abbrev drawn_13_m0 : Message
drawn_13_m0 = message [] (codes "{\"msg_id\":\"j1\",\"msg_type\":\"registration_request\"}") (codes "{}") (codes "{}") (codes "{\"uuid\":\"e4\"}") []

abbrev drawn_13_m1 : Message
drawn_13_m1 = message [] (codes "{\"msg_id\":\"t3\",\"msg_type\":\"apply_request\",\"session\":\"s\",\"username\":\"u\"}") (codes "{}") (codes "{}") (codes "{\"code\":\"2+2\"}") ((codes "buf") ∷ (codes "buf") ∷ [])

abbrev drawn_13_m2 : Message
drawn_13_m2 = message [] (codes "{\"msg_id\":\"r4\",\"msg_type\":\"apply_reply\"}") (codes "{\"msg_id\":\"t3\",\"x\":1}") (codes "{\"dependencies_met\":true}") (codes "{\"status\":\"ok\",\"result\":\"42\"}") []

abbrev drawn_13_m3 : Message
drawn_13_m3 = message [] (codes "{\"msg_id\":\"q6\",\"msg_type\":\"result_request\"}") (codes "{}") (codes "{}") (codes "{\"msg_ids\":[\"t3\"],\"status_only\":false}") []

abbrev drawn_13_m4 : Message
drawn_13_m4 = message [] (codes "{\"msg_id\":\"q8\",\"msg_type\":\"history_request\"}") (codes "{}") (codes "{}") (codes "{}") []

abbrev drawn_13_m5 : Message
drawn_13_m5 = message [] (codes "{\"msg_id\":\"q9\",\"msg_type\":\"connection_request\"}") (codes "{}") (codes "{}") (codes "{}") []

abbrev drawn_13_m6 : Message
drawn_13_m6 = message [] (codes "{\"msg_id\":\"q10\",\"msg_type\":\"resubmit_request\"}") (codes "{}") (codes "{}") (codes "{\"msg_ids\":[\"t3\"]}") []

abbrev drawn_13_m7 : Message
drawn_13_m7 = message [] (codes "{\"msg_id\":\"resubmit:2\",\"session\":\"s\",\"username\":\"u\",\"date\":\"1991-05-03T05:57:43.382Z\",\"msg_type\":\"apply_request\",\"version\":\"5.3\"}") (codes "{}") (codes "{}") (codes "{\"code\":\"2+2\"}") ((codes "buf") ∷ (codes "buf") ∷ [])

abbrev drawn_13_m8 : Message
drawn_13_m8 = message [] (codes "{\"msg_id\":\"r11\",\"msg_type\":\"execute_reply\"}") (codes "{\"msg_id\":\"resubmit:2\",\"x\":1}") (codes "{\"dependencies_met\":false}") (codes "{\"status\":\"error\",\"result\":\"42\"}") ((codes "b") ∷ [])

-- 16 entries, 1 opening
abbrev pub drawn_13 : List Line
drawn_13 =
    line (Input (Open 0 Lru 0 3)) None true []
    ∷ line (Input (Up 2 Engine 0 0 (codes "conn-2"))) None true []
    ∷ line (Input (In 2 0 0 drawn_13_m0)) (Some (Join (codes "e4"))) true (Made 2 0 (codes "hub-1-2") (codes "registration_reply") (codes "{\"msg_id\":\"j1\",\"msg_type\":\"registration_request\"}") (codes "{\"status\":\"ok\",\"id\":0}") [] ∷ [])
    ∷ line (Input (Up 5 Task 0 0 (codes "x5"))) None true []
    ∷ line (Input (Up 6 Mux 0 0 (codes "conn-6"))) None true []
    ∷ line (Input (Up 7 Hub 0 0 (156 ∷ 156 ∷ 156 ∷ 156 ∷ 156 ∷ 156 ∷ 156 ∷ 156 ∷ 156 ∷ 156 ∷ 156 ∷ 156 ∷ 156 ∷ 156 ∷ 156 ∷ 156 ∷ 156 ∷ 156 ∷ 156 ∷ 156 ∷ 156 ∷ 156 ∷ 156 ∷ 156 ∷ 156 ∷ 156 ∷ 156 ∷ 156 ∷ 156 ∷ 156 ∷ 156 ∷ 156 ∷ 156 ∷ 156 ∷ 156 ∷ 156 ∷ 156 ∷ 156 ∷ 156 ∷ 156 ∷ 156 ∷ 156 ∷ 156 ∷ 156 ∷ 156 ∷ 156 ∷ 156 ∷ 156 ∷ 156 ∷ 156 ∷ 156 ∷ 156 ∷ 156 ∷ 156 ∷ 156 ∷ 156 ∷ 156 ∷ 156 ∷ 156 ∷ 156 ∷ 156 ∷ 156 ∷ 156 ∷ 156 ∷ 156 ∷ 156 ∷ 156 ∷ 156 ∷ 156 ∷ 156 ∷ 156 ∷ 156 ∷ 156 ∷ 156 ∷ 156 ∷ 156 ∷ 156 ∷ 156 ∷ 156 ∷ 156 ∷ 156 ∷ 156 ∷ 156 ∷ 156 ∷ 156 ∷ 156 ∷ 156 ∷ 156 ∷ 156 ∷ 156 ∷ 156 ∷ 156 ∷ 156 ∷ 156 ∷ 156 ∷ 156 ∷ 156 ∷ 156 ∷ 156 ∷ 156 ∷ 156 ∷ 156 ∷ 156 ∷ 156 ∷ 156 ∷ 156 ∷ 156 ∷ 156 ∷ 156 ∷ 156 ∷ 156 ∷ 156 ∷ 156 ∷ 156 ∷ 156 ∷ 156 ∷ 156 ∷ 156 ∷ 156 ∷ 156 ∷ 156 ∷ 156 ∷ 156 ∷ 156 ∷ 156 ∷ 156 ∷ 156 ∷ 156 ∷ 156 ∷ 156 ∷ 156 ∷ 156 ∷ 156 ∷ 156 ∷ 156 ∷ 156 ∷ 156 ∷ 156 ∷ 156 ∷ 156 ∷ 156 ∷ 156 ∷ 156 ∷ 156 ∷ 156 ∷ 156 ∷ 156 ∷ 156 ∷ 156 ∷ 156 ∷ 156 ∷ 156 ∷ 156 ∷ 156 ∷ 156 ∷ 156 ∷ 156 ∷ 156 ∷ 156 ∷ 156 ∷ 156 ∷ 156 ∷ 156 ∷ 156 ∷ 156 ∷ 156 ∷ 156 ∷ 156 ∷ 156 ∷ 156 ∷ 156 ∷ 156 ∷ 156 ∷ 156 ∷ 156 ∷ 156 ∷ 156 ∷ 156 ∷ 156 ∷ 156 ∷ 156 ∷ 156 ∷ 156 ∷ 156 ∷ 156 ∷ 156 ∷ 156 ∷ 156 ∷ 156 ∷ 156 ∷ 156 ∷ 156 ∷ 156 ∷ 156 ∷ 156 ∷ 156 ∷ 156 ∷ 156 ∷ 156 ∷ 156 ∷ 156 ∷ 156 ∷ 156 ∷ 156 ∷ 156 ∷ 156 ∷ 156 ∷ 156 ∷ 156 ∷ 156 ∷ 156 ∷ 156 ∷ 156 ∷ 156 ∷ 156 ∷ 156 ∷ 156 ∷ 156 ∷ 156 ∷ 156 ∷ 156 ∷ 156 ∷ 156 ∷ 156 ∷ 156 ∷ 156 ∷ 156 ∷ 156 ∷ 156 ∷ 156 ∷ 156 ∷ 156 ∷ 156 ∷ 156 ∷ 156 ∷ 156 ∷ 156 ∷ 156 ∷ 156 ∷ 156 ∷ 156 ∷ 156 ∷ 156 ∷ 156 ∷ 156 ∷ 156 ∷ 156 ∷ 156 ∷ 156 ∷ 156 ∷ 156 ∷ 156 ∷ 156 ∷ 156 ∷ 156 ∷ []))) None true []
    ∷ line (Input (In 5 673250262381 1183926612620146050 drawn_13_m1)) (Some (Submit (submission (codes "t3") (codes "apply_request") (codes "s") (codes "u") no_dependency no_dependency [] 0 0))) true []
    ∷ decision (Hand (codes "t3") 0) (Pass 2 drawn_13_m1 ∷ [])
    ∷ line (Input (In 2 673250262381 8949492951541123959 drawn_13_m2)) (Some (Reply (codes "t3") (codes "r4") true false)) true []
    ∷ decision (Settle (codes "t3") Completed ByReply) (Pass 5 drawn_13_m2 ∷ [])
    ∷ line (Input (In 7 673250262382 11873708384837408713 drawn_13_m3)) (Some (Ask (Result ((codes "t3") ∷ []) false))) false (Made 7 673250262382 (codes "hub-1-10") (codes "result_reply") (codes "{\"msg_id\":\"q6\",\"msg_type\":\"result_request\"}") (codes "{\"status\":\"ok\",\"pending\":[],\"completed\":[\"t3\"],\"results\":{\"t3\":{\"engine\":0,\"verdict\":\"completed\",\"cause\":\"Reply\",\"header\":{\"msg_id\":\"r4\",\"msg_type\":\"apply_reply\"},\"metadata\":{\"dependencies_met\":true},\"content\":{\"status\":\"ok\",\"result\":\"42\"},\"buffers\":0}}}") [] ∷ [])
    ∷ line (Input (In 7 673250262882 12401486771780183215 drawn_13_m4)) (Some (Ask History)) false (Made 7 673250262882 (codes "hub-1-11") (codes "history_reply") (codes "{\"msg_id\":\"q8\",\"msg_type\":\"history_request\"}") (codes "{\"status\":\"ok\",\"history\":[\"t3\"]}") [] ∷ [])
    ∷ line (Input (In 7 673250262882 12577737138944253732 drawn_13_m5)) (Some (Ask Connection)) false (Made 7 673250262882 (codes "hub-1-12") (codes "connection_reply") (codes "{\"msg_id\":\"q9\",\"msg_type\":\"connection_request\"}") (codes "{\"status\":\"ok\",\"engines\":{\"0\":\"e4\"}}") [] ∷ [])
    ∷ line (Input (In 7 673250263382 5387514998970758386 drawn_13_m6)) (Some (Resubmit ((codes "t3") ∷ []))) true (Made 7 673250263382 (codes "hub-1-13") (codes "resubmit_reply") (codes "{\"msg_id\":\"q10\",\"msg_type\":\"resubmit_request\"}") (codes "{\"status\":\"ok\",\"resubmitted\":{\"t3\":\"resubmit:2\"}}") [] ∷ [])
    ∷ decision (Hand (codes "resubmit:2") 0) (Pass 2 drawn_13_m7 ∷ [])
    ∷ line (Input (In 2 673250263882 10109685697868541394 drawn_13_m8)) (Some (Reply (codes "resubmit:2") (codes "r11") false true)) true []
    ∷ []

pub drawn_13_is_told : IsTold drawn_13
unfolding digits escape_byte reserved_front next_word answer_id beat_id beat_request outcome_id resubmit_id header_text reply_type submit_refused empty_object ok_content join_content beat_content error_content outcome_content resubmit_content connection_content history_content queue_member queue_content settled_member result_content engine_lost_text date_of day_text time_text date_digits civil_date from_year from_month encode_with serde_json_on_literals is_utf8 chars event_of read_header is_request is_reply is_leave read_submit whole_timeouts ends_in_name is_db request_of read_content read_task read_declined read_status
drawn_13_is_told = record { goes = refl; reads = refl; rests = refl }

pub drawn_13_legal : Legal (goes_on [] drawn_13)
drawn_13_legal = told_legal drawn_13 drawn_13_is_told

abbrev drawn_14_m0 : Message
drawn_14_m0 = message [] (codes "{\"msg_id\":\"j1\",\"msg_type\":\"registration_request\"}") (codes "{}") (codes "{}") (codes "{\"uuid\":\"e1\"}") []

abbrev drawn_14_m1 : Message
drawn_14_m1 = message [] (codes "{\"msg_id\":\"j2\",\"msg_type\":\"registration_request\"}") (codes "{}") (codes "{}") (codes "{\"uuid\":\"e3\"}") []

abbrev drawn_14_m2 : Message
drawn_14_m2 = message (codes "nobody") (codes "{\"msg_id\":\"d3\",\"msg_type\":\"execute_request\"}") (codes "{}") (codes "{}") (codes "{\"code\":\"1\"}") []

abbrev drawn_14_m3 : Message
drawn_14_m3 = message [] (codes "{\"msg_id\":\"t4\",\"msg_type\":\"execute_request\",\"session\":\"s\",\"username\":\"u\"}") (codes "{}") (codes "{\"timeout\":null}") (codes "{\"code\":\"6+4\"}") []

abbrev drawn_14_m4 : Message
drawn_14_m4 = message [] (codes "{\"msg_id\":\"r5\",\"msg_type\":\"execute_reply\"}") (codes "{\"msg_id\":\"t4\",\"x\":1}") (codes "{\"dependencies_met\":true}") (codes "{\"status\":\"ok\",\"result\":\"42\"}") ((codes "b") ∷ (codes "b") ∷ (codes "b") ∷ (codes "b") ∷ (codes "b") ∷ (codes "b") ∷ (codes "b") ∷ (codes "b") ∷ (codes "b") ∷ (codes "b") ∷ (codes "b") ∷ (codes "b") ∷ (codes "b") ∷ (codes "b") ∷ (codes "b") ∷ (codes "b") ∷ (codes "b") ∷ (codes "b") ∷ (codes "b") ∷ (codes "b") ∷ (codes "b") ∷ (codes "b") ∷ (codes "b") ∷ (codes "b") ∷ (codes "b") ∷ (codes "b") ∷ (codes "b") ∷ (codes "b") ∷ (codes "b") ∷ (codes "b") ∷ (codes "b") ∷ (codes "b") ∷ (codes "b") ∷ (codes "b") ∷ (codes "b") ∷ (codes "b") ∷ (codes "b") ∷ (codes "b") ∷ (codes "b") ∷ (codes "b") ∷ (codes "b") ∷ (codes "b") ∷ (codes "b") ∷ (codes "b") ∷ (codes "b") ∷ (codes "b") ∷ (codes "b") ∷ (codes "b") ∷ (codes "b") ∷ (codes "b") ∷ (codes "b") ∷ (codes "b") ∷ (codes "b") ∷ (codes "b") ∷ (codes "b") ∷ (codes "b") ∷ (codes "b") ∷ (codes "b") ∷ [])

abbrev drawn_14_m5 : Message
drawn_14_m5 = message [] (codes "{\"msg_id\":\"q6\",\"msg_type\":\"queue_request\"}") (codes "{}") (codes "{}") (codes "{\"msg_ids\":[],\"status_only\":null}") []

abbrev drawn_14_m6 : Message
drawn_14_m6 = message [] (codes "{\"msg_id\":\"l7\",\"msg_type\":\"unregistration_request\"}") (codes "{}") (codes "{}") (codes "{}") []

abbrev drawn_14_m7 : Message
drawn_14_m7 = message [] (codes "{\"msg_id\":\"t8\",\"msg_type\":\"apply_request\",\"session\":\"s\",\"username\":\"u\"}") (codes "{}") (codes "{\"follow\":{\"dependencies\":[\"t4\"],\"success\":false,\"failure\":true},\"retries\":5}") (codes "{\"code\":\"6+8\"}") []

abbrev drawn_14_m8 : Message
drawn_14_m8 = message [] (codes "{\"msg_id\":\"out-2\",\"session\":\"controller\",\"username\":\"controller\",\"date\":\"1997-02-24T10:55:48.396Z\",\"msg_type\":\"apply_reply\",\"version\":\"5.3\"}") (codes "{\"msg_id\":\"t8\",\"msg_type\":\"apply_request\",\"session\":\"s\",\"username\":\"u\"}") (codes "{}") (codes "{\"status\":\"error\",\"ename\":\"ImpossibleDependency\",\"evalue\":\"the dependencies of this task cannot be met\",\"traceback\":[]}") []

abbrev drawn_14_m9 : Message
drawn_14_m9 = message [] (codes "{\"msg_id\":\"t9\",\"msg_type\":\"execute_request\",\"session\":\"s\",\"username\":\"u\"}") (codes "{}") (codes "{\"after\":[\"t4\",\"t8\"],\"retries\":5}") (codes "{\"code\":\"3+4\"}") ((codes "buf") ∷ (codes "buf") ∷ [])

abbrev drawn_14_m10 : Message
drawn_14_m10 = message [] (codes "{\"msg_id\":\"out-3\",\"session\":\"controller\",\"username\":\"controller\",\"date\":\"1997-02-24T10:55:48.396Z\",\"msg_type\":\"execute_reply\",\"version\":\"5.3\"}") (codes "{\"msg_id\":\"t9\",\"msg_type\":\"execute_request\",\"session\":\"s\",\"username\":\"u\"}") (codes "{}") (codes "{\"status\":\"error\",\"ename\":\"ImpossibleDependency\",\"evalue\":\"the dependencies of this task cannot be met\",\"traceback\":[]}") []

abbrev drawn_14_m11 : Message
drawn_14_m11 = message [] (codes "{\"msg_id\":\"l10\",\"msg_type\":\"unregistration_request\"}") (codes "{}") (codes "{}") (codes "{}") []

abbrev drawn_14_m12 : Message
drawn_14_m12 = message [] (codes "{\"msg_id\":\"\\u00e9\\\"\\\\\\n11\",\"msg_type\":\"execute_request\",\"session\":\"\\u00e9\\\"\\\\\\n11\"}") (codes "{}") (codes "{\"x\":\"\\x\"}") (codes "{}") []

abbrev drawn_14_m13 : Message
drawn_14_m13 = message [] (codes "{\"msg_id\":\"q12\",\"msg_type\":\"queue_request\"}") (codes "{}") (codes "{}") (codes "{\"targets\":[99],\"verbose\":true}") []

abbrev drawn_14_m14 : Message
drawn_14_m14 = message [] (codes "{\"msg_id\":\"t13\",\"msg_type\":\"apply_request\",\"session\":\"s\",\"username\":\"u\"}") (codes "{}") (codes "{\"retries\":2}") (codes "{\"code\":\"3+1\"}") ((codes "buf") ∷ (codes "buf") ∷ [])

abbrev drawn_14_m15 : Message
drawn_14_m15 = message [] (codes "{\"msg_id\":\"r14\",\"msg_type\":\"execute_reply\"}") (codes "{\"msg_id\":\"t13\",\"x\":1}") (codes "{}") (codes "{\"status\":\"abort\",\"result\":\"42\"}") []

abbrev drawn_14_m16 : Message
drawn_14_m16 = message (codes "e3") (codes "{\"msg_id\":\"d15\",\"msg_type\":\"execute_request\"}") (codes "{}") (codes "{}") (codes "{\"code\":\"1\"}") []

abbrev drawn_14_m17 : Message
drawn_14_m17 = message [] (codes "{\"msg_id\":\"d15\",\"msg_type\":\"execute_request\"}") (codes "{}") (codes "{}") (codes "{\"code\":\"1\"}") []

abbrev drawn_14_m18 : Message
drawn_14_m18 = message [] (codes "{\"msg_id\":\"r16\",\"msg_type\":\"apply_reply\"}") (codes "{\"msg_id\":\"t13\",\"x\":1}") (codes "{\"dependencies_met\":true}") (codes "{\"status\":\"ok\",\"result\":\"42\"}") ((codes "b") ∷ (codes "b") ∷ (codes "b") ∷ [])

abbrev drawn_14_m19 : Message
drawn_14_m19 = message (codes "nobody") (codes "{\"msg_id\":\"d17\",\"msg_type\":\"execute_request\"}") (codes "{}") (codes "{}") (codes "{\"code\":\"1\"}") []

abbrev drawn_14_m20 : Message
drawn_14_m20 = message [] (codes "{\"msg_id\":\"t18\",\"msg_type\":\"apply_request\",\"session\":\"s\",\"username\":\"u\"}") (codes "{}") (codes "{\"timeout\": 14.0, \"retries\": 1}") (codes "{\"code\":\"1+1\"}") []

abbrev drawn_14_m21 : Message
drawn_14_m21 = message [] (codes "{\"msg_id\":\"q19\",\"msg_type\":\"resubmit_request\"}") (codes "{}") (codes "{}") (codes "{\"msg_ids\":[\"t9\",\"t8\"]}") []

abbrev drawn_14_m22 : Message
drawn_14_m22 = message [] (codes "{\"msg_id\":\"out-7\",\"session\":\"controller\",\"username\":\"controller\",\"date\":\"1997-02-24T10:57:51.397Z\",\"msg_type\":\"execute_reply\",\"version\":\"5.3\"}") (codes "{\"msg_id\":\"resubmit:7\",\"session\":\"s\",\"username\":\"u\",\"date\":\"1997-02-24T10:57:51.397Z\",\"msg_type\":\"execute_request\",\"version\":\"5.3\"}") (codes "{}") (codes "{\"status\":\"error\",\"ename\":\"ImpossibleDependency\",\"evalue\":\"the dependencies of this task cannot be met\",\"traceback\":[]}") []

abbrev drawn_14_m23 : Message
drawn_14_m23 = message [] (codes "{\"msg_id\":\"out-8\",\"session\":\"controller\",\"username\":\"controller\",\"date\":\"1997-02-24T10:57:51.397Z\",\"msg_type\":\"apply_reply\",\"version\":\"5.3\"}") (codes "{\"msg_id\":\"resubmit:8\",\"session\":\"s\",\"username\":\"u\",\"date\":\"1997-02-24T10:57:51.397Z\",\"msg_type\":\"apply_request\",\"version\":\"5.3\"}") (codes "{}") (codes "{\"status\":\"error\",\"ename\":\"ImpossibleDependency\",\"evalue\":\"the dependencies of this task cannot be met\",\"traceback\":[]}") []

-- 39 entries, 1 opening
abbrev pub drawn_14 : List Line
drawn_14 =
    line (Input (Open 0 PlainRandom 2 1)) None true []
    ∷ line (Input (Up 1 Engine 0 0 (codes "conn-1"))) None true []
    ∷ line (Input (In 1 0 0 drawn_14_m0)) (Some (Join (codes "e1"))) true (Made 1 0 (codes "hub-1-2") (codes "registration_reply") (codes "{\"msg_id\":\"j1\",\"msg_type\":\"registration_request\"}") (codes "{\"status\":\"ok\",\"id\":0}") [] ∷ [])
    ∷ line (Input (Up 2 Task 0 0 (codes "x2"))) None true []
    ∷ line (Input (Up 3 Engine 0 0 (codes "c"))) None true []
    ∷ line (Input (In 3 0 0 drawn_14_m1)) (Some (Join (codes "e3"))) true (Made 3 0 (codes "hub-1-5") (codes "registration_reply") (codes "{\"msg_id\":\"j2\",\"msg_type\":\"registration_request\"}") (codes "{\"status\":\"ok\",\"id\":1}") [] ∷ [])
    ∷ line (Input (Up 4 Task 0 0 (codes "x4"))) None true []
    ∷ line (Input (Up 5 Mux 0 0 (codes "x5"))) None true []
    ∷ line (Input (Up 6 Hub 0 0 (221 ∷ []))) None true []
    ∷ line (Input (In 5 856781742394 11418849216155938269 drawn_14_m2)) (Some (Direct (submission (codes "d3") (codes "execute_request") [] [] no_dependency no_dependency [] 0 0))) false (Made 5 856781742394 (codes "hub-1-9") (codes "submit_refused") (codes "{\"msg_id\":\"d3\",\"msg_type\":\"execute_request\"}") (codes "{\"status\":\"error\",\"ename\":\"NoSuchEngine\",\"evalue\":\"6e6f626f6479\",\"traceback\":[],\"ids\":[]}") [] ∷ [])
    ∷ line (Input (In 4 856781745394 11675015965985939374 drawn_14_m3)) (Some (Submit (submission (codes "t4") (codes "execute_request") (codes "s") (codes "u") no_dependency no_dependency [] 0 0))) true []
    ∷ decision (Hand (codes "t4") 0) (Pass 1 drawn_14_m3 ∷ [])
    ∷ line (Input (In 1 856781745395 18287570231217738012 drawn_14_m4)) (Some (Reply (codes "t4") (codes "r5") true false)) true []
    ∷ decision (Settle (codes "t4") Completed ByReply) (Pass 4 drawn_14_m4 ∷ [])
    ∷ line (Input (In 6 856781745395 0 drawn_14_m5)) (Some (Ask (Queue [] false))) false (Made 6 856781745395 (codes "hub-1-14") (codes "queue_reply") (codes "{\"msg_id\":\"q6\",\"msg_type\":\"queue_request\"}") (codes "{\"status\":\"ok\",\"unassigned\":0,\"0\":{\"queue\":0,\"completed\":1,\"tasks\":0},\"1\":{\"queue\":0,\"completed\":0,\"tasks\":0}}") [] ∷ [])
    ∷ line (Input (In 1 856781748395 17374371523180411786 drawn_14_m6)) (Some (Leave)) true (Made 1 856781748395 (codes "hub-1-15") (codes "unregistration_reply") (codes "{\"msg_id\":\"l7\",\"msg_type\":\"unregistration_request\"}") (codes "{\"status\":\"ok\"}") [] ∷ [])
    ∷ line (Input (In 4 856781748396 202112333636183753 drawn_14_m7)) (Some (Submit (submission (codes "t8") (codes "apply_request") (codes "s") (codes "u") no_dependency (dep ((codes "t4") ∷ []) true false true) [] 0 5))) true []
    ∷ decision (Settle (codes "t8") Failed ImpossibleDependency) (Pass 4 drawn_14_m8 ∷ [])
    ∷ line (Input (In 2 856781748396 2631940276983180924 drawn_14_m9)) (Some (Submit (submission (codes "t9") (codes "execute_request") (codes "s") (codes "u") (dep ((codes "t4") ∷ (codes "t8") ∷ []) true true false) no_dependency [] 0 5))) true []
    ∷ decision (Settle (codes "t9") Failed ImpossibleDependency) (Pass 2 drawn_14_m10 ∷ [])
    ∷ line (Input (In 4 856781748396 6733494519721801501 drawn_14_m3)) (Some (Submit (submission (codes "t4") (codes "execute_request") (codes "s") (codes "u") no_dependency no_dependency [] 0 0))) false (Pass 4 drawn_14_m4 ∷ [])
    ∷ line (Input (In 1 856781808396 13445110020360356843 drawn_14_m11)) (Some (Leave)) false (Made 1 856781808396 (codes "hub-1-21") (codes "unregistration_reply") (codes "{\"msg_id\":\"l10\",\"msg_type\":\"unregistration_request\"}") (codes "{\"status\":\"error\",\"ename\":\"NotJoined\",\"evalue\":\"\",\"traceback\":[],\"ids\":[]}") [] ∷ [])
    ∷ line (Input (In 4 856781808396 0 drawn_14_m12)) (Some (Ask (Bad (codes "metadata")))) false (Made 4 856781808396 (codes "hub-1-22") (codes "submit_refused") (codes "{\"msg_id\":\"\\u00e9\\\"\\\\\\n11\",\"msg_type\":\"execute_request\",\"session\":\"\\u00e9\\\"\\\\\\n11\"}") (codes "{\"status\":\"error\",\"ename\":\"BadMetadata\",\"evalue\":\"metadata\",\"traceback\":[],\"ids\":[]}") [] ∷ [])
    ∷ line (Input (In 6 856781811396 12204829100479690269 drawn_14_m13)) (Some (Ask (Queue (99 ∷ []) true))) false (Made 6 856781811396 (codes "hub-1-23") (codes "queue_reply") (codes "{\"msg_id\":\"q12\",\"msg_type\":\"queue_request\"}") (codes "{\"status\":\"error\",\"ename\":\"NoSuchEngine\",\"evalue\":\"99\",\"traceback\":[],\"ids\":[]}") [] ∷ [])
    ∷ line (Input (In 2 856781811396 2226327356017662055 drawn_14_m14)) (Some (Submit (submission (codes "t13") (codes "apply_request") (codes "s") (codes "u") no_dependency no_dependency [] 0 2))) true []
    ∷ decision (Hand (codes "t13") 1) (Pass 3 drawn_14_m14 ∷ [])
    ∷ line (Input (In 4 856781811396 8750990297595538212 drawn_14_m9)) (Some (Submit (submission (codes "t9") (codes "execute_request") (codes "s") (codes "u") (dep ((codes "t4") ∷ (codes "t8") ∷ []) true true false) no_dependency [] 0 5))) false (Pass 4 drawn_14_m10 ∷ [])
    ∷ line (Input (In 3 856781811397 10510424468230547273 drawn_14_m15)) (Some (Reply (codes "t13") (codes "r14") false false)) true []
    ∷ decision (Hand (codes "t13") 1) (Pass 3 drawn_14_m14 ∷ [])
    ∷ line (Input (In 5 856781811397 3653276684895183799 drawn_14_m16)) (Some (Direct (submission (codes "d15") (codes "execute_request") [] [] no_dependency no_dependency [] 0 0))) true []
    ∷ decision (Hand (codes "d15") 1) (Pass 3 drawn_14_m17 ∷ [])
    ∷ line (Input (In 3 856781811397 8838077207117960956 drawn_14_m18)) (Some (Reply (codes "t13") (codes "r16") true false)) true []
    ∷ decision (Settle (codes "t13") Completed ByReply) (Pass 2 drawn_14_m18 ∷ [])
    ∷ line (Input (In 5 856781811397 18172975062233638120 drawn_14_m19)) (Some (Direct (submission (codes "d17") (codes "execute_request") [] [] no_dependency no_dependency [] 0 0))) false (Made 5 856781811397 (codes "hub-1-33") (codes "submit_refused") (codes "{\"msg_id\":\"d17\",\"msg_type\":\"execute_request\"}") (codes "{\"status\":\"error\",\"ename\":\"NoSuchEngine\",\"evalue\":\"6e6f626f6479\",\"traceback\":[],\"ids\":[]}") [] ∷ [])
    ∷ line (Input (In 4 856781871397 15091315962104587425 drawn_14_m20)) (Some (Submit (submission (codes "t18") (codes "apply_request") (codes "s") (codes "u") no_dependency no_dependency [] 14 1))) true []
    ∷ decision (Hand (codes "t18") 1) (Pass 3 drawn_14_m20 ∷ [])
    ∷ line (Input (In 6 856781871397 4237069419511726190 drawn_14_m21)) (Some (Resubmit ((codes "t9") ∷ (codes "t8") ∷ []))) true (Made 6 856781871397 (codes "hub-1-36") (codes "resubmit_reply") (codes "{\"msg_id\":\"q19\",\"msg_type\":\"resubmit_request\"}") (codes "{\"status\":\"ok\",\"resubmitted\":{\"t9\":\"resubmit:7\",\"t8\":\"resubmit:8\"}}") [] ∷ [])
    ∷ decision (Settle (codes "resubmit:7") Failed ImpossibleDependency) (Pass 2 drawn_14_m22 ∷ [])
    ∷ decision (Settle (codes "resubmit:8") Failed ImpossibleDependency) (Pass 4 drawn_14_m23 ∷ [])
    ∷ []

pub drawn_14_is_told : IsTold drawn_14
unfolding digits escape_byte reserved_front next_word answer_id beat_id beat_request outcome_id resubmit_id header_text reply_type submit_refused empty_object ok_content join_content beat_content error_content outcome_content resubmit_content connection_content history_content queue_member queue_content settled_member result_content engine_lost_text date_of day_text time_text date_digits civil_date from_year from_month encode_with serde_json_on_literals is_utf8 chars event_of read_header is_request is_reply is_leave read_submit whole_timeouts ends_in_name is_db request_of read_content read_task read_declined read_status
drawn_14_is_told = record { goes = refl; reads = refl; rests = refl }

pub drawn_14_legal : Legal (goes_on [] drawn_14)
drawn_14_legal = told_legal drawn_14 drawn_14_is_told

abbrev drawn_15_m0 : Message
drawn_15_m0 = message [] (codes "{\"msg_id\":\"j1\",\"msg_type\":\"registration_request\"}") (codes "{}") (codes "{}") (codes "{\"uuid\":\"e0\"}") []

abbrev drawn_15_m1 : Message
drawn_15_m1 = message [] (codes "{\"msg_id\":\"j2\",\"msg_type\":\"registration_request\"}") (codes "{}") (codes "{}") (codes "{\"uuid\":\"e3\"}") []

abbrev drawn_15_m2 : Message
drawn_15_m2 = message [] (codes "{\"msg_id\":\"p3\",\"msg_type\":\"beat_reply\"}") (codes "{}") (codes "{}") (codes "{\"beat\":0}") []

abbrev drawn_15_m3 : Message
drawn_15_m3 = message [] (codes "{\"msg_id\":\"t4\",\"msg_type\":\"execute_request\",\"session\":\"t4\"}") (codes "{}") (codes "{\"x\":1,\"retries\":1,\"retries\":0}") (codes "{}") []

abbrev drawn_15_m4 : Message
drawn_15_m4 = message [] (codes "{\"msg_id\":\"q6\",\"msg_type\":\"resubmit_request\"}") (codes "{}") (codes "{}") (codes "{\"msg_ids\":[\"t4\",\"t4\",\"t4\",\"t4\",\"t4\",\"unknown\"]}") []

abbrev drawn_15_m5 : Message
drawn_15_m5 = message [] (codes "{\"msg_id\":\"t7\",\"msg_type\":\"apply_request\",\"session\":\"s\",\"username\":\"u\"}") (codes "{}") (codes "{\"retries\":5,\"timeout\":1,\"follow\":[1]}") (codes "{\"code\":\"3+6\"}") []

abbrev drawn_15_m6 : Message
drawn_15_m6 = message [] (codes "{\"msg_id\":\"t8\",\"msg_type\":\"execute_request\",\"session\":\"s\",\"username\":\"u\"}") (codes "{}") (codes "{\"after\":{\"dependencies\":[],\"all\":false,\"success\":true,\"failure\":true},\"follow\":{\"dependencies\":[\"t4\",\"t4\",\"t4\"],\"all\":false,\"success\":true,\"failure\":true},\"retries\":2}") (codes "{\"code\":\"1+8\"}") ((codes "buf") ∷ (codes "buf") ∷ [])

abbrev drawn_15_m7 : Message
drawn_15_m7 = message [] (codes "{\"msg_id\":\"t9\",\"msg_type\":\"apply_request\",\"session\":\"s\",\"username\":\"u\"}") (codes "{}") (codes "{\"after\":{\"dependencies\":[\"t8\",\"t8\",\"t4\"],\"success\":false,\"failure\":true},\"retries\":0}") (codes "{\"code\":\"2+0\"}") ((codes "buf") ∷ (codes "buf") ∷ [])

abbrev drawn_15_m8 : Message
drawn_15_m8 = message [] (codes "{\"msg_id\":\"r10\",\"msg_type\":\"execute_reply\"}") (codes "{\"msg_id\":\"t4\",\"x\":1}") (codes "{\"started\":\"x\"}") (codes "{\"status\":\"ok\",\"result\":\"42\"}") ((codes "b") ∷ (codes "b") ∷ (codes "b") ∷ (codes "b") ∷ (codes "b") ∷ (codes "b") ∷ (codes "b") ∷ (codes "b") ∷ (codes "b") ∷ (codes "b") ∷ (codes "b") ∷ (codes "b") ∷ (codes "b") ∷ (codes "b") ∷ (codes "b") ∷ (codes "b") ∷ (codes "b") ∷ (codes "b") ∷ (codes "b") ∷ (codes "b") ∷ (codes "b") ∷ (codes "b") ∷ (codes "b") ∷ (codes "b") ∷ (codes "b") ∷ (codes "b") ∷ (codes "b") ∷ (codes "b") ∷ (codes "b") ∷ (codes "b") ∷ (codes "b") ∷ (codes "b") ∷ (codes "b") ∷ (codes "b") ∷ (codes "b") ∷ (codes "b") ∷ (codes "b") ∷ (codes "b") ∷ (codes "b") ∷ (codes "b") ∷ (codes "b") ∷ (codes "b") ∷ (codes "b") ∷ (codes "b") ∷ (codes "b") ∷ (codes "b") ∷ (codes "b") ∷ (codes "b") ∷ (codes "b") ∷ (codes "b") ∷ (codes "b") ∷ (codes "b") ∷ (codes "b") ∷ (codes "b") ∷ (codes "b") ∷ (codes "b") ∷ (codes "b") ∷ (codes "b") ∷ [])

abbrev drawn_15_m9 : Message
drawn_15_m9 = message [] (codes "{\"msg_id\":\"out-3\",\"session\":\"controller\",\"username\":\"controller\",\"date\":\"2005-10-01T15:46:33.895Z\",\"msg_type\":\"apply_reply\",\"version\":\"5.3\"}") (codes "{\"msg_id\":\"t9\",\"msg_type\":\"apply_request\",\"session\":\"s\",\"username\":\"u\"}") (codes "{}") (codes "{\"status\":\"error\",\"ename\":\"ImpossibleDependency\",\"evalue\":\"the dependencies of this task cannot be met\",\"traceback\":[]}") []

abbrev drawn_15_m10 : Message
drawn_15_m10 = message [] (codes "{\"msg_id\":\"r12\",\"msg_type\":\"execute_reply\"}") (codes "{\"msg_id\":\"t8\",\"x\":1}") (codes "{\"dependencies_met\":false}") (codes "{\"status\":\"ok\",\"result\":\"42\"}") ((codes "b") ∷ (codes "b") ∷ (codes "b") ∷ [])

abbrev drawn_15_m11 : Message
drawn_15_m11 = message [] (codes "{\"msg_id\":\"out-2\",\"session\":\"controller\",\"username\":\"controller\",\"date\":\"2005-10-01T15:47:33.895Z\",\"msg_type\":\"execute_reply\",\"version\":\"5.3\"}") (codes "{\"msg_id\":\"t8\",\"msg_type\":\"execute_request\",\"session\":\"s\",\"username\":\"u\"}") (codes "{}") (codes "{\"status\":\"error\",\"ename\":\"ImpossibleDependency\",\"evalue\":\"the dependencies of this task cannot be met\",\"traceback\":[]}") []

-- 23 entries, 1 opening
abbrev pub drawn_15 : List Line
drawn_15 =
    line (Input (Open 0 TwoBin 1 2)) None true []
    ∷ line (Input (Up 1 Engine 0 0 (codes "conn-1"))) None true []
    ∷ line (Input (In 1 0 0 drawn_15_m0)) (Some (Join (codes "e0"))) true (Made 1 0 (codes "hub-1-2") (codes "registration_reply") (codes "{\"msg_id\":\"j1\",\"msg_type\":\"registration_request\"}") (codes "{\"status\":\"ok\",\"id\":0}") [] ∷ [])
    ∷ line (Input (Up 2 Task 0 0 (codes "c"))) None true []
    ∷ line (Input (Up 3 Engine 0 0 (codes "c"))) None true []
    ∷ line (Input (In 3 0 0 drawn_15_m1)) (Some (Join (codes "e3"))) true (Made 3 0 (codes "hub-1-5") (codes "registration_reply") (codes "{\"msg_id\":\"j2\",\"msg_type\":\"registration_request\"}") (codes "{\"status\":\"ok\",\"id\":1}") [] ∷ [])
    ∷ line (Input (Up 4 Task 0 0 (codes "d"))) None true []
    ∷ line (Input (Up 18 Hub 0 0 (codes "conn-18"))) None true []
    ∷ line (Input (In 3 1128181532894 0 drawn_15_m2)) (Some (Pong 0)) false []
    ∷ line (Input (In 2 1128181593394 3228564189320038813 drawn_15_m3)) (Some (Submit (submission (codes "t4") (codes "execute_request") (codes "t4") [] no_dependency no_dependency [] 0 0))) true []
    ∷ decision (Hand (codes "t4") 0) (Pass 1 drawn_15_m3 ∷ [])
    ∷ line (Input (In 4 1128181593395 1657326471463846261 drawn_15_m3)) (Some (Submit (submission (codes "t4") (codes "execute_request") (codes "t4") [] no_dependency no_dependency [] 0 0))) false []
    ∷ line (Input (In 18 1128181593395 17843463314656870573 drawn_15_m4)) (Some (Resubmit ((codes "t4") ∷ (codes "t4") ∷ (codes "t4") ∷ (codes "t4") ∷ (codes "t4") ∷ (codes "unknown") ∷ []))) false (Made 18 1128181593395 (codes "hub-1-12") (codes "resubmit_reply") (codes "{\"msg_id\":\"q6\",\"msg_type\":\"resubmit_request\"}") (codes "{\"status\":\"error\",\"ename\":\"UnknownIds\",\"evalue\":\"\",\"traceback\":[],\"ids\":[\"unknown\"]}") [] ∷ [])
    ∷ line (Input (In 2 1128181593395 0 drawn_15_m5)) (Some (Ask (Bad (codes "follow")))) false (Made 2 1128181593395 (codes "hub-1-13") (codes "submit_refused") (codes "{\"msg_id\":\"t7\",\"msg_type\":\"apply_request\",\"session\":\"s\",\"username\":\"u\"}") (codes "{\"status\":\"error\",\"ename\":\"BadMetadata\",\"evalue\":\"follow\",\"traceback\":[],\"ids\":[]}") [] ∷ [])
    ∷ line (Input (In 2 1128181593395 1986249988162347944 drawn_15_m6)) (Some (Submit (submission (codes "t8") (codes "execute_request") (codes "s") (codes "u") (dep [] false true true) (dep ((codes "t4") ∷ []) false true true) [] 0 2))) true []
    ∷ line (Input (In 4 1128181593395 0 drawn_15_m7)) (Some (Submit (submission (codes "t9") (codes "apply_request") (codes "s") (codes "u") (dep ((codes "t8") ∷ (codes "t4") ∷ []) true false true) no_dependency [] 0 0))) true []
    ∷ line (Input (Beat 1128181593395 14998514139010231536)) None true (Made 1 1128181593395 (codes "hub-1-16-0") (codes "beat_request") (codes "{}") (codes "{\"beat\":1}") [] ∷ Made 3 1128181593395 (codes "hub-1-16-1") (codes "beat_request") (codes "{}") (codes "{\"beat\":1}") [] ∷ [])
    ∷ line (Input (In 1 1128181593895 17504405723043180649 drawn_15_m8)) (Some (Reply (codes "t4") (codes "r10") true false)) true []
    ∷ decision (Settle (codes "t4") Completed ByReply) (Pass 2 drawn_15_m8 ∷ [])
    ∷ decision (Settle (codes "t9") Failed ImpossibleDependency) (Pass 4 drawn_15_m9 ∷ [])
    ∷ decision (Hand (codes "t8") 0) (Pass 1 drawn_15_m6 ∷ [])
    ∷ line (Input (In 1 1128181653895 9918547836705926252 drawn_15_m10)) (Some (Reply (codes "t8") (codes "r12") true true)) true []
    ∷ decision (Settle (codes "t8") Failed ImpossibleDependency) (Pass 2 drawn_15_m11 ∷ [])
    ∷ []

pub drawn_15_is_told : IsTold drawn_15
unfolding digits escape_byte reserved_front next_word answer_id beat_id beat_request outcome_id resubmit_id header_text reply_type submit_refused empty_object ok_content join_content beat_content error_content outcome_content resubmit_content connection_content history_content queue_member queue_content settled_member result_content engine_lost_text date_of day_text time_text date_digits civil_date from_year from_month encode_with serde_json_on_literals is_utf8 chars event_of read_header is_request is_reply is_leave read_submit whole_timeouts ends_in_name is_db request_of read_content read_task read_declined read_status
drawn_15_is_told = record { goes = refl; reads = refl; rests = refl }

pub drawn_15_legal : Legal (goes_on [] drawn_15)
drawn_15_legal = told_legal drawn_15 drawn_15_is_told

abbrev drawn_16_m0 : Message
drawn_16_m0 = message [] (codes "{\"msg_id\":\"j1\",\"msg_type\":\"registration_request\"}") (codes "{}") (codes "{}") (codes "{\"uuid\":\"e5\"}") []

abbrev drawn_16_m1 : Message
drawn_16_m1 = message [] (codes "{\"msg_id\":\"j2\",\"msg_type\":\"registration_request\"}") (codes "{}") (codes "{}") (codes "{\"uuid\":\"e3\"}") []

abbrev drawn_16_m2 : Message
drawn_16_m2 = message [] (codes "{\"msg_id\":\"j6\",\"msg_type\":\"registration_request\"}") (codes "{}") (codes "{}") (codes "{\"uuid\":\"engine \\u00e9\"}") []

abbrev drawn_16_m3 : Message
drawn_16_m3 = message (codes "nobody") (codes "{\"msg_id\":\"d7\",\"msg_type\":\"execute_request\"}") (codes "{}") (codes "{}") (codes "{\"code\":\"1\"}") []

abbrev drawn_16_m4 : Message
drawn_16_m4 = message (codes "e3") (codes "{\"msg_id\":\"d9\",\"msg_type\":\"execute_request\"}") (codes "{}") (codes "{}") (codes "{\"code\":\"1\"}") []

abbrev drawn_16_m5 : Message
drawn_16_m5 = message [] (codes "{\"msg_id\":\"d9\",\"msg_type\":\"execute_request\"}") (codes "{}") (codes "{}") (codes "{\"code\":\"1\"}") []

abbrev drawn_16_m6 : Message
drawn_16_m6 = message [] (codes "{\"msg_id\":\"t8\",\"msg_type\":\"apply_request\",\"session\":\"s\",\"username\":\"u\"}") (codes "{}") (codes "{\"targets\":[],\"timeout\":null}") (codes "{\"code\":\"2+4\"}") []

abbrev drawn_16_m7 : Message
drawn_16_m7 = message [] (codes "{\"msg_id\":\"r12\",\"msg_type\":\"apply_reply\"}") (codes "{\"msg_id\":\"d9\",\"x\":1}") (codes "{\"started\":\"x\"}") (codes "{\"status\":\"ok\",\"result\":\"42\"}") []

abbrev drawn_16_m8 : Message
drawn_16_m8 = message [] (codes "{\"msg_id\":\"t14\",\"msg_type\":\"apply_request\",\"session\":\"s\",\"username\":\"u\"}") (codes "{}") (codes "{\"retries\":null}") (codes "{\"code\":\"7+0\"}") []

abbrev drawn_16_m9 : Message
drawn_16_m9 = message [] (codes "{\"msg_id\":\"out-2\",\"session\":\"controller\",\"username\":\"controller\",\"date\":\"1982-10-28T09:13:36.472Z\",\"msg_type\":\"apply_reply\",\"version\":\"5.3\"}") (codes "{\"msg_id\":\"t8\",\"msg_type\":\"apply_request\",\"session\":\"s\",\"username\":\"u\"}") (codes "{}") (codes "{\"status\":\"error\",\"ename\":\"EngineError\",\"evalue\":\"engine 0 was lost while it ran this task\",\"traceback\":[]}") []

abbrev drawn_16_m10 : Message
drawn_16_m10 = message [] (codes "{\"msg_id\":\"out-3\",\"session\":\"controller\",\"username\":\"controller\",\"date\":\"1982-10-28T09:13:36.472Z\",\"msg_type\":\"apply_reply\",\"version\":\"5.3\"}") (codes "{\"msg_id\":\"t14\",\"msg_type\":\"apply_request\",\"session\":\"s\",\"username\":\"u\"}") (codes "{}") (codes "{\"status\":\"error\",\"ename\":\"EngineError\",\"evalue\":\"engine 1 was lost while it ran this task\",\"traceback\":[]}") []

abbrev drawn_16_m11 : Message
drawn_16_m11 = message [] (codes "{\"msg_id\":\"q15\",\"msg_type\":\"resubmit_request\"}") (codes "{}") (codes "{}") (codes "{\"msg_ids\":[\"d9\",\"t14\"]}") []

abbrev drawn_16_m12 : Message
drawn_16_m12 = message [] (codes "{\"msg_id\":\"p16\",\"msg_type\":\"beat_reply\"}") (codes "{}") (codes "{}") (codes "{\"beat\":1}") []

abbrev drawn_16_m13 : Message
drawn_16_m13 = message [] (codes "{\"msg_id\":\"t11\",\"msg_type\":\"execute_request\",\"session\":\"s\",\"username\":\"u\"}") (codes "{}") (codes "{\"after\":{\"dependencies\":[\"d9\"],\"all\":false},\"retries\":null}") (codes "{\"code\":\"7+8\"}") []

-- 30 entries, 1 opening
abbrev pub drawn_16 : List Line
drawn_16 =
    line (Input (Open 0 Lru 2 1)) None true []
    ∷ line (Input (Up 2 Engine 0 0 (codes "x2"))) None true []
    ∷ line (Input (In 2 0 0 drawn_16_m0)) (Some (Join (codes "e5"))) true (Made 2 0 (codes "hub-1-2") (codes "registration_reply") (codes "{\"msg_id\":\"j1\",\"msg_type\":\"registration_request\"}") (codes "{\"status\":\"ok\",\"id\":0}") [] ∷ [])
    ∷ line (Input (Up 3 Task 0 0 (codes "d"))) None true []
    ∷ line (Input (Up 10 Engine 0 0 (codes "c"))) None true []
    ∷ line (Input (In 10 0 0 drawn_16_m1)) (Some (Join (codes "e3"))) true (Made 10 0 (codes "hub-1-5") (codes "registration_reply") (codes "{\"msg_id\":\"j2\",\"msg_type\":\"registration_request\"}") (codes "{\"status\":\"ok\",\"id\":1}") [] ∷ [])
    ∷ line (Input (Up 12 Mux 0 0 (codes "c"))) None true []
    ∷ line (Input (Up 13 Hub 0 0 (codes "d"))) None true []
    ∷ line (Input (In 2 404644414972 3861169326211214733 drawn_16_m2)) (Some (Join (101 ∷ 110 ∷ 103 ∷ 105 ∷ 110 ∷ 101 ∷ 32 ∷ 195 ∷ 169 ∷ []))) false (Made 2 404644414972 (codes "hub-1-8") (codes "registration_reply") (codes "{\"msg_id\":\"j6\",\"msg_type\":\"registration_request\"}") (codes "{\"status\":\"error\",\"ename\":\"AlreadyJoined\",\"evalue\":\"0\",\"traceback\":[],\"ids\":[]}") [] ∷ [])
    ∷ line (Input (In 12 404644414972 13219877967697681777 drawn_16_m3)) (Some (Direct (submission (codes "d7") (codes "execute_request") [] [] no_dependency no_dependency [] 0 0))) false (Made 12 404644414972 (codes "hub-1-9") (codes "submit_refused") (codes "{\"msg_id\":\"d7\",\"msg_type\":\"execute_request\"}") (codes "{\"status\":\"error\",\"ename\":\"NoSuchEngine\",\"evalue\":\"6e6f626f6479\",\"traceback\":[],\"ids\":[]}") [] ∷ [])
    ∷ line (Input (Up 14 Task 404644415472 0 (codes "x14"))) None true []
    ∷ line (Input (Beat 404644415472 0)) None true (Made 2 404644415472 (codes "hub-1-11-0") (codes "beat_request") (codes "{}") (codes "{\"beat\":1}") [] ∷ Made 10 404644415472 (codes "hub-1-11-1") (codes "beat_request") (codes "{}") (codes "{\"beat\":1}") [] ∷ [])
    ∷ line (Input (In 12 404644415472 6412805846023759857 drawn_16_m4)) (Some (Direct (submission (codes "d9") (codes "execute_request") [] [] no_dependency no_dependency [] 0 0))) true []
    ∷ decision (Hand (codes "d9") 1) (Pass 10 drawn_16_m5 ∷ [])
    ∷ line (Input (Time 404644415972 44337354957592848)) None true []
    ∷ line (Input (In 3 404644415972 120665216450151894 drawn_16_m6)) (Some (Submit (submission (codes "t8") (codes "apply_request") (codes "s") (codes "u") no_dependency no_dependency [] 0 0))) true []
    ∷ decision (Hand (codes "t8") 0) (Pass 2 drawn_16_m6 ∷ [])
    ∷ line (Input (In 10 404644415972 3266843857640195917 drawn_16_m7)) (Some (Reply (codes "d9") (codes "r12") true false)) true []
    ∷ decision (Settle (codes "d9") Completed ByReply) (Pass 12 drawn_16_m7 ∷ [])
    ∷ line (Input (Time 404644415972 5265655491448921948)) None true []
    ∷ line (Input (In 14 404644416472 14604026929912832337 drawn_16_m8)) (Some (Submit (submission (codes "t14") (codes "apply_request") (codes "s") (codes "u") no_dependency no_dependency [] 0 0))) true []
    ∷ decision (Hand (codes "t14") 1) (Pass 10 drawn_16_m8 ∷ [])
    ∷ line (Input (Beat 404644416472 3842964890926333945)) None true (Made 2 404644416472 (codes "hub-1-22-0") (codes "beat_request") (codes "{}") (codes "{\"beat\":2}") [] ∷ Made 10 404644416472 (codes "hub-1-22-1") (codes "beat_request") (codes "{}") (codes "{\"beat\":2}") [] ∷ [])
    ∷ decision (Lose 0) []
    ∷ decision (Lose 1) []
    ∷ decision (Settle (codes "t8") Failed EngineError) (Pass 3 drawn_16_m9 ∷ [])
    ∷ decision (Settle (codes "t14") Failed EngineError) (Pass 14 drawn_16_m10 ∷ [])
    ∷ line (Input (In 13 404644419472 17581624338722192960 drawn_16_m11)) (Some (Resubmit ((codes "d9") ∷ (codes "t14") ∷ []))) true (Made 13 404644419472 (codes "hub-1-27") (codes "resubmit_reply") (codes "{\"msg_id\":\"q15\",\"msg_type\":\"resubmit_request\"}") (codes "{\"status\":\"ok\",\"resubmitted\":{\"d9\":\"resubmit:4\",\"t14\":\"resubmit:5\"}}") [] ∷ [])
    ∷ line (Input (In 10 404644419472 2414283110404486728 drawn_16_m12)) (Some (Pong 1)) false []
    ∷ line (Input (In 3 404644419472 13452294569940441033 drawn_16_m13)) (Some (Submit (submission (codes "t11") (codes "execute_request") (codes "s") (codes "u") (dep ((codes "d9") ∷ []) false true false) no_dependency [] 0 0))) true []
    ∷ []

pub drawn_16_is_told : IsTold drawn_16
unfolding digits escape_byte reserved_front next_word answer_id beat_id beat_request outcome_id resubmit_id header_text reply_type submit_refused empty_object ok_content join_content beat_content error_content outcome_content resubmit_content connection_content history_content queue_member queue_content settled_member result_content engine_lost_text date_of day_text time_text date_digits civil_date from_year from_month encode_with serde_json_on_literals is_utf8 chars event_of read_header is_request is_reply is_leave read_submit whole_timeouts ends_in_name is_db request_of read_content read_task read_declined read_status
drawn_16_is_told = record { goes = refl; reads = refl; rests = refl }

pub drawn_16_legal : Legal (goes_on [] drawn_16)
drawn_16_legal = told_legal drawn_16 drawn_16_is_told

abbrev drawn_17_m0 : Message
drawn_17_m0 = message [] (codes "{\"msg_id\":\"j1\",\"msg_type\":\"registration_request\"}") (codes "{}") (codes "{}") (codes "{\"uuid\":\"e4\"}") []

abbrev drawn_17_m1 : Message
drawn_17_m1 = message [] (codes "{\"msg_id\":\"j2\",\"msg_type\":\"registration_request\"}") (codes "{}") (codes "{}") (codes "{\"uuid\":\"engine \\u00e9\"}") []

abbrev drawn_17_m2 : Message
drawn_17_m2 = message [] (codes "{\"msg_id\":\"t3\",\"msg_type\":\"apply_request\",\"session\":\"s\",\"username\":\"u\"}") (codes "{}") (codes "{\"after\":{\"dependencies\":[],\"success\":true,\"failure\":true},\"follow\":{\"dependencies\":[],\"all\":false,\"failure\":true},\"timeout\":60}") (codes "{\"code\":\"8+2\"}") []

abbrev drawn_17_m3 : Message
drawn_17_m3 = message [] (codes "{\"msg_id\":\"t4\",\"msg_type\":\"execute_request\",\"session\":\"s\",\"username\":\"u\"}") (codes "{}") (codes "{\"after\":{\"dependencies\":[\"t3\",\"t3\"],\"all\":true,\"failure\":true}}") (codes "{\"code\":\"4+3\"}") ((codes "buf") ∷ (codes "buf") ∷ [])

abbrev drawn_17_m4 : Message
drawn_17_m4 = message [] (codes "{\"msg_id\":\"r5\",\"msg_type\":\"execute_reply\"}") (codes "{\"msg_id\":\"t3\",\"x\":1}") (codes "{\"started\":\"x\"}") (codes "{\"status\":\"ok\",\"result\":\"42\"}") ((codes "b") ∷ [])

abbrev drawn_17_m5 : Message
drawn_17_m5 = message [] (codes "{\"msg_id\":\"r6\",\"msg_type\":\"apply_reply\"}") (codes "{\"msg_id\":\"t4\",\"x\":1}") (codes "{\"started\":\"x\"}") (codes "{\"status\":\"ok\",\"result\":\"42\"}") []

abbrev drawn_17_m6 : Message
drawn_17_m6 = message (codes "nobody") (codes "{\"msg_id\":\"d7\",\"msg_type\":\"execute_request\"}") (codes "{}") (codes "{}") (codes "{\"code\":\"1\"}") []

abbrev drawn_17_m7 : Message
drawn_17_m7 = message [] (codes "{\"msg_id\":\"t8\",\"msg_type\":\"execute_request\",\"session\":\"s\",\"username\":\"u\"}") (codes "{}") (codes "{\"after\":{\"dependencies\":[\"t3\"],\"all\":false,\"failure\":true}}") (codes "{\"code\":\"2+4\"}") []

abbrev drawn_17_m8 : Message
drawn_17_m8 = message [] (codes "{\"msg_id\":\"t9\",\"msg_type\":\"apply_request\",\"session\":\"s\",\"username\":\"u\"}") (codes "{}") (codes "{\"after\":{\"dependencies\":[\"t8\",\"t4\",\"t3\"],\"all\":false,\"success\":false,\"failure\":true},\"follow\":[\"t4\"],\"retries\":5,\"timeout\":0}") (codes "{\"code\":\"3+0\"}") ((codes "buf") ∷ (codes "buf") ∷ [])

abbrev drawn_17_m9 : Message
drawn_17_m9 = message (101 ∷ 110 ∷ 103 ∷ 105 ∷ 110 ∷ 101 ∷ 32 ∷ 195 ∷ 169 ∷ []) (codes "{\"msg_id\":\"d10\",\"msg_type\":\"execute_request\"}") (codes "{}") (codes "{}") (codes "{\"code\":\"1\"}") []

abbrev drawn_17_m10 : Message
drawn_17_m10 = message [] (codes "{\"msg_id\":\"d10\",\"msg_type\":\"execute_request\"}") (codes "{}") (codes "{}") (codes "{\"code\":\"1\"}") []

abbrev drawn_17_m11 : Message
drawn_17_m11 = message [] (codes "{\"msg_id\":\"r11\",\"msg_type\":\"apply_reply\"}") (codes "{\"msg_id\":\"d10\",\"x\":1}") (codes "{\"started\":\"x\"}") (codes "{\"status\":\"ok\",\"result\":\"42\"}") ((codes "b") ∷ (codes "b") ∷ (codes "b") ∷ (codes "b") ∷ (codes "b") ∷ (codes "b") ∷ (codes "b") ∷ (codes "b") ∷ (codes "b") ∷ (codes "b") ∷ (codes "b") ∷ (codes "b") ∷ (codes "b") ∷ (codes "b") ∷ (codes "b") ∷ (codes "b") ∷ (codes "b") ∷ (codes "b") ∷ (codes "b") ∷ (codes "b") ∷ (codes "b") ∷ (codes "b") ∷ (codes "b") ∷ (codes "b") ∷ (codes "b") ∷ (codes "b") ∷ (codes "b") ∷ (codes "b") ∷ (codes "b") ∷ (codes "b") ∷ (codes "b") ∷ (codes "b") ∷ (codes "b") ∷ (codes "b") ∷ (codes "b") ∷ (codes "b") ∷ (codes "b") ∷ (codes "b") ∷ (codes "b") ∷ (codes "b") ∷ (codes "b") ∷ (codes "b") ∷ (codes "b") ∷ (codes "b") ∷ (codes "b") ∷ (codes "b") ∷ (codes "b") ∷ (codes "b") ∷ (codes "b") ∷ (codes "b") ∷ (codes "b") ∷ (codes "b") ∷ (codes "b") ∷ (codes "b") ∷ (codes "b") ∷ (codes "b") ∷ (codes "b") ∷ (codes "b") ∷ [])

abbrev drawn_17_m12 : Message
drawn_17_m12 = message [] (codes "{\"msg_id\":\"t13\",\"msg_type\":\"execute_request\",\"session\":\"s\",\"username\":\"u\"}") (codes "{}") (codes "{}") (codes "{\"code\":\"4+8\"}") ((codes "buf") ∷ (codes "buf") ∷ [])

abbrev drawn_17_m13 : Message
drawn_17_m13 = message [] (codes "{\"msg_id\":\"j14\",\"msg_type\":\"registration_request\"}") (codes "{}") (codes "{}") (codes "[1]") []

-- 28 entries, 1 opening
abbrev pub drawn_17 : List Line
drawn_17 =
    line (Input (Open 0 TwoBin 2 3)) None true []
    ∷ line (Input (Up 3 Engine 0 0 (codes "d"))) None true []
    ∷ line (Input (In 3 0 0 drawn_17_m0)) (Some (Join (codes "e4"))) true (Made 3 0 (codes "hub-1-2") (codes "registration_reply") (codes "{\"msg_id\":\"j1\",\"msg_type\":\"registration_request\"}") (codes "{\"status\":\"ok\",\"id\":0}") [] ∷ [])
    ∷ line (Input (Up 4 Task 0 0 (codes "conn-4"))) None true []
    ∷ line (Input (Up 5 Engine 0 0 (codes "c"))) None true []
    ∷ line (Input (In 5 0 0 drawn_17_m1)) (Some (Join (101 ∷ 110 ∷ 103 ∷ 105 ∷ 110 ∷ 101 ∷ 32 ∷ 195 ∷ 169 ∷ []))) true (Made 5 0 (codes "hub-1-5") (codes "registration_reply") (codes "{\"msg_id\":\"j2\",\"msg_type\":\"registration_request\"}") (codes "{\"status\":\"ok\",\"id\":1}") [] ∷ [])
    ∷ line (Input (Up 6 Task 0 0 (codes "d"))) None true []
    ∷ line (Input (Up 7 Mux 0 0 (codes "c"))) None true []
    ∷ line (Input (Up 8 Hub 0 0 (codes "x8"))) None true []
    ∷ line (Input (In 6 1026519409154 7108897632364932470 drawn_17_m2)) (Some (Submit (submission (codes "t3") (codes "apply_request") (codes "s") (codes "u") (dep [] true true true) (dep [] false true true) [] 60 0))) true []
    ∷ decision (Hand (codes "t3") 0) (Pass 3 drawn_17_m2 ∷ [])
    ∷ line (Input (In 4 1026519409154 17891327333891498757 drawn_17_m3)) (Some (Submit (submission (codes "t4") (codes "execute_request") (codes "s") (codes "u") (dep ((codes "t3") ∷ []) true true true) no_dependency [] 0 0))) true []
    ∷ line (Input (In 3 1026519409154 1002314317087269511 drawn_17_m4)) (Some (Reply (codes "t3") (codes "r5") true false)) true []
    ∷ decision (Settle (codes "t3") Completed ByReply) (Pass 6 drawn_17_m4 ∷ [])
    ∷ decision (Hand (codes "t4") 0) (Pass 3 drawn_17_m3 ∷ [])
    ∷ line (Input (In 3 1026519409154 9968691898248455216 drawn_17_m5)) (Some (Reply (codes "t4") (codes "r6") true false)) true []
    ∷ decision (Settle (codes "t4") Completed ByReply) (Pass 4 drawn_17_m5 ∷ [])
    ∷ line (Input (In 7 1026519409154 2767476989474658176 drawn_17_m6)) (Some (Direct (submission (codes "d7") (codes "execute_request") [] [] no_dependency no_dependency [] 0 0))) false (Made 7 1026519409154 (codes "hub-1-17") (codes "submit_refused") (codes "{\"msg_id\":\"d7\",\"msg_type\":\"execute_request\"}") (codes "{\"status\":\"error\",\"ename\":\"NoSuchEngine\",\"evalue\":\"6e6f626f6479\",\"traceback\":[],\"ids\":[]}") [] ∷ [])
    ∷ line (Input (In 6 1026519409654 8159259087683066243 drawn_17_m7)) (Some (Submit (submission (codes "t8") (codes "execute_request") (codes "s") (codes "u") (dep ((codes "t3") ∷ []) false true true) no_dependency [] 0 0))) true []
    ∷ decision (Hand (codes "t8") 0) (Pass 3 drawn_17_m7 ∷ [])
    ∷ line (Input (In 4 1026519412654 0 drawn_17_m8)) (Some (Submit (submission (codes "t9") (codes "apply_request") (codes "s") (codes "u") (dep ((codes "t8") ∷ (codes "t4") ∷ (codes "t3") ∷ []) false false true) (dep ((codes "t4") ∷ []) true true false) [] 0 5))) true []
    ∷ line (Input (In 7 1026519412654 2517527893064905178 drawn_17_m9)) (Some (Direct (submission (codes "d10") (codes "execute_request") [] [] no_dependency no_dependency [] 0 0))) true []
    ∷ decision (Hand (codes "d10") 1) (Pass 5 drawn_17_m10 ∷ [])
    ∷ line (Input (In 5 1026519412654 0 drawn_17_m11)) (Some (Reply (codes "d10") (codes "r11") true false)) true []
    ∷ decision (Settle (codes "d10") Completed ByReply) (Pass 7 drawn_17_m11 ∷ [])
    ∷ line (Input (In 6 1026519415654 5182825073422789224 drawn_17_m12)) (Some (Submit (submission (codes "t13") (codes "execute_request") (codes "s") (codes "u") no_dependency no_dependency [] 0 0))) true []
    ∷ decision (Hand (codes "t13") 1) (Pass 5 drawn_17_m12 ∷ [])
    ∷ line (Input (In 5 1026519475654 0 drawn_17_m13)) (Some (Ask (Bad (codes "content")))) false (Made 5 1026519475654 (codes "hub-1-27") (codes "registration_reply") (codes "{\"msg_id\":\"j14\",\"msg_type\":\"registration_request\"}") (codes "{\"status\":\"error\",\"ename\":\"BadContent\",\"evalue\":\"content\",\"traceback\":[],\"ids\":[]}") [] ∷ [])
    ∷ []

pub drawn_17_is_told : IsTold drawn_17
unfolding digits escape_byte reserved_front next_word answer_id beat_id beat_request outcome_id resubmit_id header_text reply_type submit_refused empty_object ok_content join_content beat_content error_content outcome_content resubmit_content connection_content history_content queue_member queue_content settled_member result_content engine_lost_text date_of day_text time_text date_digits civil_date from_year from_month encode_with serde_json_on_literals is_utf8 chars event_of read_header is_request is_reply is_leave read_submit whole_timeouts ends_in_name is_db request_of read_content read_task read_declined read_status
drawn_17_is_told = record { goes = refl; reads = refl; rests = refl }

pub drawn_17_legal : Legal (goes_on [] drawn_17)
drawn_17_legal = told_legal drawn_17 drawn_17_is_told

abbrev drawn_18_m0 : Message
drawn_18_m0 = message [] (codes "{\"msg_id\":\"j1\",\"msg_type\":\"registration_request\"}") (codes "{}") (codes "{}") (codes "{\"uuid\":\"e1\"}") []

abbrev drawn_18_m1 : Message
drawn_18_m1 = message [] (codes "{\"msg_id\":\"j2\",\"msg_type\":\"registration_request\"}") (codes "{}") (codes "{}") (codes "{\"uuid\":\"e4\"}") []

abbrev drawn_18_m2 : Message
drawn_18_m2 = message [] (codes "{\"msg_id\":\"q5\",\"msg_type\":\"resubmit_request\"}") (codes "{}") (codes "{}") (codes "{\"msg_ids\":[]}") []

abbrev drawn_18_m3 : Message
drawn_18_m3 = message [] (codes "{\"msg_id\":\"q6\",\"msg_type\":\"purge_request\"}") (codes "{}") (codes "{}") (codes "{\"msg_ids\":[]}") []

abbrev drawn_18_m4 : Message
drawn_18_m4 = message [] (codes "{\"msg_id\":\"t7\",\"msg_type\":\"apply_request\",\"session\":\"s\",\"username\":\"u\"}") (codes "{}") (codes "{\"after\":[],\"follow\":[]}") (codes "{\"code\":\"3+3\"}") []

abbrev drawn_18_m5 : Message
drawn_18_m5 = message [] (codes "{\"msg_id\":\"t8\",\"msg_type\":\"apply_request\",\"session\":\"s\",\"username\":\"u\"}") (codes "{}") (codes "{}") (codes "{\"code\":\"8+2\"}") []

abbrev drawn_18_m6 : Message
drawn_18_m6 = message [] (codes "{\"msg_id\":\"q9\",\"msg_type\":\"resubmit_request\"}") (codes "{}") (codes "{}") (codes "{\"msg_ids\":[]}") []

abbrev drawn_18_m7 : Message
drawn_18_m7 = message [] (codes "{\"msg_id\":\"q11\",\"msg_type\":\"resubmit_request\"}") (codes "{}") (codes "{}") (codes "{\"msg_ids\":[]}") []

abbrev drawn_18_m8 : Message
drawn_18_m8 = message [] (codes "{\"msg_id\":\"j1\",\"msg_type\":\"registration_request\"}") (codes "{}") (codes "{}") (codes "{\"uuid\":\"e3\"}") []

abbrev drawn_18_m9 : Message
drawn_18_m9 = message [] (codes "{\"msg_id\":\"j2\",\"msg_type\":\"registration_request\"}") (codes "{}") (codes "{}") (codes "{\"uuid\":\"e2\"}") []

abbrev drawn_18_m10 : Message
drawn_18_m10 = message [] (codes "{\"msg_id\":\"j3\",\"msg_type\":\"registration_request\"}") (codes "{}") (codes "{}") (codes "{\"uuid\":\"e5\"}") []

abbrev drawn_18_m11 : Message
drawn_18_m11 = message [] (codes "{\"msg_id\":\"out-1\",\"session\":\"controller\",\"username\":\"controller\",\"date\":\"1970-01-01T00:00:00.000Z\",\"msg_type\":\"apply_reply\",\"version\":\"5.3\"}") (codes "{\"msg_id\":\"t7\",\"msg_type\":\"apply_request\",\"session\":\"s\",\"username\":\"u\"}") (codes "{}") (codes "{\"status\":\"error\",\"ename\":\"EngineError\",\"evalue\":\"engine 0 was lost while it ran this task\",\"traceback\":[]}") []

abbrev drawn_18_m12 : Message
drawn_18_m12 = message [] (codes "{\"msg_id\":\"q4\",\"msg_type\":\"purge_request\"}") (codes "{}") (codes "{}") (codes "{\"msg_ids\":[\"t7\"]}") []

abbrev drawn_18_m13 : Message
drawn_18_m13 = message [] (codes "{\"msg_id\":\"t5\",\"msg_type\":\"execute_request\",\"session\":\"s\",\"username\":\"u\"}") (codes "{}") (codes "{\"after\":[\"t8\"],\"targets\":[\"e2\",\"e3\"]}") (codes "{\"code\":\"0+6\"}") []

abbrev drawn_18_m14 : Message
drawn_18_m14 = message [] (codes "{\"msg_id\":\"out-3\",\"session\":\"controller\",\"username\":\"controller\",\"date\":\"2003-08-22T20:24:48.134Z\",\"msg_type\":\"execute_reply\",\"version\":\"5.3\"}") (codes "{\"msg_id\":\"t5\",\"msg_type\":\"execute_request\",\"session\":\"s\",\"username\":\"u\"}") (codes "{}") (codes "{\"status\":\"error\",\"ename\":\"ImpossibleDependency\",\"evalue\":\"the dependencies of this task cannot be met\",\"traceback\":[]}") []

abbrev drawn_18_m15 : Message
drawn_18_m15 = message [] (codes "{\"msg_id\":\"t6\",\"msg_type\":\"execute_request\",\"session\":\"s\",\"username\":\"u\"}") (codes "{}") (codes "{\"after\":{\"dependencies\":[\"t7\",\"t7\"],\"success\":true},\"follow\":{\"dependencies\":[\"t5\",\"t8\"],\"all\":false}}") (codes "{\"code\":\"7+3\"}") ((codes "buf") ∷ (codes "buf") ∷ [])

abbrev drawn_18_m16 : Message
drawn_18_m16 = message [] (codes "{\"msg_id\":\"out-4\",\"session\":\"controller\",\"username\":\"controller\",\"date\":\"2003-08-22T20:24:48.134Z\",\"msg_type\":\"execute_reply\",\"version\":\"5.3\"}") (codes "{\"msg_id\":\"t6\",\"msg_type\":\"execute_request\",\"session\":\"s\",\"username\":\"u\"}") (codes "{}") (codes "{\"status\":\"error\",\"ename\":\"ImpossibleDependency\",\"evalue\":\"the dependencies of this task cannot be met\",\"traceback\":[]}") []

-- 34 entries, 2 openings
abbrev pub drawn_18 : List Line
drawn_18 =
    line (Input (Open 0 TwoBin 0 1)) None true []
    ∷ line (Input (Up 3 Engine 0 0 (146 ∷ []))) None true []
    ∷ line (Input (In 3 0 0 drawn_18_m0)) (Some (Join (codes "e1"))) true (Made 3 0 (codes "hub-1-2") (codes "registration_reply") (codes "{\"msg_id\":\"j1\",\"msg_type\":\"registration_request\"}") (codes "{\"status\":\"ok\",\"id\":0}") [] ∷ [])
    ∷ line (Input (Up 10 Task 0 0 (codes "conn-10"))) None true []
    ∷ line (Input (Up 11 Engine 0 0 (codes "conn-11"))) None true []
    ∷ line (Input (In 11 0 0 drawn_18_m1)) (Some (Join (codes "e4"))) true (Made 11 0 (codes "hub-1-5") (codes "registration_reply") (codes "{\"msg_id\":\"j2\",\"msg_type\":\"registration_request\"}") (codes "{\"status\":\"ok\",\"id\":1}") [] ∷ [])
    ∷ line (Input (Up 12 Task 0 0 (codes "d"))) None true []
    ∷ line (Input (Up 20 Hub 0 0 (codes "d"))) None true []
    ∷ line (Input (In 20 1563041569172 1136800758442704903 drawn_18_m2)) (Some (Resubmit [])) true (Made 20 1563041569172 (codes "hub-1-8") (codes "resubmit_reply") (codes "{\"msg_id\":\"q5\",\"msg_type\":\"resubmit_request\"}") (codes "{\"status\":\"ok\",\"resubmitted\":{}}") [] ∷ [])
    ∷ line (Input (In 20 1563041569172 0 drawn_18_m3)) (Some (Purge false [])) true (Made 20 1563041569172 (codes "hub-1-9") (codes "purge_reply") (codes "{\"msg_id\":\"q6\",\"msg_type\":\"purge_request\"}") (codes "{\"status\":\"ok\"}") [] ∷ [])
    ∷ line (Input (In 12 1563041569172 13222487738813953983 drawn_18_m4)) (Some (Submit (submission (codes "t7") (codes "apply_request") (codes "s") (codes "u") no_dependency no_dependency [] 0 0))) true []
    ∷ decision (Hand (codes "t7") 0) (Pass 3 drawn_18_m4 ∷ [])
    ∷ line (Input (In 12 1563041569173 1158425356907538808 drawn_18_m5)) (Some (Submit (submission (codes "t8") (codes "apply_request") (codes "s") (codes "u") no_dependency no_dependency [] 0 0))) true []
    ∷ decision (Hand (codes "t8") 1) (Pass 11 drawn_18_m5 ∷ [])
    ∷ line (Input (In 20 1563041569173 3583323640417408348 drawn_18_m6)) (Some (Resubmit [])) true (Made 20 1563041569173 (codes "hub-1-14") (codes "resubmit_reply") (codes "{\"msg_id\":\"q9\",\"msg_type\":\"resubmit_request\"}") (codes "{\"status\":\"ok\",\"resubmitted\":{}}") [] ∷ [])
    ∷ line (Input (In 20 1563041569173 0 drawn_18_m7)) (Some (Resubmit [])) true (Made 20 1563041569173 (codes "hub-1-15") (codes "resubmit_reply") (codes "{\"msg_id\":\"q11\",\"msg_type\":\"resubmit_request\"}") (codes "{\"status\":\"ok\",\"resubmitted\":{}}") [] ∷ [])
    ∷ line (Input (Open 0 Lru 1 1)) None true []
    ∷ decision (Settle (codes "t7") Failed EngineError) []
    ∷ decision (Settle (codes "t8") Failed EngineError) []
    ∷ line (Input (Up 2 Engine 0 0 (codes "c"))) None true []
    ∷ line (Input (In 2 0 0 drawn_18_m8)) (Some (Join (codes "e3"))) true (Made 2 0 (codes "hub-2-4") (codes "registration_reply") (codes "{\"msg_id\":\"j1\",\"msg_type\":\"registration_request\"}") (codes "{\"status\":\"ok\",\"id\":2}") [] ∷ [])
    ∷ line (Input (Up 3 Task 0 0 (184 ∷ 184 ∷ 184 ∷ 184 ∷ 184 ∷ 184 ∷ 184 ∷ 184 ∷ 184 ∷ 184 ∷ 184 ∷ 184 ∷ 184 ∷ 184 ∷ 184 ∷ 184 ∷ 184 ∷ 184 ∷ 184 ∷ 184 ∷ 184 ∷ 184 ∷ 184 ∷ 184 ∷ 184 ∷ 184 ∷ 184 ∷ 184 ∷ 184 ∷ 184 ∷ 184 ∷ 184 ∷ 184 ∷ 184 ∷ 184 ∷ 184 ∷ 184 ∷ 184 ∷ 184 ∷ 184 ∷ 184 ∷ 184 ∷ 184 ∷ 184 ∷ 184 ∷ 184 ∷ 184 ∷ 184 ∷ 184 ∷ 184 ∷ 184 ∷ 184 ∷ 184 ∷ 184 ∷ 184 ∷ 184 ∷ 184 ∷ 184 ∷ 184 ∷ 184 ∷ 184 ∷ 184 ∷ 184 ∷ 184 ∷ 184 ∷ 184 ∷ 184 ∷ 184 ∷ 184 ∷ 184 ∷ 184 ∷ 184 ∷ 184 ∷ 184 ∷ 184 ∷ 184 ∷ 184 ∷ 184 ∷ 184 ∷ 184 ∷ 184 ∷ 184 ∷ 184 ∷ 184 ∷ 184 ∷ 184 ∷ 184 ∷ 184 ∷ 184 ∷ 184 ∷ 184 ∷ 184 ∷ 184 ∷ 184 ∷ 184 ∷ 184 ∷ 184 ∷ 184 ∷ 184 ∷ 184 ∷ 184 ∷ 184 ∷ 184 ∷ 184 ∷ 184 ∷ 184 ∷ 184 ∷ 184 ∷ 184 ∷ 184 ∷ 184 ∷ 184 ∷ 184 ∷ 184 ∷ 184 ∷ 184 ∷ 184 ∷ 184 ∷ 184 ∷ 184 ∷ 184 ∷ 184 ∷ 184 ∷ 184 ∷ 184 ∷ 184 ∷ 184 ∷ 184 ∷ 184 ∷ 184 ∷ 184 ∷ 184 ∷ 184 ∷ 184 ∷ 184 ∷ 184 ∷ 184 ∷ 184 ∷ 184 ∷ 184 ∷ 184 ∷ 184 ∷ 184 ∷ 184 ∷ 184 ∷ 184 ∷ 184 ∷ 184 ∷ 184 ∷ 184 ∷ 184 ∷ 184 ∷ 184 ∷ 184 ∷ 184 ∷ 184 ∷ 184 ∷ 184 ∷ 184 ∷ 184 ∷ 184 ∷ 184 ∷ 184 ∷ 184 ∷ 184 ∷ 184 ∷ 184 ∷ 184 ∷ 184 ∷ 184 ∷ 184 ∷ 184 ∷ 184 ∷ 184 ∷ 184 ∷ 184 ∷ 184 ∷ 184 ∷ 184 ∷ 184 ∷ 184 ∷ 184 ∷ 184 ∷ 184 ∷ 184 ∷ 184 ∷ 184 ∷ 184 ∷ 184 ∷ 184 ∷ 184 ∷ 184 ∷ 184 ∷ 184 ∷ 184 ∷ 184 ∷ 184 ∷ 184 ∷ 184 ∷ 184 ∷ 184 ∷ 184 ∷ 184 ∷ 184 ∷ 184 ∷ 184 ∷ 184 ∷ 184 ∷ 184 ∷ 184 ∷ 184 ∷ 184 ∷ 184 ∷ 184 ∷ 184 ∷ 184 ∷ 184 ∷ 184 ∷ 184 ∷ 184 ∷ 184 ∷ 184 ∷ 184 ∷ 184 ∷ 184 ∷ 184 ∷ 184 ∷ 184 ∷ 184 ∷ 184 ∷ 184 ∷ 184 ∷ 184 ∷ 184 ∷ 184 ∷ 184 ∷ 184 ∷ 184 ∷ 184 ∷ 184 ∷ 184 ∷ 184 ∷ 184 ∷ 184 ∷ 184 ∷ 184 ∷ 184 ∷ 184 ∷ 184 ∷ 184 ∷ 184 ∷ 184 ∷ 184 ∷ 184 ∷ 184 ∷ []))) None true []
    ∷ line (Input (Up 4 Engine 0 0 (205 ∷ []))) None true []
    ∷ line (Input (Up 12 Mux 0 0 (246 ∷ []))) None true []
    ∷ line (Input (Up 13 Hub 0 0 (codes "c"))) None true []
    ∷ line (Input (In 4 1061583888134 2861401303351480176 drawn_18_m9)) (Some (Join (codes "e2"))) true (Made 4 1061583888134 (codes "hub-2-9") (codes "registration_reply") (codes "{\"msg_id\":\"j2\",\"msg_type\":\"registration_request\"}") (codes "{\"status\":\"ok\",\"id\":3}") [] ∷ [])
    ∷ line (Input (In 4 1061583888134 2861401303351480176 drawn_18_m10)) (Some (Join (codes "e5"))) false (Made 4 1061583888134 (codes "hub-2-10") (codes "registration_reply") (codes "{\"msg_id\":\"j3\",\"msg_type\":\"registration_request\"}") (codes "{\"status\":\"error\",\"ename\":\"AlreadyJoined\",\"evalue\":\"3\",\"traceback\":[],\"ids\":[]}") [] ∷ [])
    ∷ line (Input (In 3 1061583888134 12936544928276052587 drawn_18_m4)) (Some (Submit (submission (codes "t7") (codes "apply_request") (codes "s") (codes "u") no_dependency no_dependency [] 0 0))) false (Pass 3 drawn_18_m11 ∷ [])
    ∷ line (Input (In 13 1061583888134 4326145344681873990 drawn_18_m12)) (Some (Purge false ((codes "t7") ∷ []))) true (Made 13 1061583888134 (codes "hub-2-12") (codes "purge_reply") (codes "{\"msg_id\":\"q4\",\"msg_type\":\"purge_request\"}") (codes "{\"status\":\"ok\"}") [] ∷ [])
    ∷ line (Input (Up 11 Task 1061583888134 0 (codes "conn-11"))) None true []
    ∷ line (Input (In 11 1061583888134 0 drawn_18_m13)) (Some (Submit (submission (codes "t5") (codes "execute_request") (codes "s") (codes "u") (dep ((codes "t8") ∷ []) true true false) no_dependency ((codes "e2") ∷ (codes "e3") ∷ []) 0 0))) true []
    ∷ decision (Settle (codes "t5") Failed ImpossibleDependency) (Pass 11 drawn_18_m14 ∷ [])
    ∷ line (Input (In 3 1061583888134 0 drawn_18_m15)) (Some (Submit (submission (codes "t6") (codes "execute_request") (codes "s") (codes "u") (dep ((codes "t7") ∷ []) true true false) (dep ((codes "t5") ∷ (codes "t8") ∷ []) false true false) [] 0 0))) true []
    ∷ decision (Settle (codes "t6") Failed ImpossibleDependency) (Pass 3 drawn_18_m16 ∷ [])
    ∷ []

pub drawn_18_is_told : IsTold drawn_18
unfolding digits escape_byte reserved_front next_word answer_id beat_id beat_request outcome_id resubmit_id header_text reply_type submit_refused empty_object ok_content join_content beat_content error_content outcome_content resubmit_content connection_content history_content queue_member queue_content settled_member result_content engine_lost_text date_of day_text time_text date_digits civil_date from_year from_month encode_with serde_json_on_literals is_utf8 chars event_of read_header is_request is_reply is_leave read_submit whole_timeouts ends_in_name is_db request_of read_content read_task read_declined read_status
drawn_18_is_told = record { goes = refl; reads = refl; rests = refl }

pub drawn_18_legal : Legal (goes_on [] drawn_18)
drawn_18_legal = told_legal drawn_18 drawn_18_is_told
