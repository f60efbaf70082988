-- Short histories that a second, independent model of the cluster drew at random, with what it says of each entry. Nothing rests on them.
use Rattle.std.proofs.Common.{List, [], ◌∷◌, Some, None, true, false, refl}
use Rattle.std.specs.Prelude.{codes}
use Rattle.std.specs.Fmt.{digits}
use Rattle.std.specs.Str.{is_utf8, chars}
use Rattle.json.specs.Print.{escape_byte}
use Rattle.serde_json.proofs.OnLiterals.{serde_json_on_literals}
use Rattle.hex.specs.Hex.{encode_with}
use Rattle.edges.specs.Date.{date_of, day_text, time_text, digits as date_digits, civil_date, from_year, from_month}
use Rattle.cluster_types.specs.Verdicts.{engine_lost_text}
use Rattle.cluster_types.specs.declared.config.Channel.TheVariants.{Hub, Task, Mux, Engine}
use Rattle.cluster_types.specs.declared.config.Scheme.TheVariants.{Lru, LeastLoad, PlainRandom, TwoBin}
use Rattle.cluster_types.specs.declared.verdict.Verdict.TheVariants.{Completed, Failed}
use Rattle.cluster_types.specs.declared.verdict.Cause.TheVariants.{Reply as ByReply, EngineError, ImpossibleDependency, InvalidDependency, TaskTimeout}
use Rattle.cluster_types.specs.declared.message.Message.{Message}
use Rattle.cluster_types.specs.declared.event.Event.TheVariants.{Submit, Direct, Reply, Join, Leave, Pong, Purge, Resubmit, Ask}
use Rattle.cluster_types.specs.declared.event.Query.TheVariants.{Connection, Queue, Result, Shutdown, Unknown, Bad}
use Rattle.cluster_types.specs.declared.out.Out.TheVariants.{Pass, Made}
use Rattle.cluster_types.specs.declared.entry.Input.TheVariants.{Open, Up, Down, In, Beat, Time}
use Rattle.cluster_types.specs.declared.entry.Entry.TheVariants.{Input, Hand, Settle, Lose}
use Rattle.cluster_defs.specs.Event.{event_of, is_db, is_request, is_reply, is_leave}
use Rattle.cluster_defs.specs.Points.{whole_timeouts, ends_in_name}
use Rattle.cluster_defs.specs.Submit.{read_submit}
use Rattle.cluster_defs.specs.Reply.{read_task, read_declined, read_status}
use Rattle.cluster_defs.specs.Hub.{request_of, read_content}
use Rattle.cluster_defs.specs.Header.{read_header}
use Rattle.cluster_defs.specs.Texts.{answer_id, beat_id, beat_request, outcome_id, resubmit_id, header_text, reply_type, submit_refused, empty_object, ok_content, join_content, beat_content, error_content, outcome_content, resubmit_content, connection_content, history_content, queue_member, queue_content, settled_member, result_content}
use Rattle.cluster_defs.specs.Acceptance.{no_dependency, reserved_front}
use Rattle.cluster_types.specs.Chance.{next_word}
use Rattle.cluster_defs.specs.Histories.{Legal}
use Rattle.worked_rows.proofs.Told.{Line, line, decision, message, dep, submission, IsTold, goes_on, told_legal}

abbrev drawn_1_m0 : Message
drawn_1_m0 = message [] (codes "{\"msg_id\":\"j1\",\"msg_type\":\"registration_request\"}") (codes "{}") (codes "{}") (codes "{\"uuid\":\"e4\"}") []

abbrev drawn_1_m1 : Message
drawn_1_m1 = message [] (codes "{\"msg_id\":\"j2\",\"msg_type\":\"registration_request\"}") (codes "{}") (codes "{}") (codes "{\"uuid\":\"e5\"}") []

abbrev drawn_1_m2 : Message
drawn_1_m2 = message [] (codes "{\"msg_id\":\"q3\",\"msg_type\":\"resubmit_request\"}") (codes "{}") (codes "{}") (codes "{\"msg_ids\":[]}") []

abbrev drawn_1_m3 : Message
drawn_1_m3 = message [] (codes "{\"msg_id\":\"q4\",\"msg_type\":\"result_request\"}") (codes "{}") (codes "{}") (codes "{\"msg_ids\":[\"none\",\"none\"],\"status_only\":false}") []

abbrev drawn_1_m4 : Message
drawn_1_m4 = message (codes "e4") (codes "{\"msg_id\":\"d5\",\"msg_type\":\"execute_request\"}") (codes "{}") (codes "{}") (codes "{\"code\":\"1\"}") []

abbrev drawn_1_m5 : Message
drawn_1_m5 = message [] (codes "{\"msg_id\":\"d5\",\"msg_type\":\"execute_request\"}") (codes "{}") (codes "{}") (codes "{\"code\":\"1\"}") []

abbrev drawn_1_m6 : Message
drawn_1_m6 = message [] (codes "{\"msg_id\":\"t6\",\"msg_type\":\"apply_request\",\"session\":\"s\",\"username\":\"u\"}") (codes "{}") (codes "{\"timeout\":60}") (codes "{\"code\":\"6+4\"}") ((codes "buf") ∷ (codes "buf") ∷ [])

abbrev drawn_1_m7 : Message
drawn_1_m7 = message [] (codes "{\"msg_id\":\"t7\",\"msg_type\":\"execute_request\",\"session\":\"s\",\"username\":\"u\"}") (codes "{}") (codes "{\"after\":{\"dependencies\":[\"t6\"],\"failure\":false},\"targets\":[\"e3\",\"e2\"]}") (codes "{\"code\":\"8+1\"}") []

abbrev drawn_1_m8 : Message
drawn_1_m8 = message [] (codes "{\"msg_id\":\"out-3\",\"session\":\"controller\",\"username\":\"controller\",\"date\":\"2020-08-27T01:29:15.136Z\",\"msg_type\":\"execute_reply\",\"version\":\"5.3\"}") (codes "{\"msg_id\":\"t7\",\"msg_type\":\"execute_request\",\"session\":\"s\",\"username\":\"u\"}") (codes "{}") (codes "{\"status\":\"error\",\"ename\":\"ImpossibleDependency\",\"evalue\":\"the dependencies of this task cannot be met\",\"traceback\":[]}") []

abbrev drawn_1_m9 : Message
drawn_1_m9 = message [] (codes "{\"msg_id\":\"r8\",\"msg_type\":\"apply_reply\"}") (codes "{\"msg_id\":\"t6\",\"x\":1}") (codes "{\"dependencies_met\":true}") (codes "{\"status\":\"ok\",\"result\":\"42\"}") ((codes "b") ∷ (codes "b") ∷ (codes "b") ∷ [])

abbrev drawn_1_m10 : Message
drawn_1_m10 = message [] (codes "{\"msg_id\":\"r9\",\"msg_type\":\"apply_reply\"}") (codes "{\"msg_id\":\"d5\",\"x\":1}") (codes "{\"started\":\"x\"}") (codes "{\"status\":\"abort\",\"result\":\"42\"}") ((codes "b") ∷ (codes "b") ∷ (codes "b") ∷ (codes "b") ∷ (codes "b") ∷ (codes "b") ∷ (codes "b") ∷ (codes "b") ∷ (codes "b") ∷ (codes "b") ∷ (codes "b") ∷ (codes "b") ∷ (codes "b") ∷ (codes "b") ∷ (codes "b") ∷ (codes "b") ∷ (codes "b") ∷ (codes "b") ∷ (codes "b") ∷ (codes "b") ∷ (codes "b") ∷ (codes "b") ∷ (codes "b") ∷ (codes "b") ∷ (codes "b") ∷ (codes "b") ∷ (codes "b") ∷ (codes "b") ∷ (codes "b") ∷ (codes "b") ∷ (codes "b") ∷ (codes "b") ∷ (codes "b") ∷ (codes "b") ∷ (codes "b") ∷ (codes "b") ∷ (codes "b") ∷ (codes "b") ∷ (codes "b") ∷ (codes "b") ∷ (codes "b") ∷ (codes "b") ∷ (codes "b") ∷ (codes "b") ∷ (codes "b") ∷ (codes "b") ∷ (codes "b") ∷ (codes "b") ∷ (codes "b") ∷ (codes "b") ∷ (codes "b") ∷ (codes "b") ∷ (codes "b") ∷ (codes "b") ∷ (codes "b") ∷ (codes "b") ∷ (codes "b") ∷ (codes "b") ∷ [])

abbrev drawn_1_m11 : Message
drawn_1_m11 = message (codes "nobody") (codes "{\"msg_id\":\"d10\",\"msg_type\":\"execute_request\"}") (codes "{}") (codes "{}") (codes "{\"code\":\"1\"}") []

abbrev drawn_1_m12 : Message
drawn_1_m12 = message [] (codes "{\"msg_id\":\"t12\",\"msg_type\":\"apply_request\",\"session\":\"s\",\"username\":\"u\"}") (codes "{}") (codes "{\"retries\":5}") (codes "{\"code\":\"8+5\"}") []

abbrev drawn_1_m13 : Message
drawn_1_m13 = message [] (codes "{\"msg_id\":\"q13\",\"msg_type\":\"queue_request\"}") (codes "{}") (codes "{}") (codes "{\"targets\":null,\"verbose\":true}") []

abbrev drawn_1_m14 : Message
drawn_1_m14 = message [] (codes "{\"msg_id\":\"t14\",\"msg_type\":\"apply_request\",\"session\":\"s\",\"username\":\"u\"}") (codes "{}") (codes "{\"follow\":{\"dependencies\":[\"d5\",\"unknown\"],\"success\":false,\"failure\":true},\"retries\":2,\"timeout\":null}") (codes "{\"code\":\"4+7\"}") []

abbrev drawn_1_m15 : Message
drawn_1_m15 = message [] (codes "{\"msg_id\":\"out-5\",\"session\":\"controller\",\"username\":\"controller\",\"date\":\"2020-08-27T01:31:21.636Z\",\"msg_type\":\"apply_reply\",\"version\":\"5.3\"}") (codes "{\"msg_id\":\"t14\",\"msg_type\":\"apply_request\",\"session\":\"s\",\"username\":\"u\"}") (codes "{}") (codes "{\"status\":\"error\",\"ename\":\"InvalidDependency\",\"evalue\":\"a dependency is unknown or is the task itself\",\"traceback\":[]}") []

abbrev drawn_1_m16 : Message
drawn_1_m16 = message [] (codes "{\"msg_id\":\"t15\",\"msg_type\":\"execute_request\",\"session\":\"s\",\"username\":\"u\"}") (codes "{}") (codes "{\"follow\":[\"d5\"],\"targets\":[]}") (codes "{\"code\":\"3+7\"}") ((codes "buf") ∷ (codes "buf") ∷ [])

abbrev drawn_1_m17 : Message
drawn_1_m17 = message [] (codes "{\"msg_id\":\"out-6\",\"session\":\"controller\",\"username\":\"controller\",\"date\":\"2020-08-27T01:31:21.636Z\",\"msg_type\":\"execute_reply\",\"version\":\"5.3\"}") (codes "{\"msg_id\":\"t15\",\"msg_type\":\"execute_request\",\"session\":\"s\",\"username\":\"u\"}") (codes "{}") (codes "{\"status\":\"error\",\"ename\":\"ImpossibleDependency\",\"evalue\":\"the dependencies of this task cannot be met\",\"traceback\":[]}") []

-- 33 entries, 1 opening
abbrev pub drawn_1 : List Line
drawn_1 =
    line (Input (Open 0 TwoBin 1 3)) None true []
    ∷ line (Input (Up 2 Engine 0 0 (codes "d"))) None true []
    ∷ line (Input (In 2 0 0 drawn_1_m0)) (Some (Join (codes "e4"))) true (Made 2 0 (codes "hub-1-2") (codes "registration_reply") (codes "{\"msg_id\":\"j1\",\"msg_type\":\"registration_request\"}") (codes "{\"status\":\"ok\",\"id\":0}") [] ∷ [])
    ∷ line (Input (Up 3 Task 0 0 (codes "]"))) None true []
    ∷ line (Input (Up 4 Engine 0 0 (codes "conn-4"))) None true []
    ∷ line (Input (In 4 0 0 drawn_1_m1)) (Some (Join (codes "e5"))) true (Made 4 0 (codes "hub-1-5") (codes "registration_reply") (codes "{\"msg_id\":\"j2\",\"msg_type\":\"registration_request\"}") (codes "{\"status\":\"ok\",\"id\":1}") [] ∷ [])
    ∷ line (Input (Up 11 Task 0 0 (codes "conn-11"))) None true []
    ∷ line (Input (Up 12 Mux 0 0 (codes "x12"))) None true []
    ∷ line (Input (Up 13 Hub 0 0 (codes "c"))) None true []
    ∷ line (Input (In 13 1598491746133 0 drawn_1_m2)) (Some (Resubmit [])) true (Made 13 1598491746133 (codes "hub-1-9") (codes "resubmit_reply") (codes "{\"msg_id\":\"q3\",\"msg_type\":\"resubmit_request\"}") (codes "{\"status\":\"ok\",\"resubmitted\":{}}") [] ∷ [])
    ∷ line (Input (In 13 1598491752134 16301437414524212 drawn_1_m3)) (Some (Ask (Result ((codes "none") ∷ (codes "none") ∷ []) false))) false (Made 13 1598491752134 (codes "hub-1-10") (codes "result_reply") (codes "{\"msg_id\":\"q4\",\"msg_type\":\"result_request\"}") (codes "{\"status\":\"error\",\"ename\":\"UnknownIds\",\"evalue\":\"\",\"traceback\":[],\"ids\":[\"none\"]}") [] ∷ [])
    ∷ line (Input (Time 1598491755134 0)) None true []
    ∷ line (Input (In 12 1598491755134 4765586805356623100 drawn_1_m4)) (Some (Direct (submission (codes "d5") (codes "execute_request") [] [] no_dependency no_dependency [] 0 0))) true []
    ∷ decision (Hand (codes "d5") 0) (Pass 2 drawn_1_m5 ∷ [])
    ∷ line (Input (In 11 113800949843572 7670208223590827448 drawn_1_m6)) (Some (Submit (submission (codes "t6") (codes "apply_request") (codes "s") (codes "u") no_dependency no_dependency [] 60 0))) true []
    ∷ decision (Hand (codes "t6") 0) (Pass 2 drawn_1_m6 ∷ [])
    ∷ line (Input (In 11 1598491755136 1214665395268539100 drawn_1_m7)) (Some (Submit (submission (codes "t7") (codes "execute_request") (codes "s") (codes "u") (dep ((codes "t6") ∷ []) true true false) no_dependency ((codes "e3") ∷ (codes "e2") ∷ []) 0 0))) true []
    ∷ decision (Settle (codes "t7") Failed ImpossibleDependency) (Pass 11 drawn_1_m8 ∷ [])
    ∷ line (Input (Beat 1598491815136 2604907191121378545)) None true (Made 2 1598491815136 (codes "hub-1-18-0") (codes "beat_request") (codes "{}") (codes "{\"beat\":1}") [] ∷ Made 4 1598491815136 (codes "hub-1-18-1") (codes "beat_request") (codes "{}") (codes "{\"beat\":1}") [] ∷ [])
    ∷ line (Input (In 2 1598491815136 2247169976628604122 drawn_1_m9)) (Some (Reply (codes "t6") (codes "r8") true false)) true []
    ∷ decision (Settle (codes "t6") Completed ByReply) (Pass 11 drawn_1_m9 ∷ [])
    ∷ line (Input (In 2 1598491815636 0 drawn_1_m10)) (Some (Reply (codes "d5") (codes "r9") false false)) true []
    ∷ decision (Settle (codes "d5") Failed ByReply) (Pass 12 drawn_1_m10 ∷ [])
    ∷ line (Input (In 12 1598491818636 0 drawn_1_m11)) (Some (Direct (submission (codes "d10") (codes "execute_request") [] [] no_dependency no_dependency [] 0 0))) false (Made 12 1598491818636 (codes "hub-1-23") (codes "submit_refused") (codes "{\"msg_id\":\"d10\",\"msg_type\":\"execute_request\"}") (codes "{\"status\":\"error\",\"ename\":\"NoSuchEngine\",\"evalue\":\"6e6f626f6479\",\"traceback\":[],\"ids\":[]}") [] ∷ [])
    ∷ line (Input (In 3 1598491818636 820050191633209292 drawn_1_m12)) (Some (Submit (submission (codes "t12") (codes "apply_request") (codes "s") (codes "u") no_dependency no_dependency [] 0 5))) true []
    ∷ decision (Hand (codes "t12") 1) (Pass 4 drawn_1_m12 ∷ [])
    ∷ line (Input (In 13 1598491821636 6711540406827648256 drawn_1_m13)) (Some (Ask (Queue [] true))) false (Made 13 1598491821636 (codes "hub-1-26") (codes "queue_reply") (codes "{\"msg_id\":\"q13\",\"msg_type\":\"queue_request\"}") (codes "{\"status\":\"ok\",\"unassigned\":[],\"0\":{\"queue\":[],\"completed\":[\"d5\",\"t6\"],\"tasks\":[]},\"1\":{\"queue\":[],\"completed\":[],\"tasks\":[\"t12\"]}}") [] ∷ [])
    ∷ line (Input (In 11 1598491881636 13768905262538549370 drawn_1_m14)) (Some (Submit (submission (codes "t14") (codes "apply_request") (codes "s") (codes "u") no_dependency (dep ((codes "d5") ∷ (codes "unknown") ∷ []) true false true) [] 0 2))) true []
    ∷ decision (Settle (codes "t14") Failed InvalidDependency) (Pass 11 drawn_1_m15 ∷ [])
    ∷ line (Input (In 11 1598491881636 13768905262538549370 drawn_1_m16)) (Some (Submit (submission (codes "t15") (codes "execute_request") (codes "s") (codes "u") no_dependency (dep ((codes "d5") ∷ []) true true false) [] 0 0))) true []
    ∷ decision (Settle (codes "t15") Failed ImpossibleDependency) (Pass 11 drawn_1_m17 ∷ [])
    ∷ line (Input (In 3 1598491881636 0 drawn_1_m12)) (Some (Submit (submission (codes "t12") (codes "apply_request") (codes "s") (codes "u") no_dependency no_dependency [] 0 5))) false []
    ∷ line (Input (Up 21 Task 1598491881636 16808653951143594133 (codes "x21"))) None true []
    ∷ []

pub drawn_1_is_told : IsTold drawn_1
unfolding digits escape_byte reserved_front next_word answer_id beat_id beat_request outcome_id resubmit_id header_text reply_type submit_refused empty_object ok_content join_content beat_content error_content outcome_content resubmit_content connection_content history_content queue_member queue_content settled_member result_content engine_lost_text date_of day_text time_text date_digits civil_date from_year from_month encode_with serde_json_on_literals is_utf8 chars event_of read_header is_request is_reply is_leave read_submit whole_timeouts ends_in_name is_db request_of read_content read_task read_declined read_status
drawn_1_is_told = record { goes = refl; reads = refl; rests = refl }

pub drawn_1_legal : Legal (goes_on [] drawn_1)
drawn_1_legal = told_legal drawn_1 drawn_1_is_told

abbrev drawn_2_m0 : Message
drawn_2_m0 = message [] (codes "{\"msg_id\":\"j1\",\"msg_type\":\"registration_request\"}") (codes "{}") (codes "{}") (codes "{\"uuid\":\"e0\"}") []

abbrev drawn_2_m1 : Message
drawn_2_m1 = message [] (codes "{\"msg_id\":\"j2\",\"msg_type\":\"registration_request\"}") (codes "{}") (codes "{}") (codes "{\"uuid\":\"e5\"}") []

abbrev drawn_2_m2 : Message
drawn_2_m2 = message (codes "e0") (codes "{\"msg_id\":\"d3\",\"msg_type\":\"execute_request\"}") (codes "{}") (codes "{}") (codes "{\"code\":\"1\"}") []

abbrev drawn_2_m3 : Message
drawn_2_m3 = message [] (codes "{\"msg_id\":\"d3\",\"msg_type\":\"execute_request\"}") (codes "{}") (codes "{}") (codes "{\"code\":\"1\"}") []

abbrev drawn_2_m4 : Message
drawn_2_m4 = message [] (codes "{\"msg_id\":\"p4\",\"msg_type\":\"beat_reply\"}") (codes "{}") (codes "{}") (codes "{\"beat\":18446744073709551615}") []

abbrev drawn_2_m5 : Message
drawn_2_m5 = message [] (codes "{\"msg_id\":\"t5\",\"msg_type\":\"apply_request\",\"session\":\"s\",\"username\":\"u\"}") (codes "{}") (codes "{\"retries\":0}") (codes "{\"code\":\"7+4\"}") []

abbrev drawn_2_m6 : Message
drawn_2_m6 = message [] (codes "{\"msg_id\":\"q6\",\"msg_type\":\"purge_request\"}") (codes "{}") (codes "{}") (codes "{\"msg_ids\":[\"t5\"]}") []

abbrev drawn_2_m7 : Message
drawn_2_m7 = message [] (codes "{\"msg_id\":\"r1\",\"msg_type\":\"execute_reply\"}") (codes "{\"msg_id\":\"d3\"}") (codes "{}") (codes "{\"status\":\"ok\"}") []

abbrev drawn_2_m8 : Message
drawn_2_m8 = message [] (codes "{\"msg_id\":\"l8\",\"msg_type\":\"unregistration_request\"}") (codes "{}") (codes "{}") (codes "{}") []

abbrev drawn_2_m9 : Message
drawn_2_m9 = message [] (codes "{\"msg_id\":\"out-1\",\"session\":\"controller\",\"username\":\"controller\",\"date\":\"1997-04-01T08:21:29.737Z\",\"msg_type\":\"execute_reply\",\"version\":\"5.3\"}") (codes "{\"msg_id\":\"d3\",\"msg_type\":\"execute_request\"}") (codes "{}") (codes "{\"status\":\"error\",\"ename\":\"EngineError\",\"evalue\":\"engine 0 was lost while it ran this task\",\"traceback\":[]}") []

abbrev drawn_2_m10 : Message
drawn_2_m10 = message [] (codes "{\"msg_id\":\"out-2\",\"session\":\"controller\",\"username\":\"controller\",\"date\":\"1997-04-01T08:21:29.737Z\",\"msg_type\":\"apply_reply\",\"version\":\"5.3\"}") (codes "{\"msg_id\":\"t5\",\"msg_type\":\"apply_request\",\"session\":\"s\",\"username\":\"u\"}") (codes "{}") (codes "{\"status\":\"error\",\"ename\":\"EngineError\",\"evalue\":\"engine 0 was lost while it ran this task\",\"traceback\":[]}") []

abbrev drawn_2_m11 : Message
drawn_2_m11 = message [] (codes "{\"msg_id\":\"t9\",\"msg_type\":\"apply_request\",\"session\":\"s\",\"username\":\"u\"}") (codes "{}") (codes "{\"after\":{\"dependencies\":[\"t5\",\"d3\",\"d3\"],\"all\":true},\"targets\":[\"engine \\u00e9\",\"e2\",\"nobody\"],\"retries\":1,\"timeout\":-1}") (codes "{\"code\":\"5+5\"}") []

abbrev drawn_2_m12 : Message
drawn_2_m12 = message (codes "nobody") (codes "{\"msg_id\":\"d10\",\"msg_type\":\"execute_request\"}") (codes "{}") (codes "{}") (codes "{\"code\":\"1\"}") []

abbrev drawn_2_m13 : Message
drawn_2_m13 = message [] (codes "{\"msg_id\":\"t11\",\"msg_type\":\"execute_request\",\"session\":\"s\",\"username\":\"u\"}") (codes "{}") (codes "{\"after\":{\"dependencies\":[\"t5\"],\"failure\":true},\"follow\":[\"t5\"]}") (codes "{\"code\":\"3+1\"}") []

abbrev drawn_2_m14 : Message
drawn_2_m14 = message [] (codes "{\"msg_id\":\"out-3\",\"session\":\"controller\",\"username\":\"controller\",\"date\":\"1997-04-01T08:21:32.737Z\",\"msg_type\":\"execute_reply\",\"version\":\"5.3\"}") (codes "{\"msg_id\":\"t11\",\"msg_type\":\"execute_request\",\"session\":\"s\",\"username\":\"u\"}") (codes "{}") (codes "{\"status\":\"error\",\"ename\":\"ImpossibleDependency\",\"evalue\":\"the dependencies of this task cannot be met\",\"traceback\":[]}") []

abbrev drawn_2_m15 : Message
drawn_2_m15 = message [] (codes "{\"msg_id\":\"j12\",\"msg_type\":\"registration_request\"}") (codes "{}") (codes "{}") (codes "{") []

abbrev drawn_2_m16 : Message
drawn_2_m16 = message [] (codes "{\"msg_id\":\"j14\",\"msg_type\":\"registration_request\"}") (codes "{}") (codes "{}") (codes "{\"uuid\":\"e4\"}") []

abbrev drawn_2_m17 : Message
drawn_2_m17 = message [] (codes "{\"msg_id\":\"q15\",\"msg_type\":\"purge_request\"}") (codes "{}") (codes "{}") (codes "{\"msg_ids\":[\"t5\",\"t11\"]}") []

abbrev drawn_2_m18 : Message
drawn_2_m18 = message [] (codes "{\"msg_id\":\"l16\",\"msg_type\":\"unregistration_request\"}") (codes "{}") (codes "{}") (codes "{}") []

-- 28 entries, 1 opening
abbrev pub drawn_2 : List Line
drawn_2 =
    line (Input (Open 0 PlainRandom 0 1)) None true []
    ∷ line (Input (Up 2 Engine 0 0 (codes "conn-2"))) None true []
    ∷ line (Input (In 2 0 0 drawn_2_m0)) (Some (Join (codes "e0"))) true (Made 2 0 (codes "hub-1-2") (codes "registration_reply") (codes "{\"msg_id\":\"j1\",\"msg_type\":\"registration_request\"}") (codes "{\"status\":\"ok\",\"id\":0}") [] ∷ [])
    ∷ line (Input (Up 3 Task 0 0 (codes "x3"))) None true []
    ∷ line (Input (Up 4 Engine 0 0 (codes "d"))) None true []
    ∷ line (Input (In 4 0 0 drawn_2_m1)) (Some (Join (codes "e5"))) true (Made 4 0 (codes "hub-1-5") (codes "registration_reply") (codes "{\"msg_id\":\"j2\",\"msg_type\":\"registration_request\"}") (codes "{\"status\":\"ok\",\"id\":1}") [] ∷ [])
    ∷ line (Input (Up 5 Task 0 0 (codes "conn-5"))) None true []
    ∷ line (Input (Up 6 Mux 0 0 (codes "conn-6"))) None true []
    ∷ line (Input (Up 7 Hub 0 0 (codes "c"))) None true []
    ∷ line (Input (In 6 859882889737 396407543794643817 drawn_2_m2)) (Some (Direct (submission (codes "d3") (codes "execute_request") [] [] no_dependency no_dependency [] 0 0))) true []
    ∷ decision (Hand (codes "d3") 0) (Pass 2 drawn_2_m3 ∷ [])
    ∷ line (Input (In 4 859882889737 17979937621566562771 drawn_2_m4)) (Some (Pong 18446744073709551615)) false []
    ∷ line (Input (In 5 859882889737 0 drawn_2_m5)) (Some (Submit (submission (codes "t5") (codes "apply_request") (codes "s") (codes "u") no_dependency no_dependency [] 0 0))) true []
    ∷ decision (Hand (codes "t5") 0) (Pass 2 drawn_2_m5 ∷ [])
    ∷ line (Input (In 7 859882889737 0 drawn_2_m6)) (Some (Purge false ((codes "t5") ∷ []))) false (Made 7 859882889737 (codes "hub-1-14") (codes "purge_reply") (codes "{\"msg_id\":\"q6\",\"msg_type\":\"purge_request\"}") (codes "{\"status\":\"error\",\"ename\":\"Inflight\",\"evalue\":\"\",\"traceback\":[],\"ids\":[\"t5\"]}") [] ∷ [])
    ∷ line (Input (In 4 859882889737 5102605995606973225 drawn_2_m7)) (Some (Reply (codes "d3") (codes "r1") true false)) false []
    ∷ line (Input (In 2 859882889737 14827129288193395158 drawn_2_m8)) (Some (Leave)) true (Made 2 859882889737 (codes "hub-1-16") (codes "unregistration_reply") (codes "{\"msg_id\":\"l8\",\"msg_type\":\"unregistration_request\"}") (codes "{\"status\":\"ok\"}") [] ∷ [])
    ∷ decision (Settle (codes "d3") Failed EngineError) (Pass 6 drawn_2_m9 ∷ [])
    ∷ decision (Settle (codes "t5") Failed EngineError) (Pass 5 drawn_2_m10 ∷ [])
    ∷ line (Input (In 5 859882889737 5581578216344342344 drawn_2_m11)) (Some (Ask (Bad (codes "timeout")))) false (Made 5 859882889737 (codes "hub-1-19") (codes "submit_refused") (codes "{\"msg_id\":\"t9\",\"msg_type\":\"apply_request\",\"session\":\"s\",\"username\":\"u\"}") (codes "{\"status\":\"error\",\"ename\":\"BadMetadata\",\"evalue\":\"timeout\",\"traceback\":[],\"ids\":[]}") [] ∷ [])
    ∷ line (Input (In 6 859882889737 0 drawn_2_m12)) (Some (Direct (submission (codes "d10") (codes "execute_request") [] [] no_dependency no_dependency [] 0 0))) false (Made 6 859882889737 (codes "hub-1-20") (codes "submit_refused") (codes "{\"msg_id\":\"d10\",\"msg_type\":\"execute_request\"}") (codes "{\"status\":\"error\",\"ename\":\"NoSuchEngine\",\"evalue\":\"6e6f626f6479\",\"traceback\":[],\"ids\":[]}") [] ∷ [])
    ∷ line (Input (In 3 859882892737 1902022768856980553 drawn_2_m13)) (Some (Submit (submission (codes "t11") (codes "execute_request") (codes "s") (codes "u") (dep ((codes "t5") ∷ []) true true true) (dep ((codes "t5") ∷ []) true true false) [] 0 0))) true []
    ∷ decision (Settle (codes "t11") Failed ImpossibleDependency) (Pass 3 drawn_2_m14 ∷ [])
    ∷ line (Input (In 2 859882892737 16888059516035258928 drawn_2_m15)) (Some (Ask (Bad (codes "content")))) false (Made 2 859882892737 (codes "hub-1-23") (codes "registration_reply") (codes "{\"msg_id\":\"j12\",\"msg_type\":\"registration_request\"}") (codes "{\"status\":\"error\",\"ename\":\"BadContent\",\"evalue\":\"content\",\"traceback\":[],\"ids\":[]}") [] ∷ [])
    ∷ line (Input (In 2 859882898737 1979216623909292546 drawn_2_m16)) (Some (Join (codes "e4"))) true (Made 2 859882898737 (codes "hub-1-24") (codes "registration_reply") (codes "{\"msg_id\":\"j14\",\"msg_type\":\"registration_request\"}") (codes "{\"status\":\"ok\",\"id\":2}") [] ∷ [])
    ∷ line (Input (In 7 859882898738 2400906194776339714 drawn_2_m17)) (Some (Purge false ((codes "t5") ∷ (codes "t11") ∷ []))) true (Made 7 859882898738 (codes "hub-1-25") (codes "purge_reply") (codes "{\"msg_id\":\"q15\",\"msg_type\":\"purge_request\"}") (codes "{\"status\":\"ok\"}") [] ∷ [])
    ∷ line (Input (Beat 859882958738 0)) None true (Made 4 859882958738 (codes "hub-1-26-1") (codes "beat_request") (codes "{}") (codes "{\"beat\":1}") [] ∷ Made 2 859882958738 (codes "hub-1-26-2") (codes "beat_request") (codes "{}") (codes "{\"beat\":1}") [] ∷ [])
    ∷ line (Input (In 2 859883021738 1978548994531638966 drawn_2_m18)) (Some (Leave)) true (Made 2 859883021738 (codes "hub-1-27") (codes "unregistration_reply") (codes "{\"msg_id\":\"l16\",\"msg_type\":\"unregistration_request\"}") (codes "{\"status\":\"ok\"}") [] ∷ [])
    ∷ []

pub drawn_2_is_told : IsTold drawn_2
unfolding digits escape_byte reserved_front next_word answer_id beat_id beat_request outcome_id resubmit_id header_text reply_type submit_refused empty_object ok_content join_content beat_content error_content outcome_content resubmit_content connection_content history_content queue_member queue_content settled_member result_content engine_lost_text date_of day_text time_text date_digits civil_date from_year from_month encode_with serde_json_on_literals is_utf8 chars event_of read_header is_request is_reply is_leave read_submit whole_timeouts ends_in_name is_db request_of read_content read_task read_declined read_status
drawn_2_is_told = record { goes = refl; reads = refl; rests = refl }

pub drawn_2_legal : Legal (goes_on [] drawn_2)
drawn_2_legal = told_legal drawn_2 drawn_2_is_told

abbrev drawn_3_m0 : Message
drawn_3_m0 = message [] (codes "{\"msg_id\":\"j2\",\"msg_type\":\"registration_request\"}") (codes "{}") (codes "{}") (codes "{\"uuid\":\"e3\"}") []

abbrev drawn_3_m1 : Message
drawn_3_m1 = message [] (codes "{\"msg_id\":\"t5\",\"msg_type\":\"execute_request\",\"session\":\"s\",\"username\":\"u\"}") (codes "{}") (codes "{\"timeout\": 55.0, \"retries\": 1}") (codes "{\"code\":\"3+4\"}") ((codes "buf") ∷ (codes "buf") ∷ [])

abbrev drawn_3_m2 : Message
drawn_3_m2 = message [] (codes "{\"msg_id\":\"r6\",\"msg_type\":\"apply_reply\"}") (codes "{\"msg_id\":\"t5\",\"x\":1}") (codes "{\"dependencies_met\":true}") (codes "{\"status\":\"ok\",\"result\":\"42\"}") []

abbrev drawn_3_m3 : Message
drawn_3_m3 = message [] (codes "{\"msg_id\":\"j3\",\"msg_type\":\"registration_request\"}") (codes "{}") (codes "{}") (codes "{\"uuid\":\"e2\"}") []

abbrev drawn_3_m4 : Message
drawn_3_m4 = message [] (codes "{\"msg_id\":\"q8\",\"msg_type\":\"resubmit_request\"}") (codes "{}") (codes "{}") (codes "{\"msg_ids\":[\"t5\"]}") []

abbrev drawn_3_m5 : Message
drawn_3_m5 = message [] (codes "{\"msg_id\":\"resubmit:2\",\"session\":\"s\",\"username\":\"u\",\"date\":\"2023-09-04T08:41:39.802Z\",\"msg_type\":\"execute_request\",\"version\":\"5.3\"}") (codes "{}") (codes "{\"timeout\": 55.0, \"retries\": 1}") (codes "{\"code\":\"3+4\"}") ((codes "buf") ∷ (codes "buf") ∷ [])

abbrev drawn_3_m6 : Message
drawn_3_m6 = message [] (codes "{\"msg_id\":\"t9\",\"msg_type\":\"apply_request\",\"session\":\"s\",\"username\":\"u\"}") (codes "{}") (codes "{\"after\":[\"resubmit:2\",\"t5\",\"t5\"],\"retries\":2}") (codes "{\"code\":\"7+1\"}") []

abbrev drawn_3_m7 : Message
drawn_3_m7 = message [] (codes "{\"msg_id\":\"j1\",\"msg_type\":\"registration_request\"}") (codes "{}") (codes "{}") (codes "{\"uuid\":\"e0\"}") []

abbrev drawn_3_m8 : Message
drawn_3_m8 = message (codes "junk") (codes "{\"msg_id\":\"t4\",\"msg_type\":\"apply_request\",\"session\":\"s\",\"username\":\"u\"}") (codes "{}") (codes "{\"timeout\": 4.0, \"retries\": 1}") (codes "{\"code\":\"6+3\"}") []

abbrev drawn_3_m9 : Message
drawn_3_m9 = message [] (codes "{\"msg_id\":\"out-4\",\"session\":\"controller\",\"username\":\"controller\",\"date\":\"1993-10-12T20:05:23.871Z\",\"msg_type\":\"apply_reply\",\"version\":\"5.3\"}") (codes "{\"msg_id\":\"t4\",\"msg_type\":\"apply_request\",\"session\":\"s\",\"username\":\"u\"}") (codes "{}") (codes "{\"status\":\"error\",\"ename\":\"TaskTimeout\",\"evalue\":\"the task waited past its timeout\",\"traceback\":[]}") []

abbrev drawn_3_m10 : Message
drawn_3_m10 = message [] (codes "{\"msg_id\":\"resubmit:5\",\"msg_type\":\"execute_request\",\"session\":\"s\",\"username\":\"u\"}") (codes "{}") (codes "{\"retries\":1}") (codes "{\"code\":\"8+7\"}") []

abbrev drawn_3_m11 : Message
drawn_3_m11 = message [] (codes "{\"msg_id\":\"t6\",\"msg_type\":\"execute_request\",\"session\":\"s\",\"username\":\"u\"}") (codes "{}") (codes "{\"after\":1.5}") (codes "{\"code\":\"0+5\"}") ((codes "buf") ∷ (codes "buf") ∷ [])

abbrev drawn_3_m12 : Message
drawn_3_m12 = message (codes "nobody") (codes "{\"msg_id\":\"d7\",\"msg_type\":\"execute_request\"}") (codes "{}") (codes "{}") (codes "{\"code\":\"1\"}") []

abbrev drawn_3_m13 : Message
drawn_3_m13 = message [] (codes "{\"msg_id\":\"t8\",\"msg_type\":\"apply_request\",\"session\":\"s\",\"username\":\"u\"}") (codes "{}") (codes "{\"timeout\": 20.0, \"retries\": 1}") (codes "{\"code\":\"4+8\"}") []

abbrev drawn_3_m14 : Message
drawn_3_m14 = message [] (codes "{\"msg_id\":\"out-5\",\"session\":\"controller\",\"username\":\"controller\",\"date\":\"1993-10-12T20:05:24.371Z\",\"msg_type\":\"apply_reply\",\"version\":\"5.3\"}") (codes "{\"msg_id\":\"t8\",\"msg_type\":\"apply_request\",\"session\":\"s\",\"username\":\"u\"}") (codes "{}") (codes "{\"status\":\"error\",\"ename\":\"TaskTimeout\",\"evalue\":\"the task waited past its timeout\",\"traceback\":[]}") []

-- 38 entries, 2 openings
abbrev pub drawn_3 : List Line
drawn_3 =
    line (Input (Open 0 Lru 1 1)) None true []
    ∷ line (Input (Up 3 Engine 0 0 (codes "conn-3"))) None true []
    ∷ line (Input (Up 4 Task 0 0 (codes "UUUUUUUUUUUUUUUUUUUUUUUUUUUUUUUUUUUUUUUUUUUUUUUUUUUUUUUUUUUUUUUUUUUUUUUUUUUUUUUUUUUUUUUUUUUUUUUUUUUUUUUUUUUUUUUUUUUUUUUUUUUUUUUUUUUUUUUUUUUUUUUUUUUUUUUUUUUUUUUUUUUUUUUUUUUUUUUUUUUUUUUUUUUUUUUUUUUUUUUUUUUUUUUUUUUUUUUUUUUUUUUUUUUUUUUUUUUUUUUUUUUUUUUUUUUUUUU"))) None true []
    ∷ line (Input (Up 5 Engine 0 0 (codes "conn-5"))) None true []
    ∷ line (Input (In 5 0 0 drawn_3_m0)) (Some (Join (codes "e3"))) true (Made 5 0 (codes "hub-1-4") (codes "registration_reply") (codes "{\"msg_id\":\"j2\",\"msg_type\":\"registration_request\"}") (codes "{\"status\":\"ok\",\"id\":0}") [] ∷ [])
    ∷ line (Input (Up 12 Task 0 0 (codes "conn-12"))) None true []
    ∷ line (Input (Up 13 Mux 0 0 (codes "conn-13"))) None true []
    ∷ line (Input (Up 14 Hub 0 0 (221 ∷ []))) None true []
    ∷ line (Input (In 4 1693816776301 10895224481394648555 drawn_3_m1)) (Some (Submit (submission (codes "t5") (codes "execute_request") (codes "s") (codes "u") no_dependency no_dependency [] 55 1))) true []
    ∷ decision (Hand (codes "t5") 0) (Pass 5 drawn_3_m1 ∷ [])
    ∷ line (Input (In 5 1693816776301 2197724934517383935 drawn_3_m2)) (Some (Reply (codes "t5") (codes "r6") true false)) true []
    ∷ decision (Settle (codes "t5") Completed ByReply) (Pass 4 drawn_3_m2 ∷ [])
    ∷ line (Input (Beat 1693816779302 9427890271248528767)) None true (Made 5 1693816779302 (codes "hub-1-12-0") (codes "beat_request") (codes "{}") (codes "{\"beat\":1}") [] ∷ [])
    ∷ line (Input (In 3 1693816839302 1178680630554588412 drawn_3_m3)) (Some (Join (codes "e2"))) true (Made 3 1693816839302 (codes "hub-1-13") (codes "registration_reply") (codes "{\"msg_id\":\"j3\",\"msg_type\":\"registration_request\"}") (codes "{\"status\":\"ok\",\"id\":1}") [] ∷ [])
    ∷ line (Input (In 14 1693816899802 10860359028793419764 drawn_3_m4)) (Some (Resubmit ((codes "t5") ∷ []))) true (Made 14 1693816899802 (codes "hub-1-14") (codes "resubmit_reply") (codes "{\"msg_id\":\"q8\",\"msg_type\":\"resubmit_request\"}") (codes "{\"status\":\"ok\",\"resubmitted\":{\"t5\":\"resubmit:2\"}}") [] ∷ [])
    ∷ decision (Hand (codes "resubmit:2") 0) (Pass 5 drawn_3_m5 ∷ [])
    ∷ line (Input (In 4 1693816899802 13655863405315038921 drawn_3_m6)) (Some (Submit (submission (codes "t9") (codes "apply_request") (codes "s") (codes "u") (dep ((codes "resubmit:2") ∷ (codes "t5") ∷ []) true true false) no_dependency [] 0 2))) true []
    ∷ line (Input (Down 4 1693816899802 2773840470638075229)) None true []
    ∷ line (Input (Beat 1693816899802 1044603230630425146)) None true (Made 5 1693816899802 (codes "hub-1-18-0") (codes "beat_request") (codes "{}") (codes "{\"beat\":2}") [] ∷ Made 3 1693816899802 (codes "hub-1-18-1") (codes "beat_request") (codes "{}") (codes "{\"beat\":2}") [] ∷ [])
    ∷ decision (Lose 0) []
    ∷ decision (Hand (codes "resubmit:2") 1) (Pass 3 drawn_3_m5 ∷ [])
    ∷ line (Input (Open 0 Lru 2 1)) None true []
    ∷ decision (Settle (codes "resubmit:2") Failed EngineError) []
    ∷ decision (Settle (codes "t9") Failed ImpossibleDependency) []
    ∷ line (Input (Up 1 Engine 0 0 (codes "c"))) None true []
    ∷ line (Input (In 1 0 0 drawn_3_m7)) (Some (Join (codes "e0"))) true (Made 1 0 (codes "hub-2-4") (codes "registration_reply") (codes "{\"msg_id\":\"j1\",\"msg_type\":\"registration_request\"}") (codes "{\"status\":\"ok\",\"id\":2}") [] ∷ [])
    ∷ line (Input (Up 2 Task 0 0 (170 ∷ 170 ∷ 170 ∷ 170 ∷ 170 ∷ 170 ∷ 170 ∷ 170 ∷ 170 ∷ 170 ∷ 170 ∷ 170 ∷ 170 ∷ 170 ∷ 170 ∷ 170 ∷ 170 ∷ 170 ∷ 170 ∷ 170 ∷ 170 ∷ 170 ∷ 170 ∷ 170 ∷ 170 ∷ 170 ∷ 170 ∷ 170 ∷ 170 ∷ 170 ∷ 170 ∷ 170 ∷ 170 ∷ 170 ∷ 170 ∷ 170 ∷ 170 ∷ 170 ∷ 170 ∷ 170 ∷ 170 ∷ 170 ∷ 170 ∷ 170 ∷ 170 ∷ 170 ∷ 170 ∷ 170 ∷ 170 ∷ 170 ∷ 170 ∷ 170 ∷ 170 ∷ 170 ∷ 170 ∷ 170 ∷ 170 ∷ 170 ∷ 170 ∷ 170 ∷ 170 ∷ 170 ∷ 170 ∷ 170 ∷ 170 ∷ 170 ∷ 170 ∷ 170 ∷ 170 ∷ 170 ∷ 170 ∷ 170 ∷ 170 ∷ 170 ∷ 170 ∷ 170 ∷ 170 ∷ 170 ∷ 170 ∷ 170 ∷ 170 ∷ 170 ∷ 170 ∷ 170 ∷ 170 ∷ 170 ∷ 170 ∷ 170 ∷ 170 ∷ 170 ∷ 170 ∷ 170 ∷ 170 ∷ 170 ∷ 170 ∷ 170 ∷ 170 ∷ 170 ∷ 170 ∷ 170 ∷ 170 ∷ 170 ∷ 170 ∷ 170 ∷ 170 ∷ 170 ∷ 170 ∷ 170 ∷ 170 ∷ 170 ∷ 170 ∷ 170 ∷ 170 ∷ 170 ∷ 170 ∷ 170 ∷ 170 ∷ 170 ∷ 170 ∷ 170 ∷ 170 ∷ 170 ∷ 170 ∷ 170 ∷ 170 ∷ 170 ∷ 170 ∷ 170 ∷ 170 ∷ 170 ∷ 170 ∷ 170 ∷ 170 ∷ 170 ∷ 170 ∷ 170 ∷ 170 ∷ 170 ∷ 170 ∷ 170 ∷ 170 ∷ 170 ∷ 170 ∷ 170 ∷ 170 ∷ 170 ∷ 170 ∷ 170 ∷ 170 ∷ 170 ∷ 170 ∷ 170 ∷ 170 ∷ 170 ∷ 170 ∷ 170 ∷ 170 ∷ 170 ∷ 170 ∷ 170 ∷ 170 ∷ 170 ∷ 170 ∷ 170 ∷ 170 ∷ 170 ∷ 170 ∷ 170 ∷ 170 ∷ 170 ∷ 170 ∷ 170 ∷ 170 ∷ 170 ∷ 170 ∷ 170 ∷ 170 ∷ 170 ∷ 170 ∷ 170 ∷ 170 ∷ 170 ∷ 170 ∷ 170 ∷ 170 ∷ 170 ∷ 170 ∷ 170 ∷ 170 ∷ 170 ∷ 170 ∷ 170 ∷ 170 ∷ 170 ∷ 170 ∷ 170 ∷ 170 ∷ 170 ∷ 170 ∷ 170 ∷ 170 ∷ 170 ∷ 170 ∷ 170 ∷ 170 ∷ 170 ∷ 170 ∷ 170 ∷ 170 ∷ 170 ∷ 170 ∷ 170 ∷ 170 ∷ 170 ∷ 170 ∷ 170 ∷ 170 ∷ 170 ∷ 170 ∷ 170 ∷ 170 ∷ 170 ∷ 170 ∷ 170 ∷ 170 ∷ 170 ∷ 170 ∷ 170 ∷ 170 ∷ 170 ∷ 170 ∷ 170 ∷ 170 ∷ 170 ∷ 170 ∷ 170 ∷ 170 ∷ 170 ∷ 170 ∷ 170 ∷ 170 ∷ 170 ∷ 170 ∷ 170 ∷ 170 ∷ 170 ∷ 170 ∷ 170 ∷ 170 ∷ 170 ∷ 170 ∷ 170 ∷ 170 ∷ 170 ∷ 170 ∷ []))) None true []
    ∷ line (Input (Up 10 Task 0 0 (codes "conn-10"))) None true []
    ∷ line (Input (Up 11 Mux 0 0 (codes "x11"))) None true []
    ∷ line (Input (Up 18 Hub 0 0 (codes "c"))) None true []
    ∷ line (Input (In 10 750456323871 1741436928135446830 drawn_3_m8)) (Some (Submit (submission (codes "t4") (codes "apply_request") (codes "s") (codes "u") no_dependency no_dependency [] 4 1))) true []
    ∷ decision (Settle (codes "t4") Failed TaskTimeout) (Pass 10 drawn_3_m9 ∷ [])
    ∷ line (Input (In 2 750456323871 5445553584360407230 drawn_3_m10)) (Some (Submit (submission (codes "resubmit:5") (codes "execute_request") (codes "s") (codes "u") no_dependency no_dependency [] 0 1))) false (Made 2 750456323871 (codes "hub-2-11") (codes "submit_refused") (codes "{\"msg_id\":\"resubmit:5\",\"msg_type\":\"execute_request\",\"session\":\"s\",\"username\":\"u\"}") (codes "{\"status\":\"error\",\"ename\":\"ReservedId\",\"evalue\":\"resubmit:5\",\"traceback\":[],\"ids\":[]}") [] ∷ [])
    ∷ line (Input (Time 750456324371 2022068480111697102)) None true []
    ∷ line (Input (In 2 750456324371 0 drawn_3_m11)) (Some (Ask (Bad (codes "after")))) false (Made 2 750456324371 (codes "hub-2-13") (codes "submit_refused") (codes "{\"msg_id\":\"t6\",\"msg_type\":\"execute_request\",\"session\":\"s\",\"username\":\"u\"}") (codes "{\"status\":\"error\",\"ename\":\"BadMetadata\",\"evalue\":\"after\",\"traceback\":[],\"ids\":[]}") [] ∷ [])
    ∷ line (Input (In 11 750456324371 12923577360358105341 drawn_3_m12)) (Some (Direct (submission (codes "d7") (codes "execute_request") [] [] no_dependency no_dependency [] 0 0))) false (Made 11 750456324371 (codes "hub-2-14") (codes "submit_refused") (codes "{\"msg_id\":\"d7\",\"msg_type\":\"execute_request\"}") (codes "{\"status\":\"error\",\"ename\":\"NoSuchEngine\",\"evalue\":\"6e6f626f6479\",\"traceback\":[],\"ids\":[]}") [] ∷ [])
    ∷ line (Input (In 2 750456324371 0 drawn_3_m13)) (Some (Submit (submission (codes "t8") (codes "apply_request") (codes "s") (codes "u") no_dependency no_dependency [] 20 1))) true []
    ∷ decision (Settle (codes "t8") Failed TaskTimeout) (Pass 2 drawn_3_m14 ∷ [])
    ∷ []

pub drawn_3_is_told : IsTold drawn_3
unfolding digits escape_byte reserved_front next_word answer_id beat_id beat_request outcome_id resubmit_id header_text reply_type submit_refused empty_object ok_content join_content beat_content error_content outcome_content resubmit_content connection_content history_content queue_member queue_content settled_member result_content engine_lost_text date_of day_text time_text date_digits civil_date from_year from_month encode_with serde_json_on_literals is_utf8 chars event_of read_header is_request is_reply is_leave read_submit whole_timeouts ends_in_name is_db request_of read_content read_task read_declined read_status
drawn_3_is_told = record { goes = refl; reads = refl; rests = refl }

pub drawn_3_legal : Legal (goes_on [] drawn_3)
drawn_3_legal = told_legal drawn_3 drawn_3_is_told

abbrev drawn_4_m0 : Message
drawn_4_m0 = message [] (codes "{\"msg_id\":\"j1\",\"msg_type\":\"registration_request\"}") (codes "{}") (codes "{}") (codes "{\"uuid\":\"e1\"}") []

abbrev drawn_4_m1 : Message
drawn_4_m1 = message [] (codes "{\"msg_id\":\"j2\",\"msg_type\":\"registration_request\"}") (codes "{}") (codes "{}") (codes "{\"uuid\":\"e4\"}") []

abbrev drawn_4_m2 : Message
drawn_4_m2 = message [] (codes "{\"msg_id\":\"t3\",\"msg_type\":\"apply_request\",\"session\":\"s\",\"username\":\"u\"}") (codes "{}") (codes "{\"timeout\": 47.0, \"retries\": 1}") (codes "{\"code\":\"0+1\"}") []

abbrev drawn_4_m3 : Message
drawn_4_m3 = message [] (codes "{\"msg_id\":\"l5\",\"msg_type\":\"unregistration_request\"}") (codes "{}") (codes "{}") (codes "{}") []

abbrev drawn_4_m4 : Message
drawn_4_m4 = message [] (codes "{\"msg_id\":\"t4\",\"msg_type\":\"apply_request\",\"session\":\"s\",\"username\":\"u\"}") (codes "{}") (codes "{\"targets\":[\"nobody\"]}") (codes "{\"code\":\"2+4\"}") []

abbrev drawn_4_m5 : Message
drawn_4_m5 = message [] (codes "{\"msg_id\":\"out-2\",\"session\":\"controller\",\"username\":\"controller\",\"date\":\"2001-07-31T01:17:09.834Z\",\"msg_type\":\"apply_reply\",\"version\":\"5.3\"}") (codes "{\"msg_id\":\"t4\",\"msg_type\":\"apply_request\",\"session\":\"s\",\"username\":\"u\"}") (codes "{}") (codes "{\"status\":\"error\",\"ename\":\"ImpossibleDependency\",\"evalue\":\"the dependencies of this task cannot be met\",\"traceback\":[]}") []

abbrev drawn_4_m6 : Message
drawn_4_m6 = message [] (codes "{\"msg_id\":\"t6\",\"msg_type\":\"apply_request\",\"session\":\"s\",\"username\":\"u\"}") (codes "{}") (codes "{}") (codes "{\"code\":\"1+8\"}") []

abbrev drawn_4_m7 : Message
drawn_4_m7 = message [] (codes "{\"msg_id\":\"t7\",\"msg_type\":\"apply_request\",\"session\":\"s\",\"username\":\"u\"}") (codes "{}") (codes "{\"retries\":5}") (codes "{\"code\":\"8+2\"}") ((codes "buf") ∷ (codes "buf") ∷ [])

abbrev drawn_4_m8 : Message
drawn_4_m8 = message [] (codes "{\"msg_id\":\"q8\",\"msg_type\":\"resubmit_request\"}") (codes "{}") (codes "{}") (codes "{\"msg_ids\":[\"t4\",\"t7\",\"t6\",\"t4\",\"t4\"]}") []

abbrev drawn_4_m9 : Message
drawn_4_m9 = message [] (codes "{\"msg_id\":\"r10\",\"msg_type\":\"apply_reply\"}") (codes "{\"msg_id\":\"t3\",\"x\":1}") (codes "{\"started\":\"x\"}") (codes "{\"status\":\"aborted\",\"result\":\"42\"}") []

abbrev drawn_4_m10 : Message
drawn_4_m10 = message [] (codes "{\"msg_id\":\"p11\",\"msg_type\":\"beat_reply\"}") (codes "{}") (codes "{}") (codes "{\"beat\":1}") []

abbrev drawn_4_m11 : Message
drawn_4_m11 = message [] (codes "{\"msg_id\":\"r12\",\"msg_type\":\"apply_reply\"}") (codes "{\"msg_id\":\"t3\",\"x\":1}") (codes "{\"dependencies_met\":false}") (codes "{\"status\":\"ok\",\"result\":\"42\"}") []

abbrev drawn_4_m12 : Message
drawn_4_m12 = message [] (codes "{\"msg_id\":\"t13\",\"msg_type\":\"execute_request\",\"session\":\"s\",\"username\":\"u\"}") (codes "{}") (codes "{\"timeout\":0}") (codes "{\"code\":\"3+1\"}") ((codes "buf") ∷ (codes "buf") ∷ [])

abbrev drawn_4_m13 : Message
drawn_4_m13 = message (codes "e1") (codes "{\"msg_id\":\"d14\",\"msg_type\":\"execute_request\"}") (codes "{}") (codes "{}") (codes "{\"code\":\"1\"}") []

abbrev drawn_4_m14 : Message
drawn_4_m14 = message [] (codes "{\"msg_id\":\"d14\",\"msg_type\":\"execute_request\"}") (codes "{}") (codes "{}") (codes "{\"code\":\"1\"}") []

abbrev drawn_4_m15 : Message
drawn_4_m15 = message [] (codes "{\"msg_id\":\"t15\",\"msg_type\":\"execute_request\",\"session\":\"s\",\"username\":\"u\"}") (codes "{}") (codes "{\"after\":{\"dependencies\":[\"t4\",\"t3\",\"t3\"],\"success\":false},\"timeout\":null}") (codes "{\"code\":\"7+0\"}") []

abbrev drawn_4_m16 : Message
drawn_4_m16 = message [] (codes "{\"msg_id\":\"out-7\",\"session\":\"controller\",\"username\":\"controller\",\"date\":\"2001-07-31T01:18:13.335Z\",\"msg_type\":\"execute_reply\",\"version\":\"5.3\"}") (codes "{\"msg_id\":\"t15\",\"msg_type\":\"execute_request\",\"session\":\"s\",\"username\":\"u\"}") (codes "{}") (codes "{\"status\":\"error\",\"ename\":\"ImpossibleDependency\",\"evalue\":\"the dependencies of this task cannot be met\",\"traceback\":[]}") []

abbrev drawn_4_m17 : Message
drawn_4_m17 = message [] (codes "{\"msg_id\":\"r16\",\"msg_type\":\"execute_reply\"}") (codes "{\"msg_id\":\"t6\",\"x\":1}") (codes "{\"dependencies_met\":false}") (codes "{\"status\":\"error\",\"result\":\"42\"}") []

abbrev drawn_4_m18 : Message
drawn_4_m18 = message [] (codes "{\"msg_id\":\"t17\",\"msg_type\":\"apply_request\",\"session\":\"s\",\"username\":\"u\"}") (codes "{}") (codes "{\"after\":{\"dependencies\":[\"t13\"],\"success\":false}}") (codes "{\"code\":\"2+0\"}") ((codes "buf") ∷ (codes "buf") ∷ [])

-- 39 entries, 1 opening
abbrev pub drawn_4 : List Line
drawn_4 =
    line (Input (Open 0 LeastLoad 0 1)) None true []
    ∷ line (Input (Up 4 Engine 0 0 (codes "x4"))) None true []
    ∷ line (Input (In 4 0 0 drawn_4_m0)) (Some (Join (codes "e1"))) true (Made 4 0 (codes "hub-1-2") (codes "registration_reply") (codes "{\"msg_id\":\"j1\",\"msg_type\":\"registration_request\"}") (codes "{\"status\":\"ok\",\"id\":0}") [] ∷ [])
    ∷ line (Input (Up 11 Task 0 0 (codes "x11"))) None true []
    ∷ line (Input (Up 18 Engine 0 0 (codes "conn-18"))) None true []
    ∷ line (Input (In 18 0 0 drawn_4_m1)) (Some (Join (codes "e4"))) true (Made 18 0 (codes "hub-1-5") (codes "registration_reply") (codes "{\"msg_id\":\"j2\",\"msg_type\":\"registration_request\"}") (codes "{\"status\":\"ok\",\"id\":1}") [] ∷ [])
    ∷ line (Input (Up 19 Task 0 0 (codes "conn-19"))) None true []
    ∷ line (Input (Up 20 Mux 0 0 (codes "x20"))) None true []
    ∷ line (Input (Up 21 Hub 0 0 (codes "conn-21"))) None true []
    ∷ line (Input (In 11 996542223834 15688038387215149412 drawn_4_m2)) (Some (Submit (submission (codes "t3") (codes "apply_request") (codes "s") (codes "u") no_dependency no_dependency [] 47 1))) true []
    ∷ decision (Hand (codes "t3") 0) (Pass 4 drawn_4_m2 ∷ [])
    ∷ line (Input (Up 22 Engine 996542223834 0 (codes "conn-22"))) None true []
    ∷ line (Input (In 22 996542226834 4929657203980010568 drawn_4_m3)) (Some (Leave)) false (Made 22 996542226834 (codes "hub-1-12") (codes "unregistration_reply") (codes "{\"msg_id\":\"l5\",\"msg_type\":\"unregistration_request\"}") (codes "{\"status\":\"error\",\"ename\":\"NotJoined\",\"evalue\":\"\",\"traceback\":[],\"ids\":[]}") [] ∷ [])
    ∷ line (Input (In 11 996542229834 6996252743976895849 drawn_4_m4)) (Some (Submit (submission (codes "t4") (codes "apply_request") (codes "s") (codes "u") no_dependency no_dependency ((codes "nobody") ∷ []) 0 0))) true []
    ∷ decision (Settle (codes "t4") Failed ImpossibleDependency) (Pass 11 drawn_4_m5 ∷ [])
    ∷ line (Input (In 11 996542229834 6996252743976895849 drawn_4_m6)) (Some (Submit (submission (codes "t6") (codes "apply_request") (codes "s") (codes "u") no_dependency no_dependency [] 0 0))) true []
    ∷ decision (Hand (codes "t6") 1) (Pass 18 drawn_4_m6 ∷ [])
    ∷ line (Input (In 11 996542229834 6996252743976895849 drawn_4_m7)) (Some (Submit (submission (codes "t7") (codes "apply_request") (codes "s") (codes "u") no_dependency no_dependency [] 0 5))) true []
    ∷ decision (Hand (codes "t7") 0) (Pass 4 drawn_4_m7 ∷ [])
    ∷ line (Input (In 21 996542229834 0 drawn_4_m8)) (Some (Resubmit ((codes "t4") ∷ (codes "t7") ∷ (codes "t6") ∷ (codes "t4") ∷ (codes "t4") ∷ []))) false (Made 21 996542229834 (codes "hub-1-19") (codes "resubmit_reply") (codes "{\"msg_id\":\"q8\",\"msg_type\":\"resubmit_request\"}") (codes "{\"status\":\"error\",\"ename\":\"Inflight\",\"evalue\":\"\",\"traceback\":[],\"ids\":[\"t7\",\"t6\"]}") [] ∷ [])
    ∷ line (Input (Down 21 996542229835 5341934165067956495)) None true []
    ∷ line (Input (Time 996542229835 0)) None true []
    ∷ line (Input (In 19 996542229835 7731666860772432059 drawn_4_m7)) (Some (Submit (submission (codes "t7") (codes "apply_request") (codes "s") (codes "u") no_dependency no_dependency [] 0 5))) false []
    ∷ line (Input (Time 996542230335 0)) None true []
    ∷ line (Input (In 19 996542230335 6724688803705195470 drawn_4_m7)) (Some (Submit (submission (codes "t7") (codes "apply_request") (codes "s") (codes "u") no_dependency no_dependency [] 0 5))) false []
    ∷ line (Input (In 4 996542230335 16965222511311832579 drawn_4_m9)) (Some (Reply (codes "t3") (codes "r10") false false)) true []
    ∷ decision (Hand (codes "t3") 1) (Pass 18 drawn_4_m2 ∷ [])
    ∷ line (Input (In 22 996542290335 7887152207161028128 drawn_4_m10)) (Some (Pong 1)) false []
    ∷ line (Input (In 18 996542293335 0 drawn_4_m11)) (Some (Reply (codes "t3") (codes "r12") true true)) true []
    ∷ decision (Hand (codes "t3") 0) (Pass 4 drawn_4_m2 ∷ [])
    ∷ line (Input (In 19 996542293335 16354105891946197654 drawn_4_m12)) (Some (Submit (submission (codes "t13") (codes "execute_request") (codes "s") (codes "u") no_dependency no_dependency [] 0 0))) true []
    ∷ decision (Hand (codes "t13") 1) (Pass 18 drawn_4_m12 ∷ [])
    ∷ line (Input (In 20 996542293335 0 drawn_4_m13)) (Some (Direct (submission (codes "d14") (codes "execute_request") [] [] no_dependency no_dependency [] 0 0))) true []
    ∷ decision (Hand (codes "d14") 0) (Pass 4 drawn_4_m14 ∷ [])
    ∷ line (Input (In 11 996542293335 8307926994497325878 drawn_4_m15)) (Some (Submit (submission (codes "t15") (codes "execute_request") (codes "s") (codes "u") (dep ((codes "t4") ∷ (codes "t3") ∷ []) true false false) no_dependency [] 0 0))) true []
    ∷ decision (Settle (codes "t15") Failed ImpossibleDependency) (Pass 11 drawn_4_m16 ∷ [])
    ∷ line (Input (In 18 996542296335 8512646167364635655 drawn_4_m17)) (Some (Reply (codes "t6") (codes "r16") false true)) true []
    ∷ decision (Hand (codes "t6") 0) (Pass 4 drawn_4_m6 ∷ [])
    ∷ line (Input (In 19 996542296335 13909291364536391024 drawn_4_m18)) (Some (Submit (submission (codes "t17") (codes "apply_request") (codes "s") (codes "u") (dep ((codes "t13") ∷ []) true false false) no_dependency [] 0 0))) true []
    ∷ []

pub drawn_4_is_told : IsTold drawn_4
unfolding digits escape_byte reserved_front next_word answer_id beat_id beat_request outcome_id resubmit_id header_text reply_type submit_refused empty_object ok_content join_content beat_content error_content outcome_content resubmit_content connection_content history_content queue_member queue_content settled_member result_content engine_lost_text date_of day_text time_text date_digits civil_date from_year from_month encode_with serde_json_on_literals is_utf8 chars event_of read_header is_request is_reply is_leave read_submit whole_timeouts ends_in_name is_db request_of read_content read_task read_declined read_status
drawn_4_is_told = record { goes = refl; reads = refl; rests = refl }

pub drawn_4_legal : Legal (goes_on [] drawn_4)
drawn_4_legal = told_legal drawn_4 drawn_4_is_told

abbrev drawn_5_m0 : Message
drawn_5_m0 = message [] (codes "{\"msg_id\":\"j1\",\"msg_type\":\"registration_request\"}") (codes "{}") (codes "{}") (codes "{\"uuid\":\"e4\"}") []

abbrev drawn_5_m1 : Message
drawn_5_m1 = message [] (codes "{\"msg_id\":\"j2\",\"msg_type\":\"registration_request\"}") (codes "{}") (codes "{}") (codes "{\"uuid\":\"e5\"}") []

abbrev drawn_5_m2 : Message
drawn_5_m2 = message [] (codes "{\"msg_id\":\"t3\",\"msg_type\":\"execute_request\",\"session\":\"s\",\"username\":\"u\"}") (codes "{}") (codes "{\"timeout\": 94.0, \"retries\": 1}") (codes "{\"code\":\"2+2\"}") []

abbrev drawn_5_m3 : Message
drawn_5_m3 = message [] (codes "{\"msg_id\":\"t5\",\"msg_type\":\"execute_request\",\"session\":\"s\",\"username\":\"u\"}") (codes "{}") (codes "{\"targets\":[\"e4\",\"nobody\",\"e2\"]}") (codes "{\"code\":\"7+3\"}") []

abbrev drawn_5_m4 : Message
drawn_5_m4 = message [] (codes "{\"msg_id\":\"p6\",\"msg_type\":\"beat_reply\"}") (codes "{}") (codes "{}") (codes "{\"beat\":18446744073709551615}") []

abbrev drawn_5_m5 : Message
drawn_5_m5 = message [] (codes "{\"msg_id\":\"r4\",\"msg_type\":\"apply_reply\"}") (codes "{\"msg_id\":\"t3\",\"x\":1}") (codes "{\"dependencies_met\":true}") (codes "{\"status\":\"ok\",\"result\":\"42\"}") ((codes "b") ∷ (codes "b") ∷ (codes "b") ∷ [])

abbrev drawn_5_m6 : Message
drawn_5_m6 = message [] (codes "{\"msg_id\":\"r7\",\"msg_type\":\"apply_reply\"}") (codes "{\"msg_id\":\"t5\",\"x\":1}") (codes "{}") (codes "{\"status\":\"error\",\"result\":\"42\"}") []

abbrev drawn_5_m7 : Message
drawn_5_m7 = message [] (codes "{\"msg_id\":\"q8\",\"msg_type\":\"what\"}") (codes "{}") (codes "{}") (codes "{}") []

abbrev drawn_5_m8 : Message
drawn_5_m8 = message [] (codes "{\"msg_id\":\"p11\",\"msg_type\":\"beat_reply\"}") (codes "{}") (codes "{}") (codes "{\"beat\":0}") []

abbrev drawn_5_m9 : Message
drawn_5_m9 = message [] (codes "{\"msg_id\":\"t12\",\"msg_type\":\"apply_request\",\"session\":\"s\",\"username\":\"u\"}") (codes "{}") (codes "{\"after\":{\"dependencies\":[],\"all\":false,\"failure\":false},\"follow\":{\"dependencies\":[\"t3\",\"t5\",\"t5\"],\"success\":true,\"failure\":true},\"targets\":[\"e3\"],\"retries\":1}") (codes "{\"code\":\"3+8\"}") []

abbrev drawn_5_m10 : Message
drawn_5_m10 = message [] (codes "{\"msg_id\":\"out-3\",\"session\":\"controller\",\"username\":\"controller\",\"date\":\"1971-05-29T21:44:24.360Z\",\"msg_type\":\"apply_reply\",\"version\":\"5.3\"}") (codes "{\"msg_id\":\"t12\",\"msg_type\":\"apply_request\",\"session\":\"s\",\"username\":\"u\"}") (codes "{}") (codes "{\"status\":\"error\",\"ename\":\"ImpossibleDependency\",\"evalue\":\"the dependencies of this task cannot be met\",\"traceback\":[]}") []

abbrev drawn_5_m11 : Message
drawn_5_m11 = message [] (codes "{\"msg_id\":\"t13\",\"msg_type\":\"apply_request\",\"session\":\"s\",\"username\":\"u\"}") (codes "{}") (codes "{\"follow\":[\"t3\"]}") (codes "{\"code\":\"7+7\"}") []

abbrev drawn_5_m12 : Message
drawn_5_m12 = message [] (codes "{\"msg_id\":\"r14\",\"msg_type\":\"execute_reply\"}") (codes "{\"msg_id\":\"t13\",\"x\":1}") (codes "{\"started\":\"x\"}") (codes "{\"status\":\"abort\",\"result\":\"42\"}") ((codes "b") ∷ [])

abbrev drawn_5_m13 : Message
drawn_5_m13 = message [] (codes "{\"msg_id\":\"j16\",\"msg_type\":\"registration_request\"}") (codes "{}") (codes "{}") (codes "{\"uuid\":\"e2\"}") []

-- 30 entries, 1 opening
abbrev pub drawn_5 : List Line
drawn_5 =
    line (Input (Open 0 TwoBin 2 1)) None true []
    ∷ line (Input (Up 4 Engine 0 0 (241 ∷ []))) None true []
    ∷ line (Input (In 4 0 0 drawn_5_m0)) (Some (Join (codes "e4"))) true (Made 4 0 (codes "hub-1-2") (codes "registration_reply") (codes "{\"msg_id\":\"j1\",\"msg_type\":\"registration_request\"}") (codes "{\"status\":\"ok\",\"id\":0}") [] ∷ [])
    ∷ line (Input (Up 11 Task 0 0 (codes "d"))) None true []
    ∷ line (Input (Up 12 Engine 0 0 (codes "x12"))) None true []
    ∷ line (Input (In 12 0 0 drawn_5_m1)) (Some (Join (codes "e5"))) true (Made 12 0 (codes "hub-1-5") (codes "registration_reply") (codes "{\"msg_id\":\"j2\",\"msg_type\":\"registration_request\"}") (codes "{\"status\":\"ok\",\"id\":1}") [] ∷ [])
    ∷ line (Input (Up 13 Task 0 0 (codes "conn-13"))) None true []
    ∷ line (Input (Up 14 Mux 0 0 (codes "c"))) None true []
    ∷ line (Input (Up 15 Hub 0 0 (codes "conn-15"))) None true []
    ∷ line (Input (In 11 44401460857 0 drawn_5_m2)) (Some (Submit (submission (codes "t3") (codes "execute_request") (codes "s") (codes "u") no_dependency no_dependency [] 94 1))) true []
    ∷ decision (Hand (codes "t3") 0) (Pass 4 drawn_5_m2 ∷ [])
    ∷ line (Input (In 13 44401460858 13922450351747773948 drawn_5_m3)) (Some (Submit (submission (codes "t5") (codes "execute_request") (codes "s") (codes "u") no_dependency no_dependency ((codes "e4") ∷ (codes "nobody") ∷ (codes "e2") ∷ []) 0 0))) true []
    ∷ decision (Hand (codes "t5") 0) (Pass 4 drawn_5_m3 ∷ [])
    ∷ line (Input (In 12 44401461358 0 drawn_5_m4)) (Some (Pong 18446744073709551615)) false []
    ∷ line (Input (In 4 44401464358 0 drawn_5_m5)) (Some (Reply (codes "t3") (codes "r4") true false)) true []
    ∷ decision (Settle (codes "t3") Completed ByReply) (Pass 11 drawn_5_m5 ∷ [])
    ∷ line (Input (In 4 44401464358 0 drawn_5_m6)) (Some (Reply (codes "t5") (codes "r7") false false)) true []
    ∷ decision (Settle (codes "t5") Failed ByReply) (Pass 13 drawn_5_m6 ∷ [])
    ∷ line (Input (In 15 44401464358 0 drawn_5_m7)) (Some (Ask Unknown)) false (Made 15 44401464358 (codes "hub-1-18") (codes "what_reply") (codes "{\"msg_id\":\"q8\",\"msg_type\":\"what\"}") (codes "{\"status\":\"error\",\"ename\":\"UnknownRequest\",\"evalue\":\"what\",\"traceback\":[],\"ids\":[]}") [] ∷ [])
    ∷ line (Input (Time 44401464359 3663954125400714026)) None true []
    ∷ line (Input (In 12 44401464360 0 drawn_5_m8)) (Some (Pong 0)) false []
    ∷ line (Input (In 11 44401464360 0 drawn_5_m9)) (Some (Submit (submission (codes "t12") (codes "apply_request") (codes "s") (codes "u") (dep [] false true false) (dep ((codes "t3") ∷ (codes "t5") ∷ []) true true true) ((codes "e3") ∷ []) 0 1))) true []
    ∷ decision (Settle (codes "t12") Failed ImpossibleDependency) (Pass 11 drawn_5_m10 ∷ [])
    ∷ line (Input (In 11 44401464360 12906836826115625227 drawn_5_m11)) (Some (Submit (submission (codes "t13") (codes "apply_request") (codes "s") (codes "u") no_dependency (dep ((codes "t3") ∷ []) true true false) [] 0 0))) true []
    ∷ decision (Hand (codes "t13") 0) (Pass 4 drawn_5_m11 ∷ [])
    ∷ line (Input (In 4 44401464360 0 drawn_5_m12)) (Some (Reply (codes "t13") (codes "r14") false false)) true []
    ∷ decision (Settle (codes "t13") Failed ByReply) (Pass 11 drawn_5_m12 ∷ [])
    ∷ line (Input (In 13 44401464360 16536720612732773458 drawn_5_m11)) (Some (Submit (submission (codes "t13") (codes "apply_request") (codes "s") (codes "u") no_dependency (dep ((codes "t3") ∷ []) true true false) [] 0 0))) false (Pass 13 drawn_5_m12 ∷ [])
    ∷ line (Input (Beat 44401464360 0)) None true (Made 4 44401464360 (codes "hub-1-28-0") (codes "beat_request") (codes "{}") (codes "{\"beat\":1}") [] ∷ Made 12 44401464360 (codes "hub-1-28-1") (codes "beat_request") (codes "{}") (codes "{\"beat\":1}") [] ∷ [])
    ∷ line (Input (In 12 44401464360 17836435577712613128 drawn_5_m13)) (Some (Join (codes "e2"))) false (Made 12 44401464360 (codes "hub-1-29") (codes "registration_reply") (codes "{\"msg_id\":\"j16\",\"msg_type\":\"registration_request\"}") (codes "{\"status\":\"error\",\"ename\":\"AlreadyJoined\",\"evalue\":\"1\",\"traceback\":[],\"ids\":[]}") [] ∷ [])
    ∷ []

pub drawn_5_is_told : IsTold drawn_5
unfolding digits escape_byte reserved_front next_word answer_id beat_id beat_request outcome_id resubmit_id header_text reply_type submit_refused empty_object ok_content join_content beat_content error_content outcome_content resubmit_content connection_content history_content queue_member queue_content settled_member result_content engine_lost_text date_of day_text time_text date_digits civil_date from_year from_month encode_with serde_json_on_literals is_utf8 chars event_of read_header is_request is_reply is_leave read_submit whole_timeouts ends_in_name is_db request_of read_content read_task read_declined read_status
drawn_5_is_told = record { goes = refl; reads = refl; rests = refl }

pub drawn_5_legal : Legal (goes_on [] drawn_5)
drawn_5_legal = told_legal drawn_5 drawn_5_is_told

abbrev drawn_6_m0 : Message
drawn_6_m0 = message [] (codes "{\"msg_id\":\"j1\",\"msg_type\":\"registration_request\"}") (codes "{}") (codes "{}") (codes "{\"uuid\":\"e0\"}") []

abbrev drawn_6_m1 : Message
drawn_6_m1 = message [] (codes "{\"msg_id\":\"j2\",\"msg_type\":\"registration_request\"}") (codes "{}") (codes "{}") (codes "{\"uuid\":\"e1\"}") []

abbrev drawn_6_m2 : Message
drawn_6_m2 = message (codes "e1") (codes "{\"msg_id\":\"d3\",\"msg_type\":\"execute_request\"}") (codes "{}") (codes "{}") (codes "{\"code\":\"1\"}") []

abbrev drawn_6_m3 : Message
drawn_6_m3 = message [] (codes "{\"msg_id\":\"d3\",\"msg_type\":\"execute_request\"}") (codes "{}") (codes "{}") (codes "{\"code\":\"1\"}") []

abbrev drawn_6_m4 : Message
drawn_6_m4 = message [] (codes "{\"msg_id\":\"q4\",\"msg_type\":\"connection_request\"}") (codes "{}") (codes "{}") (codes "{}") []

abbrev drawn_6_m5 : Message
drawn_6_m5 = message [] (codes "{\"msg_id\":\"r5\",\"msg_type\":\"apply_reply\"}") (codes "{\"msg_id\":\"d3\",\"x\":1}") (codes "{}") (codes "{\"status\":\"ok\",\"result\":\"42\"}") []

abbrev drawn_6_m6 : Message
drawn_6_m6 = message [] (codes "{\"msg_id\":\"l6\",\"msg_type\":\"unregistration_request\"}") (codes "{}") (codes "{}") (codes "{}") []

abbrev drawn_6_m7 : Message
drawn_6_m7 = message [] (codes "{\"msg_id\":\"q7\",\"msg_type\":\"shutdown_request\"}") (codes "{}") (codes "{}") (codes "{}") []

abbrev drawn_6_m8 : Message
drawn_6_m8 = message (codes "e1") (codes "{\"msg_id\":\"d8\",\"msg_type\":\"execute_request\"}") (codes "{}") (codes "{}") (codes "{\"code\":\"1\"}") []

abbrev drawn_6_m9 : Message
drawn_6_m9 = message [] (codes "{\"msg_id\":\"d8\",\"msg_type\":\"execute_request\"}") (codes "{}") (codes "{}") (codes "{\"code\":\"1\"}") []

abbrev drawn_6_m10 : Message
drawn_6_m10 = message [] (codes "{\"msg_id\":\"q9\",\"msg_type\":\"purge_request\"}") (codes "{}") (codes "{}") (codes "{\"msg_ids\":[\"d3\",\"d3\"]}") []

abbrev drawn_6_m11 : Message
drawn_6_m11 = message [] (codes "{\"msg_id\":\"q11\",\"msg_type\":\"resubmit_request\"}") (codes "{}") (codes "{}") (codes "{\"msg_ids\":[]}") []

abbrev drawn_6_m12 : Message
drawn_6_m12 = message (codes "nobody") (codes "{\"msg_id\":\"d13\",\"msg_type\":\"execute_request\"}") (codes "{}") (codes "{}") (codes "{\"code\":\"1\"}") []

abbrev drawn_6_m13 : Message
drawn_6_m13 = message [] (codes "{\"msg_id\":\"t16\",\"msg_type\":\"apply_request\",\"session\":\"s\",\"username\":\"u\"}") (codes "{}") (codes "{\"after\":{\"dependencies\":[\"d3\",\"d3\",\"d8\"],\"failure\":true},\"follow\":{\"dependencies\":[\"d8\"],\"success\":true,\"failure\":false}}") (codes "{\"code\":\"1+1\"}") []

abbrev drawn_6_m14 : Message
drawn_6_m14 = message [] (codes "{\"msg_id\":\"r10\",\"msg_type\":\"apply_reply\"}") (codes "{\"msg_id\":\"d8\",\"x\":1}") (codes "{\"dependencies_met\":true}") (codes "{\"status\":\"ok\",\"result\":\"42\"}") ((codes "b") ∷ [])

abbrev drawn_6_m15 : Message
drawn_6_m15 = message [] (codes "{\"msg_id\":\"r17\",\"msg_type\":\"execute_reply\"}") (codes "{\"msg_id\":\"d8\",\"x\":1}") (codes "{}") (codes "{\"status\":\"aborted\",\"result\":\"42\"}") ((codes "b") ∷ (codes "b") ∷ (codes "b") ∷ (codes "b") ∷ (codes "b") ∷ (codes "b") ∷ (codes "b") ∷ (codes "b") ∷ (codes "b") ∷ (codes "b") ∷ (codes "b") ∷ (codes "b") ∷ (codes "b") ∷ (codes "b") ∷ (codes "b") ∷ (codes "b") ∷ (codes "b") ∷ (codes "b") ∷ (codes "b") ∷ (codes "b") ∷ (codes "b") ∷ (codes "b") ∷ (codes "b") ∷ (codes "b") ∷ (codes "b") ∷ (codes "b") ∷ (codes "b") ∷ (codes "b") ∷ (codes "b") ∷ (codes "b") ∷ (codes "b") ∷ (codes "b") ∷ (codes "b") ∷ (codes "b") ∷ (codes "b") ∷ (codes "b") ∷ (codes "b") ∷ (codes "b") ∷ (codes "b") ∷ (codes "b") ∷ (codes "b") ∷ (codes "b") ∷ (codes "b") ∷ (codes "b") ∷ (codes "b") ∷ (codes "b") ∷ (codes "b") ∷ (codes "b") ∷ (codes "b") ∷ (codes "b") ∷ (codes "b") ∷ (codes "b") ∷ (codes "b") ∷ (codes "b") ∷ (codes "b") ∷ (codes "b") ∷ (codes "b") ∷ (codes "b") ∷ [])

abbrev drawn_6_m16 : Message
drawn_6_m16 = message [] (codes "{\"msg_id\":\"r18\",\"msg_type\":\"apply_reply\"}") (codes "{\"msg_id\":\"t16\",\"x\":1}") (codes "{\"started\":\"x\"}") (codes "{\"status\":\"ok\",\"result\":\"42\"}") []

-- 29 entries, 1 opening
abbrev pub drawn_6 : List Line
drawn_6 =
    line (Input (Open 0 PlainRandom 0 1)) None true []
    ∷ line (Input (Up 3 Engine 0 0 (codes "x3"))) None true []
    ∷ line (Input (In 3 0 0 drawn_6_m0)) (Some (Join (codes "e0"))) true (Made 3 0 (codes "hub-1-2") (codes "registration_reply") (codes "{\"msg_id\":\"j1\",\"msg_type\":\"registration_request\"}") (codes "{\"status\":\"ok\",\"id\":0}") [] ∷ [])
    ∷ line (Input (Up 5 Engine 0 0 (codes "conn-5"))) None true []
    ∷ line (Input (In 5 0 0 drawn_6_m1)) (Some (Join (codes "e1"))) true (Made 5 0 (codes "hub-1-4") (codes "registration_reply") (codes "{\"msg_id\":\"j2\",\"msg_type\":\"registration_request\"}") (codes "{\"status\":\"ok\",\"id\":1}") [] ∷ [])
    ∷ line (Input (Up 6 Task 0 0 (codes "x6"))) None true []
    ∷ line (Input (Up 7 Mux 0 0 (codes "conn-7"))) None true []
    ∷ line (Input (Up 8 Hub 0 0 (codes "d"))) None true []
    ∷ line (Input (In 7 229050672089 15907586620445994956 drawn_6_m2)) (Some (Direct (submission (codes "d3") (codes "execute_request") [] [] no_dependency no_dependency [] 0 0))) true []
    ∷ decision (Hand (codes "d3") 1) (Pass 5 drawn_6_m3 ∷ [])
    ∷ line (Input (In 8 229050672089 0 drawn_6_m4)) (Some (Ask Connection)) false (Made 8 229050672089 (codes "hub-1-10") (codes "connection_reply") (codes "{\"msg_id\":\"q4\",\"msg_type\":\"connection_request\"}") (codes "{\"status\":\"ok\",\"engines\":{\"0\":\"e0\",\"1\":\"e1\"}}") [] ∷ [])
    ∷ line (Input (In 5 229050672089 8325430509371743669 drawn_6_m5)) (Some (Reply (codes "d3") (codes "r5") true false)) true []
    ∷ decision (Settle (codes "d3") Completed ByReply) (Pass 7 drawn_6_m5 ∷ [])
    ∷ line (Input (In 3 229050672089 12421058418585481792 drawn_6_m6)) (Some (Leave)) true (Made 3 229050672089 (codes "hub-1-13") (codes "unregistration_reply") (codes "{\"msg_id\":\"l6\",\"msg_type\":\"unregistration_request\"}") (codes "{\"status\":\"ok\"}") [] ∷ [])
    ∷ line (Input (In 8 229050672089 4507070372666648079 drawn_6_m7)) (Some (Ask Shutdown)) false (Made 8 229050672089 (codes "hub-1-14") (codes "shutdown_reply") (codes "{\"msg_id\":\"q7\",\"msg_type\":\"shutdown_request\"}") (codes "{\"status\":\"ok\"}") [] ∷ [])
    ∷ line (Input (In 7 229050672089 9293327494187269462 drawn_6_m8)) (Some (Direct (submission (codes "d8") (codes "execute_request") [] [] no_dependency no_dependency [] 0 0))) true []
    ∷ decision (Hand (codes "d8") 1) (Pass 5 drawn_6_m9 ∷ [])
    ∷ line (Input (In 8 229050672089 0 drawn_6_m10)) (Some (Purge false ((codes "d3") ∷ (codes "d3") ∷ []))) true (Made 8 229050672089 (codes "hub-1-17") (codes "purge_reply") (codes "{\"msg_id\":\"q9\",\"msg_type\":\"purge_request\"}") (codes "{\"status\":\"ok\"}") [] ∷ [])
    ∷ line (Input (In 7 229050675089 17485119243991400932 drawn_6_m2)) (Some (Direct (submission (codes "d3") (codes "execute_request") [] [] no_dependency no_dependency [] 0 0))) false (Made 7 229050675089 (codes "hub-1-18") (codes "submit_refused") (codes "{\"msg_id\":\"d3\",\"msg_type\":\"execute_request\"}") (codes "{\"status\":\"error\",\"ename\":\"Purged\",\"evalue\":\"d3\",\"traceback\":[],\"ids\":[]}") [] ∷ [])
    ∷ line (Input (In 8 229050675089 1885196609006659540 drawn_6_m11)) (Some (Resubmit [])) true (Made 8 229050675089 (codes "hub-1-19") (codes "resubmit_reply") (codes "{\"msg_id\":\"q11\",\"msg_type\":\"resubmit_request\"}") (codes "{\"status\":\"ok\",\"resubmitted\":{}}") [] ∷ [])
    ∷ line (Input (In 7 229050675090 10500157102592875321 drawn_6_m12)) (Some (Direct (submission (codes "d13") (codes "execute_request") [] [] no_dependency no_dependency [] 0 0))) false (Made 7 229050675090 (codes "hub-1-20") (codes "submit_refused") (codes "{\"msg_id\":\"d13\",\"msg_type\":\"execute_request\"}") (codes "{\"status\":\"error\",\"ename\":\"NoSuchEngine\",\"evalue\":\"6e6f626f6479\",\"traceback\":[],\"ids\":[]}") [] ∷ [])
    ∷ line (Input (In 6 229050735090 0 drawn_6_m13)) (Some (Submit (submission (codes "t16") (codes "apply_request") (codes "s") (codes "u") (dep ((codes "d3") ∷ (codes "d8") ∷ []) true true true) (dep ((codes "d8") ∷ []) true true false) [] 0 0))) true []
    ∷ line (Input (In 5 229050738090 8203180991357785710 drawn_6_m14)) (Some (Reply (codes "d8") (codes "r10") true false)) true []
    ∷ decision (Settle (codes "d8") Completed ByReply) (Pass 7 drawn_6_m14 ∷ [])
    ∷ decision (Hand (codes "t16") 1) (Pass 5 drawn_6_m13 ∷ [])
    ∷ line (Input (In 5 229050738090 8203180991357785710 drawn_6_m15)) (Some (Reply (codes "d8") (codes "r17") false false)) false []
    ∷ line (Input (In 5 229050798090 2432305870980416900 drawn_6_m16)) (Some (Reply (codes "t16") (codes "r18") true false)) true []
    ∷ decision (Settle (codes "t16") Completed ByReply) (Pass 6 drawn_6_m16 ∷ [])
    ∷ line (Input (Down 3 229050798091 0)) None true []
    ∷ []

pub drawn_6_is_told : IsTold drawn_6
unfolding digits escape_byte reserved_front next_word answer_id beat_id beat_request outcome_id resubmit_id header_text reply_type submit_refused empty_object ok_content join_content beat_content error_content outcome_content resubmit_content connection_content history_content queue_member queue_content settled_member result_content engine_lost_text date_of day_text time_text date_digits civil_date from_year from_month encode_with serde_json_on_literals is_utf8 chars event_of read_header is_request is_reply is_leave read_submit whole_timeouts ends_in_name is_db request_of read_content read_task read_declined read_status
drawn_6_is_told = record { goes = refl; reads = refl; rests = refl }

pub drawn_6_legal : Legal (goes_on [] drawn_6)
drawn_6_legal = told_legal drawn_6 drawn_6_is_told
