-- Short histories that a second, independent model of the cluster drew at random, with what it says of each entry. Nothing rests on them.
use Rattle.std.proofs.Common.{List, [], ◌∷◌, Some, None, true, false, refl}
use Rattle.std.specs.Prelude.{codes}
use Rattle.std.specs.Fmt.{digits}
use Rattle.std.specs.Str.{is_utf8, chars}
use Rattle.json.specs.Print.{escape_byte}
use Rattle.serde_json.proofs.OnLiterals.{serde_json_on_literals}
use Rattle.hex.specs.Hex.{encode_with}
use Rattle.edges.specs.Date.{date_of, day_text, time_text, digits as date_digits, civil_date, from_year, from_month}
use Rattle.cluster_types.specs.Verdicts.{engine_lost_text}
use Rattle.cluster_types.specs.declared.config.Channel.TheVariants.{Hub, Task, Mux, Engine}
use Rattle.cluster_types.specs.declared.config.Scheme.TheVariants.{Lru, LeastLoad, PlainRandom, TwoBin}
use Rattle.cluster_types.specs.declared.verdict.Verdict.TheVariants.{Completed, Failed}
use Rattle.cluster_types.specs.declared.verdict.Cause.TheVariants.{Reply as ByReply, ImpossibleDependency, InvalidDependency}
use Rattle.cluster_types.specs.declared.message.Message.{Message}
use Rattle.cluster_types.specs.declared.event.Event.TheVariants.{Submit, Direct, Reply, Join, Leave, Pong, Purge, Resubmit, Ask}
use Rattle.cluster_types.specs.declared.event.Query.TheVariants.{Queue, Result, Shutdown, Unknown, Bad}
use Rattle.cluster_types.specs.declared.out.Out.TheVariants.{Pass, Made}
use Rattle.cluster_types.specs.declared.entry.Input.TheVariants.{Open, Up, Down, In, Beat, Time}
use Rattle.cluster_types.specs.declared.entry.Entry.TheVariants.{Input, Hand, Settle}
use Rattle.cluster_defs.specs.Event.{event_of, is_db, is_request, is_reply, is_leave}
use Rattle.cluster_defs.specs.Points.{whole_timeouts, ends_in_name}
use Rattle.cluster_defs.specs.Submit.{read_submit}
use Rattle.cluster_defs.specs.Reply.{read_task, read_declined, read_status}
use Rattle.cluster_defs.specs.Hub.{request_of, read_content}
use Rattle.cluster_defs.specs.Header.{read_header}
use Rattle.cluster_defs.specs.Texts.{answer_id, beat_id, beat_request, outcome_id, resubmit_id, header_text, reply_type, submit_refused, empty_object, ok_content, join_content, beat_content, error_content, outcome_content, resubmit_content, connection_content, history_content, queue_member, queue_content, settled_member, result_content}
use Rattle.cluster_defs.specs.Acceptance.{no_dependency, reserved_front}
use Rattle.cluster_types.specs.Chance.{next_word}
use Rattle.cluster_defs.specs.Histories.{Legal}
use Rattle.worked_rows.proofs.Told.{Line, line, decision, message, dep, submission, IsTold, goes_on, told_legal}

abbrev drawn_7_m0 : Message
drawn_7_m0 = message [] (codes "{\"msg_id\":\"j1\",\"msg_type\":\"registration_request\"}") (codes "{}") (codes "{}") (codes "{\"uuid\":\"e4\"}") []

abbrev drawn_7_m1 : Message
drawn_7_m1 = message [] (codes "{\"msg_id\":\"t3\",\"msg_type\":\"apply_request\",\"session\":\"s\",\"username\":\"u\"}") (codes "{}") (codes "{\"timeout\":1.5}") (codes "{\"code\":\"8+2\"}") []

abbrev drawn_7_m2 : Message
drawn_7_m2 = message [] (codes "{\"msg_id\":\"t4\",\"msg_type\":\"execute_request\",\"session\":\"s\",\"username\":\"u\"}") (codes "{}") (codes "{\"after\":{\"dependencies\":[],\"success\":true,\"failure\":false}}") (codes "{\"code\":\"5+3\"}") []

abbrev drawn_7_m3 : Message
drawn_7_m3 = message (codes "nobody") (codes "{\"msg_id\":\"d5\",\"msg_type\":\"execute_request\"}") (codes "{}") (codes "{}") (codes "{\"code\":\"1\"}") []

abbrev drawn_7_m4 : Message
drawn_7_m4 = message [] (codes "{\"msg_id\":\"r6\",\"msg_type\":\"apply_reply\"}") (codes "{\"msg_id\":\"t4\",\"x\":1}") (codes "{}") (codes "{\"status\":\"abort\",\"result\":\"42\"}") ((codes "b") ∷ (codes "b") ∷ (codes "b") ∷ (codes "b") ∷ (codes "b") ∷ (codes "b") ∷ (codes "b") ∷ (codes "b") ∷ (codes "b") ∷ (codes "b") ∷ (codes "b") ∷ (codes "b") ∷ (codes "b") ∷ (codes "b") ∷ (codes "b") ∷ (codes "b") ∷ (codes "b") ∷ (codes "b") ∷ (codes "b") ∷ (codes "b") ∷ (codes "b") ∷ (codes "b") ∷ (codes "b") ∷ (codes "b") ∷ (codes "b") ∷ (codes "b") ∷ (codes "b") ∷ (codes "b") ∷ (codes "b") ∷ (codes "b") ∷ (codes "b") ∷ (codes "b") ∷ (codes "b") ∷ (codes "b") ∷ (codes "b") ∷ (codes "b") ∷ (codes "b") ∷ (codes "b") ∷ (codes "b") ∷ (codes "b") ∷ (codes "b") ∷ (codes "b") ∷ (codes "b") ∷ (codes "b") ∷ (codes "b") ∷ (codes "b") ∷ (codes "b") ∷ (codes "b") ∷ (codes "b") ∷ (codes "b") ∷ (codes "b") ∷ (codes "b") ∷ (codes "b") ∷ (codes "b") ∷ (codes "b") ∷ (codes "b") ∷ (codes "b") ∷ (codes "b") ∷ [])

abbrev drawn_7_m5 : Message
drawn_7_m5 = message [] (codes "{\"msg_id\":\"t7\",\"msg_type\":\"apply_request\",\"session\":\"s\",\"username\":\"u\"}") (codes "{}") (codes "{\"follow\":{\"dependencies\":[\"t4\",\"t4\",\"t4\"],\"success\":true}}") (codes "{\"code\":\"7+0\"}") ((codes "buf") ∷ (codes "buf") ∷ [])

abbrev drawn_7_m6 : Message
drawn_7_m6 = message [] (codes "{\"msg_id\":\"out-2\",\"session\":\"controller\",\"username\":\"controller\",\"date\":\"2015-03-30T01:50:10.232Z\",\"msg_type\":\"apply_reply\",\"version\":\"5.3\"}") (codes "{\"msg_id\":\"t7\",\"msg_type\":\"apply_request\",\"session\":\"s\",\"username\":\"u\"}") (codes "{}") (codes "{\"status\":\"error\",\"ename\":\"ImpossibleDependency\",\"evalue\":\"the dependencies of this task cannot be met\",\"traceback\":[]}") []

abbrev drawn_7_m7 : Message
drawn_7_m7 = message [] (codes "{\"msg_id\":\"t8\",\"msg_type\":\"apply_request\",\"session\":\"s\",\"username\":\"u\"}") (codes "{}") (codes "{\"follow\":1.5,\"retries\":1}") (codes "{\"code\":\"4+7\"}") []

abbrev drawn_7_m8 : Message
drawn_7_m8 = message [] (codes "{\"msg_id\":\"t16\",\"msg_type\":\"execute_request\",\"session\":\"t16\"}") (codes "{}") (codes "{\"x\":1,\"timeout\":null}") (codes "{}") []

abbrev drawn_7_m9 : Message
drawn_7_m9 = message [] (codes "{\"msg_id\":\"q11\",\"msg_type\":\"purge_request\"}") (codes "{}") (codes "{}") (codes "{\"msg_ids\":\"all\",\"engine_ids\":[0]}") []

abbrev drawn_7_m10 : Message
drawn_7_m10 = message [] (codes "{\"msg_id\":\"q13\",\"msg_type\":\"resubmit_request\"}") (codes "{}") (codes "{}") (codes "{\"msg_ids\":[\"t4\",\"t7\"]}") []

abbrev drawn_7_m11 : Message
drawn_7_m11 = message [] (codes "{\"msg_id\":\"out-5\",\"session\":\"controller\",\"username\":\"controller\",\"date\":\"2015-03-30T01:53:16.233Z\",\"msg_type\":\"apply_reply\",\"version\":\"5.3\"}") (codes "{\"msg_id\":\"resubmit:5\",\"session\":\"s\",\"username\":\"u\",\"date\":\"2015-03-30T01:53:16.233Z\",\"msg_type\":\"apply_request\",\"version\":\"5.3\"}") (codes "{}") (codes "{\"status\":\"error\",\"ename\":\"ImpossibleDependency\",\"evalue\":\"the dependencies of this task cannot be met\",\"traceback\":[]}") []

abbrev drawn_7_m12 : Message
drawn_7_m12 = message [] (codes "{\"msg_id\":\"q17\",\"msg_type\":\"queue_request\"}") (codes "{}") (codes "{}") (codes "{\"targets\":[1,0,1],\"verbose\":false}") []

abbrev drawn_7_m13 : Message
drawn_7_m13 = message [] (codes "{\"msg_id\":\"q18\",\"msg_type\":\"queue_request\"}") (codes "{}") (codes "{}") (codes "{\"targets\":[],\"verbose\":false}") []

-- 27 entries, 1 opening
abbrev pub drawn_7 : List Line
drawn_7 =
    line (Input (Open 0 PlainRandom 0 1)) None true []
    ∷ line (Input (Up 3 Engine 0 0 (codes "_"))) None true []
    ∷ line (Input (In 3 0 0 drawn_7_m0)) (Some (Join (codes "e4"))) true (Made 3 0 (codes "hub-1-2") (codes "registration_reply") (codes "{\"msg_id\":\"j1\",\"msg_type\":\"registration_request\"}") (codes "{\"status\":\"ok\",\"id\":0}") [] ∷ [])
    ∷ line (Input (Up 4 Task 0 0 (247 ∷ []))) None true []
    ∷ line (Input (Up 12 Task 0 0 (codes "c"))) None true []
    ∷ line (Input (Up 19 Mux 0 0 (codes "x19"))) None true []
    ∷ line (Input (Up 20 Hub 0 0 (codes "x20"))) None true []
    ∷ line (Input (In 12 1427680206731 0 drawn_7_m1)) (Some (Ask (Bad (codes "timeout")))) false (Made 12 1427680206731 (codes "hub-1-7") (codes "submit_refused") (codes "{\"msg_id\":\"t3\",\"msg_type\":\"apply_request\",\"session\":\"s\",\"username\":\"u\"}") (codes "{\"status\":\"error\",\"ename\":\"BadMetadata\",\"evalue\":\"timeout\",\"traceback\":[],\"ids\":[]}") [] ∷ [])
    ∷ line (Input (In 4 1427680206731 0 drawn_7_m2)) (Some (Submit (submission (codes "t4") (codes "execute_request") (codes "s") (codes "u") no_dependency no_dependency [] 0 0))) true []
    ∷ decision (Hand (codes "t4") 0) (Pass 3 drawn_7_m2 ∷ [])
    ∷ line (Input (In 19 1427680206731 16293555905502054092 drawn_7_m3)) (Some (Direct (submission (codes "d5") (codes "execute_request") [] [] no_dependency no_dependency [] 0 0))) false (Made 19 1427680206731 (codes "hub-1-10") (codes "submit_refused") (codes "{\"msg_id\":\"d5\",\"msg_type\":\"execute_request\"}") (codes "{\"status\":\"error\",\"ename\":\"NoSuchEngine\",\"evalue\":\"6e6f626f6479\",\"traceback\":[],\"ids\":[]}") [] ∷ [])
    ∷ line (Input (Up 21 Mux 1427680206732 0 (codes "x21"))) None true []
    ∷ line (Input (In 3 1427680207232 7573174451438211658 drawn_7_m4)) (Some (Reply (codes "t4") (codes "r6") false false)) true []
    ∷ decision (Settle (codes "t4") Failed ByReply) (Pass 4 drawn_7_m4 ∷ [])
    ∷ line (Input (Up 22 Task 1427680207232 14750503908612732681 (codes "c"))) None true []
    ∷ line (Input (In 22 1427680210232 0 drawn_7_m5)) (Some (Submit (submission (codes "t7") (codes "apply_request") (codes "s") (codes "u") no_dependency (dep ((codes "t4") ∷ []) true true false) [] 0 0))) true []
    ∷ decision (Settle (codes "t7") Failed ImpossibleDependency) (Pass 22 drawn_7_m6 ∷ [])
    ∷ line (Input (In 4 1427680210232 0 drawn_7_m7)) (Some (Ask (Bad (codes "follow")))) false (Made 4 1427680210232 (codes "hub-1-17") (codes "submit_refused") (codes "{\"msg_id\":\"t8\",\"msg_type\":\"apply_request\",\"session\":\"s\",\"username\":\"u\"}") (codes "{\"status\":\"error\",\"ename\":\"BadMetadata\",\"evalue\":\"follow\",\"traceback\":[],\"ids\":[]}") [] ∷ [])
    ∷ line (Input (Down 3 1427680210233 8184171496409479689)) None true []
    ∷ line (Input (Beat 1427680273233 16650092463462822742)) None true []
    ∷ line (Input (In 22 1427680393233 3272990229968269206 drawn_7_m8)) (Some (Submit (submission (codes "t16") (codes "execute_request") (codes "t16") [] no_dependency no_dependency [] 0 0))) true []
    ∷ line (Input (In 20 1427680396233 102906135582265120 drawn_7_m9)) (Some (Ask (Bad (codes "engine_ids")))) false (Made 20 1427680396233 (codes "hub-1-21") (codes "purge_reply") (codes "{\"msg_id\":\"q11\",\"msg_type\":\"purge_request\"}") (codes "{\"status\":\"error\",\"ename\":\"BadContent\",\"evalue\":\"engine_ids\",\"traceback\":[],\"ids\":[]}") [] ∷ [])
    ∷ line (Input (In 20 1427680396233 102906135582265120 drawn_7_m10)) (Some (Resubmit ((codes "t4") ∷ (codes "t7") ∷ []))) true (Made 20 1427680396233 (codes "hub-1-22") (codes "resubmit_reply") (codes "{\"msg_id\":\"q13\",\"msg_type\":\"resubmit_request\"}") (codes "{\"status\":\"ok\",\"resubmitted\":{\"t4\":\"resubmit:4\",\"t7\":\"resubmit:5\"}}") [] ∷ [])
    ∷ decision (Settle (codes "resubmit:5") Failed ImpossibleDependency) (Pass 22 drawn_7_m11 ∷ [])
    ∷ line (Input (In 20 1427680396233 102906135582265120 drawn_7_m12)) (Some (Ask (Queue (1 ∷ 0 ∷ 1 ∷ []) false))) false (Made 20 1427680396233 (codes "hub-1-24") (codes "queue_reply") (codes "{\"msg_id\":\"q17\",\"msg_type\":\"queue_request\"}") (codes "{\"status\":\"error\",\"ename\":\"NoSuchEngine\",\"evalue\":\"1\",\"traceback\":[],\"ids\":[]}") [] ∷ [])
    ∷ line (Input (In 20 1427680396233 102906135582265120 drawn_7_m13)) (Some (Ask (Queue [] false))) false (Made 20 1427680396233 (codes "hub-1-25") (codes "queue_reply") (codes "{\"msg_id\":\"q18\",\"msg_type\":\"queue_request\"}") (codes "{\"status\":\"ok\",\"unassigned\":2}") [] ∷ [])
    ∷ line (Input (Beat 1427680456233 9326611288585277874)) None true []
    ∷ []

pub drawn_7_is_told : IsTold drawn_7
unfolding digits escape_byte reserved_front next_word answer_id beat_id beat_request outcome_id resubmit_id header_text reply_type submit_refused empty_object ok_content join_content beat_content error_content outcome_content resubmit_content connection_content history_content queue_member queue_content settled_member result_content engine_lost_text date_of day_text time_text date_digits civil_date from_year from_month encode_with serde_json_on_literals is_utf8 chars event_of read_header is_request is_reply is_leave read_submit whole_timeouts ends_in_name is_db request_of read_content read_task read_declined read_status
drawn_7_is_told = record { goes = refl; reads = refl; rests = refl }

pub drawn_7_legal : Legal (goes_on [] drawn_7)
drawn_7_legal = told_legal drawn_7 drawn_7_is_told

abbrev drawn_8_m0 : Message
drawn_8_m0 = message [] (codes "{\"msg_id\":\"j1\",\"msg_type\":\"registration_request\"}") (codes "{}") (codes "{}") (codes "{\"uuid\":\"e4\"}") []

abbrev drawn_8_m1 : Message
drawn_8_m1 = message [] (codes "{\"msg_id\":\"j2\",\"msg_type\":\"registration_request\"}") (codes "{}") (codes "{}") (codes "{\"uuid\":\"e2\"}") []

abbrev drawn_8_m2 : Message
drawn_8_m2 = message [] (codes "{\"msg_id\":\"q3\",\"msg_type\":\"purge_request\"}") (codes "{}") (codes "{}") (codes "{\"msg_ids\":[]}") []

abbrev drawn_8_m3 : Message
drawn_8_m3 = message [] (codes "{\"msg_id\":\"t5\",\"msg_type\":\"apply_request\",\"session\":\"s\",\"username\":\"u\"}") (codes "{}") (codes "{\"follow\":[]}") (codes "{\"code\":\"8+2\"}") ((codes "buf") ∷ (codes "buf") ∷ [])

abbrev drawn_8_m4 : Message
drawn_8_m4 = message [] (codes "{\"msg_id\":\"t6\",\"msg_type\":\"apply_request\",\"session\":\"s\",\"username\":\"u\"}") (codes "{}") (codes "{\"follow\":{\"dependencies\":[\"t5\",\"t5\",\"unknown\"]},\"retries\":0}") (codes "{\"code\":\"3+6\"}") []

abbrev drawn_8_m5 : Message
drawn_8_m5 = message [] (codes "{\"msg_id\":\"out-2\",\"session\":\"controller\",\"username\":\"controller\",\"date\":\"2027-04-09T19:34:20.439Z\",\"msg_type\":\"apply_reply\",\"version\":\"5.3\"}") (codes "{\"msg_id\":\"t6\",\"msg_type\":\"apply_request\",\"session\":\"s\",\"username\":\"u\"}") (codes "{}") (codes "{\"status\":\"error\",\"ename\":\"InvalidDependency\",\"evalue\":\"a dependency is unknown or is the task itself\",\"traceback\":[]}") []

abbrev drawn_8_m6 : Message
drawn_8_m6 = message [] (codes "{\"msg_id\":\"r7\",\"msg_type\":\"apply_reply\"}") (codes "{\"msg_id\":\"t5\",\"x\":1}") (codes "{}") (codes "{\"status\":\"ok\",\"result\":\"42\"}") []

abbrev drawn_8_m7 : Message
drawn_8_m7 = message [] (codes "{\"msg_id\":\"q8\",\"msg_type\":\"what\"}") (codes "{}") (codes "{}") (codes "{}") []

abbrev drawn_8_m8 : Message
drawn_8_m8 = message [] (codes "{\"msg_id\":\"t9\",\"msg_type\":\"execute_request\",\"session\":\"s\",\"username\":\"u\"}") (codes "{}") (codes "{\"timeout\":5}") (codes "{\"code\":\"7+0\"}") []

abbrev drawn_8_m9 : Message
drawn_8_m9 = message [] (codes "{\"msg_id\":\"t10\",\"msg_type\":\"execute_request\",\"session\":\"s\",\"username\":\"u\"}") (codes "{}") (codes "{\"retries\":null}") (codes "{\"code\":\"8+2\"}") []

abbrev drawn_8_m10 : Message
drawn_8_m10 = message [] (codes "{\"msg_id\":\"q11\",\"msg_type\":\"queue_request\"}") (codes "{}") (codes "{}") (codes "{\"targets\":[1,0,1],\"verbose\":true}") []

abbrev drawn_8_m11 : Message
drawn_8_m11 = message [] (codes "{\"msg_id\":\"p12\",\"msg_type\":\"beat_reply\"}") (codes "{}") (codes "{}") (codes "{\"beat\":0}") []

abbrev drawn_8_m12 : Message
drawn_8_m12 = message [] (codes "{\"msg_id\":\"t13\",\"msg_type\":\"apply_request\",\"session\":\"s\",\"username\":\"u\"}") (codes "{}") (codes "{\"retries\":null,\"timeout\":60}") (codes "{\"code\":\"8+2\"}") []

abbrev drawn_8_m13 : Message
drawn_8_m13 = message [] (codes "{\"msg_id\":\"t14\",\"msg_type\":\"execute_request\",\"session\":\"s\",\"username\":\"u\"}") (codes "{}") (codes "{\"after\":{\"dependencies\":[\"t6\"],\"all\":true,\"success\":false},\"follow\":{\"dependencies\":[\"t9\"],\"all\":false,\"success\":false}}") (codes "{\"code\":\"1+8\"}") []

abbrev drawn_8_m14 : Message
drawn_8_m14 = message [] (codes "{\"msg_id\":\"out-6\",\"session\":\"controller\",\"username\":\"controller\",\"date\":\"2027-04-09T19:35:29.439Z\",\"msg_type\":\"execute_reply\",\"version\":\"5.3\"}") (codes "{\"msg_id\":\"t14\",\"msg_type\":\"execute_request\",\"session\":\"s\",\"username\":\"u\"}") (codes "{}") (codes "{\"status\":\"error\",\"ename\":\"ImpossibleDependency\",\"evalue\":\"the dependencies of this task cannot be met\",\"traceback\":[]}") []

abbrev drawn_8_m15 : Message
drawn_8_m15 = message [] (codes "{\"msg_id\":\"r15\",\"msg_type\":\"apply_reply\"}") (codes "{\"msg_id\":\"t9\",\"x\":1}") (codes "{\"dependencies_met\":true}") (codes "{\"status\":\"aborted\",\"result\":\"42\"}") ((codes "b") ∷ (codes "b") ∷ (codes "b") ∷ [])

abbrev drawn_8_m16 : Message
drawn_8_m16 = message [] (codes "{\"msg_id\":\"p16\",\"msg_type\":\"beat_reply\"}") (codes "{}") (codes "{}") (codes "{\"beat\":0}") []

-- 34 entries, 1 opening
abbrev pub drawn_8 : List Line
drawn_8 =
    line (Input (Open 0 LeastLoad 1 1)) None true []
    ∷ line (Input (Up 4 Engine 0 0 (codes "d"))) None true []
    ∷ line (Input (In 4 0 0 drawn_8_m0)) (Some (Join (codes "e4"))) true (Made 4 0 (codes "hub-1-2") (codes "registration_reply") (codes "{\"msg_id\":\"j1\",\"msg_type\":\"registration_request\"}") (codes "{\"status\":\"ok\",\"id\":0}") [] ∷ [])
    ∷ line (Input (Up 5 Task 0 0 (codes "conn-5"))) None true []
    ∷ line (Input (Up 6 Engine 0 0 (codes "conn-6"))) None true []
    ∷ line (Input (In 6 0 0 drawn_8_m1)) (Some (Join (codes "e2"))) true (Made 6 0 (codes "hub-1-5") (codes "registration_reply") (codes "{\"msg_id\":\"j2\",\"msg_type\":\"registration_request\"}") (codes "{\"status\":\"ok\",\"id\":1}") [] ∷ [])
    ∷ line (Input (Up 13 Task 0 0 (codes "d"))) None true []
    ∷ line (Input (Up 20 Mux 0 0 (codes "c"))) None true []
    ∷ line (Input (Up 27 Hub 0 0 (codes "c"))) None true []
    ∷ line (Input (In 27 1807299256939 3363077912233197879 drawn_8_m2)) (Some (Purge false [])) true (Made 27 1807299256939 (codes "hub-1-9") (codes "purge_reply") (codes "{\"msg_id\":\"q3\",\"msg_type\":\"purge_request\"}") (codes "{\"status\":\"ok\"}") [] ∷ [])
    ∷ line (Input (Down 20 1807299256939 16904478287165898169)) None true []
    ∷ line (Input (Up 35 Engine 1807299259939 2054446928795605330 (codes "c"))) None true []
    ∷ line (Input (In 5 1807299260439 15046337945192678647 drawn_8_m3)) (Some (Submit (submission (codes "t5") (codes "apply_request") (codes "s") (codes "u") no_dependency no_dependency [] 0 0))) true []
    ∷ decision (Hand (codes "t5") 0) (Pass 4 drawn_8_m3 ∷ [])
    ∷ line (Input (In 5 1807299260439 11249569532856897150 drawn_8_m4)) (Some (Submit (submission (codes "t6") (codes "apply_request") (codes "s") (codes "u") no_dependency (dep ((codes "t5") ∷ (codes "unknown") ∷ []) true true false) [] 0 0))) true []
    ∷ decision (Settle (codes "t6") Failed InvalidDependency) (Pass 5 drawn_8_m5 ∷ [])
    ∷ line (Input (In 4 1807299260439 6113360542927507306 drawn_8_m6)) (Some (Reply (codes "t5") (codes "r7") true false)) true []
    ∷ decision (Settle (codes "t5") Completed ByReply) (Pass 5 drawn_8_m6 ∷ [])
    ∷ line (Input (In 27 1807299260439 0 drawn_8_m7)) (Some (Ask Unknown)) false (Made 27 1807299260439 (codes "hub-1-18") (codes "what_reply") (codes "{\"msg_id\":\"q8\",\"msg_type\":\"what\"}") (codes "{\"status\":\"error\",\"ename\":\"UnknownRequest\",\"evalue\":\"what\",\"traceback\":[],\"ids\":[]}") [] ∷ [])
    ∷ line (Input (Up 42 Hub 1807299260439 16172162581076209732 (codes "x42"))) None true []
    ∷ line (Input (In 13 1807299263439 15306083723409053743 drawn_8_m4)) (Some (Submit (submission (codes "t6") (codes "apply_request") (codes "s") (codes "u") no_dependency (dep ((codes "t5") ∷ (codes "unknown") ∷ []) true true false) [] 0 0))) false (Pass 13 drawn_8_m5 ∷ [])
    ∷ line (Input (In 5 1807299266439 2581739116155136812 drawn_8_m8)) (Some (Submit (submission (codes "t9") (codes "execute_request") (codes "s") (codes "u") no_dependency no_dependency [] 5 0))) true []
    ∷ decision (Hand (codes "t9") 1) (Pass 6 drawn_8_m8 ∷ [])
    ∷ line (Input (In 5 1807299269439 0 drawn_8_m9)) (Some (Submit (submission (codes "t10") (codes "execute_request") (codes "s") (codes "u") no_dependency no_dependency [] 0 0))) true []
    ∷ decision (Hand (codes "t10") 0) (Pass 4 drawn_8_m9 ∷ [])
    ∷ line (Input (In 27 1807299269439 0 drawn_8_m10)) (Some (Ask (Queue (1 ∷ 0 ∷ 1 ∷ []) true))) false (Made 27 1807299269439 (codes "hub-1-25") (codes "queue_reply") (codes "{\"msg_id\":\"q11\",\"msg_type\":\"queue_request\"}") (codes "{\"status\":\"ok\",\"unassigned\":[],\"0\":{\"queue\":[],\"completed\":[\"t5\"],\"tasks\":[\"t10\"]},\"1\":{\"queue\":[],\"completed\":[],\"tasks\":[\"t9\"]}}") [] ∷ [])
    ∷ line (Input (In 6 1807299329439 0 drawn_8_m11)) (Some (Pong 0)) false []
    ∷ line (Input (In 13 1807299329439 9217702839435324541 drawn_8_m12)) (Some (Submit (submission (codes "t13") (codes "apply_request") (codes "s") (codes "u") no_dependency no_dependency [] 60 0))) true []
    ∷ line (Input (In 13 1807299329439 7615204472170505092 drawn_8_m13)) (Some (Submit (submission (codes "t14") (codes "execute_request") (codes "s") (codes "u") (dep ((codes "t6") ∷ []) true false false) (dep ((codes "t9") ∷ []) false false false) [] 0 0))) true []
    ∷ decision (Settle (codes "t14") Failed ImpossibleDependency) (Pass 13 drawn_8_m14 ∷ [])
    ∷ line (Input (In 6 1807299329439 5918592313294086502 drawn_8_m15)) (Some (Reply (codes "t9") (codes "r15") false false)) true []
    ∷ decision (Settle (codes "t9") Failed ByReply) (Pass 5 drawn_8_m15 ∷ [])
    ∷ decision (Hand (codes "t13") 1) (Pass 6 drawn_8_m12 ∷ [])
    ∷ line (Input (In 35 1807299329439 0 drawn_8_m16)) (Some (Pong 0)) false []
    ∷ []

pub drawn_8_is_told : IsTold drawn_8
unfolding digits escape_byte reserved_front next_word answer_id beat_id beat_request outcome_id resubmit_id header_text reply_type submit_refused empty_object ok_content join_content beat_content error_content outcome_content resubmit_content connection_content history_content queue_member queue_content settled_member result_content engine_lost_text date_of day_text time_text date_digits civil_date from_year from_month encode_with serde_json_on_literals is_utf8 chars event_of read_header is_request is_reply is_leave read_submit whole_timeouts ends_in_name is_db request_of read_content read_task read_declined read_status
drawn_8_is_told = record { goes = refl; reads = refl; rests = refl }

pub drawn_8_legal : Legal (goes_on [] drawn_8)
drawn_8_legal = told_legal drawn_8 drawn_8_is_told

abbrev drawn_9_m0 : Message
drawn_9_m0 = message [] (codes "{\"msg_id\":\"j1\",\"msg_type\":\"registration_request\"}") (codes "{}") (codes "{}") (codes "{\"uuid\":\"e2\"}") []

abbrev drawn_9_m1 : Message
drawn_9_m1 = message [] (codes "{\"msg_id\":\"j2\",\"msg_type\":\"registration_request\"}") (codes "{}") (codes "{}") (codes "{\"uuid\":\"e4\"}") []

abbrev drawn_9_m2 : Message
drawn_9_m2 = message [] (codes "{\"msg_id\":\"r2\",\"msg_type\":\"execute_reply\"}") (codes "{\"msg_id\":\"none\"}") (codes "{}") (codes "{\"status\":\"ok\"}") []

abbrev drawn_9_m3 : Message
drawn_9_m3 = message [] (codes "{\"msg_id\":\"t6\",\"msg_type\":\"execute_request\",\"session\":\"s\",\"username\":\"u\"}") (codes "{}") (codes "{}") (codes "{\"code\":\"5+2\"}") []

abbrev drawn_9_m4 : Message
drawn_9_m4 = message [] (codes "{\"msg_id\":\"p3\",\"msg_type\":\"beat_reply\"}") (codes "{}") (codes "{}") (codes "{\"beat\":0}") []

abbrev drawn_9_m5 : Message
drawn_9_m5 = message [] (codes "{\"msg_id\":\"r7\",\"msg_type\":\"apply_reply\"}") (codes "{\"msg_id\":\"t6\",\"x\":1}") (codes "{\"dependencies_met\":false}") (codes "{\"status\":\"error\",\"result\":\"42\"}") ((codes "b") ∷ (codes "b") ∷ (codes "b") ∷ (codes "b") ∷ (codes "b") ∷ (codes "b") ∷ (codes "b") ∷ (codes "b") ∷ (codes "b") ∷ (codes "b") ∷ (codes "b") ∷ (codes "b") ∷ (codes "b") ∷ (codes "b") ∷ (codes "b") ∷ (codes "b") ∷ (codes "b") ∷ (codes "b") ∷ (codes "b") ∷ (codes "b") ∷ (codes "b") ∷ (codes "b") ∷ (codes "b") ∷ (codes "b") ∷ (codes "b") ∷ (codes "b") ∷ (codes "b") ∷ (codes "b") ∷ (codes "b") ∷ (codes "b") ∷ (codes "b") ∷ (codes "b") ∷ (codes "b") ∷ (codes "b") ∷ (codes "b") ∷ (codes "b") ∷ (codes "b") ∷ (codes "b") ∷ (codes "b") ∷ (codes "b") ∷ (codes "b") ∷ (codes "b") ∷ (codes "b") ∷ (codes "b") ∷ (codes "b") ∷ (codes "b") ∷ (codes "b") ∷ (codes "b") ∷ (codes "b") ∷ (codes "b") ∷ (codes "b") ∷ (codes "b") ∷ (codes "b") ∷ (codes "b") ∷ (codes "b") ∷ (codes "b") ∷ (codes "b") ∷ (codes "b") ∷ [])

abbrev drawn_9_m6 : Message
drawn_9_m6 = message [] (codes "{\"msg_id\":\"r8\",\"msg_type\":\"apply_reply\"}") (codes "{\"msg_id\":\"t6\",\"x\":1}") (codes "{\"dependencies_met\":true}") (codes "{\"status\":\"ok\",\"result\":\"42\"}") ((codes "b") ∷ (codes "b") ∷ (codes "b") ∷ (codes "b") ∷ (codes "b") ∷ (codes "b") ∷ (codes "b") ∷ (codes "b") ∷ (codes "b") ∷ (codes "b") ∷ (codes "b") ∷ (codes "b") ∷ (codes "b") ∷ (codes "b") ∷ (codes "b") ∷ (codes "b") ∷ (codes "b") ∷ (codes "b") ∷ (codes "b") ∷ (codes "b") ∷ (codes "b") ∷ (codes "b") ∷ (codes "b") ∷ (codes "b") ∷ (codes "b") ∷ (codes "b") ∷ (codes "b") ∷ (codes "b") ∷ (codes "b") ∷ (codes "b") ∷ (codes "b") ∷ (codes "b") ∷ (codes "b") ∷ (codes "b") ∷ (codes "b") ∷ (codes "b") ∷ (codes "b") ∷ (codes "b") ∷ (codes "b") ∷ (codes "b") ∷ (codes "b") ∷ (codes "b") ∷ (codes "b") ∷ (codes "b") ∷ (codes "b") ∷ (codes "b") ∷ (codes "b") ∷ (codes "b") ∷ (codes "b") ∷ (codes "b") ∷ (codes "b") ∷ (codes "b") ∷ (codes "b") ∷ (codes "b") ∷ (codes "b") ∷ (codes "b") ∷ (codes "b") ∷ (codes "b") ∷ [])

abbrev drawn_9_m7 : Message
drawn_9_m7 = message [] (codes "{\"msg_id\":\"t9\",\"msg_type\":\"apply_request\",\"session\":\"s\",\"username\":\"u\"}") (codes "{}") (codes "{\"follow\":{\"dependencies\":[\"t6\"]},\"timeout\":0}") (codes "{\"code\":\"4+5\"}") []

abbrev drawn_9_m8 : Message
drawn_9_m8 = message [] (codes "{\"msg_id\":\"t10\",\"msg_type\":\"execute_request\",\"session\":\"s\",\"username\":\"u\"}") (codes "{}") (codes "{\"after\":{\"dependencies\":[\"t9\"]},\"follow\":{\"dependencies\":[\"t6\",\"unknown\"],\"all\":true,\"success\":false},\"retries\":1}") (codes "{\"code\":\"5+1\"}") ((codes "buf") ∷ (codes "buf") ∷ [])

abbrev drawn_9_m9 : Message
drawn_9_m9 = message [] (codes "{\"msg_id\":\"out-3\",\"session\":\"controller\",\"username\":\"controller\",\"date\":\"1991-10-10T01:58:43.378Z\",\"msg_type\":\"execute_reply\",\"version\":\"5.3\"}") (codes "{\"msg_id\":\"t10\",\"msg_type\":\"execute_request\",\"session\":\"s\",\"username\":\"u\"}") (codes "{}") (codes "{\"status\":\"error\",\"ename\":\"InvalidDependency\",\"evalue\":\"a dependency is unknown or is the task itself\",\"traceback\":[]}") []

abbrev drawn_9_m10 : Message
drawn_9_m10 = message [] (codes "{\"msg_id\":\"t11\",\"msg_type\":\"execute_request\",\"session\":\"s\",\"username\":\"u\"}") (codes "{}") (codes "{\"timeout\": 55.0, \"retries\": 1}") (codes "{\"code\":\"7+4\"}") []

abbrev drawn_9_m11 : Message
drawn_9_m11 = message [] (codes "{\"msg_id\":\"t12\",\"msg_type\":\"apply_request\",\"session\":\"s\",\"username\":\"u\"}") (codes "{}") (codes "{\"after\":{\"dependencies\":[\"t6\"],\"all\":true}}") (codes "{\"code\":\"0+3\"}") []

abbrev drawn_9_m12 : Message
drawn_9_m12 = message [] (codes "{\"msg_id\":\"p13\",\"msg_type\":\"beat_reply\"}") (codes "{}") (codes "{}") (codes "{\"beat\":18446744073709551615}") []

abbrev drawn_9_m13 : Message
drawn_9_m13 = message [] (codes "{\"msg_id\":\"q14\",\"msg_type\":\"shutdown_request\"}") (codes "{}") (codes "{}") (codes "{}") []

abbrev drawn_9_m14 : Message
drawn_9_m14 = message [] (codes "{\"msg_id\":\"r17\",\"msg_type\":\"apply_reply\"}") (codes "{\"msg_id\":\"t11\",\"x\":1}") (codes "{\"dependencies_met\":true}") (codes "{\"status\":\"ok\",\"result\":\"42\"}") ((codes "b") ∷ (codes "b") ∷ (codes "b") ∷ [])

abbrev drawn_9_m15 : Message
drawn_9_m15 = message [] (codes "{\"msg_id\":\"r18\",\"msg_type\":\"execute_reply\"}") (codes "{\"msg_id\":\"t6\",\"x\":1}") (codes "{}") (codes "{\"status\":\"aborted\",\"result\":\"42\"}") ((codes "b") ∷ (codes "b") ∷ (codes "b") ∷ (codes "b") ∷ (codes "b") ∷ (codes "b") ∷ (codes "b") ∷ (codes "b") ∷ (codes "b") ∷ (codes "b") ∷ (codes "b") ∷ (codes "b") ∷ (codes "b") ∷ (codes "b") ∷ (codes "b") ∷ (codes "b") ∷ (codes "b") ∷ (codes "b") ∷ (codes "b") ∷ (codes "b") ∷ (codes "b") ∷ (codes "b") ∷ (codes "b") ∷ (codes "b") ∷ (codes "b") ∷ (codes "b") ∷ (codes "b") ∷ (codes "b") ∷ (codes "b") ∷ (codes "b") ∷ (codes "b") ∷ (codes "b") ∷ (codes "b") ∷ (codes "b") ∷ (codes "b") ∷ (codes "b") ∷ (codes "b") ∷ (codes "b") ∷ (codes "b") ∷ (codes "b") ∷ (codes "b") ∷ (codes "b") ∷ (codes "b") ∷ (codes "b") ∷ (codes "b") ∷ (codes "b") ∷ (codes "b") ∷ (codes "b") ∷ (codes "b") ∷ (codes "b") ∷ (codes "b") ∷ (codes "b") ∷ (codes "b") ∷ (codes "b") ∷ (codes "b") ∷ (codes "b") ∷ (codes "b") ∷ (codes "b") ∷ [])

abbrev drawn_9_m16 : Message
drawn_9_m16 = message [] (codes "{\"msg_id\":\"t19\",\"msg_type\":\"execute_request\",\"session\":\"s\",\"username\":\"u\"}") (codes "{}") (codes "{\"retries\":null}") (codes "{\"code\":\"1+2\"}") []

abbrev drawn_9_m17 : Message
drawn_9_m17 = message [] (codes "{\"msg_id\":\"r21\",\"msg_type\":\"apply_reply\"}") (codes "{\"msg_id\":\"t19\",\"x\":1}") (codes "{\"dependencies_met\":true}") (codes "{\"status\":\"aborted\",\"result\":\"42\"}") ((codes "b") ∷ (codes "b") ∷ (codes "b") ∷ (codes "b") ∷ (codes "b") ∷ (codes "b") ∷ (codes "b") ∷ (codes "b") ∷ (codes "b") ∷ (codes "b") ∷ (codes "b") ∷ (codes "b") ∷ (codes "b") ∷ (codes "b") ∷ (codes "b") ∷ (codes "b") ∷ (codes "b") ∷ (codes "b") ∷ (codes "b") ∷ (codes "b") ∷ (codes "b") ∷ (codes "b") ∷ (codes "b") ∷ (codes "b") ∷ (codes "b") ∷ (codes "b") ∷ (codes "b") ∷ (codes "b") ∷ (codes "b") ∷ (codes "b") ∷ (codes "b") ∷ (codes "b") ∷ (codes "b") ∷ (codes "b") ∷ (codes "b") ∷ (codes "b") ∷ (codes "b") ∷ (codes "b") ∷ (codes "b") ∷ (codes "b") ∷ (codes "b") ∷ (codes "b") ∷ (codes "b") ∷ (codes "b") ∷ (codes "b") ∷ (codes "b") ∷ (codes "b") ∷ (codes "b") ∷ (codes "b") ∷ (codes "b") ∷ (codes "b") ∷ (codes "b") ∷ (codes "b") ∷ (codes "b") ∷ (codes "b") ∷ (codes "b") ∷ (codes "b") ∷ (codes "b") ∷ [])

abbrev drawn_9_m18 : Message
drawn_9_m18 = message [] (codes "{\"msg_id\":\"q22\",\"msg_type\":\"result_request\"}") (codes "{}") (codes "{}") (codes "{\"msg_ids\":[\"t11\",\"t10\",\"t9\",\"t10\",\"t6\"],\"status_only\":false}") []

-- 35 entries, 1 opening
abbrev pub drawn_9 : List Line
drawn_9 =
    line (Input (Open 0 PlainRandom 2 2)) None true []
    ∷ line (Input (Up 4 Engine 0 0 (codes "conn-4"))) None true []
    ∷ line (Input (In 4 0 0 drawn_9_m0)) (Some (Join (codes "e2"))) true (Made 4 0 (codes "hub-1-2") (codes "registration_reply") (codes "{\"msg_id\":\"j1\",\"msg_type\":\"registration_request\"}") (codes "{\"status\":\"ok\",\"id\":0}") [] ∷ [])
    ∷ line (Input (Up 11 Task 0 0 (codes "c"))) None true []
    ∷ line (Input (Up 12 Engine 0 0 (codes "x12"))) None true []
    ∷ line (Input (In 12 0 0 drawn_9_m1)) (Some (Join (codes "e4"))) true (Made 12 0 (codes "hub-1-5") (codes "registration_reply") (codes "{\"msg_id\":\"j2\",\"msg_type\":\"registration_request\"}") (codes "{\"status\":\"ok\",\"id\":1}") [] ∷ [])
    ∷ line (Input (Up 15 Hub 0 0 (224 ∷ []))) None true []
    ∷ line (Input (In 12 687059803377 15355987953346038573 drawn_9_m2)) (Some (Reply (codes "none") (codes "r2") true false)) false []
    ∷ line (Input (In 11 687059863377 0 drawn_9_m3)) (Some (Submit (submission (codes "t6") (codes "execute_request") (codes "s") (codes "u") no_dependency no_dependency [] 0 0))) true []
    ∷ decision (Hand (codes "t6") 0) (Pass 4 drawn_9_m3 ∷ [])
    ∷ line (Input (In 4 687059863378 13037101947769409716 drawn_9_m4)) (Some (Pong 0)) false []
    ∷ line (Input (In 4 687059923378 11995954729288999070 drawn_9_m5)) (Some (Reply (codes "t6") (codes "r7") false true)) true []
    ∷ decision (Hand (codes "t6") 1) (Pass 12 drawn_9_m3 ∷ [])
    ∷ line (Input (In 4 687059923378 11995954729288999070 drawn_9_m6)) (Some (Reply (codes "t6") (codes "r8") true false)) false []
    ∷ line (Input (In 11 687059923378 0 drawn_9_m7)) (Some (Submit (submission (codes "t9") (codes "apply_request") (codes "s") (codes "u") no_dependency (dep ((codes "t6") ∷ []) true true false) [] 0 0))) true []
    ∷ line (Input (In 11 687059923378 0 drawn_9_m8)) (Some (Submit (submission (codes "t10") (codes "execute_request") (codes "s") (codes "u") (dep ((codes "t9") ∷ []) true true false) (dep ((codes "t6") ∷ (codes "unknown") ∷ []) true false false) [] 0 1))) true []
    ∷ decision (Settle (codes "t10") Failed InvalidDependency) (Pass 11 drawn_9_m9 ∷ [])
    ∷ line (Input (In 11 687059923378 3484776358478187694 drawn_9_m10)) (Some (Submit (submission (codes "t11") (codes "execute_request") (codes "s") (codes "u") no_dependency no_dependency [] 55 1))) true []
    ∷ decision (Hand (codes "t11") 0) (Pass 4 drawn_9_m10 ∷ [])
    ∷ line (Input (In 11 687059923378 17282777530015366051 drawn_9_m11)) (Some (Submit (submission (codes "t12") (codes "apply_request") (codes "s") (codes "u") (dep ((codes "t6") ∷ []) true true false) no_dependency [] 0 0))) true []
    ∷ line (Input (Up 16 Task 687059923378 3588142974445798807 (136 ∷ 136 ∷ 136 ∷ 136 ∷ 136 ∷ 136 ∷ 136 ∷ 136 ∷ 136 ∷ 136 ∷ 136 ∷ 136 ∷ 136 ∷ 136 ∷ 136 ∷ 136 ∷ 136 ∷ 136 ∷ 136 ∷ 136 ∷ 136 ∷ 136 ∷ 136 ∷ 136 ∷ 136 ∷ 136 ∷ 136 ∷ 136 ∷ 136 ∷ 136 ∷ 136 ∷ 136 ∷ 136 ∷ 136 ∷ 136 ∷ 136 ∷ 136 ∷ 136 ∷ 136 ∷ 136 ∷ 136 ∷ 136 ∷ 136 ∷ 136 ∷ 136 ∷ 136 ∷ 136 ∷ 136 ∷ 136 ∷ 136 ∷ 136 ∷ 136 ∷ 136 ∷ 136 ∷ 136 ∷ 136 ∷ 136 ∷ 136 ∷ 136 ∷ 136 ∷ 136 ∷ 136 ∷ 136 ∷ 136 ∷ 136 ∷ 136 ∷ 136 ∷ 136 ∷ 136 ∷ 136 ∷ 136 ∷ 136 ∷ 136 ∷ 136 ∷ 136 ∷ 136 ∷ 136 ∷ 136 ∷ 136 ∷ 136 ∷ 136 ∷ 136 ∷ 136 ∷ 136 ∷ 136 ∷ 136 ∷ 136 ∷ 136 ∷ 136 ∷ 136 ∷ 136 ∷ 136 ∷ 136 ∷ 136 ∷ 136 ∷ 136 ∷ 136 ∷ 136 ∷ 136 ∷ 136 ∷ 136 ∷ 136 ∷ 136 ∷ 136 ∷ 136 ∷ 136 ∷ 136 ∷ 136 ∷ 136 ∷ 136 ∷ 136 ∷ 136 ∷ 136 ∷ 136 ∷ 136 ∷ 136 ∷ 136 ∷ 136 ∷ 136 ∷ 136 ∷ 136 ∷ 136 ∷ 136 ∷ 136 ∷ 136 ∷ 136 ∷ 136 ∷ 136 ∷ 136 ∷ 136 ∷ 136 ∷ 136 ∷ 136 ∷ 136 ∷ 136 ∷ 136 ∷ 136 ∷ 136 ∷ 136 ∷ 136 ∷ 136 ∷ 136 ∷ 136 ∷ 136 ∷ 136 ∷ 136 ∷ 136 ∷ 136 ∷ 136 ∷ 136 ∷ 136 ∷ 136 ∷ 136 ∷ 136 ∷ 136 ∷ 136 ∷ 136 ∷ 136 ∷ 136 ∷ 136 ∷ 136 ∷ 136 ∷ 136 ∷ 136 ∷ 136 ∷ 136 ∷ 136 ∷ 136 ∷ 136 ∷ 136 ∷ 136 ∷ 136 ∷ 136 ∷ 136 ∷ 136 ∷ 136 ∷ 136 ∷ 136 ∷ 136 ∷ 136 ∷ 136 ∷ 136 ∷ 136 ∷ 136 ∷ 136 ∷ 136 ∷ 136 ∷ 136 ∷ 136 ∷ 136 ∷ 136 ∷ 136 ∷ 136 ∷ 136 ∷ 136 ∷ 136 ∷ 136 ∷ 136 ∷ 136 ∷ 136 ∷ 136 ∷ 136 ∷ 136 ∷ 136 ∷ 136 ∷ 136 ∷ 136 ∷ 136 ∷ 136 ∷ 136 ∷ 136 ∷ 136 ∷ 136 ∷ 136 ∷ 136 ∷ 136 ∷ 136 ∷ 136 ∷ 136 ∷ 136 ∷ 136 ∷ 136 ∷ 136 ∷ 136 ∷ 136 ∷ 136 ∷ 136 ∷ 136 ∷ 136 ∷ 136 ∷ 136 ∷ 136 ∷ 136 ∷ 136 ∷ 136 ∷ 136 ∷ 136 ∷ 136 ∷ 136 ∷ 136 ∷ 136 ∷ 136 ∷ 136 ∷ 136 ∷ 136 ∷ 136 ∷ 136 ∷ 136 ∷ 136 ∷ 136 ∷ 136 ∷ 136 ∷ 136 ∷ 136 ∷ 136 ∷ []))) None true []
    ∷ line (Input (In 4 687059923378 3331476294722724209 drawn_9_m12)) (Some (Pong 18446744073709551615)) false []
    ∷ line (Input (Down 11 687059923378 957916717615854296)) None true []
    ∷ line (Input (In 15 687059923378 4603871758258631528 drawn_9_m13)) (Some (Ask Shutdown)) false (Made 15 687059923378 (codes "hub-1-23") (codes "shutdown_reply") (codes "{\"msg_id\":\"q14\",\"msg_type\":\"shutdown_request\"}") (codes "{\"status\":\"ok\"}") [] ∷ [])
    ∷ line (Input (In 4 687059923378 14525415183444789347 drawn_9_m14)) (Some (Reply (codes "t11") (codes "r17") true false)) true []
    ∷ decision (Settle (codes "t11") Completed ByReply) []
    ∷ line (Input (In 12 687059923378 5293634808138536593 drawn_9_m15)) (Some (Reply (codes "t6") (codes "r18") false false)) true []
    ∷ decision (Settle (codes "t6") Failed ByReply) []
    ∷ decision (Settle (codes "t9") Failed ImpossibleDependency) []
    ∷ decision (Settle (codes "t12") Failed ImpossibleDependency) []
    ∷ line (Input (In 16 687059923378 10143266998041396006 drawn_9_m16)) (Some (Submit (submission (codes "t19") (codes "execute_request") (codes "s") (codes "u") no_dependency no_dependency [] 0 0))) true []
    ∷ decision (Hand (codes "t19") 1) (Pass 12 drawn_9_m16 ∷ [])
    ∷ line (Input (In 12 687059923378 13147014051320657922 drawn_9_m17)) (Some (Reply (codes "t19") (codes "r21") false false)) true []
    ∷ decision (Settle (codes "t19") Failed ByReply) (Pass 16 drawn_9_m17 ∷ [])
    ∷ line (Input (In 15 687059923378 0 drawn_9_m18)) (Some (Ask (Result ((codes "t11") ∷ (codes "t10") ∷ (codes "t9") ∷ (codes "t10") ∷ (codes "t6") ∷ []) false))) false (Made 15 687059923378 (codes "hub-1-34") (codes "result_reply") (codes "{\"msg_id\":\"q22\",\"msg_type\":\"result_request\"}") (codes "{\"status\":\"error\",\"ename\":\"ReplyTooLong\",\"evalue\":\"\",\"traceback\":[],\"ids\":[]}") [] ∷ [])
    ∷ []

pub drawn_9_is_told : IsTold drawn_9
unfolding digits escape_byte reserved_front next_word answer_id beat_id beat_request outcome_id resubmit_id header_text reply_type submit_refused empty_object ok_content join_content beat_content error_content outcome_content resubmit_content connection_content history_content queue_member queue_content settled_member result_content engine_lost_text date_of day_text time_text date_digits civil_date from_year from_month encode_with serde_json_on_literals is_utf8 chars event_of read_header is_request is_reply is_leave read_submit whole_timeouts ends_in_name is_db request_of read_content read_task read_declined read_status
drawn_9_is_told = record { goes = refl; reads = refl; rests = refl }

pub drawn_9_legal : Legal (goes_on [] drawn_9)
drawn_9_legal = told_legal drawn_9 drawn_9_is_told

abbrev drawn_10_m0 : Message
drawn_10_m0 = message [] (codes "{\"msg_id\":\"j1\",\"msg_type\":\"registration_request\"}") (codes "{}") (codes "{}") (codes "{\"uuid\":\"e5\"}") []

abbrev drawn_10_m1 : Message
drawn_10_m1 = message [] (codes "{\"msg_id\":\"j2\",\"msg_type\":\"registration_request\"}") (codes "{}") (codes "{}") (codes "{\"uuid\":\"e1\"}") []

abbrev drawn_10_m2 : Message
drawn_10_m2 = message [] (codes "{\"msg_id\":\"t3\",\"msg_type\":\"apply_request\",\"session\":\"s\",\"username\":\"u\"}") (codes "{}") (codes "{\"retries\":1}") (codes "{\"code\":\"6+8\"}") []

abbrev drawn_10_m3 : Message
drawn_10_m3 = message [] (codes "{\"msg_id\":\"r4\",\"msg_type\":\"apply_reply\"}") (codes "{\"msg_id\":\"t3\",\"x\":1}") (codes "{\"started\":\"x\"}") (codes "{\"status\":\"ok\",\"result\":\"42\"}") ((codes "b") ∷ [])

abbrev drawn_10_m4 : Message
drawn_10_m4 = message [] (codes "{\"msg_id\":\"l5\",\"msg_type\":\"unregistration_request\"}") (codes "{}") (codes "{}") (codes "{}") []

abbrev drawn_10_m5 : Message
drawn_10_m5 = message [] (codes "{\"msg_id\":\"t6\",\"msg_type\":\"apply_request\",\"session\":\"s\",\"username\":\"u\"}") (codes "{}") (codes "{\"after\":[\"t3\"],\"follow\":{\"dependencies\":[\"t3\"],\"all\":false,\"failure\":false},\"targets\":[\"e0\",\"nobody\",\"e5\"]}") (codes "{\"code\":\"8+5\"}") ((codes "buf") ∷ (codes "buf") ∷ [])

abbrev drawn_10_m6 : Message
drawn_10_m6 = message [] (codes "{\"msg_id\":\"t7\",\"msg_type\":\"apply_request\",\"session\":\"s\",\"username\":\"u\"}") (codes "{}") (codes "{\"after\":{\"dependencies\":[\"t6\",\"t3\",\"unknown\"],\"all\":false,\"failure\":true}}") (codes "{\"code\":\"8+7\"}") []

abbrev drawn_10_m7 : Message
drawn_10_m7 = message [] (codes "{\"msg_id\":\"out-3\",\"session\":\"controller\",\"username\":\"controller\",\"date\":\"2014-10-28T12:00:57.786Z\",\"msg_type\":\"apply_reply\",\"version\":\"5.3\"}") (codes "{\"msg_id\":\"t7\",\"msg_type\":\"apply_request\",\"session\":\"s\",\"username\":\"u\"}") (codes "{}") (codes "{\"status\":\"error\",\"ename\":\"InvalidDependency\",\"evalue\":\"a dependency is unknown or is the task itself\",\"traceback\":[]}") []

abbrev drawn_10_m8 : Message
drawn_10_m8 = message [] (codes "{\"msg_id\":\"r8\",\"msg_type\":\"apply_reply\"}") (codes "{\"msg_id\":\"t6\",\"x\":1}") (codes "{\"started\":\"x\"}") (codes "{\"status\":\"ok\",\"result\":\"42\"}") ((codes "b") ∷ (codes "b") ∷ (codes "b") ∷ (codes "b") ∷ (codes "b") ∷ (codes "b") ∷ (codes "b") ∷ (codes "b") ∷ (codes "b") ∷ (codes "b") ∷ (codes "b") ∷ (codes "b") ∷ (codes "b") ∷ (codes "b") ∷ (codes "b") ∷ (codes "b") ∷ (codes "b") ∷ (codes "b") ∷ (codes "b") ∷ (codes "b") ∷ (codes "b") ∷ (codes "b") ∷ (codes "b") ∷ (codes "b") ∷ (codes "b") ∷ (codes "b") ∷ (codes "b") ∷ (codes "b") ∷ (codes "b") ∷ (codes "b") ∷ (codes "b") ∷ (codes "b") ∷ (codes "b") ∷ (codes "b") ∷ (codes "b") ∷ (codes "b") ∷ (codes "b") ∷ (codes "b") ∷ (codes "b") ∷ (codes "b") ∷ (codes "b") ∷ (codes "b") ∷ (codes "b") ∷ (codes "b") ∷ (codes "b") ∷ (codes "b") ∷ (codes "b") ∷ (codes "b") ∷ (codes "b") ∷ (codes "b") ∷ (codes "b") ∷ (codes "b") ∷ (codes "b") ∷ (codes "b") ∷ (codes "b") ∷ (codes "b") ∷ (codes "b") ∷ (codes "b") ∷ [])

abbrev drawn_10_m9 : Message
drawn_10_m9 = message [] (codes "{\"msg_id\":\"t9\",\"msg_type\":\"apply_request\",\"session\":\"s\",\"username\":\"u\"}") (codes "{}") (codes "{\"follow\":{\"dependencies\":[\"t7\"],\"all\":true,\"success\":false},\"targets\":[\"e3\",\"e2\"],\"retries\":1}") (codes "{\"code\":\"7+2\"}") []

abbrev drawn_10_m10 : Message
drawn_10_m10 = message [] (codes "{\"msg_id\":\"out-4\",\"session\":\"controller\",\"username\":\"controller\",\"date\":\"2014-10-28T12:01:57.787Z\",\"msg_type\":\"apply_reply\",\"version\":\"5.3\"}") (codes "{\"msg_id\":\"t9\",\"msg_type\":\"apply_request\",\"session\":\"s\",\"username\":\"u\"}") (codes "{}") (codes "{\"status\":\"error\",\"ename\":\"ImpossibleDependency\",\"evalue\":\"the dependencies of this task cannot be met\",\"traceback\":[]}") []

abbrev drawn_10_m11 : Message
drawn_10_m11 = message [] (codes "{\"msg_id\":\"t11\",\"msg_type\":\"apply_request\",\"session\":\"s\",\"username\":\"u\"}") (codes "{}") (codes "{\"after\":{\"dependencies\":[\"t7\",\"t7\"]},\"retries\":0}") (codes "{\"code\":\"3+4\"}") ((codes "buf") ∷ (codes "buf") ∷ [])

abbrev drawn_10_m12 : Message
drawn_10_m12 = message [] (codes "{\"msg_id\":\"out-5\",\"session\":\"controller\",\"username\":\"controller\",\"date\":\"2014-10-28T12:01:57.787Z\",\"msg_type\":\"apply_reply\",\"version\":\"5.3\"}") (codes "{\"msg_id\":\"t11\",\"msg_type\":\"apply_request\",\"session\":\"s\",\"username\":\"u\"}") (codes "{}") (codes "{\"status\":\"error\",\"ename\":\"ImpossibleDependency\",\"evalue\":\"the dependencies of this task cannot be met\",\"traceback\":[]}") []

abbrev drawn_10_m13 : Message
drawn_10_m13 = message [] (codes "{\"msg_id\":\"j12\",\"msg_type\":\"registration_request\"}") (codes "{}") (codes "{}") (codes "{\"uuid\":\"e4\"}") []

abbrev drawn_10_m14 : Message
drawn_10_m14 = message [] (codes "{\"msg_id\":\"j1\",\"msg_type\":\"registration_request\"}") (codes "{}") (codes "{}") (codes "{\"uuid\":\"e4\"}") []

abbrev drawn_10_m15 : Message
drawn_10_m15 = message [] (codes "{\"msg_id\":\"j2\",\"msg_type\":\"registration_request\"}") (codes "{}") (codes "{}") (codes "{\"uuid\":\"e5\"}") []

abbrev drawn_10_m16 : Message
drawn_10_m16 = message (codes "junk") (codes "{\"msg_id\":\"t3\",\"msg_type\":\"execute_request\",\"session\":\"s\",\"username\":\"u\"}") (codes "{}") (codes "{\"after\":[\"t11\"],\"follow\":{\"dependencies\":[],\"all\":false}}") (codes "{\"code\":\"2+3\"}") ((codes "buf") ∷ (codes "buf") ∷ [])

-- 37 entries, 2 openings
abbrev pub drawn_10 : List Line
drawn_10 =
    line (Input (Open 0 LeastLoad 2 3)) None true []
    ∷ line (Input (Up 1 Engine 0 0 (codes "c"))) None true []
    ∷ line (Input (In 1 0 0 drawn_10_m0)) (Some (Join (codes "e5"))) true (Made 1 0 (codes "hub-1-2") (codes "registration_reply") (codes "{\"msg_id\":\"j1\",\"msg_type\":\"registration_request\"}") (codes "{\"status\":\"ok\",\"id\":0}") [] ∷ [])
    ∷ line (Input (Up 2 Task 0 0 (codes "x2"))) None true []
    ∷ line (Input (Up 9 Engine 0 0 (codes "_"))) None true []
    ∷ line (Input (In 9 0 0 drawn_10_m1)) (Some (Join (codes "e1"))) true (Made 9 0 (codes "hub-1-5") (codes "registration_reply") (codes "{\"msg_id\":\"j2\",\"msg_type\":\"registration_request\"}") (codes "{\"status\":\"ok\",\"id\":1}") [] ∷ [])
    ∷ line (Input (Up 17 Mux 0 0 (codes "c"))) None true []
    ∷ line (Input (Up 18 Hub 0 0 (codes "conn-18"))) None true []
    ∷ line (Input (In 2 1414497656786 8254416785683589620 drawn_10_m2)) (Some (Submit (submission (codes "t3") (codes "apply_request") (codes "s") (codes "u") no_dependency no_dependency [] 0 1))) true []
    ∷ decision (Hand (codes "t3") 0) (Pass 1 drawn_10_m2 ∷ [])
    ∷ line (Input (In 1 1414497657286 4013324635881447196 drawn_10_m3)) (Some (Reply (codes "t3") (codes "r4") true false)) true []
    ∷ decision (Settle (codes "t3") Completed ByReply) (Pass 2 drawn_10_m3 ∷ [])
    ∷ line (Input (In 9 1414497657286 15188401721684212369 drawn_10_m4)) (Some (Leave)) true (Made 9 1414497657286 (codes "hub-1-12") (codes "unregistration_reply") (codes "{\"msg_id\":\"l5\",\"msg_type\":\"unregistration_request\"}") (codes "{\"status\":\"ok\"}") [] ∷ [])
    ∷ line (Input (In 2 1414497657786 0 drawn_10_m5)) (Some (Submit (submission (codes "t6") (codes "apply_request") (codes "s") (codes "u") (dep ((codes "t3") ∷ []) true true false) (dep ((codes "t3") ∷ []) false true false) ((codes "e0") ∷ (codes "nobody") ∷ (codes "e5") ∷ []) 0 0))) true []
    ∷ decision (Hand (codes "t6") 0) (Pass 1 drawn_10_m5 ∷ [])
    ∷ line (Input (In 2 1414497657786 0 drawn_10_m6)) (Some (Submit (submission (codes "t7") (codes "apply_request") (codes "s") (codes "u") (dep ((codes "t6") ∷ (codes "t3") ∷ (codes "unknown") ∷ []) false true true) no_dependency [] 0 0))) true []
    ∷ decision (Settle (codes "t7") Failed InvalidDependency) (Pass 2 drawn_10_m7 ∷ [])
    ∷ line (Input (In 1 1414497657786 0 drawn_10_m8)) (Some (Reply (codes "t6") (codes "r8") true false)) true []
    ∷ decision (Settle (codes "t6") Completed ByReply) (Pass 2 drawn_10_m8 ∷ [])
    ∷ line (Input (Up 16 Task 1414497717787 3464783176250086695 (codes "conn-16"))) None true []
    ∷ line (Input (In 16 1414497717787 3464783176250086695 drawn_10_m9)) (Some (Submit (submission (codes "t9") (codes "apply_request") (codes "s") (codes "u") no_dependency (dep ((codes "t7") ∷ []) true false false) ((codes "e3") ∷ (codes "e2") ∷ []) 0 1))) true []
    ∷ decision (Settle (codes "t9") Failed ImpossibleDependency) (Pass 16 drawn_10_m10 ∷ [])
    ∷ line (Input (In 16 1414497717787 0 drawn_10_m11)) (Some (Submit (submission (codes "t11") (codes "apply_request") (codes "s") (codes "u") (dep ((codes "t7") ∷ []) true true false) no_dependency [] 0 0))) true []
    ∷ decision (Settle (codes "t11") Failed ImpossibleDependency) (Pass 16 drawn_10_m12 ∷ [])
    ∷ line (Input (In 9 1414497718287 0 drawn_10_m13)) (Some (Join (codes "e4"))) true (Made 9 1414497718287 (codes "hub-1-24") (codes "registration_reply") (codes "{\"msg_id\":\"j12\",\"msg_type\":\"registration_request\"}") (codes "{\"status\":\"ok\",\"id\":2}") [] ∷ [])
    ∷ line (Input (Open 0 Lru 0 3)) None true []
    ∷ line (Input (Up 3 Engine 0 0 (147 ∷ 147 ∷ 147 ∷ 147 ∷ 147 ∷ 147 ∷ 147 ∷ 147 ∷ 147 ∷ 147 ∷ 147 ∷ 147 ∷ 147 ∷ 147 ∷ 147 ∷ 147 ∷ 147 ∷ 147 ∷ 147 ∷ 147 ∷ 147 ∷ 147 ∷ 147 ∷ 147 ∷ 147 ∷ 147 ∷ 147 ∷ 147 ∷ 147 ∷ 147 ∷ 147 ∷ 147 ∷ 147 ∷ 147 ∷ 147 ∷ 147 ∷ 147 ∷ 147 ∷ 147 ∷ 147 ∷ 147 ∷ 147 ∷ 147 ∷ 147 ∷ 147 ∷ 147 ∷ 147 ∷ 147 ∷ 147 ∷ 147 ∷ 147 ∷ 147 ∷ 147 ∷ 147 ∷ 147 ∷ 147 ∷ 147 ∷ 147 ∷ 147 ∷ 147 ∷ 147 ∷ 147 ∷ 147 ∷ 147 ∷ 147 ∷ 147 ∷ 147 ∷ 147 ∷ 147 ∷ 147 ∷ 147 ∷ 147 ∷ 147 ∷ 147 ∷ 147 ∷ 147 ∷ 147 ∷ 147 ∷ 147 ∷ 147 ∷ 147 ∷ 147 ∷ 147 ∷ 147 ∷ 147 ∷ 147 ∷ 147 ∷ 147 ∷ 147 ∷ 147 ∷ 147 ∷ 147 ∷ 147 ∷ 147 ∷ 147 ∷ 147 ∷ 147 ∷ 147 ∷ 147 ∷ 147 ∷ 147 ∷ 147 ∷ 147 ∷ 147 ∷ 147 ∷ 147 ∷ 147 ∷ 147 ∷ 147 ∷ 147 ∷ 147 ∷ 147 ∷ 147 ∷ 147 ∷ 147 ∷ 147 ∷ 147 ∷ 147 ∷ 147 ∷ 147 ∷ 147 ∷ 147 ∷ 147 ∷ 147 ∷ 147 ∷ 147 ∷ 147 ∷ 147 ∷ 147 ∷ 147 ∷ 147 ∷ 147 ∷ 147 ∷ 147 ∷ 147 ∷ 147 ∷ 147 ∷ 147 ∷ 147 ∷ 147 ∷ 147 ∷ 147 ∷ 147 ∷ 147 ∷ 147 ∷ 147 ∷ 147 ∷ 147 ∷ 147 ∷ 147 ∷ 147 ∷ 147 ∷ 147 ∷ 147 ∷ 147 ∷ 147 ∷ 147 ∷ 147 ∷ 147 ∷ 147 ∷ 147 ∷ 147 ∷ 147 ∷ 147 ∷ 147 ∷ 147 ∷ 147 ∷ 147 ∷ 147 ∷ 147 ∷ 147 ∷ 147 ∷ 147 ∷ 147 ∷ 147 ∷ 147 ∷ 147 ∷ 147 ∷ 147 ∷ 147 ∷ 147 ∷ 147 ∷ 147 ∷ 147 ∷ 147 ∷ 147 ∷ 147 ∷ 147 ∷ 147 ∷ 147 ∷ 147 ∷ 147 ∷ 147 ∷ 147 ∷ 147 ∷ 147 ∷ 147 ∷ 147 ∷ 147 ∷ 147 ∷ 147 ∷ 147 ∷ 147 ∷ 147 ∷ 147 ∷ 147 ∷ 147 ∷ 147 ∷ 147 ∷ 147 ∷ 147 ∷ 147 ∷ 147 ∷ 147 ∷ 147 ∷ 147 ∷ 147 ∷ 147 ∷ 147 ∷ 147 ∷ 147 ∷ 147 ∷ 147 ∷ 147 ∷ 147 ∷ 147 ∷ 147 ∷ 147 ∷ 147 ∷ 147 ∷ 147 ∷ 147 ∷ 147 ∷ 147 ∷ 147 ∷ 147 ∷ 147 ∷ 147 ∷ 147 ∷ 147 ∷ 147 ∷ 147 ∷ 147 ∷ 147 ∷ 147 ∷ 147 ∷ 147 ∷ 147 ∷ 147 ∷ 147 ∷ 147 ∷ 147 ∷ 147 ∷ 147 ∷ 147 ∷ []))) None true []
    ∷ line (Input (In 3 0 0 drawn_10_m14)) (Some (Join (codes "e4"))) true (Made 3 0 (codes "hub-2-2") (codes "registration_reply") (codes "{\"msg_id\":\"j1\",\"msg_type\":\"registration_request\"}") (codes "{\"status\":\"ok\",\"id\":3}") [] ∷ [])
    ∷ line (Input (Up 4 Task 0 0 (codes "c"))) None true []
    ∷ line (Input (Up 5 Engine 0 0 (218 ∷ []))) None true []
    ∷ line (Input (In 5 0 0 drawn_10_m15)) (Some (Join (codes "e5"))) true (Made 5 0 (codes "hub-2-5") (codes "registration_reply") (codes "{\"msg_id\":\"j2\",\"msg_type\":\"registration_request\"}") (codes "{\"status\":\"ok\",\"id\":4}") [] ∷ [])
    ∷ line (Input (Up 12 Task 0 0 (codes "d"))) None true []
    ∷ line (Input (Up 19 Mux 0 0 (208 ∷ []))) None true []
    ∷ line (Input (Up 20 Hub 0 0 (codes "d"))) None true []
    ∷ line (Input (Time 1419382083434 2173068215904663621)) None true []
    ∷ line (Input (Up 21 Task 1419382083934 10253863307267686701 (codes "x21"))) None true []
    ∷ line (Input (In 12 1419382083935 2579429041698169106 drawn_10_m16)) (Some (Submit (submission (codes "t3") (codes "execute_request") (codes "s") (codes "u") (dep ((codes "t11") ∷ []) true true false) (dep [] false true false) [] 0 0))) false (Made 12 1419382083935 (codes "hub-2-11") (codes "submit_refused") (codes "{\"msg_id\":\"t3\",\"msg_type\":\"execute_request\",\"session\":\"s\",\"username\":\"u\"}") (codes "{\"status\":\"error\",\"ename\":\"KnownId\",\"evalue\":\"t3\",\"traceback\":[],\"ids\":[]}") [] ∷ [])
    ∷ []

pub drawn_10_is_told : IsTold drawn_10
unfolding digits escape_byte reserved_front next_word answer_id beat_id beat_request outcome_id resubmit_id header_text reply_type submit_refused empty_object ok_content join_content beat_content error_content outcome_content resubmit_content connection_content history_content queue_member queue_content settled_member result_content engine_lost_text date_of day_text time_text date_digits civil_date from_year from_month encode_with serde_json_on_literals is_utf8 chars event_of read_header is_request is_reply is_leave read_submit whole_timeouts ends_in_name is_db request_of read_content read_task read_declined read_status
drawn_10_is_told = record { goes = refl; reads = refl; rests = refl }

pub drawn_10_legal : Legal (goes_on [] drawn_10)
drawn_10_legal = told_legal drawn_10 drawn_10_is_told

abbrev drawn_11_m0 : Message
drawn_11_m0 = message [] (codes "{\"msg_id\":\"j2\",\"msg_type\":\"registration_request\"}") (codes "{}") (codes "{}") (codes "{\"uuid\":\"e2\"}") []

abbrev drawn_11_m1 : Message
drawn_11_m1 = message [] (codes "{\"msg_id\":\"j3\",\"msg_type\":\"registration_request\"}") (codes "{}") (codes "{}") (codes "[1]") []

abbrev drawn_11_m2 : Message
drawn_11_m2 = message [] (codes "{\"msg_id\":\"t4\",\"msg_type\":\"execute_request\",\"session\":\"s\",\"username\":\"u\"}") (codes "{}") (codes "{\"targets\":[\"e1\",\"e2\",\"e2\"],\"retries\":5,\"timeout\":null}") (codes "{\"code\":\"4+4\"}") []

abbrev drawn_11_m3 : Message
drawn_11_m3 = message [] (codes "{\"msg_id\":\"r5\",\"msg_type\":\"execute_reply\"}") (codes "{\"msg_id\":\"t4\",\"x\":1}") (codes "{\"dependencies_met\":false}") (codes "{\"status\":\"ok\",\"result\":\"42\"}") ((codes "b") ∷ (codes "b") ∷ (codes "b") ∷ (codes "b") ∷ (codes "b") ∷ (codes "b") ∷ (codes "b") ∷ (codes "b") ∷ (codes "b") ∷ (codes "b") ∷ (codes "b") ∷ (codes "b") ∷ (codes "b") ∷ (codes "b") ∷ (codes "b") ∷ (codes "b") ∷ (codes "b") ∷ (codes "b") ∷ (codes "b") ∷ (codes "b") ∷ (codes "b") ∷ (codes "b") ∷ (codes "b") ∷ (codes "b") ∷ (codes "b") ∷ (codes "b") ∷ (codes "b") ∷ (codes "b") ∷ (codes "b") ∷ (codes "b") ∷ (codes "b") ∷ (codes "b") ∷ (codes "b") ∷ (codes "b") ∷ (codes "b") ∷ (codes "b") ∷ (codes "b") ∷ (codes "b") ∷ (codes "b") ∷ (codes "b") ∷ (codes "b") ∷ (codes "b") ∷ (codes "b") ∷ (codes "b") ∷ (codes "b") ∷ (codes "b") ∷ (codes "b") ∷ (codes "b") ∷ (codes "b") ∷ (codes "b") ∷ (codes "b") ∷ (codes "b") ∷ (codes "b") ∷ (codes "b") ∷ (codes "b") ∷ (codes "b") ∷ (codes "b") ∷ (codes "b") ∷ [])

abbrev drawn_11_m4 : Message
drawn_11_m4 = message [] (codes "{\"msg_id\":\"out-1\",\"session\":\"controller\",\"username\":\"controller\",\"date\":\"2015-07-20T15:31:48.175Z\",\"msg_type\":\"execute_reply\",\"version\":\"5.3\"}") (codes "{\"msg_id\":\"t4\",\"msg_type\":\"execute_request\",\"session\":\"s\",\"username\":\"u\"}") (codes "{}") (codes "{\"status\":\"error\",\"ename\":\"ImpossibleDependency\",\"evalue\":\"the dependencies of this task cannot be met\",\"traceback\":[]}") []

abbrev drawn_11_m5 : Message
drawn_11_m5 = message [] (codes "{\"msg_id\":\"t6\",\"msg_type\":\"execute_request\",\"session\":\"s\",\"username\":\"u\"}") (codes "{}") (codes "{\"after\":{\"dependencies\":[\"t4\"]},\"follow\":{\"dependencies\":[\"t4\",\"t4\",\"t4\"],\"all\":true,\"success\":true,\"failure\":true},\"retries\":5}") (codes "{\"code\":\"6+3\"}") []

abbrev drawn_11_m6 : Message
drawn_11_m6 = message [] (codes "{\"msg_id\":\"out-2\",\"session\":\"controller\",\"username\":\"controller\",\"date\":\"2015-07-20T15:32:51.675Z\",\"msg_type\":\"execute_reply\",\"version\":\"5.3\"}") (codes "{\"msg_id\":\"t6\",\"msg_type\":\"execute_request\",\"session\":\"s\",\"username\":\"u\"}") (codes "{}") (codes "{\"status\":\"error\",\"ename\":\"ImpossibleDependency\",\"evalue\":\"the dependencies of this task cannot be met\",\"traceback\":[]}") []

abbrev drawn_11_m7 : Message
drawn_11_m7 = message [] (codes "{\"msg_id\":\"j1\",\"msg_type\":\"registration_request\"}") (codes "{}") (codes "{}") (codes "{\"uuid\":\"e2\"}") []

abbrev drawn_11_m8 : Message
drawn_11_m8 = message [] (codes "{\"msg_id\":\"j7\",\"msg_type\":\"registration_request\"}") (codes "{}") (codes "{}") (codes "{\"uuid\":\"e0\"}") []

abbrev drawn_11_m9 : Message
drawn_11_m9 = message [] (codes "{\"msg_id\":\"p8\",\"msg_type\":\"beat_reply\"}") (codes "{}") (codes "{}") (codes "{\"beat\":1}") []

abbrev drawn_11_m10 : Message
drawn_11_m10 = message [] (codes "{\"msg_id\":\"p9\",\"msg_type\":\"beat_reply\"}") (codes "{}") (codes "{}") (codes "{\"beat\":2}") []

abbrev drawn_11_m11 : Message
drawn_11_m11 = message (codes "e0") (codes "{\"msg_id\":\"d10\",\"msg_type\":\"execute_request\"}") (codes "{}") (codes "{}") (codes "{\"code\":\"1\"}") []

abbrev drawn_11_m12 : Message
drawn_11_m12 = message [] (codes "{\"msg_id\":\"d10\",\"msg_type\":\"execute_request\"}") (codes "{}") (codes "{}") (codes "{\"code\":\"1\"}") []

-- 25 entries, 1 opening
abbrev pub drawn_11 : List Line
drawn_11 =
    line (Input (Open 0 TwoBin 1 1)) None true []
    ∷ line (Input (Up 1 Engine 0 0 (228 ∷ []))) None true []
    ∷ line (Input (Up 8 Task 0 0 (codes "c"))) None true []
    ∷ line (Input (Up 15 Engine 0 0 (codes "d"))) None true []
    ∷ line (Input (In 15 0 0 drawn_11_m0)) (Some (Join (codes "e2"))) true (Made 15 0 (codes "hub-1-4") (codes "registration_reply") (codes "{\"msg_id\":\"j2\",\"msg_type\":\"registration_request\"}") (codes "{\"status\":\"ok\",\"id\":0}") [] ∷ [])
    ∷ line (Input (Up 22 Task 0 0 (codes "conn-22"))) None true []
    ∷ line (Input (Up 29 Mux 0 0 (codes "d"))) None true []
    ∷ line (Input (Up 36 Hub 0 0 (codes "c"))) None true []
    ∷ line (Input (Time 175498992203460 3746700816339368401)) None true []
    ∷ line (Input (Down 36 1437406248175 0)) None true []
    ∷ line (Input (In 15 1437406308175 13282769480478086065 drawn_11_m1)) (Some (Ask (Bad (codes "content")))) false (Made 15 1437406308175 (codes "hub-1-10") (codes "registration_reply") (codes "{\"msg_id\":\"j3\",\"msg_type\":\"registration_request\"}") (codes "{\"status\":\"error\",\"ename\":\"BadContent\",\"evalue\":\"content\",\"traceback\":[],\"ids\":[]}") [] ∷ [])
    ∷ line (Input (In 8 1437406308175 783176408122329963 drawn_11_m2)) (Some (Submit (submission (codes "t4") (codes "execute_request") (codes "s") (codes "u") no_dependency no_dependency ((codes "e1") ∷ (codes "e2") ∷ (codes "e2") ∷ []) 0 5))) true []
    ∷ decision (Hand (codes "t4") 0) (Pass 15 drawn_11_m2 ∷ [])
    ∷ line (Input (In 15 1437406308175 448625398632013896 drawn_11_m3)) (Some (Reply (codes "t4") (codes "r5") true true)) true []
    ∷ decision (Settle (codes "t4") Failed ImpossibleDependency) (Pass 8 drawn_11_m4 ∷ [])
    ∷ line (Input (Up 37 Hub 1437406368675 323639169553809278 (codes "d"))) None true []
    ∷ line (Input (Beat 1437406368675 12114254754121975273)) None true (Made 15 1437406368675 (codes "hub-1-16-0") (codes "beat_request") (codes "{}") (codes "{\"beat\":1}") [] ∷ [])
    ∷ line (Input (In 22 1437406371675 13817774254338615568 drawn_11_m5)) (Some (Submit (submission (codes "t6") (codes "execute_request") (codes "s") (codes "u") (dep ((codes "t4") ∷ []) true true false) (dep ((codes "t4") ∷ []) true true true) [] 0 5))) true []
    ∷ decision (Settle (codes "t6") Failed ImpossibleDependency) (Pass 22 drawn_11_m6 ∷ [])
    ∷ line (Input (In 1 1437406431675 0 drawn_11_m7)) (Some (Join (codes "e2"))) false (Made 1 1437406431675 (codes "hub-1-19") (codes "registration_reply") (codes "{\"msg_id\":\"j1\",\"msg_type\":\"registration_request\"}") (codes "{\"status\":\"error\",\"ename\":\"UuidInUse\",\"evalue\":\"0\",\"traceback\":[],\"ids\":[]}") [] ∷ [])
    ∷ line (Input (In 1 1437406431675 0 drawn_11_m8)) (Some (Join (codes "e0"))) true (Made 1 1437406431675 (codes "hub-1-20") (codes "registration_reply") (codes "{\"msg_id\":\"j7\",\"msg_type\":\"registration_request\"}") (codes "{\"status\":\"ok\",\"id\":1}") [] ∷ [])
    ∷ line (Input (In 15 1437406431675 0 drawn_11_m9)) (Some (Pong 1)) true []
    ∷ line (Input (In 15 1437406431676 18213805519741612479 drawn_11_m10)) (Some (Pong 2)) false []
    ∷ line (Input (In 29 1437406431676 3027606339450248840 drawn_11_m11)) (Some (Direct (submission (codes "d10") (codes "execute_request") [] [] no_dependency no_dependency [] 0 0))) true []
    ∷ decision (Hand (codes "d10") 1) (Pass 1 drawn_11_m12 ∷ [])
    ∷ []

pub drawn_11_is_told : IsTold drawn_11
unfolding digits escape_byte reserved_front next_word answer_id beat_id beat_request outcome_id resubmit_id header_text reply_type submit_refused empty_object ok_content join_content beat_content error_content outcome_content resubmit_content connection_content history_content queue_member queue_content settled_member result_content engine_lost_text date_of day_text time_text date_digits civil_date from_year from_month encode_with serde_json_on_literals is_utf8 chars event_of read_header is_request is_reply is_leave read_submit whole_timeouts ends_in_name is_db request_of read_content read_task read_declined read_status
drawn_11_is_told = record { goes = refl; reads = refl; rests = refl }

pub drawn_11_legal : Legal (goes_on [] drawn_11)
drawn_11_legal = told_legal drawn_11 drawn_11_is_told

abbrev drawn_12_m0 : Message
drawn_12_m0 = message [] (codes "{\"msg_id\":\"j1\",\"msg_type\":\"registration_request\"}") (codes "{}") (codes "{}") (codes "{\"uuid\":\"e5\"}") []

abbrev drawn_12_m1 : Message
drawn_12_m1 = message [] (codes "{\"msg_id\":\"j2\",\"msg_type\":\"registration_request\"}") (codes "{}") (codes "{}") (codes "{\"uuid\":\"engine \\u00e9\"}") []

abbrev drawn_12_m2 : Message
drawn_12_m2 = message (101 ∷ 110 ∷ 103 ∷ 105 ∷ 110 ∷ 101 ∷ 32 ∷ 195 ∷ 169 ∷ []) (codes "{\"msg_id\":\"d3\",\"msg_type\":\"execute_request\"}") (codes "{}") (codes "{}") (codes "{\"code\":\"1\"}") []

abbrev drawn_12_m3 : Message
drawn_12_m3 = message [] (codes "{\"msg_id\":\"d3\",\"msg_type\":\"execute_request\"}") (codes "{}") (codes "{}") (codes "{\"code\":\"1\"}") []

abbrev drawn_12_m4 : Message
drawn_12_m4 = message [] (codes "{\"msg_id\":\"r4\",\"msg_type\":\"apply_reply\"}") (codes "{\"msg_id\":\"d3\",\"x\":1}") (codes "{}") (codes "{\"status\":\"ok\",\"result\":\"42\"}") []

abbrev drawn_12_m5 : Message
drawn_12_m5 = message [] (codes "{\"msg_id\":\"r5\",\"msg_type\":\"execute_reply\"}") (codes "{\"msg_id\":\"d3\",\"x\":1}") (codes "{\"dependencies_met\":false}") (codes "{\"status\":\"ok\",\"result\":\"42\"}") ((codes "b") ∷ [])

abbrev drawn_12_m6 : Message
drawn_12_m6 = message [] (codes "{\"msg_id\":\"q6\",\"msg_type\":\"queue_request\"}") (codes "{}") (codes "{}") (codes "{\"targets\":[4294967295]}") []

abbrev drawn_12_m7 : Message
drawn_12_m7 = message [] (codes "{\"msg_id\":\"p10\",\"msg_type\":\"beat_reply\"}") (codes "{}") (codes "{}") (codes "{\"beat\":18446744073709551615}") []

abbrev drawn_12_m8 : Message
drawn_12_m8 = message (codes "e5") (codes "{\"msg_id\":\"d11\",\"msg_type\":\"execute_request\"}") (codes "{}") (codes "{}") (codes "{\"code\":\"1\"}") []

abbrev drawn_12_m9 : Message
drawn_12_m9 = message [] (codes "{\"msg_id\":\"d11\",\"msg_type\":\"execute_request\"}") (codes "{}") (codes "{}") (codes "{\"code\":\"1\"}") []

abbrev drawn_12_m10 : Message
drawn_12_m10 = message (codes "junk") (codes "{\"msg_id\":\"t12\",\"msg_type\":\"execute_request\",\"session\":\"s\",\"username\":\"u\"}") (codes "{}") (codes "{\"after\":[\"d11\",\"d3\"],\"targets\":[\"e3\",\"e2\",\"nobody\"]}") (codes "{\"code\":\"2+7\"}") []

abbrev drawn_12_m11 : Message
drawn_12_m11 = message [] (codes "{\"msg_id\":\"out-3\",\"session\":\"controller\",\"username\":\"controller\",\"date\":\"2015-08-28T04:23:58.843Z\",\"msg_type\":\"execute_reply\",\"version\":\"5.3\"}") (codes "{\"msg_id\":\"t12\",\"msg_type\":\"execute_request\",\"session\":\"s\",\"username\":\"u\"}") (codes "{}") (codes "{\"status\":\"error\",\"ename\":\"ImpossibleDependency\",\"evalue\":\"the dependencies of this task cannot be met\",\"traceback\":[]}") []

abbrev drawn_12_m12 : Message
drawn_12_m12 = message [] (codes "{\"msg_id\":\"t13\",\"msg_type\":\"apply_request\",\"session\":\"s\",\"username\":\"u\"}") (codes "{}") (codes "{}") (codes "{\"code\":\"6+4\"}") []

-- 28 entries, 1 opening
abbrev pub drawn_12 : List Line
drawn_12 =
    line (Input (Open 0 Lru 1 1)) None true []
    ∷ line (Input (Up 3 Engine 0 0 (codes "x3"))) None true []
    ∷ line (Input (In 3 0 0 drawn_12_m0)) (Some (Join (codes "e5"))) true (Made 3 0 (codes "hub-1-2") (codes "registration_reply") (codes "{\"msg_id\":\"j1\",\"msg_type\":\"registration_request\"}") (codes "{\"status\":\"ok\",\"id\":0}") [] ∷ [])
    ∷ line (Input (Up 4 Task 0 0 (codes "x4"))) None true []
    ∷ line (Input (Up 11 Engine 0 0 (codes "d"))) None true []
    ∷ line (Input (In 11 0 0 drawn_12_m1)) (Some (Join (101 ∷ 110 ∷ 103 ∷ 105 ∷ 110 ∷ 101 ∷ 32 ∷ 195 ∷ 169 ∷ []))) true (Made 11 0 (codes "hub-1-5") (codes "registration_reply") (codes "{\"msg_id\":\"j2\",\"msg_type\":\"registration_request\"}") (codes "{\"status\":\"ok\",\"id\":1}") [] ∷ [])
    ∷ line (Input (Up 12 Task 0 0 (codes "c"))) None true []
    ∷ line (Input (Up 13 Mux 0 0 (codes "conn-13"))) None true []
    ∷ line (Input (Up 14 Hub 0 0 (codes "d"))) None true []
    ∷ line (Input (In 13 1440735837841 16660068195627465558 drawn_12_m2)) (Some (Direct (submission (codes "d3") (codes "execute_request") [] [] no_dependency no_dependency [] 0 0))) true []
    ∷ decision (Hand (codes "d3") 1) (Pass 11 drawn_12_m3 ∷ [])
    ∷ line (Input (Time 1440735837841 0)) None true []
    ∷ line (Input (In 13 1440735837841 4961253000089375912 drawn_12_m2)) (Some (Direct (submission (codes "d3") (codes "execute_request") [] [] no_dependency no_dependency [] 0 0))) false []
    ∷ line (Input (In 11 1440735837842 0 drawn_12_m4)) (Some (Reply (codes "d3") (codes "r4") true false)) true []
    ∷ decision (Settle (codes "d3") Completed ByReply) (Pass 13 drawn_12_m4 ∷ [])
    ∷ line (Input (In 11 1440735837842 0 drawn_12_m5)) (Some (Reply (codes "d3") (codes "r5") true true)) false []
    ∷ line (Input (Beat 1440735837842 11577071321271677224)) None true (Made 3 1440735837842 (codes "hub-1-16-0") (codes "beat_request") (codes "{}") (codes "{\"beat\":1}") [] ∷ Made 11 1440735837842 (codes "hub-1-16-1") (codes "beat_request") (codes "{}") (codes "{\"beat\":1}") [] ∷ [])
    ∷ line (Input (Down 11 1440735837842 0)) None true []
    ∷ line (Input (In 14 1440735837842 5293207890497507025 drawn_12_m6)) (Some (Ask (Queue (4294967295 ∷ []) false))) false (Made 14 1440735837842 (codes "hub-1-18") (codes "queue_reply") (codes "{\"msg_id\":\"q6\",\"msg_type\":\"queue_request\"}") (codes "{\"status\":\"error\",\"ename\":\"NoSuchEngine\",\"evalue\":\"4294967295\",\"traceback\":[],\"ids\":[]}") [] ∷ [])
    ∷ line (Input (In 3 1440735838842 0 drawn_12_m7)) (Some (Pong 18446744073709551615)) false []
    ∷ line (Input (In 13 1440735838842 0 drawn_12_m8)) (Some (Direct (submission (codes "d11") (codes "execute_request") [] [] no_dependency no_dependency [] 0 0))) true []
    ∷ decision (Hand (codes "d11") 0) (Pass 3 drawn_12_m9 ∷ [])
    ∷ line (Input (In 12 1440735838843 0 drawn_12_m10)) (Some (Submit (submission (codes "t12") (codes "execute_request") (codes "s") (codes "u") (dep ((codes "d11") ∷ (codes "d3") ∷ []) true true false) no_dependency ((codes "e3") ∷ (codes "e2") ∷ (codes "nobody") ∷ []) 0 0))) true []
    ∷ decision (Settle (codes "t12") Failed ImpossibleDependency) (Pass 12 drawn_12_m11 ∷ [])
    ∷ line (Input (Time 1440735838843 0)) None true []
    ∷ line (Input (Up 15 Task 1440735838843 16725861344727693315 (246 ∷ []))) None true []
    ∷ line (Input (In 15 1440735838843 16725861344727693315 drawn_12_m12)) (Some (Submit (submission (codes "t13") (codes "apply_request") (codes "s") (codes "u") no_dependency no_dependency [] 0 0))) true []
    ∷ decision (Hand (codes "t13") 0) (Pass 3 drawn_12_m12 ∷ [])
    ∷ []

pub drawn_12_is_told : IsTold drawn_12
unfolding digits escape_byte reserved_front next_word answer_id beat_id beat_request outcome_id resubmit_id header_text reply_type submit_refused empty_object ok_content join_content beat_content error_content outcome_content resubmit_content connection_content history_content queue_member queue_content settled_member result_content engine_lost_text date_of day_text time_text date_digits civil_date from_year from_month encode_with serde_json_on_literals is_utf8 chars event_of read_header is_request is_reply is_leave read_submit whole_timeouts ends_in_name is_db request_of read_content read_task read_declined read_status
drawn_12_is_told = record { goes = refl; reads = refl; rests = refl }

pub drawn_12_legal : Legal (goes_on [] drawn_12)
drawn_12_legal = told_legal drawn_12 drawn_12_is_told
