-- Short histories that a second, independent model of the cluster drew at random, with what it says of each entry. Nothing rests on them.
use Rattle.std.proofs.Common.{List, [], ◌∷◌, Some, None, true, false, refl}
use Rattle.std.specs.Prelude.{codes}
use Rattle.std.specs.Fmt.{digits}
use Rattle.std.specs.Str.{is_utf8, chars}
use Rattle.json.specs.Print.{escape_byte}
use Rattle.serde_json.proofs.OnLiterals.{serde_json_on_literals}
use Rattle.hex.specs.Hex.{encode_with}
use Rattle.edges.specs.Date.{date_of, day_text, time_text, digits as date_digits, civil_date, from_year, from_month}
use Rattle.cluster_types.specs.Verdicts.{engine_lost_text}
use Rattle.cluster_types.specs.declared.config.Channel.TheVariants.{Hub, Task, Mux, Engine}
use Rattle.cluster_types.specs.declared.config.Scheme.TheVariants.{Lru, LeastLoad, PlainRandom, TwoBin}
use Rattle.cluster_types.specs.declared.verdict.Verdict.TheVariants.{Completed, Failed}
use Rattle.cluster_types.specs.declared.verdict.Cause.TheVariants.{Reply as ByReply, EngineError, ImpossibleDependency, InvalidDependency}
use Rattle.cluster_types.specs.declared.message.Message.{Message}
use Rattle.cluster_types.specs.declared.event.Event.TheVariants.{Submit, Direct, Reply, Join, Leave, Pong, Purge, Resubmit, Ask}
use Rattle.cluster_types.specs.declared.event.Query.TheVariants.{Connection, Queue, History, Unknown, Bad}
use Rattle.cluster_types.specs.declared.out.Out.TheVariants.{Pass, Made}
use Rattle.cluster_types.specs.declared.entry.Input.TheVariants.{Open, Up, In, Beat, Time}
use Rattle.cluster_types.specs.declared.entry.Entry.TheVariants.{Input, Hand, Settle}
use Rattle.cluster_defs.specs.Event.{event_of, is_db, is_request, is_reply, is_leave}
use Rattle.cluster_defs.specs.Points.{whole_timeouts, ends_in_name}
use Rattle.cluster_defs.specs.Submit.{read_submit}
use Rattle.cluster_defs.specs.Reply.{read_task, read_declined, read_status}
use Rattle.cluster_defs.specs.Hub.{request_of, read_content}
use Rattle.cluster_defs.specs.Header.{read_header}
use Rattle.cluster_defs.specs.Texts.{answer_id, beat_id, beat_request, outcome_id, resubmit_id, header_text, reply_type, submit_refused, empty_object, ok_content, join_content, beat_content, error_content, outcome_content, resubmit_content, connection_content, history_content, queue_member, queue_content, settled_member, result_content}
use Rattle.cluster_defs.specs.Acceptance.{no_dependency, reserved_front}
use Rattle.cluster_types.specs.Chance.{next_word}
use Rattle.cluster_defs.specs.Histories.{Legal}
use Rattle.worked_rows.proofs.Told.{Line, line, decision, message, dep, submission, IsTold, goes_on, told_legal}

abbrev drawn_25_m0 : Message
drawn_25_m0 = message [] (codes "{\"msg_id\":\"j1\",\"msg_type\":\"registration_request\"}") (codes "{}") (codes "{}") (codes "{\"uuid\":\"e2\"}") []

abbrev drawn_25_m1 : Message
drawn_25_m1 = message [] (codes "{\"msg_id\":\"j2\",\"msg_type\":\"registration_request\"}") (codes "{}") (codes "{}") (codes "{\"uuid\":\"e4\"}") []

abbrev drawn_25_m2 : Message
drawn_25_m2 = message [] (codes "{\"msg_id\":\"t3\",\"msg_type\":\"apply_request\",\"session\":\"s\",\"username\":\"u\"}") (codes "{}") (codes "{\"after\":{\"dependencies\":[],\"success\":true,\"failure\":true},\"targets\":[\"e3\"],\"retries\":2}") (codes "{\"code\":\"2+3\"}") []

abbrev drawn_25_m3 : Message
drawn_25_m3 = message [] (codes "{\"msg_id\":\"out-1\",\"session\":\"controller\",\"username\":\"controller\",\"date\":\"2021-12-28T22:53:38.762Z\",\"msg_type\":\"apply_reply\",\"version\":\"5.3\"}") (codes "{\"msg_id\":\"t3\",\"msg_type\":\"apply_request\",\"session\":\"s\",\"username\":\"u\"}") (codes "{}") (codes "{\"status\":\"error\",\"ename\":\"ImpossibleDependency\",\"evalue\":\"the dependencies of this task cannot be met\",\"traceback\":[]}") []

abbrev drawn_25_m4 : Message
drawn_25_m4 = message [] (codes "{\"msg_id\":\"t4\",\"msg_type\":\"apply_request\",\"session\":\"s\",\"username\":\"u\"}") (codes "{}") (codes "{\"after\":{\"dependencies\":[\"t3\",\"unknown\"],\"all\":false,\"success\":false},\"retries\":2,\"timeout\":0}") (codes "{\"code\":\"5+8\"}") []

abbrev drawn_25_m5 : Message
drawn_25_m5 = message [] (codes "{\"msg_id\":\"out-2\",\"session\":\"controller\",\"username\":\"controller\",\"date\":\"2021-12-28T22:53:38.763Z\",\"msg_type\":\"apply_reply\",\"version\":\"5.3\"}") (codes "{\"msg_id\":\"t4\",\"msg_type\":\"apply_request\",\"session\":\"s\",\"username\":\"u\"}") (codes "{}") (codes "{\"status\":\"error\",\"ename\":\"InvalidDependency\",\"evalue\":\"a dependency is unknown or is the task itself\",\"traceback\":[]}") []

abbrev drawn_25_m6 : Message
drawn_25_m6 = message [] (codes "{\"msg_id\":\"p7\",\"msg_type\":\"beat_reply\"}") (codes "{}") (codes "{}") (codes "{\"beat\":18446744073709551615}") []

abbrev drawn_25_m7 : Message
drawn_25_m7 = message (codes "nobody") (codes "{\"msg_id\":\"d8\",\"msg_type\":\"execute_request\"}") (codes "{}") (codes "{}") (codes "{\"code\":\"1\"}") []

abbrev drawn_25_m8 : Message
drawn_25_m8 = message [] (codes "{\"msg_id\":\"q6\",\"msg_type\":\"resubmit_request\"}") (codes "{}") (codes "{}") (codes "{\"msg_ids\":[\"t3\"]}") []

abbrev drawn_25_m9 : Message
drawn_25_m9 = message [] (codes "{\"msg_id\":\"out-3\",\"session\":\"controller\",\"username\":\"controller\",\"date\":\"2021-12-28T22:55:45.263Z\",\"msg_type\":\"apply_reply\",\"version\":\"5.3\"}") (codes "{\"msg_id\":\"resubmit:3\",\"session\":\"s\",\"username\":\"u\",\"date\":\"2021-12-28T22:55:45.263Z\",\"msg_type\":\"apply_request\",\"version\":\"5.3\"}") (codes "{}") (codes "{\"status\":\"error\",\"ename\":\"ImpossibleDependency\",\"evalue\":\"the dependencies of this task cannot be met\",\"traceback\":[]}") []

abbrev drawn_25_m10 : Message
drawn_25_m10 = message [] (codes "{\"msg_id\":\"q9\",\"msg_type\":\"purge_request\"}") (codes "{}") (codes "{}") (codes "{\"msg_ids\":[\"t3\",\"t4\"]}") []

abbrev drawn_25_m11 : Message
drawn_25_m11 = message (codes "junk") (codes "{\"msg_id\":\"t10\",\"msg_type\":\"apply_request\",\"session\":\"s\",\"username\":\"u\"}") (codes "{}") (codes "{\"follow\":[\"t3\",\"t3\",\"t4\"],\"timeout\":60}") (codes "{\"code\":\"0+8\"}") []

abbrev drawn_25_m12 : Message
drawn_25_m12 = message [] (codes "{\"msg_id\":\"out-4\",\"session\":\"controller\",\"username\":\"controller\",\"date\":\"2021-12-28T22:55:45.263Z\",\"msg_type\":\"apply_reply\",\"version\":\"5.3\"}") (codes "{\"msg_id\":\"t10\",\"msg_type\":\"apply_request\",\"session\":\"s\",\"username\":\"u\"}") (codes "{}") (codes "{\"status\":\"error\",\"ename\":\"ImpossibleDependency\",\"evalue\":\"the dependencies of this task cannot be met\",\"traceback\":[]}") []

abbrev drawn_25_m13 : Message
drawn_25_m13 = message (codes "junk") (codes "{\"msg_id\":\"t11\",\"msg_type\":\"apply_request\",\"session\":\"s\",\"username\":\"u\"}") (codes "{}") (codes "{\"after\":\"t4\"}") (codes "{\"code\":\"7+6\"}") []

abbrev drawn_25_m14 : Message
drawn_25_m14 = message [] (codes "{\"msg_id\":\"out-5\",\"session\":\"controller\",\"username\":\"controller\",\"date\":\"2021-12-28T22:55:45.263Z\",\"msg_type\":\"apply_reply\",\"version\":\"5.3\"}") (codes "{\"msg_id\":\"t11\",\"msg_type\":\"apply_request\",\"session\":\"s\",\"username\":\"u\"}") (codes "{}") (codes "{\"status\":\"error\",\"ename\":\"ImpossibleDependency\",\"evalue\":\"the dependencies of this task cannot be met\",\"traceback\":[]}") []

abbrev drawn_25_m15 : Message
drawn_25_m15 = message [] (codes "{\"msg_id\":\"t12\",\"msg_type\":\"apply_request\",\"session\":\"s\",\"username\":\"u\"}") (codes "{}") (codes "{\"targets\":1.5}") (codes "{\"code\":\"0+5\"}") []

abbrev drawn_25_m16 : Message
drawn_25_m16 = message [] (codes "{\"msg_id\":\"q13\",\"msg_type\":\"resubmit_request\"}") (codes "{}") (codes "{}") (codes "{\"msg_ids\":[\"t11\",\"resubmit:3\"]}") []

abbrev drawn_25_m17 : Message
drawn_25_m17 = message [] (codes "{\"msg_id\":\"out-6\",\"session\":\"controller\",\"username\":\"controller\",\"date\":\"2021-12-28T22:56:45.263Z\",\"msg_type\":\"apply_reply\",\"version\":\"5.3\"}") (codes "{\"msg_id\":\"resubmit:6\",\"session\":\"s\",\"username\":\"u\",\"date\":\"2021-12-28T22:56:45.263Z\",\"msg_type\":\"apply_request\",\"version\":\"5.3\"}") (codes "{}") (codes "{\"status\":\"error\",\"ename\":\"ImpossibleDependency\",\"evalue\":\"the dependencies of this task cannot be met\",\"traceback\":[]}") []

abbrev drawn_25_m18 : Message
drawn_25_m18 = message [] (codes "{\"msg_id\":\"out-7\",\"session\":\"controller\",\"username\":\"controller\",\"date\":\"2021-12-28T22:56:45.263Z\",\"msg_type\":\"apply_reply\",\"version\":\"5.3\"}") (codes "{\"msg_id\":\"resubmit:7\",\"session\":\"s\",\"username\":\"u\",\"date\":\"2021-12-28T22:56:45.263Z\",\"msg_type\":\"apply_request\",\"version\":\"5.3\"}") (codes "{}") (codes "{\"status\":\"error\",\"ename\":\"ImpossibleDependency\",\"evalue\":\"the dependencies of this task cannot be met\",\"traceback\":[]}") []

abbrev drawn_25_m19 : Message
drawn_25_m19 = message [] (codes "{\"msg_id\":\"p14\",\"msg_type\":\"beat_reply\"}") (codes "{}") (codes "{}") (codes "{\"beat\":0}") []

abbrev drawn_25_m20 : Message
drawn_25_m20 = message [] (codes "{\"msg_id\":\"t15\",\"msg_type\":\"execute_request\",\"session\":\"s\",\"username\":\"u\"}") (codes "{}") (codes "{\"retries\":1}") (codes "{\"code\":\"2+3\"}") []

-- 32 entries, 1 opening
abbrev pub drawn_25 : List Line
drawn_25 =
    line (Input (Open 0 PlainRandom 1 2)) None true []
    ∷ line (Input (Up 2 Engine 0 0 (codes "conn-2"))) None true []
    ∷ line (Input (In 2 0 0 drawn_25_m0)) (Some (Join (codes "e2"))) true (Made 2 0 (codes "hub-1-2") (codes "registration_reply") (codes "{\"msg_id\":\"j1\",\"msg_type\":\"registration_request\"}") (codes "{\"status\":\"ok\",\"id\":0}") [] ∷ [])
    ∷ line (Input (Up 9 Task 0 0 (codes "d"))) None true []
    ∷ line (Input (Up 16 Engine 0 0 (codes "d"))) None true []
    ∷ line (Input (In 16 0 0 drawn_25_m1)) (Some (Join (codes "e4"))) true (Made 16 0 (codes "hub-1-5") (codes "registration_reply") (codes "{\"msg_id\":\"j2\",\"msg_type\":\"registration_request\"}") (codes "{\"status\":\"ok\",\"id\":1}") [] ∷ [])
    ∷ line (Input (Up 23 Task 0 0 (codes "c"))) None true []
    ∷ line (Input (Up 31 Hub 0 0 (codes "c"))) None true []
    ∷ line (Input (In 23 1640732018762 0 drawn_25_m2)) (Some (Submit (submission (codes "t3") (codes "apply_request") (codes "s") (codes "u") (dep [] true true true) no_dependency ((codes "e3") ∷ []) 0 2))) true []
    ∷ decision (Settle (codes "t3") Failed ImpossibleDependency) (Pass 23 drawn_25_m3 ∷ [])
    ∷ line (Input (In 23 1640732018763 5048722838333025684 drawn_25_m4)) (Some (Submit (submission (codes "t4") (codes "apply_request") (codes "s") (codes "u") (dep ((codes "t3") ∷ (codes "unknown") ∷ []) false false false) no_dependency [] 0 2))) true []
    ∷ decision (Settle (codes "t4") Failed InvalidDependency) (Pass 23 drawn_25_m5 ∷ [])
    ∷ line (Input (Time 1640732021763 7892464321912849821)) None true []
    ∷ line (Input (In 16 1640732024763 0 drawn_25_m6)) (Some (Pong 18446744073709551615)) false []
    ∷ line (Input (Time 1640732024763 15715077811752530052)) None true []
    ∷ line (Input (Up 30 Mux 1640732085263 17860735397586143617 (codes "d"))) None true []
    ∷ line (Input (In 30 1640732085263 17860735397586143617 drawn_25_m7)) (Some (Direct (submission (codes "d8") (codes "execute_request") [] [] no_dependency no_dependency [] 0 0))) false (Made 30 1640732085263 (codes "hub-1-16") (codes "submit_refused") (codes "{\"msg_id\":\"d8\",\"msg_type\":\"execute_request\"}") (codes "{\"status\":\"error\",\"ename\":\"NoSuchEngine\",\"evalue\":\"6e6f626f6479\",\"traceback\":[],\"ids\":[]}") [] ∷ [])
    ∷ line (Input (In 31 1640732145263 10644372813079231885 drawn_25_m8)) (Some (Resubmit ((codes "t3") ∷ []))) true (Made 31 1640732145263 (codes "hub-1-17") (codes "resubmit_reply") (codes "{\"msg_id\":\"q6\",\"msg_type\":\"resubmit_request\"}") (codes "{\"status\":\"ok\",\"resubmitted\":{\"t3\":\"resubmit:3\"}}") [] ∷ [])
    ∷ decision (Settle (codes "resubmit:3") Failed ImpossibleDependency) (Pass 23 drawn_25_m9 ∷ [])
    ∷ line (Input (In 31 1640732145263 10644372813079231885 drawn_25_m10)) (Some (Purge false ((codes "t3") ∷ (codes "t4") ∷ []))) true (Made 31 1640732145263 (codes "hub-1-19") (codes "purge_reply") (codes "{\"msg_id\":\"q9\",\"msg_type\":\"purge_request\"}") (codes "{\"status\":\"ok\"}") [] ∷ [])
    ∷ line (Input (In 23 1640732145263 0 drawn_25_m11)) (Some (Submit (submission (codes "t10") (codes "apply_request") (codes "s") (codes "u") no_dependency (dep ((codes "t3") ∷ (codes "t4") ∷ []) true true false) [] 60 0))) true []
    ∷ decision (Settle (codes "t10") Failed ImpossibleDependency) (Pass 23 drawn_25_m12 ∷ [])
    ∷ line (Input (In 23 1640732145263 3403288376408530676 drawn_25_m13)) (Some (Submit (submission (codes "t11") (codes "apply_request") (codes "s") (codes "u") (dep ((codes "t4") ∷ []) true true false) no_dependency [] 0 0))) true []
    ∷ decision (Settle (codes "t11") Failed ImpossibleDependency) (Pass 23 drawn_25_m14 ∷ [])
    ∷ line (Input (In 23 1640732205263 0 drawn_25_m15)) (Some (Ask (Bad (codes "targets")))) false (Made 23 1640732205263 (codes "hub-1-24") (codes "submit_refused") (codes "{\"msg_id\":\"t12\",\"msg_type\":\"apply_request\",\"session\":\"s\",\"username\":\"u\"}") (codes "{\"status\":\"error\",\"ename\":\"BadMetadata\",\"evalue\":\"targets\",\"traceback\":[],\"ids\":[]}") [] ∷ [])
    ∷ line (Input (Up 38 Task 1640732205263 2757505017548308191 (codes "c"))) None true []
    ∷ line (Input (In 31 1640732205263 0 drawn_25_m16)) (Some (Resubmit ((codes "t11") ∷ (codes "resubmit:3") ∷ []))) true (Made 31 1640732205263 (codes "hub-1-26") (codes "resubmit_reply") (codes "{\"msg_id\":\"q13\",\"msg_type\":\"resubmit_request\"}") (codes "{\"status\":\"ok\",\"resubmitted\":{\"t11\":\"resubmit:6\",\"resubmit:3\":\"resubmit:7\"}}") [] ∷ [])
    ∷ decision (Settle (codes "resubmit:6") Failed ImpossibleDependency) (Pass 38 drawn_25_m17 ∷ [])
    ∷ decision (Settle (codes "resubmit:7") Failed ImpossibleDependency) (Pass 38 drawn_25_m18 ∷ [])
    ∷ line (Input (In 16 1640732205263 14547910061119659496 drawn_25_m19)) (Some (Pong 0)) false []
    ∷ line (Input (In 23 1640732205763 12232947974457566858 drawn_25_m20)) (Some (Submit (submission (codes "t15") (codes "execute_request") (codes "s") (codes "u") no_dependency no_dependency [] 0 1))) true []
    ∷ decision (Hand (codes "t15") 0) (Pass 2 drawn_25_m20 ∷ [])
    ∷ []

pub drawn_25_is_told : IsTold drawn_25
unfolding digits escape_byte reserved_front next_word answer_id beat_id beat_request outcome_id resubmit_id header_text reply_type submit_refused empty_object ok_content join_content beat_content error_content outcome_content resubmit_content connection_content history_content queue_member queue_content settled_member result_content engine_lost_text date_of day_text time_text date_digits civil_date from_year from_month encode_with serde_json_on_literals is_utf8 chars event_of read_header is_request is_reply is_leave read_submit whole_timeouts ends_in_name is_db request_of read_content read_task read_declined read_status
drawn_25_is_told = record { goes = refl; reads = refl; rests = refl }

pub drawn_25_legal : Legal (goes_on [] drawn_25)
drawn_25_legal = told_legal drawn_25 drawn_25_is_told

abbrev drawn_26_m0 : Message
drawn_26_m0 = message [] (codes "{\"msg_id\":\"j1\",\"msg_type\":\"registration_request\"}") (codes "{}") (codes "{}") (codes "{\"uuid\":\"e3\"}") []

abbrev drawn_26_m1 : Message
drawn_26_m1 = message [] (codes "{\"msg_id\":\"j2\",\"msg_type\":\"registration_request\"}") (codes "{}") (codes "{}") (codes "{\"uuid\":\"engine \\u00e9\"}") []

abbrev drawn_26_m2 : Message
drawn_26_m2 = message [] (codes "{\"msg_id\":\"t4\",\"msg_type\":\"execute_request\",\"session\":\"s\",\"username\":\"u\"}") (codes "{}") (codes "{\"timeout\": 72.0, \"retries\": 1}") (codes "{\"code\":\"1+6\"}") []

abbrev drawn_26_m3 : Message
drawn_26_m3 = message [] (codes "{\"msg_id\":\"r5\",\"msg_type\":\"execute_reply\"}") (codes "{\"msg_id\":\"t4\",\"x\":1}") (codes "{\"started\":\"x\"}") (codes "{\"status\":\"ok\",\"result\":\"42\"}") []

abbrev drawn_26_m4 : Message
drawn_26_m4 = message [] (codes "{\"msg_id\":\"q6\",\"msg_type\":\"resubmit_request\"}") (codes "{}") (codes "{}") (codes "{\"msg_ids\":[\"t4\"]}") []

abbrev drawn_26_m5 : Message
drawn_26_m5 = message [] (codes "{\"msg_id\":\"resubmit:2\",\"session\":\"s\",\"username\":\"u\",\"date\":\"2030-04-30T11:46:42.474Z\",\"msg_type\":\"execute_request\",\"version\":\"5.3\"}") (codes "{}") (codes "{\"timeout\": 72.0, \"retries\": 1}") (codes "{\"code\":\"1+6\"}") []

abbrev drawn_26_m6 : Message
drawn_26_m6 = message [] (codes "{\"msg_id\":\"r7\",\"msg_type\":\"execute_reply\"}") (codes "{\"msg_id\":\"resubmit:2\",\"x\":1}") (codes "{\"dependencies_met\":false}") (codes "{\"status\":\"ok\",\"result\":\"42\"}") ((codes "b") ∷ [])

abbrev drawn_26_m7 : Message
drawn_26_m7 = message [] (codes "{\"msg_id\":\"l8\",\"msg_type\":\"unregistration_request\"}") (codes "{}") (codes "{}") (codes "{}") []

abbrev drawn_26_m8 : Message
drawn_26_m8 = message [] (codes "{\"msg_id\":\"r9\",\"msg_type\":\"apply_reply\"}") (codes "{\"msg_id\":\"resubmit:2\",\"x\":1}") (codes "{\"started\":\"x\"}") (codes "{\"status\":\"aborted\",\"result\":\"42\"}") ((codes "b") ∷ [])

abbrev drawn_26_m9 : Message
drawn_26_m9 = message (codes "e3") (codes "{\"msg_id\":\"d12\",\"msg_type\":\"execute_request\"}") (codes "{}") (codes "{}") (codes "{\"code\":\"1\"}") []

abbrev drawn_26_m10 : Message
drawn_26_m10 = message [] (codes "{\"msg_id\":\"d12\",\"msg_type\":\"execute_request\"}") (codes "{}") (codes "{}") (codes "{\"code\":\"1\"}") []

abbrev drawn_26_m11 : Message
drawn_26_m11 = message [] (codes "{\"msg_id\":\"p13\",\"msg_type\":\"beat_reply\"}") (codes "{}") (codes "{}") (codes "{\"beat\":1}") []

abbrev drawn_26_m12 : Message
drawn_26_m12 = message [] (codes "{\"msg_id\":\"t14\",\"msg_type\":\"execute_request\",\"session\":\"s\",\"username\":\"u\"}") (codes "{}") (codes "{\"timeout\":null}") (codes "{\"code\":\"5+7\"}") []

abbrev drawn_26_m13 : Message
drawn_26_m13 = message [] (codes "{\"msg_id\":\"r15\",\"msg_type\":\"execute_reply\"}") (codes "{\"msg_id\":\"resubmit:2\",\"x\":1}") (codes "{\"started\":\"x\"}") (codes "{\"status\":\"ok\",\"result\":\"42\"}") []

abbrev drawn_26_m14 : Message
drawn_26_m14 = message [] (codes "{\"msg_id\":\"q16\",\"msg_type\":\"what\"}") (codes "{}") (codes "{}") (codes "{}") []

-- 32 entries, 1 opening
abbrev pub drawn_26 : List Line
drawn_26 =
    line (Input (Open 0 Lru 0 2)) None true []
    ∷ line (Input (Up 2 Engine 0 0 (codes "c"))) None true []
    ∷ line (Input (In 2 0 0 drawn_26_m0)) (Some (Join (codes "e3"))) true (Made 2 0 (codes "hub-1-2") (codes "registration_reply") (codes "{\"msg_id\":\"j1\",\"msg_type\":\"registration_request\"}") (codes "{\"status\":\"ok\",\"id\":0}") [] ∷ [])
    ∷ line (Input (Up 3 Task 0 0 (codes "c"))) None true []
    ∷ line (Input (Up 4 Engine 0 0 (codes "c"))) None true []
    ∷ line (Input (In 4 0 0 drawn_26_m1)) (Some (Join (101 ∷ 110 ∷ 103 ∷ 105 ∷ 110 ∷ 101 ∷ 32 ∷ 195 ∷ 169 ∷ []))) true (Made 4 0 (codes "hub-1-5") (codes "registration_reply") (codes "{\"msg_id\":\"j2\",\"msg_type\":\"registration_request\"}") (codes "{\"status\":\"ok\",\"id\":1}") [] ∷ [])
    ∷ line (Input (Up 11 Task 0 0 (codes "T"))) None true []
    ∷ line (Input (Up 18 Mux 0 0 (7 ∷ 7 ∷ 7 ∷ 7 ∷ 7 ∷ 7 ∷ 7 ∷ 7 ∷ 7 ∷ 7 ∷ 7 ∷ 7 ∷ 7 ∷ 7 ∷ 7 ∷ 7 ∷ 7 ∷ 7 ∷ 7 ∷ 7 ∷ 7 ∷ 7 ∷ 7 ∷ 7 ∷ 7 ∷ 7 ∷ 7 ∷ 7 ∷ 7 ∷ 7 ∷ 7 ∷ 7 ∷ 7 ∷ 7 ∷ 7 ∷ 7 ∷ 7 ∷ 7 ∷ 7 ∷ 7 ∷ 7 ∷ 7 ∷ 7 ∷ 7 ∷ 7 ∷ 7 ∷ 7 ∷ 7 ∷ 7 ∷ 7 ∷ 7 ∷ 7 ∷ 7 ∷ 7 ∷ 7 ∷ 7 ∷ 7 ∷ 7 ∷ 7 ∷ 7 ∷ 7 ∷ 7 ∷ 7 ∷ 7 ∷ 7 ∷ 7 ∷ 7 ∷ 7 ∷ 7 ∷ 7 ∷ 7 ∷ 7 ∷ 7 ∷ 7 ∷ 7 ∷ 7 ∷ 7 ∷ 7 ∷ 7 ∷ 7 ∷ 7 ∷ 7 ∷ 7 ∷ 7 ∷ 7 ∷ 7 ∷ 7 ∷ 7 ∷ 7 ∷ 7 ∷ 7 ∷ 7 ∷ 7 ∷ 7 ∷ 7 ∷ 7 ∷ 7 ∷ 7 ∷ 7 ∷ 7 ∷ 7 ∷ 7 ∷ 7 ∷ 7 ∷ 7 ∷ 7 ∷ 7 ∷ 7 ∷ 7 ∷ 7 ∷ 7 ∷ 7 ∷ 7 ∷ 7 ∷ 7 ∷ 7 ∷ 7 ∷ 7 ∷ 7 ∷ 7 ∷ 7 ∷ 7 ∷ 7 ∷ 7 ∷ 7 ∷ 7 ∷ 7 ∷ 7 ∷ 7 ∷ 7 ∷ 7 ∷ 7 ∷ 7 ∷ 7 ∷ 7 ∷ 7 ∷ 7 ∷ 7 ∷ 7 ∷ 7 ∷ 7 ∷ 7 ∷ 7 ∷ 7 ∷ 7 ∷ 7 ∷ 7 ∷ 7 ∷ 7 ∷ 7 ∷ 7 ∷ 7 ∷ 7 ∷ 7 ∷ 7 ∷ 7 ∷ 7 ∷ 7 ∷ 7 ∷ 7 ∷ 7 ∷ 7 ∷ 7 ∷ 7 ∷ 7 ∷ 7 ∷ 7 ∷ 7 ∷ 7 ∷ 7 ∷ 7 ∷ 7 ∷ 7 ∷ 7 ∷ 7 ∷ 7 ∷ 7 ∷ 7 ∷ 7 ∷ 7 ∷ 7 ∷ 7 ∷ 7 ∷ 7 ∷ 7 ∷ 7 ∷ 7 ∷ 7 ∷ 7 ∷ 7 ∷ 7 ∷ 7 ∷ 7 ∷ 7 ∷ 7 ∷ 7 ∷ 7 ∷ 7 ∷ 7 ∷ 7 ∷ 7 ∷ 7 ∷ 7 ∷ 7 ∷ 7 ∷ 7 ∷ 7 ∷ 7 ∷ 7 ∷ 7 ∷ 7 ∷ 7 ∷ 7 ∷ 7 ∷ 7 ∷ 7 ∷ 7 ∷ 7 ∷ 7 ∷ 7 ∷ 7 ∷ 7 ∷ 7 ∷ 7 ∷ 7 ∷ 7 ∷ 7 ∷ 7 ∷ 7 ∷ 7 ∷ 7 ∷ 7 ∷ 7 ∷ 7 ∷ 7 ∷ 7 ∷ 7 ∷ 7 ∷ 7 ∷ 7 ∷ 7 ∷ 7 ∷ 7 ∷ 7 ∷ 7 ∷ 7 ∷ 7 ∷ 7 ∷ 7 ∷ 7 ∷ 7 ∷ 7 ∷ 7 ∷ 7 ∷ 7 ∷ []))) None true []
    ∷ line (Input (Up 19 Hub 0 0 (codes "c"))) None true []
    ∷ line (Input (In 11 1903780002473 0 drawn_26_m2)) (Some (Submit (submission (codes "t4") (codes "execute_request") (codes "s") (codes "u") no_dependency no_dependency [] 72 1))) true []
    ∷ decision (Hand (codes "t4") 0) (Pass 2 drawn_26_m2 ∷ [])
    ∷ line (Input (Time 1903780002474 6648852205425403377)) None true []
    ∷ line (Input (In 2 225228372998759 2972167921319589878 drawn_26_m3)) (Some (Reply (codes "t4") (codes "r5") true false)) true []
    ∷ decision (Settle (codes "t4") Completed ByReply) (Pass 11 drawn_26_m3 ∷ [])
    ∷ line (Input (In 19 1903780002474 11616788194711926806 drawn_26_m4)) (Some (Resubmit ((codes "t4") ∷ []))) true (Made 19 1903780002474 (codes "hub-1-14") (codes "resubmit_reply") (codes "{\"msg_id\":\"q6\",\"msg_type\":\"resubmit_request\"}") (codes "{\"status\":\"ok\",\"resubmitted\":{\"t4\":\"resubmit:2\"}}") [] ∷ [])
    ∷ decision (Hand (codes "resubmit:2") 1) (Pass 4 drawn_26_m5 ∷ [])
    ∷ line (Input (In 4 1903780062474 16810666694193553938 drawn_26_m6)) (Some (Reply (codes "resubmit:2") (codes "r7") true true)) true []
    ∷ decision (Hand (codes "resubmit:2") 0) (Pass 2 drawn_26_m5 ∷ [])
    ∷ line (Input (In 4 1903780062474 15340100009859282069 drawn_26_m7)) (Some (Leave)) true (Made 4 1903780062474 (codes "hub-1-18") (codes "unregistration_reply") (codes "{\"msg_id\":\"l8\",\"msg_type\":\"unregistration_request\"}") (codes "{\"status\":\"ok\"}") [] ∷ [])
    ∷ line (Input (Up 20 Task 1903780062974 0 (codes "x20"))) None true []
    ∷ line (Input (In 2 1903780062975 583338189063380156 drawn_26_m8)) (Some (Reply (codes "resubmit:2") (codes "r9") false false)) true []
    ∷ decision (Hand (codes "resubmit:2") 0) (Pass 2 drawn_26_m5 ∷ [])
    ∷ line (Input (Up 21 Task 1903780062975 0 (codes "c"))) None true []
    ∷ line (Input (Time 1903780062975 10151619839474455565)) None true []
    ∷ line (Input (In 18 1903780062975 110049474660394114 drawn_26_m9)) (Some (Direct (submission (codes "d12") (codes "execute_request") [] [] no_dependency no_dependency [] 0 0))) true []
    ∷ decision (Hand (codes "d12") 0) (Pass 2 drawn_26_m10 ∷ [])
    ∷ line (Input (In 2 1903780063475 11703025447789274496 drawn_26_m11)) (Some (Pong 1)) false []
    ∷ line (Input (In 20 1903780063475 8170509837250892533 drawn_26_m12)) (Some (Submit (submission (codes "t14") (codes "execute_request") (codes "s") (codes "u") no_dependency no_dependency [] 0 0))) true []
    ∷ decision (Hand (codes "t14") 0) (Pass 2 drawn_26_m12 ∷ [])
    ∷ line (Input (In 2 1903780063475 5484144619551651935 drawn_26_m13)) (Some (Reply (codes "resubmit:2") (codes "r15") true false)) true []
    ∷ decision (Settle (codes "resubmit:2") Completed ByReply) (Pass 11 drawn_26_m13 ∷ [])
    ∷ line (Input (In 19 1903780063475 0 drawn_26_m14)) (Some (Ask Unknown)) false (Made 19 1903780063475 (codes "hub-1-31") (codes "what_reply") (codes "{\"msg_id\":\"q16\",\"msg_type\":\"what\"}") (codes "{\"status\":\"error\",\"ename\":\"UnknownRequest\",\"evalue\":\"what\",\"traceback\":[],\"ids\":[]}") [] ∷ [])
    ∷ []

pub drawn_26_is_told : IsTold drawn_26
unfolding digits escape_byte reserved_front next_word answer_id beat_id beat_request outcome_id resubmit_id header_text reply_type submit_refused empty_object ok_content join_content beat_content error_content outcome_content resubmit_content connection_content history_content queue_member queue_content settled_member result_content engine_lost_text date_of day_text time_text date_digits civil_date from_year from_month encode_with serde_json_on_literals is_utf8 chars event_of read_header is_request is_reply is_leave read_submit whole_timeouts ends_in_name is_db request_of read_content read_task read_declined read_status
drawn_26_is_told = record { goes = refl; reads = refl; rests = refl }

pub drawn_26_legal : Legal (goes_on [] drawn_26)
drawn_26_legal = told_legal drawn_26 drawn_26_is_told

abbrev drawn_27_m0 : Message
drawn_27_m0 = message [] (codes "{\"msg_id\":\"j2\",\"msg_type\":\"registration_request\"}") (codes "{}") (codes "{}") (codes "{\"uuid\":\"e2\"}") []

abbrev drawn_27_m1 : Message
drawn_27_m1 = message [] (codes "{\"msg_id\":\"t3\",\"msg_type\":\"apply_request\",\"session\":\"s\",\"username\":\"u\"}") (codes "{}") (codes "{\"after\":{\"dependencies\":[],\"all\":false,\"success\":true},\"targets\":[\"e0\",\"e0\"],\"retries\":1}") (codes "{\"code\":\"5+2\"}") []

abbrev drawn_27_m2 : Message
drawn_27_m2 = message [] (codes "{\"msg_id\":\"out-1\",\"session\":\"controller\",\"username\":\"controller\",\"date\":\"2007-12-18T13:20:24.244Z\",\"msg_type\":\"apply_reply\",\"version\":\"5.3\"}") (codes "{\"msg_id\":\"t3\",\"msg_type\":\"apply_request\",\"session\":\"s\",\"username\":\"u\"}") (codes "{}") (codes "{\"status\":\"error\",\"ename\":\"ImpossibleDependency\",\"evalue\":\"the dependencies of this task cannot be met\",\"traceback\":[]}") []

abbrev drawn_27_m3 : Message
drawn_27_m3 = message [] (codes "{\"msg_id\":\"q4\",\"msg_type\":\"history_request\"}") (codes "{}") (codes "{}") (codes "{}") []

abbrev drawn_27_m4 : Message
drawn_27_m4 = message [] (codes "{\"msg_id\":\"j1\",\"msg_type\":\"registration_request\"}") (codes "{}") (codes "{}") (codes "{\"uuid\":\"engine \\u00e9\"}") []

abbrev drawn_27_m5 : Message
drawn_27_m5 = message (codes "nobody") (codes "{\"msg_id\":\"d6\",\"msg_type\":\"execute_request\"}") (codes "{}") (codes "{}") (codes "{\"code\":\"1\"}") []

abbrev drawn_27_m6 : Message
drawn_27_m6 = message [] (codes "{\"msg_id\":\"t8\",\"msg_type\":\"apply_request\",\"session\":\"s\",\"username\":\"u\"}") (codes "{}") (codes "{\"retries\":5,\"timeout\":1}") (codes "{\"code\":\"6+0\"}") []

abbrev drawn_27_m7 : Message
drawn_27_m7 = message [] (codes "{\"msg_id\":\"q9\",\"msg_type\":\"resubmit_request\"}") (codes "{}") (codes "{}") (codes "{\"msg_ids\":[\"t3\"]}") []

abbrev drawn_27_m8 : Message
drawn_27_m8 = message [] (codes "{\"msg_id\":\"out-3\",\"session\":\"controller\",\"username\":\"controller\",\"date\":\"2007-12-18T13:23:27.245Z\",\"msg_type\":\"apply_reply\",\"version\":\"5.3\"}") (codes "{\"msg_id\":\"resubmit:3\",\"session\":\"s\",\"username\":\"u\",\"date\":\"2007-12-18T13:23:27.245Z\",\"msg_type\":\"apply_request\",\"version\":\"5.3\"}") (codes "{}") (codes "{\"status\":\"error\",\"ename\":\"ImpossibleDependency\",\"evalue\":\"the dependencies of this task cannot be met\",\"traceback\":[]}") []

abbrev drawn_27_m9 : Message
drawn_27_m9 = message [] (codes "{\"msg_id\":\"q10\",\"msg_type\":\"queue_request\"}") (codes "{}") (codes "{}") (codes "{\"targets\":[1,0,1],\"verbose\":true}") []

abbrev drawn_27_m10 : Message
drawn_27_m10 = message (101 ∷ 110 ∷ 103 ∷ 105 ∷ 110 ∷ 101 ∷ 32 ∷ 195 ∷ 169 ∷ []) (codes "{\"msg_id\":\"d11\",\"msg_type\":\"execute_request\"}") (codes "{}") (codes "{}") (codes "{\"code\":\"1\"}") []

abbrev drawn_27_m11 : Message
drawn_27_m11 = message [] (codes "{\"msg_id\":\"d11\",\"msg_type\":\"execute_request\"}") (codes "{}") (codes "{}") (codes "{\"code\":\"1\"}") []

abbrev drawn_27_m12 : Message
drawn_27_m12 = message [] (codes "{\"msg_id\":\"r12\",\"msg_type\":\"apply_reply\"}") (codes "{\"msg_id\":\"d11\",\"x\":1}") (codes "{}") (codes "{\"status\":\"error\",\"result\":\"42\"}") []

abbrev drawn_27_m13 : Message
drawn_27_m13 = message [] (codes "{\"msg_id\":\"r13\",\"msg_type\":\"execute_reply\"}") (codes "{\"msg_id\":\"t8\",\"x\":1}") (codes "{\"dependencies_met\":true}") (codes "{\"status\":\"ok\",\"result\":\"42\"}") []

abbrev drawn_27_m14 : Message
drawn_27_m14 = message [] (codes "{\"msg_id\":\"t14\",\"msg_type\":\"execute_request\",\"session\":\"s\",\"username\":\"u\"}") (codes "{}") (codes "{\"after\":[\"t8\"],\"retries\":0}") (codes "{\"code\":\"3+2\"}") []

abbrev drawn_27_m15 : Message
drawn_27_m15 = message [] (codes "{\"msg_id\":\"t15\",\"msg_type\":\"execute_request\",\"session\":\"s\",\"username\":\"u\"}") (codes "{}") (codes "{\"after\":[\"t3\"],\"retries\":2}") (codes "{\"code\":\"2+1\"}") ((codes "buf") ∷ (codes "buf") ∷ [])

abbrev drawn_27_m16 : Message
drawn_27_m16 = message [] (codes "{\"msg_id\":\"out-6\",\"session\":\"controller\",\"username\":\"controller\",\"date\":\"2007-12-18T13:23:27.245Z\",\"msg_type\":\"execute_reply\",\"version\":\"5.3\"}") (codes "{\"msg_id\":\"t15\",\"msg_type\":\"execute_request\",\"session\":\"s\",\"username\":\"u\"}") (codes "{}") (codes "{\"status\":\"error\",\"ename\":\"ImpossibleDependency\",\"evalue\":\"the dependencies of this task cannot be met\",\"traceback\":[]}") []

abbrev drawn_27_m17 : Message
drawn_27_m17 = message (codes "e2") (codes "{\"msg_id\":\"d16\",\"msg_type\":\"execute_request\"}") (codes "{}") (codes "{}") (codes "{\"code\":\"1\"}") []

abbrev drawn_27_m18 : Message
drawn_27_m18 = message [] (codes "{\"msg_id\":\"d16\",\"msg_type\":\"execute_request\"}") (codes "{}") (codes "{}") (codes "{\"code\":\"1\"}") []

abbrev drawn_27_m19 : Message
drawn_27_m19 = message [] (codes "{\"msg_id\":\"\\u00e9\\\"\\\\\\n17\",\"msg_type\":\"execute_request\",\"session\":\"\\u00e9\\\"\\\\\\n17\"}") (codes "{}") (codes "{\"x\":1,\"retries\":-0}") (codes "{}") []

abbrev drawn_27_m20 : Message
drawn_27_m20 = message [] (codes "{\"msg_id\":\"r18\",\"msg_type\":\"execute_reply\"}") (codes "{\"msg_id\":\"d16\",\"x\":1}") (codes "{}") (codes "{\"status\":\"ok\",\"result\":\"42\"}") ((codes "b") ∷ (codes "b") ∷ (codes "b") ∷ (codes "b") ∷ (codes "b") ∷ (codes "b") ∷ (codes "b") ∷ (codes "b") ∷ (codes "b") ∷ (codes "b") ∷ (codes "b") ∷ (codes "b") ∷ (codes "b") ∷ (codes "b") ∷ (codes "b") ∷ (codes "b") ∷ (codes "b") ∷ (codes "b") ∷ (codes "b") ∷ (codes "b") ∷ (codes "b") ∷ (codes "b") ∷ (codes "b") ∷ (codes "b") ∷ (codes "b") ∷ (codes "b") ∷ (codes "b") ∷ (codes "b") ∷ (codes "b") ∷ (codes "b") ∷ (codes "b") ∷ (codes "b") ∷ (codes "b") ∷ (codes "b") ∷ (codes "b") ∷ (codes "b") ∷ (codes "b") ∷ (codes "b") ∷ (codes "b") ∷ (codes "b") ∷ (codes "b") ∷ (codes "b") ∷ (codes "b") ∷ (codes "b") ∷ (codes "b") ∷ (codes "b") ∷ (codes "b") ∷ (codes "b") ∷ (codes "b") ∷ (codes "b") ∷ (codes "b") ∷ (codes "b") ∷ (codes "b") ∷ (codes "b") ∷ (codes "b") ∷ (codes "b") ∷ (codes "b") ∷ (codes "b") ∷ [])

abbrev drawn_27_m21 : Message
drawn_27_m21 = message [] (codes "{\"msg_id\":\"r20\",\"msg_type\":\"execute_reply\"}") (codes "{\"msg_id\":\"t14\",\"x\":1}") (codes "{\"dependencies_met\":true}") (codes "{\"status\":\"ok\",\"result\":\"42\"}") []

abbrev drawn_27_m22 : Message
drawn_27_m22 = message [] (codes "{\"msg_id\":\"q21\",\"msg_type\":\"purge_request\"}") (codes "{}") (codes "{}") (codes "{\"msg_ids\":[\"d16\",\"t15\",\"d11\",\"t3\",\"t3\"]}") []

-- 39 entries, 1 opening
abbrev pub drawn_27 : List Line
drawn_27 =
    line (Input (Open 0 LeastLoad 1 2)) None true []
    ∷ line (Input (Up 1 Engine 0 0 (codes "conn-1"))) None true []
    ∷ line (Input (Up 3 Engine 0 0 (235 ∷ []))) None true []
    ∷ line (Input (In 3 0 0 drawn_27_m0)) (Some (Join (codes "e2"))) true (Made 3 0 (codes "hub-1-3") (codes "registration_reply") (codes "{\"msg_id\":\"j2\",\"msg_type\":\"registration_request\"}") (codes "{\"status\":\"ok\",\"id\":0}") [] ∷ [])
    ∷ line (Input (Up 10 Task 0 0 (codes "c"))) None true []
    ∷ line (Input (Up 17 Mux 0 0 (codes "conn-17"))) None true []
    ∷ line (Input (Time 1197984023744 14954152736664859257)) None true []
    ∷ line (Input (In 10 1197984024244 4428412856812487752 drawn_27_m1)) (Some (Submit (submission (codes "t3") (codes "apply_request") (codes "s") (codes "u") (dep [] false true false) no_dependency ((codes "e0") ∷ (codes "e0") ∷ []) 0 1))) true []
    ∷ decision (Settle (codes "t3") Failed ImpossibleDependency) (Pass 10 drawn_27_m2 ∷ [])
    ∷ line (Input (Up 18 Hub 1197984084244 3603242181291114405 (codes "c"))) None true []
    ∷ line (Input (In 18 1197984084244 3603242181291114405 drawn_27_m3)) (Some (Ask History)) false (Made 18 1197984084244 (codes "hub-1-10") (codes "history_reply") (codes "{\"msg_id\":\"q4\",\"msg_type\":\"history_request\"}") (codes "{\"status\":\"ok\",\"history\":[\"t3\"]}") [] ∷ [])
    ∷ line (Input (In 1 1197984084244 11862778480566242734 drawn_27_m4)) (Some (Join (101 ∷ 110 ∷ 103 ∷ 105 ∷ 110 ∷ 101 ∷ 32 ∷ 195 ∷ 169 ∷ []))) true (Made 1 1197984084244 (codes "hub-1-11") (codes "registration_reply") (codes "{\"msg_id\":\"j1\",\"msg_type\":\"registration_request\"}") (codes "{\"status\":\"ok\",\"id\":1}") [] ∷ [])
    ∷ line (Input (Up 2 Task 1197984084245 0 (codes "d"))) None true []
    ∷ line (Input (In 2 1197984084245 0 drawn_27_m1)) (Some (Submit (submission (codes "t3") (codes "apply_request") (codes "s") (codes "u") (dep [] false true false) no_dependency ((codes "e0") ∷ (codes "e0") ∷ []) 0 1))) false (Pass 2 drawn_27_m2 ∷ [])
    ∷ line (Input (In 17 1197984084245 0 drawn_27_m5)) (Some (Direct (submission (codes "d6") (codes "execute_request") [] [] no_dependency no_dependency [] 0 0))) false (Made 17 1197984084245 (codes "hub-1-14") (codes "submit_refused") (codes "{\"msg_id\":\"d6\",\"msg_type\":\"execute_request\"}") (codes "{\"status\":\"error\",\"ename\":\"NoSuchEngine\",\"evalue\":\"6e6f626f6479\",\"traceback\":[],\"ids\":[]}") [] ∷ [])
    ∷ line (Input (In 10 1197984204245 12469999958764715692 drawn_27_m6)) (Some (Submit (submission (codes "t8") (codes "apply_request") (codes "s") (codes "u") no_dependency no_dependency [] 1 5))) true []
    ∷ decision (Hand (codes "t8") 0) (Pass 3 drawn_27_m6 ∷ [])
    ∷ line (Input (In 18 1197984207245 9712845903398707001 drawn_27_m7)) (Some (Resubmit ((codes "t3") ∷ []))) true (Made 18 1197984207245 (codes "hub-1-17") (codes "resubmit_reply") (codes "{\"msg_id\":\"q9\",\"msg_type\":\"resubmit_request\"}") (codes "{\"status\":\"ok\",\"resubmitted\":{\"t3\":\"resubmit:3\"}}") [] ∷ [])
    ∷ decision (Settle (codes "resubmit:3") Failed ImpossibleDependency) (Pass 10 drawn_27_m8 ∷ [])
    ∷ line (Input (In 18 1197984207245 9712845903398707001 drawn_27_m9)) (Some (Ask (Queue (1 ∷ 0 ∷ 1 ∷ []) true))) false (Made 18 1197984207245 (codes "hub-1-19") (codes "queue_reply") (codes "{\"msg_id\":\"q10\",\"msg_type\":\"queue_request\"}") (codes "{\"status\":\"ok\",\"unassigned\":[],\"0\":{\"queue\":[],\"completed\":[],\"tasks\":[\"t8\"]},\"1\":{\"queue\":[],\"completed\":[],\"tasks\":[]}}") [] ∷ [])
    ∷ line (Input (In 17 1197984207245 0 drawn_27_m10)) (Some (Direct (submission (codes "d11") (codes "execute_request") [] [] no_dependency no_dependency [] 0 0))) true []
    ∷ decision (Hand (codes "d11") 1) (Pass 1 drawn_27_m11 ∷ [])
    ∷ line (Input (In 1 1197984207245 9691289734819360545 drawn_27_m12)) (Some (Reply (codes "d11") (codes "r12") false false)) true []
    ∷ decision (Settle (codes "d11") Failed ByReply) (Pass 17 drawn_27_m12 ∷ [])
    ∷ line (Input (In 3 1197984207245 6779896611098879126 drawn_27_m13)) (Some (Reply (codes "t8") (codes "r13") true false)) true []
    ∷ decision (Settle (codes "t8") Completed ByReply) (Pass 10 drawn_27_m13 ∷ [])
    ∷ line (Input (In 2 1197984207245 17776756440228923240 drawn_27_m14)) (Some (Submit (submission (codes "t14") (codes "execute_request") (codes "s") (codes "u") (dep ((codes "t8") ∷ []) true true false) no_dependency [] 0 0))) true []
    ∷ decision (Hand (codes "t14") 1) (Pass 1 drawn_27_m14 ∷ [])
    ∷ line (Input (In 10 1197984207245 11392256727455492625 drawn_27_m15)) (Some (Submit (submission (codes "t15") (codes "execute_request") (codes "s") (codes "u") (dep ((codes "t3") ∷ []) true true false) no_dependency [] 0 2))) true []
    ∷ decision (Settle (codes "t15") Failed ImpossibleDependency) (Pass 10 drawn_27_m16 ∷ [])
    ∷ line (Input (In 17 1197984207245 4620181390618589771 drawn_27_m17)) (Some (Direct (submission (codes "d16") (codes "execute_request") [] [] no_dependency no_dependency [] 0 0))) true []
    ∷ decision (Hand (codes "d16") 0) (Pass 3 drawn_27_m18 ∷ [])
    ∷ line (Input (In 2 1197984207245 0 drawn_27_m19)) (Some (Ask (Bad (codes "retries")))) false (Made 2 1197984207245 (codes "hub-1-32") (codes "submit_refused") (codes "{\"msg_id\":\"\\u00e9\\\"\\\\\\n17\",\"msg_type\":\"execute_request\",\"session\":\"\\u00e9\\\"\\\\\\n17\"}") (codes "{\"status\":\"error\",\"ename\":\"BadMetadata\",\"evalue\":\"retries\",\"traceback\":[],\"ids\":[]}") [] ∷ [])
    ∷ line (Input (In 3 1197984207246 0 drawn_27_m20)) (Some (Reply (codes "d16") (codes "r18") true false)) true []
    ∷ decision (Settle (codes "d16") Completed ByReply) (Pass 17 drawn_27_m20 ∷ [])
    ∷ line (Input (Beat 1197984207247 8077750658613483716)) None true (Made 3 1197984207247 (codes "hub-1-35-0") (codes "beat_request") (codes "{}") (codes "{\"beat\":1}") [] ∷ Made 1 1197984207247 (codes "hub-1-35-1") (codes "beat_request") (codes "{}") (codes "{\"beat\":1}") [] ∷ [])
    ∷ line (Input (In 1 1197984210247 0 drawn_27_m21)) (Some (Reply (codes "t14") (codes "r20") true false)) true []
    ∷ decision (Settle (codes "t14") Completed ByReply) (Pass 2 drawn_27_m21 ∷ [])
    ∷ line (Input (In 18 1197984210247 5058357542234653609 drawn_27_m22)) (Some (Purge false ((codes "d16") ∷ (codes "t15") ∷ (codes "d11") ∷ (codes "t3") ∷ (codes "t3") ∷ []))) true (Made 18 1197984210247 (codes "hub-1-38") (codes "purge_reply") (codes "{\"msg_id\":\"q21\",\"msg_type\":\"purge_request\"}") (codes "{\"status\":\"ok\"}") [] ∷ [])
    ∷ []

pub drawn_27_is_told : IsTold drawn_27
unfolding digits escape_byte reserved_front next_word answer_id beat_id beat_request outcome_id resubmit_id header_text reply_type submit_refused empty_object ok_content join_content beat_content error_content outcome_content resubmit_content connection_content history_content queue_member queue_content settled_member result_content engine_lost_text date_of day_text time_text date_digits civil_date from_year from_month encode_with serde_json_on_literals is_utf8 chars event_of read_header is_request is_reply is_leave read_submit whole_timeouts ends_in_name is_db request_of read_content read_task read_declined read_status
drawn_27_is_told = record { goes = refl; reads = refl; rests = refl }

pub drawn_27_legal : Legal (goes_on [] drawn_27)
drawn_27_legal = told_legal drawn_27 drawn_27_is_told

abbrev drawn_28_m0 : Message
drawn_28_m0 = message [] (codes "{\"msg_id\":\"j1\",\"msg_type\":\"registration_request\"}") (codes "{}") (codes "{}") (codes "{\"uuid\":\"e5\"}") []

abbrev drawn_28_m1 : Message
drawn_28_m1 = message [] (codes "{\"msg_id\":\"t3\",\"msg_type\":\"apply_request\",\"session\":\"s\",\"username\":\"u\"}") (codes "{}") (codes "{\"timeout\": 51.0, \"retries\": 1}") (codes "{\"code\":\"7+8\"}") []

abbrev drawn_28_m2 : Message
drawn_28_m2 = message [] (codes "{\"msg_id\":\"q4\",\"msg_type\":\"connection_request\"}") (codes "{}") (codes "{}") (codes "{}") []

abbrev drawn_28_m3 : Message
drawn_28_m3 = message [] (codes "{\"msg_id\":\"r5\",\"msg_type\":\"execute_reply\"}") (codes "{\"msg_id\":\"t3\",\"x\":1}") (codes "{}") (codes "{\"status\":\"aborted\",\"result\":\"42\"}") ((codes "b") ∷ (codes "b") ∷ (codes "b") ∷ (codes "b") ∷ (codes "b") ∷ (codes "b") ∷ (codes "b") ∷ (codes "b") ∷ (codes "b") ∷ (codes "b") ∷ (codes "b") ∷ (codes "b") ∷ (codes "b") ∷ (codes "b") ∷ (codes "b") ∷ (codes "b") ∷ (codes "b") ∷ (codes "b") ∷ (codes "b") ∷ (codes "b") ∷ (codes "b") ∷ (codes "b") ∷ (codes "b") ∷ (codes "b") ∷ (codes "b") ∷ (codes "b") ∷ (codes "b") ∷ (codes "b") ∷ (codes "b") ∷ (codes "b") ∷ (codes "b") ∷ (codes "b") ∷ (codes "b") ∷ (codes "b") ∷ (codes "b") ∷ (codes "b") ∷ (codes "b") ∷ (codes "b") ∷ (codes "b") ∷ (codes "b") ∷ (codes "b") ∷ (codes "b") ∷ (codes "b") ∷ (codes "b") ∷ (codes "b") ∷ (codes "b") ∷ (codes "b") ∷ (codes "b") ∷ (codes "b") ∷ (codes "b") ∷ (codes "b") ∷ (codes "b") ∷ (codes "b") ∷ (codes "b") ∷ (codes "b") ∷ (codes "b") ∷ (codes "b") ∷ (codes "b") ∷ [])

abbrev drawn_28_m4 : Message
drawn_28_m4 = message [] (codes "{\"msg_id\":\"p6\",\"msg_type\":\"beat_reply\"}") (codes "{}") (codes "{}") (codes "{\"beat\":0}") []

abbrev drawn_28_m5 : Message
drawn_28_m5 = message (codes "e5") (codes "{\"msg_id\":\"d7\",\"msg_type\":\"execute_request\"}") (codes "{}") (codes "{}") (codes "{\"code\":\"1\"}") []

abbrev drawn_28_m6 : Message
drawn_28_m6 = message [] (codes "{\"msg_id\":\"d7\",\"msg_type\":\"execute_request\"}") (codes "{}") (codes "{}") (codes "{\"code\":\"1\"}") []

abbrev drawn_28_m7 : Message
drawn_28_m7 = message [] (codes "{\"msg_id\":\"q8\",\"msg_type\":\"queue_request\"}") (codes "{}") (codes "{}") (codes "{\"targets\":[1,0,1],\"verbose\":true}") []

abbrev drawn_28_m8 : Message
drawn_28_m8 = message [] (codes "{\"msg_id\":\"r9\",\"msg_type\":\"execute_reply\"}") (codes "{\"msg_id\":\"d7\",\"x\":1}") (codes "{\"started\":\"x\"}") (codes "{\"status\":\"ok\",\"result\":\"42\"}") ((codes "b") ∷ (codes "b") ∷ (codes "b") ∷ [])

abbrev drawn_28_m9 : Message
drawn_28_m9 = message [] (codes "{\"msg_id\":\"t10\",\"msg_type\":\"execute_request\",\"session\":\"s\",\"username\":\"u\"}") (codes "{}") (codes "{\"after\":{\"dependencies\":[],\"success\":true,\"failure\":false},\"follow\":{\"dependencies\":[],\"success\":true},\"targets\":[\"e1\"]}") (codes "{\"code\":\"0+6\"}") []

abbrev drawn_28_m10 : Message
drawn_28_m10 = message [] (codes "{\"msg_id\":\"out-3\",\"session\":\"controller\",\"username\":\"controller\",\"date\":\"2018-08-23T02:10:57.062Z\",\"msg_type\":\"execute_reply\",\"version\":\"5.3\"}") (codes "{\"msg_id\":\"t10\",\"msg_type\":\"execute_request\",\"session\":\"s\",\"username\":\"u\"}") (codes "{}") (codes "{\"status\":\"error\",\"ename\":\"ImpossibleDependency\",\"evalue\":\"the dependencies of this task cannot be met\",\"traceback\":[]}") []

abbrev drawn_28_m11 : Message
drawn_28_m11 = message [] (codes "{\"msg_id\":\"t11\",\"msg_type\":\"execute_request\",\"session\":\"s\",\"username\":\"u\"}") (codes "{}") (codes "{}") (codes "{\"code\":\"0+8\"}") ((codes "buf") ∷ (codes "buf") ∷ [])

abbrev drawn_28_m12 : Message
drawn_28_m12 = message (codes "nobody") (codes "{\"msg_id\":\"d13\",\"msg_type\":\"execute_request\"}") (codes "{}") (codes "{}") (codes "{\"code\":\"1\"}") []

abbrev drawn_28_m13 : Message
drawn_28_m13 = message [] (codes "{\"msg_id\":\"t14\",\"msg_type\":\"apply_request\",\"session\":\"s\",\"username\":\"u\"}") (codes "{}") (codes "{\"follow\":\"t10\",\"retries\":0,\"timeout\":5}") (codes "{\"code\":\"6+6\"}") ((codes "buf") ∷ (codes "buf") ∷ [])

abbrev drawn_28_m14 : Message
drawn_28_m14 = message [] (codes "{\"msg_id\":\"out-5\",\"session\":\"controller\",\"username\":\"controller\",\"date\":\"2018-08-23T02:10:57.062Z\",\"msg_type\":\"apply_reply\",\"version\":\"5.3\"}") (codes "{\"msg_id\":\"t14\",\"msg_type\":\"apply_request\",\"session\":\"s\",\"username\":\"u\"}") (codes "{}") (codes "{\"status\":\"error\",\"ename\":\"ImpossibleDependency\",\"evalue\":\"the dependencies of this task cannot be met\",\"traceback\":[]}") []

abbrev drawn_28_m15 : Message
drawn_28_m15 = message [] (codes "{\"msg_id\":\"r12\",\"msg_type\":\"execute_reply\"}") (codes "{\"msg_id\":\"t3\",\"x\":1}") (codes "{\"started\":\"x\"}") (codes "{\"status\":\"abort\",\"result\":\"42\"}") []

abbrev drawn_28_m16 : Message
drawn_28_m16 = message [] (codes "{\"msg_id\":\"r15\",\"msg_type\":\"execute_reply\"}") (codes "{\"msg_id\":\"t11\",\"x\":1}") (codes "{\"started\":\"x\"}") (codes "{\"status\":\"ok\",\"result\":\"42\"}") []

abbrev drawn_28_m17 : Message
drawn_28_m17 = message [] (codes "{\"msg_id\":\"r16\",\"msg_type\":\"execute_reply\"}") (codes "{\"msg_id\":\"t3\",\"x\":1}") (codes "{\"dependencies_met\":false}") (codes "{\"status\":\"error\",\"result\":\"42\"}") ((codes "b") ∷ [])

-- 34 entries, 1 opening
abbrev pub drawn_28 : List Line
drawn_28 =
    line (Input (Open 0 TwoBin 0 2)) None true []
    ∷ line (Input (Up 4 Engine 0 0 (codes "c"))) None true []
    ∷ line (Input (In 4 0 0 drawn_28_m0)) (Some (Join (codes "e5"))) true (Made 4 0 (codes "hub-1-2") (codes "registration_reply") (codes "{\"msg_id\":\"j1\",\"msg_type\":\"registration_request\"}") (codes "{\"status\":\"ok\",\"id\":0}") [] ∷ [])
    ∷ line (Input (Up 5 Task 0 0 (codes "conn-5"))) None true []
    ∷ line (Input (Up 12 Engine 0 0 (codes "x12"))) None true []
    ∷ line (Input (Up 13 Task 0 0 (22 ∷ 22 ∷ 22 ∷ 22 ∷ 22 ∷ 22 ∷ 22 ∷ 22 ∷ 22 ∷ 22 ∷ 22 ∷ 22 ∷ 22 ∷ 22 ∷ 22 ∷ 22 ∷ 22 ∷ 22 ∷ 22 ∷ 22 ∷ 22 ∷ 22 ∷ 22 ∷ 22 ∷ 22 ∷ 22 ∷ 22 ∷ 22 ∷ 22 ∷ 22 ∷ 22 ∷ 22 ∷ 22 ∷ 22 ∷ 22 ∷ 22 ∷ 22 ∷ 22 ∷ 22 ∷ 22 ∷ 22 ∷ 22 ∷ 22 ∷ 22 ∷ 22 ∷ 22 ∷ 22 ∷ 22 ∷ 22 ∷ 22 ∷ 22 ∷ 22 ∷ 22 ∷ 22 ∷ 22 ∷ 22 ∷ 22 ∷ 22 ∷ 22 ∷ 22 ∷ 22 ∷ 22 ∷ 22 ∷ 22 ∷ 22 ∷ 22 ∷ 22 ∷ 22 ∷ 22 ∷ 22 ∷ 22 ∷ 22 ∷ 22 ∷ 22 ∷ 22 ∷ 22 ∷ 22 ∷ 22 ∷ 22 ∷ 22 ∷ 22 ∷ 22 ∷ 22 ∷ 22 ∷ 22 ∷ 22 ∷ 22 ∷ 22 ∷ 22 ∷ 22 ∷ 22 ∷ 22 ∷ 22 ∷ 22 ∷ 22 ∷ 22 ∷ 22 ∷ 22 ∷ 22 ∷ 22 ∷ 22 ∷ 22 ∷ 22 ∷ 22 ∷ 22 ∷ 22 ∷ 22 ∷ 22 ∷ 22 ∷ 22 ∷ 22 ∷ 22 ∷ 22 ∷ 22 ∷ 22 ∷ 22 ∷ 22 ∷ 22 ∷ 22 ∷ 22 ∷ 22 ∷ 22 ∷ 22 ∷ 22 ∷ 22 ∷ 22 ∷ 22 ∷ 22 ∷ 22 ∷ 22 ∷ 22 ∷ 22 ∷ 22 ∷ 22 ∷ 22 ∷ 22 ∷ 22 ∷ 22 ∷ 22 ∷ 22 ∷ 22 ∷ 22 ∷ 22 ∷ 22 ∷ 22 ∷ 22 ∷ 22 ∷ 22 ∷ 22 ∷ 22 ∷ 22 ∷ 22 ∷ 22 ∷ 22 ∷ 22 ∷ 22 ∷ 22 ∷ 22 ∷ 22 ∷ 22 ∷ 22 ∷ 22 ∷ 22 ∷ 22 ∷ 22 ∷ 22 ∷ 22 ∷ 22 ∷ 22 ∷ 22 ∷ 22 ∷ 22 ∷ 22 ∷ 22 ∷ 22 ∷ 22 ∷ 22 ∷ 22 ∷ 22 ∷ 22 ∷ 22 ∷ 22 ∷ 22 ∷ 22 ∷ 22 ∷ 22 ∷ 22 ∷ 22 ∷ 22 ∷ 22 ∷ 22 ∷ 22 ∷ 22 ∷ 22 ∷ 22 ∷ 22 ∷ 22 ∷ 22 ∷ 22 ∷ 22 ∷ 22 ∷ 22 ∷ 22 ∷ 22 ∷ 22 ∷ 22 ∷ 22 ∷ 22 ∷ 22 ∷ 22 ∷ 22 ∷ 22 ∷ 22 ∷ 22 ∷ 22 ∷ 22 ∷ 22 ∷ 22 ∷ 22 ∷ 22 ∷ 22 ∷ 22 ∷ 22 ∷ 22 ∷ 22 ∷ 22 ∷ 22 ∷ 22 ∷ 22 ∷ 22 ∷ 22 ∷ 22 ∷ 22 ∷ 22 ∷ 22 ∷ 22 ∷ 22 ∷ 22 ∷ 22 ∷ 22 ∷ 22 ∷ 22 ∷ 22 ∷ 22 ∷ 22 ∷ 22 ∷ 22 ∷ 22 ∷ 22 ∷ 22 ∷ 22 ∷ 22 ∷ 22 ∷ 22 ∷ 22 ∷ []))) None true []
    ∷ line (Input (Up 14 Mux 0 0 (codes "d"))) None true []
    ∷ line (Input (Up 15 Hub 0 0 (codes "d"))) None true []
    ∷ line (Input (Up 16 Engine 1534990257062 0 (codes "conn-16"))) None true []
    ∷ line (Input (In 13 1534990257062 6894552328565138254 drawn_28_m1)) (Some (Submit (submission (codes "t3") (codes "apply_request") (codes "s") (codes "u") no_dependency no_dependency [] 51 1))) true []
    ∷ decision (Hand (codes "t3") 0) (Pass 4 drawn_28_m1 ∷ [])
    ∷ line (Input (In 15 1534990257062 6769063793883388716 drawn_28_m2)) (Some (Ask Connection)) false (Made 15 1534990257062 (codes "hub-1-11") (codes "connection_reply") (codes "{\"msg_id\":\"q4\",\"msg_type\":\"connection_request\"}") (codes "{\"status\":\"ok\",\"engines\":{\"0\":\"e5\"}}") [] ∷ [])
    ∷ line (Input (In 4 1534990257062 0 drawn_28_m3)) (Some (Reply (codes "t3") (codes "r5") false false)) true []
    ∷ decision (Hand (codes "t3") 0) (Pass 4 drawn_28_m1 ∷ [])
    ∷ line (Input (In 16 1534990257062 4237683838440589142 drawn_28_m4)) (Some (Pong 0)) false []
    ∷ line (Input (In 14 1534990257062 8616566339559157496 drawn_28_m5)) (Some (Direct (submission (codes "d7") (codes "execute_request") [] [] no_dependency no_dependency [] 0 0))) true []
    ∷ decision (Hand (codes "d7") 0) (Pass 4 drawn_28_m6 ∷ [])
    ∷ line (Input (In 15 1534990257062 10857211151533933639 drawn_28_m7)) (Some (Ask (Queue (1 ∷ 0 ∷ 1 ∷ []) true))) false (Made 15 1534990257062 (codes "hub-1-17") (codes "queue_reply") (codes "{\"msg_id\":\"q8\",\"msg_type\":\"queue_request\"}") (codes "{\"status\":\"error\",\"ename\":\"NoSuchEngine\",\"evalue\":\"1\",\"traceback\":[],\"ids\":[]}") [] ∷ [])
    ∷ line (Input (In 4 1534990257062 4613655412651623998 drawn_28_m8)) (Some (Reply (codes "d7") (codes "r9") true false)) true []
    ∷ decision (Settle (codes "d7") Completed ByReply) (Pass 14 drawn_28_m8 ∷ [])
    ∷ line (Input (In 5 1534990257062 13981253817928637239 drawn_28_m9)) (Some (Submit (submission (codes "t10") (codes "execute_request") (codes "s") (codes "u") no_dependency no_dependency ((codes "e1") ∷ []) 0 0))) true []
    ∷ decision (Settle (codes "t10") Failed ImpossibleDependency) (Pass 5 drawn_28_m10 ∷ [])
    ∷ line (Input (In 13 1534990257062 0 drawn_28_m11)) (Some (Submit (submission (codes "t11") (codes "execute_request") (codes "s") (codes "u") no_dependency no_dependency [] 0 0))) true []
    ∷ decision (Hand (codes "t11") 0) (Pass 4 drawn_28_m11 ∷ [])
    ∷ line (Input (In 14 1534990257062 16687099540628946579 drawn_28_m12)) (Some (Direct (submission (codes "d13") (codes "execute_request") [] [] no_dependency no_dependency [] 0 0))) false (Made 14 1534990257062 (codes "hub-1-24") (codes "submit_refused") (codes "{\"msg_id\":\"d13\",\"msg_type\":\"execute_request\"}") (codes "{\"status\":\"error\",\"ename\":\"NoSuchEngine\",\"evalue\":\"6e6f626f6479\",\"traceback\":[],\"ids\":[]}") [] ∷ [])
    ∷ line (Input (In 5 1534990257062 13883527558679737766 drawn_28_m13)) (Some (Submit (submission (codes "t14") (codes "apply_request") (codes "s") (codes "u") no_dependency (dep ((codes "t10") ∷ []) true true false) [] 5 0))) true []
    ∷ decision (Settle (codes "t14") Failed ImpossibleDependency) (Pass 5 drawn_28_m14 ∷ [])
    ∷ line (Input (In 14 1534990257062 12160562168536450095 drawn_28_m5)) (Some (Direct (submission (codes "d7") (codes "execute_request") [] [] no_dependency no_dependency [] 0 0))) false (Pass 14 drawn_28_m8 ∷ [])
    ∷ line (Input (In 4 1534990257562 0 drawn_28_m15)) (Some (Reply (codes "t3") (codes "r12") false false)) true []
    ∷ decision (Settle (codes "t3") Failed ByReply) (Pass 13 drawn_28_m15 ∷ [])
    ∷ line (Input (In 4 1534990257562 0 drawn_28_m16)) (Some (Reply (codes "t11") (codes "r15") true false)) true []
    ∷ decision (Settle (codes "t11") Completed ByReply) (Pass 13 drawn_28_m16 ∷ [])
    ∷ line (Input (In 4 1534990257562 0 drawn_28_m17)) (Some (Reply (codes "t3") (codes "r16") false true)) false []
    ∷ line (Input (In 13 1534990257562 40713099741855005 drawn_28_m11)) (Some (Submit (submission (codes "t11") (codes "execute_request") (codes "s") (codes "u") no_dependency no_dependency [] 0 0))) false (Pass 13 drawn_28_m16 ∷ [])
    ∷ []

pub drawn_28_is_told : IsTold drawn_28
unfolding digits escape_byte reserved_front next_word answer_id beat_id beat_request outcome_id resubmit_id header_text reply_type submit_refused empty_object ok_content join_content beat_content error_content outcome_content resubmit_content connection_content history_content queue_member queue_content settled_member result_content engine_lost_text date_of day_text time_text date_digits civil_date from_year from_month encode_with serde_json_on_literals is_utf8 chars event_of read_header is_request is_reply is_leave read_submit whole_timeouts ends_in_name is_db request_of read_content read_task read_declined read_status
drawn_28_is_told = record { goes = refl; reads = refl; rests = refl }

pub drawn_28_legal : Legal (goes_on [] drawn_28)
drawn_28_legal = told_legal drawn_28 drawn_28_is_told

abbrev drawn_29_m0 : Message
drawn_29_m0 = message [] (codes "{\"msg_id\":\"j1\",\"msg_type\":\"registration_request\"}") (codes "{}") (codes "{}") (codes "{\"uuid\":\"e2\"}") []

abbrev drawn_29_m1 : Message
drawn_29_m1 = message [] (codes "{\"msg_id\":\"j2\",\"msg_type\":\"registration_request\"}") (codes "{}") (codes "{}") (codes "{\"uuid\":\"e1\"}") []

abbrev drawn_29_m2 : Message
drawn_29_m2 = message (codes "e1") (codes "{\"msg_id\":\"d6\",\"msg_type\":\"execute_request\"}") (codes "{}") (codes "{}") (codes "{\"code\":\"1\"}") []

abbrev drawn_29_m3 : Message
drawn_29_m3 = message [] (codes "{\"msg_id\":\"d6\",\"msg_type\":\"execute_request\"}") (codes "{}") (codes "{}") (codes "{\"code\":\"1\"}") []

abbrev drawn_29_m4 : Message
drawn_29_m4 = message [] (codes "{\"msg_id\":\"t3\",\"msg_type\":\"execute_request\",\"session\":\"s\",\"username\":\"u\"}") (codes "{}") (codes "{\"timeout\": 44.0, \"retries\": 1}") (codes "{\"code\":\"7+0\"}") []

abbrev drawn_29_m5 : Message
drawn_29_m5 = message [] (codes "{\"msg_id\":\"t9\",\"msg_type\":\"execute_request\",\"session\":\"t9\"}") (codes "{}") (123 ∷ 34 ∷ 120 ∷ 34 ∷ 58 ∷ 9 ∷ 13 ∷ 10 ∷ 32 ∷ 110 ∷ 117 ∷ 108 ∷ 108 ∷ 32 ∷ 125 ∷ []) (codes "{}") []

abbrev drawn_29_m6 : Message
drawn_29_m6 = message [] (codes "{\"msg_id\":\"r7\",\"msg_type\":\"execute_reply\"}") (codes "{\"msg_id\":\"d6\",\"x\":1}") (codes "{}") (codes "{\"status\":\"abort\",\"result\":\"42\"}") []

abbrev drawn_29_m7 : Message
drawn_29_m7 = message [] (codes "{\"msg_id\":\"r12\",\"msg_type\":\"execute_reply\"}") (codes "{\"msg_id\":\"t3\",\"x\":1}") (codes "{\"dependencies_met\":true}") (codes "{\"status\":\"ok\",\"result\":\"42\"}") ((codes "b") ∷ (codes "b") ∷ (codes "b") ∷ (codes "b") ∷ (codes "b") ∷ (codes "b") ∷ (codes "b") ∷ (codes "b") ∷ (codes "b") ∷ (codes "b") ∷ (codes "b") ∷ (codes "b") ∷ (codes "b") ∷ (codes "b") ∷ (codes "b") ∷ (codes "b") ∷ (codes "b") ∷ (codes "b") ∷ (codes "b") ∷ (codes "b") ∷ (codes "b") ∷ (codes "b") ∷ (codes "b") ∷ (codes "b") ∷ (codes "b") ∷ (codes "b") ∷ (codes "b") ∷ (codes "b") ∷ (codes "b") ∷ (codes "b") ∷ (codes "b") ∷ (codes "b") ∷ (codes "b") ∷ (codes "b") ∷ (codes "b") ∷ (codes "b") ∷ (codes "b") ∷ (codes "b") ∷ (codes "b") ∷ (codes "b") ∷ (codes "b") ∷ (codes "b") ∷ (codes "b") ∷ (codes "b") ∷ (codes "b") ∷ (codes "b") ∷ (codes "b") ∷ (codes "b") ∷ (codes "b") ∷ (codes "b") ∷ (codes "b") ∷ (codes "b") ∷ (codes "b") ∷ (codes "b") ∷ (codes "b") ∷ (codes "b") ∷ (codes "b") ∷ (codes "b") ∷ [])

abbrev drawn_29_m8 : Message
drawn_29_m8 = message (codes "e1") (codes "{\"msg_id\":\"d14\",\"msg_type\":\"execute_request\"}") (codes "{}") (codes "{}") (codes "{\"code\":\"1\"}") []

abbrev drawn_29_m9 : Message
drawn_29_m9 = message [] (codes "{\"msg_id\":\"d14\",\"msg_type\":\"execute_request\"}") (codes "{}") (codes "{}") (codes "{\"code\":\"1\"}") []

abbrev drawn_29_m10 : Message
drawn_29_m10 = message [] (codes "{\"msg_id\":\"p3\",\"msg_type\":\"beat_reply\"}") (codes "{}") (codes "{}") (codes "{\"beat\":0}") []

abbrev drawn_29_m11 : Message
drawn_29_m11 = message [] (codes "{\"msg_id\":\"q4\",\"msg_type\":\"purge_request\"}") (codes "{}") (codes "{}") (codes "{\"msg_ids\":[\"d14\",\"d14\",\"d6\",\"d14\",\"t3\"]}") []

abbrev drawn_29_m12 : Message
drawn_29_m12 = message [] (codes "{\"msg_id\":\"q5\",\"msg_type\":\"purge_request\"}") (codes "{}") (codes "{}") (codes "{\"msg_ids\":[\"d14\",\"t3\"],\"engine_ids\":false}") []

abbrev drawn_29_m13 : Message
drawn_29_m13 = message [] (codes "{\"msg_id\":\"t7\",\"msg_type\":\"apply_request\",\"session\":\"s\",\"username\":\"u\"}") (codes "{}") (codes "{\"after\":{\"dependencies\":[]},\"targets\":[\"e0\"],\"retries\":1}") (codes "{\"code\":\"8+8\"}") []

abbrev drawn_29_m14 : Message
drawn_29_m14 = message [] (codes "{\"msg_id\":\"out-5\",\"session\":\"controller\",\"username\":\"controller\",\"date\":\"1986-09-21T19:19:47.286Z\",\"msg_type\":\"apply_reply\",\"version\":\"5.3\"}") (codes "{\"msg_id\":\"t7\",\"msg_type\":\"apply_request\",\"session\":\"s\",\"username\":\"u\"}") (codes "{}") (codes "{\"status\":\"error\",\"ename\":\"ImpossibleDependency\",\"evalue\":\"the dependencies of this task cannot be met\",\"traceback\":[]}") []

-- 33 entries, 2 openings
abbrev pub drawn_29 : List Line
drawn_29 =
    line (Input (Open 0 PlainRandom 2 3)) None true []
    ∷ line (Input (Up 1 Engine 0 0 (codes "d"))) None true []
    ∷ line (Input (In 1 0 0 drawn_29_m0)) (Some (Join (codes "e2"))) true (Made 1 0 (codes "hub-1-2") (codes "registration_reply") (codes "{\"msg_id\":\"j1\",\"msg_type\":\"registration_request\"}") (codes "{\"status\":\"ok\",\"id\":0}") [] ∷ [])
    ∷ line (Input (Up 2 Task 0 0 (codes "x2"))) None true []
    ∷ line (Input (Up 3 Engine 0 0 (codes "x3"))) None true []
    ∷ line (Input (In 3 0 0 drawn_29_m1)) (Some (Join (codes "e1"))) true (Made 3 0 (codes "hub-1-5") (codes "registration_reply") (codes "{\"msg_id\":\"j2\",\"msg_type\":\"registration_request\"}") (codes "{\"status\":\"ok\",\"id\":1}") [] ∷ [])
    ∷ line (Input (Up 4 Task 0 0 (codes "conn-4"))) None true []
    ∷ line (Input (Up 5 Mux 0 0 (codes "d"))) None true []
    ∷ line (Input (Up 6 Hub 0 0 (codes "d"))) None true []
    ∷ line (Input (In 5 293398410838 5113538007281545570 drawn_29_m2)) (Some (Direct (submission (codes "d6") (codes "execute_request") [] [] no_dependency no_dependency [] 0 0))) true []
    ∷ decision (Hand (codes "d6") 1) (Pass 3 drawn_29_m3 ∷ [])
    ∷ line (Input (In 2 293398410839 521092148779359550 drawn_29_m4)) (Some (Submit (submission (codes "t3") (codes "execute_request") (codes "s") (codes "u") no_dependency no_dependency [] 44 1))) true []
    ∷ decision (Hand (codes "t3") 0) (Pass 1 drawn_29_m4 ∷ [])
    ∷ line (Input (In 2 293398410839 521092148779359550 drawn_29_m5)) (Some (Submit (submission (codes "t9") (codes "execute_request") (codes "t9") [] no_dependency no_dependency [] 0 0))) true []
    ∷ decision (Hand (codes "t9") 1) (Pass 3 drawn_29_m5 ∷ [])
    ∷ line (Input (In 3 293398410839 0 drawn_29_m6)) (Some (Reply (codes "d6") (codes "r7") false false)) true []
    ∷ decision (Settle (codes "d6") Failed ByReply) (Pass 5 drawn_29_m6 ∷ [])
    ∷ line (Input (In 1 293398413839 802098320282034736 drawn_29_m7)) (Some (Reply (codes "t3") (codes "r12") true false)) true []
    ∷ decision (Settle (codes "t3") Completed ByReply) (Pass 2 drawn_29_m7 ∷ [])
    ∷ line (Input (In 5 293398414339 3094576072806326567 drawn_29_m8)) (Some (Direct (submission (codes "d14") (codes "execute_request") [] [] no_dependency no_dependency [] 0 0))) true []
    ∷ decision (Hand (codes "d14") 1) (Pass 3 drawn_29_m9 ∷ [])
    ∷ line (Input (Open 0 LeastLoad 1 3)) None true []
    ∷ decision (Settle (codes "t9") Failed EngineError) []
    ∷ decision (Settle (codes "d14") Failed EngineError) []
    ∷ line (Input (Up 4 Engine 0 0 (202 ∷ 202 ∷ 202 ∷ 202 ∷ 202 ∷ 202 ∷ 202 ∷ 202 ∷ 202 ∷ 202 ∷ 202 ∷ 202 ∷ 202 ∷ 202 ∷ 202 ∷ 202 ∷ 202 ∷ 202 ∷ 202 ∷ 202 ∷ 202 ∷ 202 ∷ 202 ∷ 202 ∷ 202 ∷ 202 ∷ 202 ∷ 202 ∷ 202 ∷ 202 ∷ 202 ∷ 202 ∷ 202 ∷ 202 ∷ 202 ∷ 202 ∷ 202 ∷ 202 ∷ 202 ∷ 202 ∷ 202 ∷ 202 ∷ 202 ∷ 202 ∷ 202 ∷ 202 ∷ 202 ∷ 202 ∷ 202 ∷ 202 ∷ 202 ∷ 202 ∷ 202 ∷ 202 ∷ 202 ∷ 202 ∷ 202 ∷ 202 ∷ 202 ∷ 202 ∷ 202 ∷ 202 ∷ 202 ∷ 202 ∷ 202 ∷ 202 ∷ 202 ∷ 202 ∷ 202 ∷ 202 ∷ 202 ∷ 202 ∷ 202 ∷ 202 ∷ 202 ∷ 202 ∷ 202 ∷ 202 ∷ 202 ∷ 202 ∷ 202 ∷ 202 ∷ 202 ∷ 202 ∷ 202 ∷ 202 ∷ 202 ∷ 202 ∷ 202 ∷ 202 ∷ 202 ∷ 202 ∷ 202 ∷ 202 ∷ 202 ∷ 202 ∷ 202 ∷ 202 ∷ 202 ∷ 202 ∷ 202 ∷ 202 ∷ 202 ∷ 202 ∷ 202 ∷ 202 ∷ 202 ∷ 202 ∷ 202 ∷ 202 ∷ 202 ∷ 202 ∷ 202 ∷ 202 ∷ 202 ∷ 202 ∷ 202 ∷ 202 ∷ 202 ∷ 202 ∷ 202 ∷ 202 ∷ 202 ∷ 202 ∷ 202 ∷ 202 ∷ 202 ∷ 202 ∷ 202 ∷ 202 ∷ 202 ∷ 202 ∷ 202 ∷ 202 ∷ 202 ∷ 202 ∷ 202 ∷ 202 ∷ 202 ∷ 202 ∷ 202 ∷ 202 ∷ 202 ∷ 202 ∷ 202 ∷ 202 ∷ 202 ∷ 202 ∷ 202 ∷ 202 ∷ 202 ∷ 202 ∷ 202 ∷ 202 ∷ 202 ∷ 202 ∷ 202 ∷ 202 ∷ 202 ∷ 202 ∷ 202 ∷ 202 ∷ 202 ∷ 202 ∷ 202 ∷ 202 ∷ 202 ∷ 202 ∷ 202 ∷ 202 ∷ 202 ∷ 202 ∷ 202 ∷ 202 ∷ 202 ∷ 202 ∷ 202 ∷ 202 ∷ 202 ∷ 202 ∷ 202 ∷ 202 ∷ 202 ∷ 202 ∷ 202 ∷ 202 ∷ 202 ∷ 202 ∷ 202 ∷ 202 ∷ 202 ∷ 202 ∷ 202 ∷ 202 ∷ 202 ∷ 202 ∷ 202 ∷ 202 ∷ 202 ∷ 202 ∷ 202 ∷ 202 ∷ 202 ∷ 202 ∷ 202 ∷ 202 ∷ 202 ∷ 202 ∷ 202 ∷ 202 ∷ 202 ∷ 202 ∷ 202 ∷ 202 ∷ 202 ∷ 202 ∷ 202 ∷ 202 ∷ 202 ∷ 202 ∷ 202 ∷ 202 ∷ 202 ∷ 202 ∷ 202 ∷ 202 ∷ 202 ∷ 202 ∷ 202 ∷ 202 ∷ 202 ∷ 202 ∷ 202 ∷ 202 ∷ 202 ∷ 202 ∷ 202 ∷ 202 ∷ 202 ∷ 202 ∷ 202 ∷ 202 ∷ 202 ∷ 202 ∷ 202 ∷ 202 ∷ 202 ∷ 202 ∷ 202 ∷ 202 ∷ 202 ∷ 202 ∷ 202 ∷ 202 ∷ 202 ∷ []))) None true []
    ∷ line (Input (Up 11 Task 0 0 (codes "qqqqqqqqqqqqqqqqqqqqqqqqqqqqqqqqqqqqqqqqqqqqqqqqqqqqqqqqqqqqqqqqqqqqqqqqqqqqqqqqqqqqqqqqqqqqqqqqqqqqqqqqqqqqqqqqqqqqqqqqqqqqqqqqqqqqqqqqqqqqqqqqqqqqqqqqqqqqqqqqqqqqqqqqqqqqqqqqqqqqqqqqqqqqqqqqqqqqqqqqqqqqqqqqqqqqqqqqqqqqqqqqqqqqqqqqqqqqqqqqqqqqqqqqqqqqqqq"))) None true []
    ∷ line (Input (Up 12 Mux 0 0 (235 ∷ []))) None true []
    ∷ line (Input (In 4 527714321285 0 drawn_29_m10)) (Some (Pong 0)) false []
    ∷ line (Input (Up 19 Hub 527714321286 2567820468531551805 (codes "conn-19"))) None true []
    ∷ line (Input (In 19 527714321286 2567820468531551805 drawn_29_m11)) (Some (Purge false ((codes "d14") ∷ (codes "d14") ∷ (codes "d6") ∷ (codes "d14") ∷ (codes "t3") ∷ []))) true (Made 19 527714321286 (codes "hub-2-8") (codes "purge_reply") (codes "{\"msg_id\":\"q4\",\"msg_type\":\"purge_request\"}") (codes "{\"status\":\"ok\"}") [] ∷ [])
    ∷ line (Input (In 19 527714324286 0 drawn_29_m12)) (Some (Ask (Bad (codes "engine_ids")))) false (Made 19 527714324286 (codes "hub-2-9") (codes "purge_reply") (codes "{\"msg_id\":\"q5\",\"msg_type\":\"purge_request\"}") (codes "{\"status\":\"error\",\"ename\":\"BadContent\",\"evalue\":\"engine_ids\",\"traceback\":[],\"ids\":[]}") [] ∷ [])
    ∷ line (Input (In 11 527714387286 0 drawn_29_m13)) (Some (Submit (submission (codes "t7") (codes "apply_request") (codes "s") (codes "u") no_dependency no_dependency ((codes "e0") ∷ []) 0 1))) true []
    ∷ decision (Settle (codes "t7") Failed ImpossibleDependency) (Pass 11 drawn_29_m14 ∷ [])
    ∷ []

pub drawn_29_is_told : IsTold drawn_29
unfolding digits escape_byte reserved_front next_word answer_id beat_id beat_request outcome_id resubmit_id header_text reply_type submit_refused empty_object ok_content join_content beat_content error_content outcome_content resubmit_content connection_content history_content queue_member queue_content settled_member result_content engine_lost_text date_of day_text time_text date_digits civil_date from_year from_month encode_with serde_json_on_literals is_utf8 chars event_of read_header is_request is_reply is_leave read_submit whole_timeouts ends_in_name is_db request_of read_content read_task read_declined read_status
drawn_29_is_told = record { goes = refl; reads = refl; rests = refl }

pub drawn_29_legal : Legal (goes_on [] drawn_29)
drawn_29_legal = told_legal drawn_29 drawn_29_is_told

abbrev drawn_30_m0 : Message
drawn_30_m0 = message [] (codes "{\"msg_id\":\"j1\",\"msg_type\":\"registration_request\"}") (codes "{}") (codes "{}") (codes "{\"uuid\":\"e4\"}") []

abbrev drawn_30_m1 : Message
drawn_30_m1 = message [] (codes "{\"msg_id\":\"j2\",\"msg_type\":\"registration_request\"}") (codes "{}") (codes "{}") (codes "{\"uuid\":\"e5\"}") []

abbrev drawn_30_m2 : Message
drawn_30_m2 = message [] (codes "{\"msg_id\":\"t4\",\"msg_type\":\"apply_request\",\"session\":\"s\",\"username\":\"u\"}") (codes "{}") (codes "{\"after\":{\"dependencies\":[],\"success\":false},\"retries\":1}") (codes "{\"code\":\"5+4\"}") []

abbrev drawn_30_m3 : Message
drawn_30_m3 = message [] (codes "{\"msg_id\":\"t5\",\"msg_type\":\"execute_request\",\"session\":\"s\",\"username\":\"u\"}") (codes "{}") (codes "{\"follow\":[]}") (codes "{\"code\":\"2+5\"}") []

abbrev drawn_30_m4 : Message
drawn_30_m4 = message [] (codes "{\"msg_id\":\"r7\",\"msg_type\":\"apply_reply\"}") (codes "{\"msg_id\":\"t5\",\"x\":1}") (codes "{\"started\":\"x\"}") (codes "{\"status\":\"ok\",\"result\":\"42\"}") []

abbrev drawn_30_m5 : Message
drawn_30_m5 = message [] (codes "{\"msg_id\":\"p8\",\"msg_type\":\"beat_reply\"}") (codes "{}") (codes "{}") (codes "{\"beat\":0}") []

abbrev drawn_30_m6 : Message
drawn_30_m6 = message [] (codes "{\"msg_id\":\"t9\",\"msg_type\":\"execute_request\",\"session\":\"s\",\"username\":\"u\"}") (codes "{}") (codes "{}") (codes "{\"code\":\"4+3\"}") ((codes "buf") ∷ (codes "buf") ∷ [])

abbrev drawn_30_m7 : Message
drawn_30_m7 = message (codes "e5") (codes "{\"msg_id\":\"d10\",\"msg_type\":\"execute_request\"}") (codes "{}") (codes "{}") (codes "{\"code\":\"1\"}") []

abbrev drawn_30_m8 : Message
drawn_30_m8 = message [] (codes "{\"msg_id\":\"d10\",\"msg_type\":\"execute_request\"}") (codes "{}") (codes "{}") (codes "{\"code\":\"1\"}") []

abbrev drawn_30_m9 : Message
drawn_30_m9 = message [] (codes "{\"msg_id\":\"r11\",\"msg_type\":\"apply_reply\"}") (codes "{\"msg_id\":\"d10\",\"x\":1}") (codes "{}") (codes "{\"status\":\"abort\",\"result\":\"42\"}") ((codes "b") ∷ (codes "b") ∷ (codes "b") ∷ [])

abbrev drawn_30_m10 : Message
drawn_30_m10 = message [] (codes "{\"msg_id\":\"p13\",\"msg_type\":\"beat_reply\"}") (codes "{}") (codes "{}") (codes "{\"beat\":0}") []

abbrev drawn_30_m11 : Message
drawn_30_m11 = message [] (codes "{\"msg_id\":\"r14\",\"msg_type\":\"execute_reply\"}") (codes "{\"msg_id\":\"t9\",\"x\":1}") (codes "{\"dependencies_met\":true}") (codes "{\"status\":\"ok\",\"result\":\"42\"}") []

abbrev drawn_30_m12 : Message
drawn_30_m12 = message [] (codes "{\"msg_id\":\"j15\",\"msg_type\":\"registration_request\"}") (codes "{}") (codes "{}") (codes "{\"uuid\":\"engine \\u00e9\"}") []

abbrev drawn_30_m13 : Message
drawn_30_m13 = message [] (codes "{\"msg_id\":\"r16\",\"msg_type\":\"execute_reply\"}") (codes "{\"msg_id\":\"t4\",\"x\":1}") (codes "{\"dependencies_met\":false}") (codes "{\"status\":\"ok\",\"result\":\"42\"}") ((codes "b") ∷ (codes "b") ∷ (codes "b") ∷ [])

abbrev drawn_30_m14 : Message
drawn_30_m14 = message [] (codes "{\"msg_id\":\"r17\",\"msg_type\":\"apply_reply\"}") (codes "{\"msg_id\":\"t4\",\"x\":1}") (codes "{\"started\":\"x\"}") (codes "{\"status\":\"ok\",\"result\":\"42\"}") []

abbrev drawn_30_m15 : Message
drawn_30_m15 = message [] (codes "{\"msg_id\":\"t18\",\"msg_type\":\"apply_request\",\"session\":\"s\",\"username\":\"u\"}") (codes "{}") (codes "{\"after\":{\"dependencies\":[\"t5\"],\"all\":false,\"success\":false,\"failure\":true}}") (codes "{\"code\":\"7+0\"}") ((codes "buf") ∷ (codes "buf") ∷ [])

abbrev drawn_30_m16 : Message
drawn_30_m16 = message [] (codes "{\"msg_id\":\"out-5\",\"session\":\"controller\",\"username\":\"controller\",\"date\":\"2030-01-13T10:02:55.110Z\",\"msg_type\":\"apply_reply\",\"version\":\"5.3\"}") (codes "{\"msg_id\":\"t18\",\"msg_type\":\"apply_request\",\"session\":\"s\",\"username\":\"u\"}") (codes "{}") (codes "{\"status\":\"error\",\"ename\":\"ImpossibleDependency\",\"evalue\":\"the dependencies of this task cannot be met\",\"traceback\":[]}") []

abbrev drawn_30_m17 : Message
drawn_30_m17 = message [] (codes "{\"msg_id\":\"r2\",\"msg_type\":\"execute_reply\"}") (codes "{\"msg_id\":\"t4\"}") (codes "{}") (codes "{\"status\":\"ok\"}") []

-- 37 entries, 1 opening
abbrev pub drawn_30 : List Line
drawn_30 =
    line (Input (Open 0 PlainRandom 1 1)) None true []
    ∷ line (Input (Up 2 Engine 0 0 (codes "x2"))) None true []
    ∷ line (Input (In 2 0 0 drawn_30_m0)) (Some (Join (codes "e4"))) true (Made 2 0 (codes "hub-1-2") (codes "registration_reply") (codes "{\"msg_id\":\"j1\",\"msg_type\":\"registration_request\"}") (codes "{\"status\":\"ok\",\"id\":0}") [] ∷ [])
    ∷ line (Input (Up 9 Task 0 0 (codes "c"))) None true []
    ∷ line (Input (Up 10 Engine 0 0 (codes "conn-10"))) None true []
    ∷ line (Input (In 10 0 0 drawn_30_m1)) (Some (Join (codes "e5"))) true (Made 10 0 (codes "hub-1-5") (codes "registration_reply") (codes "{\"msg_id\":\"j2\",\"msg_type\":\"registration_request\"}") (codes "{\"status\":\"ok\",\"id\":1}") [] ∷ [])
    ∷ line (Input (Up 17 Task 0 0 (codes "c"))) None true []
    ∷ line (Input (Up 24 Mux 0 0 (230 ∷ []))) None true []
    ∷ line (Input (In 9 1894528902609 11165775584349121750 drawn_30_m2)) (Some (Submit (submission (codes "t4") (codes "apply_request") (codes "s") (codes "u") (dep [] true false false) no_dependency [] 0 1))) true []
    ∷ decision (Hand (codes "t4") 0) (Pass 2 drawn_30_m2 ∷ [])
    ∷ line (Input (In 9 1894528905609 11238692702380169325 drawn_30_m3)) (Some (Submit (submission (codes "t5") (codes "execute_request") (codes "s") (codes "u") no_dependency no_dependency [] 0 0))) true []
    ∷ decision (Hand (codes "t5") 1) (Pass 10 drawn_30_m3 ∷ [])
    ∷ line (Input (In 10 1894528968609 0 drawn_30_m4)) (Some (Reply (codes "t5") (codes "r7") true false)) true []
    ∷ decision (Settle (codes "t5") Completed ByReply) (Pass 17 drawn_30_m4 ∷ [])
    ∷ line (Input (In 10 1894528968609 0 drawn_30_m5)) (Some (Pong 0)) false []
    ∷ line (Input (In 9 1894528968610 0 drawn_30_m6)) (Some (Submit (submission (codes "t9") (codes "execute_request") (codes "s") (codes "u") no_dependency no_dependency [] 0 0))) true []
    ∷ decision (Hand (codes "t9") 1) (Pass 10 drawn_30_m6 ∷ [])
    ∷ line (Input (In 24 1894528969110 0 drawn_30_m7)) (Some (Direct (submission (codes "d10") (codes "execute_request") [] [] no_dependency no_dependency [] 0 0))) true []
    ∷ decision (Hand (codes "d10") 1) (Pass 10 drawn_30_m8 ∷ [])
    ∷ line (Input (Up 26 Engine 1894528969110 1427108307842612252 (codes "x26"))) None true []
    ∷ line (Input (Up 27 Mux 1894528969110 0 (codes "d"))) None true []
    ∷ line (Input (In 10 1894528969110 14761316606545791714 drawn_30_m9)) (Some (Reply (codes "d10") (codes "r11") false false)) true []
    ∷ decision (Settle (codes "d10") Failed ByReply) (Pass 24 drawn_30_m9 ∷ [])
    ∷ line (Input (In 26 1894528972110 16392055033586151102 drawn_30_m10)) (Some (Pong 0)) false []
    ∷ line (Input (In 10 1894528972110 11341381781368616211 drawn_30_m11)) (Some (Reply (codes "t9") (codes "r14") true false)) true []
    ∷ decision (Settle (codes "t9") Completed ByReply) (Pass 17 drawn_30_m11 ∷ [])
    ∷ line (Input (In 26 1894528975110 0 drawn_30_m12)) (Some (Join (101 ∷ 110 ∷ 103 ∷ 105 ∷ 110 ∷ 101 ∷ 32 ∷ 195 ∷ 169 ∷ []))) true (Made 26 1894528975110 (codes "hub-1-26") (codes "registration_reply") (codes "{\"msg_id\":\"j15\",\"msg_type\":\"registration_request\"}") (codes "{\"status\":\"ok\",\"id\":2}") [] ∷ [])
    ∷ line (Input (Time 1894528975110 0)) None true []
    ∷ line (Input (In 2 1894528975110 0 drawn_30_m13)) (Some (Reply (codes "t4") (codes "r16") true true)) true []
    ∷ decision (Hand (codes "t4") 1) (Pass 10 drawn_30_m2 ∷ [])
    ∷ line (Input (Time 1894528975110 4979007120848232790)) None true []
    ∷ line (Input (In 10 1894528975110 15782219538109257796 drawn_30_m14)) (Some (Reply (codes "t4") (codes "r17") true false)) true []
    ∷ decision (Settle (codes "t4") Completed ByReply) (Pass 17 drawn_30_m14 ∷ [])
    ∷ line (Input (In 17 1894528975110 0 drawn_30_m15)) (Some (Submit (submission (codes "t18") (codes "apply_request") (codes "s") (codes "u") (dep ((codes "t5") ∷ []) false false true) no_dependency [] 0 0))) true []
    ∷ decision (Settle (codes "t18") Failed ImpossibleDependency) (Pass 17 drawn_30_m16 ∷ [])
    ∷ line (Input (Up 28 Engine 1894528975610 1806163792481542121 (codes "conn-28"))) None true []
    ∷ line (Input (In 26 1894528975610 0 drawn_30_m17)) (Some (Reply (codes "t4") (codes "r2") true false)) false []
    ∷ []

pub drawn_30_is_told : IsTold drawn_30
unfolding digits escape_byte reserved_front next_word answer_id beat_id beat_request outcome_id resubmit_id header_text reply_type submit_refused empty_object ok_content join_content beat_content error_content outcome_content resubmit_content connection_content history_content queue_member queue_content settled_member result_content engine_lost_text date_of day_text time_text date_digits civil_date from_year from_month encode_with serde_json_on_literals is_utf8 chars event_of read_header is_request is_reply is_leave read_submit whole_timeouts ends_in_name is_db request_of read_content read_task read_declined read_status
drawn_30_is_told = record { goes = refl; reads = refl; rests = refl }

pub drawn_30_legal : Legal (goes_on [] drawn_30)
drawn_30_legal = told_legal drawn_30 drawn_30_is_told
