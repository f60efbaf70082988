-- Short histories that a second, independent model of the cluster drew at random, with what it says of each entry. Nothing rests on them.
use Rattle.std.proofs.Common.{List, [], ◌∷◌, Some, None, true, false, refl}
use Rattle.std.specs.Prelude.{codes}
use Rattle.std.specs.Fmt.{digits}
use Rattle.std.specs.Str.{is_utf8, chars}
use Rattle.json.specs.Print.{escape_byte}
use Rattle.serde_json.proofs.OnLiterals.{serde_json_on_literals}
use Rattle.hex.specs.Hex.{encode_with}
use Rattle.edges.specs.Date.{date_of, day_text, time_text, digits as date_digits, civil_date, from_year, from_month}
use Rattle.cluster_types.specs.Verdicts.{engine_lost_text}
use Rattle.cluster_types.specs.declared.config.Channel.TheVariants.{Hub, Task, Mux, Engine}
use Rattle.cluster_types.specs.declared.config.Scheme.TheVariants.{Lru, PlainRandom, TwoBin}
use Rattle.cluster_types.specs.declared.verdict.Verdict.TheVariants.{Completed, Failed}
use Rattle.cluster_types.specs.declared.verdict.Cause.TheVariants.{Reply as ByReply, ImpossibleDependency, InvalidDependency, TaskTimeout}
use Rattle.cluster_types.specs.declared.message.Message.{Message}
use Rattle.cluster_types.specs.declared.event.Event.TheVariants.{Submit, Direct, Reply, Join, Leave, Pong, Purge, Resubmit, Ask}
use Rattle.cluster_types.specs.declared.event.Query.TheVariants.{Connection, Queue, Unknown, Bad}
use Rattle.cluster_types.specs.declared.out.Out.TheVariants.{Pass, Made}
use Rattle.cluster_types.specs.declared.entry.Input.TheVariants.{Open, Up, Down, In, Beat, Time}
use Rattle.cluster_types.specs.declared.entry.Entry.TheVariants.{Input, Hand, Settle}
use Rattle.cluster_defs.specs.Event.{event_of, is_db, is_request, is_reply, is_leave}
use Rattle.cluster_defs.specs.Points.{whole_timeouts, ends_in_name}
use Rattle.cluster_defs.specs.Submit.{read_submit}
use Rattle.cluster_defs.specs.Reply.{read_task, read_declined, read_status}
use Rattle.cluster_defs.specs.Hub.{request_of, read_content}
use Rattle.cluster_defs.specs.Header.{read_header}
use Rattle.cluster_defs.specs.Texts.{answer_id, beat_id, beat_request, outcome_id, resubmit_id, header_text, reply_type, submit_refused, empty_object, ok_content, join_content, beat_content, error_content, outcome_content, resubmit_content, connection_content, history_content, queue_member, queue_content, settled_member, result_content}
use Rattle.cluster_defs.specs.Acceptance.{no_dependency, reserved_front}
use Rattle.cluster_types.specs.Chance.{next_word}
use Rattle.cluster_defs.specs.Histories.{Legal}
use Rattle.worked_rows.proofs.Told.{Line, line, decision, message, dep, submission, IsTold, goes_on, told_legal}

abbrev drawn_19_m0 : Message
drawn_19_m0 = message [] (codes "{\"msg_id\":\"j1\",\"msg_type\":\"registration_request\"}") (codes "{}") (codes "{}") (codes "{\"uuid\":\"e0\"}") []

abbrev drawn_19_m1 : Message
drawn_19_m1 = message [] (codes "{\"msg_id\":\"j2\",\"msg_type\":\"registration_request\"}") (codes "{}") (codes "{}") (codes "{\"uuid\":\"e4\"}") []

abbrev drawn_19_m2 : Message
drawn_19_m2 = message [] (codes "{\"msg_id\":\"q6\",\"msg_type\":\"purge_request\"}") (codes "{}") (codes "{}") (codes "{\"msg_ids\":\"all\"}") []

abbrev drawn_19_m3 : Message
drawn_19_m3 = message [] (codes "{\"msg_id\":\"t7\",\"msg_type\":\"execute_request\",\"session\":\"s\",\"username\":\"u\"}") (codes "{}") (codes "{}") (codes "{\"code\":\"8+3\"}") []

abbrev drawn_19_m4 : Message
drawn_19_m4 = message [] (codes "{\"msg_id\":\"r8\",\"msg_type\":\"apply_reply\"}") (codes "{\"msg_id\":\"t7\",\"x\":1}") (codes "{\"started\":\"x\"}") (codes "{\"status\":\"ok\",\"result\":\"42\"}") []

abbrev drawn_19_m5 : Message
drawn_19_m5 = message [] (codes "{\"msg_id\":\"l9\",\"msg_type\":\"unregistration_request\"}") (codes "{}") (codes "{}") (codes "{}") []

abbrev drawn_19_m6 : Message
drawn_19_m6 = message [] (codes "{\"msg_id\":\"t10\",\"msg_type\":\"execute_request\",\"session\":\"s\",\"username\":\"u\"}") (codes "{}") (codes "{\"after\":{\"dependencies\":[\"t7\",\"t7\",\"t7\"],\"all\":false,\"success\":false}}") (codes "{\"code\":\"4+6\"}") []

abbrev drawn_19_m7 : Message
drawn_19_m7 = message [] (codes "{\"msg_id\":\"out-2\",\"session\":\"controller\",\"username\":\"controller\",\"date\":\"1971-02-12T14:49:20.649Z\",\"msg_type\":\"execute_reply\",\"version\":\"5.3\"}") (codes "{\"msg_id\":\"t10\",\"msg_type\":\"execute_request\",\"session\":\"s\",\"username\":\"u\"}") (codes "{}") (codes "{\"status\":\"error\",\"ename\":\"ImpossibleDependency\",\"evalue\":\"the dependencies of this task cannot be met\",\"traceback\":[]}") []

abbrev drawn_19_m8 : Message
drawn_19_m8 = message [] (codes "{\"msg_id\":\"j12\",\"msg_type\":\"registration_request\"}") (codes "{}") (codes "{}") (codes "{\"uuid\":\"e5\"}") []

abbrev drawn_19_m9 : Message
drawn_19_m9 = message [] (codes "{\"msg_id\":\"j1\",\"msg_type\":\"registration_request\"}") (codes "{}") (codes "{}") (codes "{\"uuid\":\"e2\"}") []

abbrev drawn_19_m10 : Message
drawn_19_m10 = message [] (codes "{\"msg_id\":\"p3\",\"msg_type\":\"beat_reply\"}") (codes "{}") (codes "{}") (codes "{\"beat\":0}") []

abbrev drawn_19_m11 : Message
drawn_19_m11 = message [] (codes "{\"msg_id\":\"p4\",\"msg_type\":\"beat_reply\"}") (codes "{}") (codes "{}") (codes "{\"beat\":0}") []

abbrev drawn_19_m12 : Message
drawn_19_m12 = message [] (codes "{\"msg_id\":\"j5\",\"msg_type\":\"registration_request\"}") (codes "{}") (codes "{}") (codes "{\"uuid\":\"e0\"}") []

abbrev drawn_19_m13 : Message
drawn_19_m13 = message [] (codes "{\"msg_id\":\"q6\",\"msg_type\":\"what\"}") (codes "{}") (codes "{}") (codes "{}") []

-- 32 entries, 2 openings
abbrev pub drawn_19 : List Line
drawn_19 =
    line (Input (Open 0 Lru 1 2)) None true []
    ∷ line (Input (Up 2 Engine 0 0 (codes "conn-2"))) None true []
    ∷ line (Input (In 2 0 0 drawn_19_m0)) (Some (Join (codes "e0"))) true (Made 2 0 (codes "hub-1-2") (codes "registration_reply") (codes "{\"msg_id\":\"j1\",\"msg_type\":\"registration_request\"}") (codes "{\"status\":\"ok\",\"id\":0}") [] ∷ [])
    ∷ line (Input (Up 3 Task 0 0 (codes "d"))) None true []
    ∷ line (Input (Up 4 Engine 0 0 (codes "conn-4"))) None true []
    ∷ line (Input (In 4 0 0 drawn_19_m1)) (Some (Join (codes "e4"))) true (Made 4 0 (codes "hub-1-5") (codes "registration_reply") (codes "{\"msg_id\":\"j2\",\"msg_type\":\"registration_request\"}") (codes "{\"status\":\"ok\",\"id\":1}") [] ∷ [])
    ∷ line (Input (Up 5 Task 0 0 (codes "d"))) None true []
    ∷ line (Input (Up 6 Mux 0 0 (codes "c"))) None true []
    ∷ line (Input (Up 7 Hub 0 0 (183 ∷ []))) None true []
    ∷ line (Input (In 7 35218160649 0 drawn_19_m2)) (Some (Purge true [])) true (Made 7 35218160649 (codes "hub-1-9") (codes "purge_reply") (codes "{\"msg_id\":\"q6\",\"msg_type\":\"purge_request\"}") (codes "{\"status\":\"ok\"}") [] ∷ [])
    ∷ line (Input (In 5 35218160649 13879675821611935250 drawn_19_m3)) (Some (Submit (submission (codes "t7") (codes "execute_request") (codes "s") (codes "u") no_dependency no_dependency [] 0 0))) true []
    ∷ decision (Hand (codes "t7") 0) (Pass 2 drawn_19_m3 ∷ [])
    ∷ line (Input (In 2 35218160649 7872233541112063093 drawn_19_m4)) (Some (Reply (codes "t7") (codes "r8") true false)) true []
    ∷ decision (Settle (codes "t7") Completed ByReply) (Pass 5 drawn_19_m4 ∷ [])
    ∷ line (Input (In 4 35218160649 0 drawn_19_m5)) (Some (Leave)) true (Made 4 35218160649 (codes "hub-1-14") (codes "unregistration_reply") (codes "{\"msg_id\":\"l9\",\"msg_type\":\"unregistration_request\"}") (codes "{\"status\":\"ok\"}") [] ∷ [])
    ∷ line (Input (In 3 35218160649 12515319794765936915 drawn_19_m6)) (Some (Submit (submission (codes "t10") (codes "execute_request") (codes "s") (codes "u") (dep ((codes "t7") ∷ []) false false false) no_dependency [] 0 0))) true []
    ∷ decision (Settle (codes "t10") Failed ImpossibleDependency) (Pass 5 drawn_19_m7 ∷ [])
    ∷ line (Input (In 4 35218164149 9291236578517867485 drawn_19_m8)) (Some (Join (codes "e5"))) true (Made 4 35218164149 (codes "hub-1-17") (codes "registration_reply") (codes "{\"msg_id\":\"j12\",\"msg_type\":\"registration_request\"}") (codes "{\"status\":\"ok\",\"id\":2}") [] ∷ [])
    ∷ line (Input (Open 0 TwoBin 2 2)) None true []
    ∷ line (Input (Up 2 Engine 0 0 (codes "conn-2"))) None true []
    ∷ line (Input (In 2 0 0 drawn_19_m9)) (Some (Join (codes "e2"))) true (Made 2 0 (codes "hub-2-2") (codes "registration_reply") (codes "{\"msg_id\":\"j1\",\"msg_type\":\"registration_request\"}") (codes "{\"status\":\"ok\",\"id\":3}") [] ∷ [])
    ∷ line (Input (Up 3 Task 0 0 (codes "d"))) None true []
    ∷ line (Input (Up 10 Engine 0 0 (0 ∷ []))) None true []
    ∷ line (Input (In 10 0 0 drawn_19_m1)) (Some (Join (codes "e4"))) true (Made 10 0 (codes "hub-2-5") (codes "registration_reply") (codes "{\"msg_id\":\"j2\",\"msg_type\":\"registration_request\"}") (codes "{\"status\":\"ok\",\"id\":4}") [] ∷ [])
    ∷ line (Input (Up 17 Task 0 0 (codes "x17"))) None true []
    ∷ line (Input (Up 19 Hub 0 0 (codes "conn-19"))) None true []
    ∷ line (Input (In 10 1602328637088 0 drawn_19_m10)) (Some (Pong 0)) false []
    ∷ line (Input (Up 20 Engine 1602328637088 0 (codes "conn-20"))) None true []
    ∷ line (Input (In 10 1602328697088 14415212936566881314 drawn_19_m11)) (Some (Pong 0)) false []
    ∷ line (Input (In 20 1602328700088 0 drawn_19_m12)) (Some (Join (codes "e0"))) true (Made 20 1602328700088 (codes "hub-2-11") (codes "registration_reply") (codes "{\"msg_id\":\"j5\",\"msg_type\":\"registration_request\"}") (codes "{\"status\":\"ok\",\"id\":5}") [] ∷ [])
    ∷ line (Input (In 19 1602328700588 3010747986217217217 drawn_19_m13)) (Some (Ask Unknown)) false (Made 19 1602328700588 (codes "hub-2-12") (codes "what_reply") (codes "{\"msg_id\":\"q6\",\"msg_type\":\"what\"}") (codes "{\"status\":\"error\",\"ename\":\"UnknownRequest\",\"evalue\":\"what\",\"traceback\":[],\"ids\":[]}") [] ∷ [])
    ∷ line (Input (Up 21 Mux 1602328700588 10519952325027046843 (codes "conn-21"))) None true []
    ∷ []

pub drawn_19_is_told : IsTold drawn_19
unfolding digits escape_byte reserved_front next_word answer_id beat_id beat_request outcome_id resubmit_id header_text reply_type submit_refused empty_object ok_content join_content beat_content error_content outcome_content resubmit_content connection_content history_content queue_member queue_content settled_member result_content engine_lost_text date_of day_text time_text date_digits civil_date from_year from_month encode_with serde_json_on_literals is_utf8 chars event_of read_header is_request is_reply is_leave read_submit whole_timeouts ends_in_name is_db request_of read_content read_task read_declined read_status
drawn_19_is_told = record { goes = refl; reads = refl; rests = refl }

pub drawn_19_legal : Legal (goes_on [] drawn_19)
drawn_19_legal = told_legal drawn_19 drawn_19_is_told

abbrev drawn_20_m0 : Message
drawn_20_m0 = message [] (codes "{\"msg_id\":\"j1\",\"msg_type\":\"registration_request\"}") (codes "{}") (codes "{}") (codes "{\"uuid\":\"e3\"}") []

abbrev drawn_20_m1 : Message
drawn_20_m1 = message [] (codes "{\"msg_id\":\"j2\",\"msg_type\":\"registration_request\"}") (codes "{}") (codes "{}") (codes "{\"uuid\":\"e1\"}") []

abbrev drawn_20_m2 : Message
drawn_20_m2 = message (codes "e1") (codes "{\"msg_id\":\"d3\",\"msg_type\":\"execute_request\"}") (codes "{}") (codes "{}") (codes "{\"code\":\"1\"}") []

abbrev drawn_20_m3 : Message
drawn_20_m3 = message [] (codes "{\"msg_id\":\"d3\",\"msg_type\":\"execute_request\"}") (codes "{}") (codes "{}") (codes "{\"code\":\"1\"}") []

abbrev drawn_20_m4 : Message
drawn_20_m4 = message [] (codes "{\"msg_id\":\"r4\",\"msg_type\":\"apply_reply\"}") (codes "{\"msg_id\":\"d3\",\"x\":1}") (codes "{\"dependencies_met\":false}") (codes "{\"status\":\"error\",\"result\":\"42\"}") []

abbrev drawn_20_m5 : Message
drawn_20_m5 = message [] (codes "{\"msg_id\":\"t6\",\"msg_type\":\"execute_request\",\"session\":\"s\",\"username\":\"u\"}") (codes "{}") (codes "{\"after\":{\"dependencies\":[\"d3\",\"d3\",\"d3\"],\"success\":false,\"failure\":true},\"targets\":[\"e5\",\"e1\"],\"retries\":0}") (codes "{\"code\":\"3+0\"}") []

abbrev drawn_20_m6 : Message
drawn_20_m6 = message [] (codes "{\"msg_id\":\"r7\",\"msg_type\":\"execute_reply\"}") (codes "{\"msg_id\":\"t6\",\"x\":1}") (codes "{\"started\":\"x\"}") (codes "{\"status\":\"aborted\",\"result\":\"42\"}") ((codes "b") ∷ [])

abbrev drawn_20_m7 : Message
drawn_20_m7 = message [] (codes "{\"msg_id\":\"j8\",\"msg_type\":\"registration_request\"}") (codes "{}") (codes "{}") (codes "{\"uuid\":\"e4\"}") []

abbrev drawn_20_m8 : Message
drawn_20_m8 = message [] (codes "{\"msg_id\":\"q9\",\"msg_type\":\"resubmit_request\"}") (codes "{}") (codes "{}") (codes "{\"msg_ids\":[\"t6\",\"d3\"]}") []

abbrev drawn_20_m9 : Message
drawn_20_m9 = message [] (codes "{\"msg_id\":\"resubmit:3\",\"session\":\"s\",\"username\":\"u\",\"date\":\"1992-07-06T00:13:02.265Z\",\"msg_type\":\"execute_request\",\"version\":\"5.3\"}") (codes "{}") (codes "{\"after\":{\"dependencies\":[\"d3\",\"d3\",\"d3\"],\"success\":false,\"failure\":true},\"targets\":[\"e5\",\"e1\"],\"retries\":0}") (codes "{\"code\":\"3+0\"}") []

abbrev drawn_20_m10 : Message
drawn_20_m10 = message [] (codes "{\"msg_id\":\"resubmit:4\",\"session\":\"\",\"username\":\"\",\"date\":\"1992-07-06T00:13:02.265Z\",\"msg_type\":\"execute_request\",\"version\":\"5.3\"}") (codes "{}") (codes "{}") (codes "{\"code\":\"1\"}") []

abbrev drawn_20_m11 : Message
drawn_20_m11 = message [] (codes "{\"msg_id\":\"r10\",\"msg_type\":\"execute_reply\"}") (codes "{\"msg_id\":\"resubmit:3\",\"x\":1}") (codes "{}") (codes "{\"status\":\"aborted\",\"result\":\"42\"}") []

abbrev drawn_20_m12 : Message
drawn_20_m12 = message [] (codes "{\"msg_id\":\"r11\",\"msg_type\":\"apply_reply\"}") (codes "{\"msg_id\":\"resubmit:4\",\"x\":1}") (codes "{\"dependencies_met\":true}") (codes "{\"status\":\"ok\",\"result\":\"42\"}") ((codes "b") ∷ (codes "b") ∷ (codes "b") ∷ [])

abbrev drawn_20_m13 : Message
drawn_20_m13 = message [] (codes "{\"msg_id\":\"q12\",\"msg_type\":\"resubmit_request\"}") (codes "{}") (codes "{}") (codes "{\"msg_ids\":[\"d3\"]}") []

abbrev drawn_20_m14 : Message
drawn_20_m14 = message [] (codes "{\"msg_id\":\"resubmit:5\",\"session\":\"\",\"username\":\"\",\"date\":\"1992-07-06T00:13:05.266Z\",\"msg_type\":\"execute_request\",\"version\":\"5.3\"}") (codes "{}") (codes "{}") (codes "{\"code\":\"1\"}") []

abbrev drawn_20_m15 : Message
drawn_20_m15 = message [] (codes "{\"msg_id\":\"r13\",\"msg_type\":\"apply_reply\"}") (codes "{\"msg_id\":\"resubmit:5\",\"x\":1}") (codes "{\"dependencies_met\":true}") (codes "{\"status\":\"ok\",\"result\":\"42\"}") []

abbrev drawn_20_m16 : Message
drawn_20_m16 = message [] (codes "{\"msg_id\":\"q14\",\"msg_type\":\"queue_request\"}") (codes "{}") (codes "{}") (codes "{\"targets\":[1,0,1],\"verbose\":false}") []

abbrev drawn_20_m17 : Message
drawn_20_m17 = message (codes "e3") (codes "{\"msg_id\":\"d15\",\"msg_type\":\"execute_request\"}") (codes "{}") (codes "{}") (codes "{\"code\":\"1\"}") []

abbrev drawn_20_m18 : Message
drawn_20_m18 = message [] (codes "{\"msg_id\":\"d15\",\"msg_type\":\"execute_request\"}") (codes "{}") (codes "{}") (codes "{\"code\":\"1\"}") []

abbrev drawn_20_m19 : Message
drawn_20_m19 = message [] (codes "{\"msg_id\":\"l16\",\"msg_type\":\"unregistration_request\"}") (codes "{}") (codes "{}") (codes "{}") []

abbrev drawn_20_m20 : Message
drawn_20_m20 = message [] (codes "{\"msg_id\":\"t17\",\"msg_type\":\"apply_request\",\"session\":\"s\",\"username\":\"u\"}") (codes "{}") (codes "{\"targets\":[],\"retries\":1}") (codes "{\"code\":\"8+0\"}") []

abbrev drawn_20_m21 : Message
drawn_20_m21 = message [] (codes "{\"msg_id\":\"p19\",\"msg_type\":\"beat_reply\"}") (codes "{}") (codes "{}") (codes "{\"beat\":1}") []

abbrev drawn_20_m22 : Message
drawn_20_m22 = message [] (codes "{\"msg_id\":\"r20\",\"msg_type\":\"execute_reply\"}") (codes "{\"msg_id\":\"resubmit:5\"}") (codes "{}") (codes "{\"status\":\"ok\"}") []

-- 40 entries, 1 opening
abbrev pub drawn_20 : List Line
drawn_20 =
    line (Input (Open 0 Lru 1 1)) None true []
    ∷ line (Input (Up 1 Engine 0 0 (codes "x1"))) None true []
    ∷ line (Input (In 1 0 0 drawn_20_m0)) (Some (Join (codes "e3"))) true (Made 1 0 (codes "hub-1-2") (codes "registration_reply") (codes "{\"msg_id\":\"j1\",\"msg_type\":\"registration_request\"}") (codes "{\"status\":\"ok\",\"id\":0}") [] ∷ [])
    ∷ line (Input (Up 2 Task 0 0 (11 ∷ 11 ∷ 11 ∷ 11 ∷ 11 ∷ 11 ∷ 11 ∷ 11 ∷ 11 ∷ 11 ∷ 11 ∷ 11 ∷ 11 ∷ 11 ∷ 11 ∷ 11 ∷ 11 ∷ 11 ∷ 11 ∷ 11 ∷ 11 ∷ 11 ∷ 11 ∷ 11 ∷ 11 ∷ 11 ∷ 11 ∷ 11 ∷ 11 ∷ 11 ∷ 11 ∷ 11 ∷ 11 ∷ 11 ∷ 11 ∷ 11 ∷ 11 ∷ 11 ∷ 11 ∷ 11 ∷ 11 ∷ 11 ∷ 11 ∷ 11 ∷ 11 ∷ 11 ∷ 11 ∷ 11 ∷ 11 ∷ 11 ∷ 11 ∷ 11 ∷ 11 ∷ 11 ∷ 11 ∷ 11 ∷ 11 ∷ 11 ∷ 11 ∷ 11 ∷ 11 ∷ 11 ∷ 11 ∷ 11 ∷ 11 ∷ 11 ∷ 11 ∷ 11 ∷ 11 ∷ 11 ∷ 11 ∷ 11 ∷ 11 ∷ 11 ∷ 11 ∷ 11 ∷ 11 ∷ 11 ∷ 11 ∷ 11 ∷ 11 ∷ 11 ∷ 11 ∷ 11 ∷ 11 ∷ 11 ∷ 11 ∷ 11 ∷ 11 ∷ 11 ∷ 11 ∷ 11 ∷ 11 ∷ 11 ∷ 11 ∷ 11 ∷ 11 ∷ 11 ∷ 11 ∷ 11 ∷ 11 ∷ 11 ∷ 11 ∷ 11 ∷ 11 ∷ 11 ∷ 11 ∷ 11 ∷ 11 ∷ 11 ∷ 11 ∷ 11 ∷ 11 ∷ 11 ∷ 11 ∷ 11 ∷ 11 ∷ 11 ∷ 11 ∷ 11 ∷ 11 ∷ 11 ∷ 11 ∷ 11 ∷ 11 ∷ 11 ∷ 11 ∷ 11 ∷ 11 ∷ 11 ∷ 11 ∷ 11 ∷ 11 ∷ 11 ∷ 11 ∷ 11 ∷ 11 ∷ 11 ∷ 11 ∷ 11 ∷ 11 ∷ 11 ∷ 11 ∷ 11 ∷ 11 ∷ 11 ∷ 11 ∷ 11 ∷ 11 ∷ 11 ∷ 11 ∷ 11 ∷ 11 ∷ 11 ∷ 11 ∷ 11 ∷ 11 ∷ 11 ∷ 11 ∷ 11 ∷ 11 ∷ 11 ∷ 11 ∷ 11 ∷ 11 ∷ 11 ∷ 11 ∷ 11 ∷ 11 ∷ 11 ∷ 11 ∷ 11 ∷ 11 ∷ 11 ∷ 11 ∷ 11 ∷ 11 ∷ 11 ∷ 11 ∷ 11 ∷ 11 ∷ 11 ∷ 11 ∷ 11 ∷ 11 ∷ 11 ∷ 11 ∷ 11 ∷ 11 ∷ 11 ∷ 11 ∷ 11 ∷ 11 ∷ 11 ∷ 11 ∷ 11 ∷ 11 ∷ 11 ∷ 11 ∷ 11 ∷ 11 ∷ 11 ∷ 11 ∷ 11 ∷ 11 ∷ 11 ∷ 11 ∷ 11 ∷ 11 ∷ 11 ∷ 11 ∷ 11 ∷ 11 ∷ 11 ∷ 11 ∷ 11 ∷ 11 ∷ 11 ∷ 11 ∷ 11 ∷ 11 ∷ 11 ∷ 11 ∷ 11 ∷ 11 ∷ 11 ∷ 11 ∷ 11 ∷ 11 ∷ 11 ∷ 11 ∷ 11 ∷ 11 ∷ 11 ∷ 11 ∷ 11 ∷ 11 ∷ 11 ∷ 11 ∷ 11 ∷ 11 ∷ 11 ∷ 11 ∷ 11 ∷ 11 ∷ 11 ∷ 11 ∷ 11 ∷ 11 ∷ 11 ∷ 11 ∷ 11 ∷ 11 ∷ 11 ∷ 11 ∷ []))) None true []
    ∷ line (Input (Up 3 Engine 0 0 (161 ∷ []))) None true []
    ∷ line (Input (In 3 0 0 drawn_20_m1)) (Some (Join (codes "e1"))) true (Made 3 0 (codes "hub-1-5") (codes "registration_reply") (codes "{\"msg_id\":\"j2\",\"msg_type\":\"registration_request\"}") (codes "{\"status\":\"ok\",\"id\":1}") [] ∷ [])
    ∷ line (Input (Up 5 Mux 0 0 (codes "x5"))) None true []
    ∷ line (Input (Up 6 Hub 0 0 (codes "conn-6"))) None true []
    ∷ line (Input (In 5 710381581264 11778013837466077346 drawn_20_m2)) (Some (Direct (submission (codes "d3") (codes "execute_request") [] [] no_dependency no_dependency [] 0 0))) true []
    ∷ decision (Hand (codes "d3") 1) (Pass 3 drawn_20_m3 ∷ [])
    ∷ line (Input (Up 7 Engine 710381581264 10831461444545022149 (codes "c"))) None true []
    ∷ line (Input (In 3 710381581264 0 drawn_20_m4)) (Some (Reply (codes "d3") (codes "r4") false true)) true []
    ∷ decision (Settle (codes "d3") Failed ByReply) (Pass 5 drawn_20_m4 ∷ [])
    ∷ line (Input (Beat 710381581764 8483502316926379598)) None true (Made 1 710381581764 (codes "hub-1-13-0") (codes "beat_request") (codes "{}") (codes "{\"beat\":1}") [] ∷ Made 3 710381581764 (codes "hub-1-13-1") (codes "beat_request") (codes "{}") (codes "{\"beat\":1}") [] ∷ [])
    ∷ line (Input (Up 4 Task 710381582264 0 (codes "x4"))) None true []
    ∷ line (Input (In 4 710381582264 0 drawn_20_m5)) (Some (Submit (submission (codes "t6") (codes "execute_request") (codes "s") (codes "u") (dep ((codes "d3") ∷ []) true false true) no_dependency ((codes "e5") ∷ (codes "e1") ∷ []) 0 0))) true []
    ∷ decision (Hand (codes "t6") 1) (Pass 3 drawn_20_m5 ∷ [])
    ∷ line (Input (In 3 710381582264 0 drawn_20_m6)) (Some (Reply (codes "t6") (codes "r7") false false)) true []
    ∷ decision (Settle (codes "t6") Failed ByReply) (Pass 4 drawn_20_m6 ∷ [])
    ∷ line (Input (In 7 710381582264 0 drawn_20_m7)) (Some (Join (codes "e4"))) true (Made 7 710381582264 (codes "hub-1-19") (codes "registration_reply") (codes "{\"msg_id\":\"j8\",\"msg_type\":\"registration_request\"}") (codes "{\"status\":\"ok\",\"id\":2}") [] ∷ [])
    ∷ line (Input (In 6 710381582265 3585779715378775224 drawn_20_m8)) (Some (Resubmit ((codes "t6") ∷ (codes "d3") ∷ []))) true (Made 6 710381582265 (codes "hub-1-20") (codes "resubmit_reply") (codes "{\"msg_id\":\"q9\",\"msg_type\":\"resubmit_request\"}") (codes "{\"status\":\"ok\",\"resubmitted\":{\"t6\":\"resubmit:3\",\"d3\":\"resubmit:4\"}}") [] ∷ [])
    ∷ decision (Hand (codes "resubmit:3") 1) (Pass 3 drawn_20_m9 ∷ [])
    ∷ decision (Hand (codes "resubmit:4") 0) (Pass 1 drawn_20_m10 ∷ [])
    ∷ line (Input (In 3 710381582266 8501467160978373749 drawn_20_m11)) (Some (Reply (codes "resubmit:3") (codes "r10") false false)) true []
    ∷ decision (Settle (codes "resubmit:3") Failed ByReply) (Pass 4 drawn_20_m11 ∷ [])
    ∷ line (Input (In 1 710381582266 7101637156018612697 drawn_20_m12)) (Some (Reply (codes "resubmit:4") (codes "r11") true false)) true []
    ∷ decision (Settle (codes "resubmit:4") Completed ByReply) (Pass 5 drawn_20_m12 ∷ [])
    ∷ line (Input (In 6 710381585266 0 drawn_20_m13)) (Some (Resubmit ((codes "d3") ∷ []))) true (Made 6 710381585266 (codes "hub-1-27") (codes "resubmit_reply") (codes "{\"msg_id\":\"q12\",\"msg_type\":\"resubmit_request\"}") (codes "{\"status\":\"ok\",\"resubmitted\":{\"d3\":\"resubmit:5\"}}") [] ∷ [])
    ∷ decision (Hand (codes "resubmit:5") 2) (Pass 7 drawn_20_m14 ∷ [])
    ∷ line (Input (In 7 710381585267 0 drawn_20_m15)) (Some (Reply (codes "resubmit:5") (codes "r13") true false)) true []
    ∷ decision (Settle (codes "resubmit:5") Completed ByReply) (Pass 5 drawn_20_m15 ∷ [])
    ∷ line (Input (In 6 710381585267 6251432792812104268 drawn_20_m16)) (Some (Ask (Queue (1 ∷ 0 ∷ 1 ∷ []) false))) false (Made 6 710381585267 (codes "hub-1-31") (codes "queue_reply") (codes "{\"msg_id\":\"q14\",\"msg_type\":\"queue_request\"}") (codes "{\"status\":\"ok\",\"unassigned\":0,\"0\":{\"queue\":0,\"completed\":1,\"tasks\":0},\"1\":{\"queue\":0,\"completed\":3,\"tasks\":0}}") [] ∷ [])
    ∷ line (Input (In 5 710381585268 0 drawn_20_m17)) (Some (Direct (submission (codes "d15") (codes "execute_request") [] [] no_dependency no_dependency [] 0 0))) true []
    ∷ decision (Hand (codes "d15") 0) (Pass 1 drawn_20_m18 ∷ [])
    ∷ line (Input (In 3 710381585268 0 drawn_20_m19)) (Some (Leave)) true (Made 3 710381585268 (codes "hub-1-34") (codes "unregistration_reply") (codes "{\"msg_id\":\"l16\",\"msg_type\":\"unregistration_request\"}") (codes "{\"status\":\"ok\"}") [] ∷ [])
    ∷ line (Input (In 2 710381585768 14222925602852110572 drawn_20_m20)) (Some (Submit (submission (codes "t17") (codes "apply_request") (codes "s") (codes "u") no_dependency no_dependency [] 0 1))) true []
    ∷ decision (Hand (codes "t17") 0) (Pass 1 drawn_20_m20 ∷ [])
    ∷ line (Input (Up 14 Engine 710381585768 0 (codes "x14"))) None true []
    ∷ line (Input (In 14 710381588768 0 drawn_20_m21)) (Some (Pong 1)) false []
    ∷ line (Input (In 1 710381648768 3721485561645631641 drawn_20_m22)) (Some (Reply (codes "resubmit:5") (codes "r20") true false)) false []
    ∷ []

pub drawn_20_is_told : IsTold drawn_20
unfolding digits escape_byte reserved_front next_word answer_id beat_id beat_request outcome_id resubmit_id header_text reply_type submit_refused empty_object ok_content join_content beat_content error_content outcome_content resubmit_content connection_content history_content queue_member queue_content settled_member result_content engine_lost_text date_of day_text time_text date_digits civil_date from_year from_month encode_with serde_json_on_literals is_utf8 chars event_of read_header is_request is_reply is_leave read_submit whole_timeouts ends_in_name is_db request_of read_content read_task read_declined read_status
drawn_20_is_told = record { goes = refl; reads = refl; rests = refl }

pub drawn_20_legal : Legal (goes_on [] drawn_20)
drawn_20_legal = told_legal drawn_20 drawn_20_is_told

abbrev drawn_21_m0 : Message
drawn_21_m0 = message [] (codes "{\"msg_id\":\"t1\",\"msg_type\":\"apply_request\",\"session\":\"s\",\"username\":\"u\"}") (codes "{}") (codes "{}") (codes "{\"code\":\"6+8\"}") ((codes "buf") ∷ (codes "buf") ∷ [])

abbrev drawn_21_m1 : Message
drawn_21_m1 = message [] (codes "{\"msg_id\":\"t2\",\"msg_type\":\"apply_request\",\"session\":\"s\",\"username\":\"u\"}") (codes "{}") (codes "{\"targets\":[],\"retries\":2,\"timeout\":5}") (codes "{\"code\":\"0+2\"}") []

abbrev drawn_21_m2 : Message
drawn_21_m2 = message [] (codes "{\"msg_id\":\"t4\",\"msg_type\":\"execute_request\",\"session\":\"s\",\"username\":\"u\"}") (codes "{}") (codes "{\"after\":{\"dependencies\":[\"t1\",\"t1\",\"t1\"],\"failure\":true},\"targets\":[\"nobody\",\"e4\"],\"timeout\":1}") (codes "{\"code\":\"8+5\"}") []

abbrev drawn_21_m3 : Message
drawn_21_m3 = message [] (codes "{\"msg_id\":\"out-3\",\"session\":\"controller\",\"username\":\"controller\",\"date\":\"1986-07-31T10:42:28.286Z\",\"msg_type\":\"execute_reply\",\"version\":\"5.3\"}") (codes "{\"msg_id\":\"t4\",\"msg_type\":\"execute_request\",\"session\":\"s\",\"username\":\"u\"}") (codes "{}") (codes "{\"status\":\"error\",\"ename\":\"ImpossibleDependency\",\"evalue\":\"the dependencies of this task cannot be met\",\"traceback\":[]}") []

abbrev drawn_21_m4 : Message
drawn_21_m4 = message [] (codes "{\"msg_id\":\"t5\",\"msg_type\":\"apply_request\",\"session\":\"s\",\"username\":\"u\"}") (codes "{}") (codes "{}") (codes "{\"code\":\"7+8\"}") []

abbrev drawn_21_m5 : Message
drawn_21_m5 = message [] (codes "{\"msg_id\":\"t6\",\"msg_type\":\"apply_request\",\"session\":\"s\",\"username\":\"u\"}") (codes "{}") (codes "{\"follow\":{\"dependencies\":[],\"failure\":true},\"retries\":2}") (codes "{\"code\":\"7+6\"}") []

-- 14 entries, 1 opening
abbrev pub drawn_21 : List Line
drawn_21 =
    line (Input (Open 0 TwoBin 1 3)) None true []
    ∷ line (Input (Up 2 Task 523190487285 9568820862700308414 (codes "conn-2"))) None true []
    ∷ line (Input (In 2 523190488285 13153472023709500922 drawn_21_m0)) (Some (Submit (submission (codes "t1") (codes "apply_request") (codes "s") (codes "u") no_dependency no_dependency [] 0 0))) true []
    ∷ line (Input (In 2 523190488285 13153472023709500922 drawn_21_m1)) (Some (Submit (submission (codes "t2") (codes "apply_request") (codes "s") (codes "u") no_dependency no_dependency [] 5 2))) true []
    ∷ line (Input (Up 10 Mux 523190548286 17872622976973255435 (codes "x10"))) None true []
    ∷ line (Input (In 2 523190548286 0 drawn_21_m2)) (Some (Submit (submission (codes "t4") (codes "execute_request") (codes "s") (codes "u") (dep ((codes "t1") ∷ []) true true true) no_dependency ((codes "nobody") ∷ (codes "e4") ∷ []) 1 0))) true []
    ∷ decision (Settle (codes "t4") Failed ImpossibleDependency) (Pass 2 drawn_21_m3 ∷ [])
    ∷ line (Input (In 2 523190548786 0 drawn_21_m4)) (Some (Submit (submission (codes "t5") (codes "apply_request") (codes "s") (codes "u") no_dependency no_dependency [] 0 0))) true []
    ∷ line (Input (In 2 523190548786 0 drawn_21_m5)) (Some (Submit (submission (codes "t6") (codes "apply_request") (codes "s") (codes "u") no_dependency (dep [] true true true) [] 0 2))) true []
    ∷ line (Input (Down 2 523190548786 9722454128384165369)) None true []
    ∷ line (Input (Beat 523190548786 6216078159562655656)) None true []
    ∷ decision (Settle (codes "t2") Failed TaskTimeout) []
    ∷ line (Input (Time 523190548786 16077182915999921545)) None true []
    ∷ line (Input (Time 523190552286 14490081649397235984)) None true []
    ∷ []

pub drawn_21_is_told : IsTold drawn_21
unfolding digits escape_byte reserved_front next_word answer_id beat_id beat_request outcome_id resubmit_id header_text reply_type submit_refused empty_object ok_content join_content beat_content error_content outcome_content resubmit_content connection_content history_content queue_member queue_content settled_member result_content engine_lost_text date_of day_text time_text date_digits civil_date from_year from_month encode_with serde_json_on_literals is_utf8 chars event_of read_header is_request is_reply is_leave read_submit whole_timeouts ends_in_name is_db request_of read_content read_task read_declined read_status
drawn_21_is_told = record { goes = refl; reads = refl; rests = refl }

pub drawn_21_legal : Legal (goes_on [] drawn_21)
drawn_21_legal = told_legal drawn_21 drawn_21_is_told

abbrev drawn_22_m0 : Message
drawn_22_m0 = message [] (codes "{\"msg_id\":\"j1\",\"msg_type\":\"registration_request\"}") (codes "{}") (codes "{}") (codes "{\"uuid\":\"engine \\u00e9\"}") []

abbrev drawn_22_m1 : Message
drawn_22_m1 = message [] (codes "{\"msg_id\":\"j2\",\"msg_type\":\"registration_request\"}") (codes "{}") (codes "{}") (codes "{\"uuid\":\"e1\"}") []

abbrev drawn_22_m2 : Message
drawn_22_m2 = message [] (codes "{\"msg_id\":\"t3\",\"msg_type\":\"apply_request\",\"session\":\"s\",\"username\":\"u\"}") (codes "{}") (codes "{\"after\":{\"dependencies\":[\"unknown\"],\"all\":true},\"retries\":null}") (codes "{\"code\":\"7+5\"}") []

abbrev drawn_22_m3 : Message
drawn_22_m3 = message [] (codes "{\"msg_id\":\"out-1\",\"session\":\"controller\",\"username\":\"controller\",\"date\":\"2000-02-29T15:09:45.170Z\",\"msg_type\":\"apply_reply\",\"version\":\"5.3\"}") (codes "{\"msg_id\":\"t3\",\"msg_type\":\"apply_request\",\"session\":\"s\",\"username\":\"u\"}") (codes "{}") (codes "{\"status\":\"error\",\"ename\":\"InvalidDependency\",\"evalue\":\"a dependency is unknown or is the task itself\",\"traceback\":[]}") []

abbrev drawn_22_m4 : Message
drawn_22_m4 = message [] (codes "{\"msg_id\":\"q4\",\"msg_type\":\"resubmit_request\"}") (codes "{}") (codes "{}") (codes "{\"msg_ids\":[\"t3\"]}") []

abbrev drawn_22_m5 : Message
drawn_22_m5 = message [] (codes "{\"msg_id\":\"out-2\",\"session\":\"controller\",\"username\":\"controller\",\"date\":\"2000-02-29T15:09:45.170Z\",\"msg_type\":\"apply_reply\",\"version\":\"5.3\"}") (codes "{\"msg_id\":\"resubmit:2\",\"session\":\"s\",\"username\":\"u\",\"date\":\"2000-02-29T15:09:45.170Z\",\"msg_type\":\"apply_request\",\"version\":\"5.3\"}") (codes "{}") (codes "{\"status\":\"error\",\"ename\":\"InvalidDependency\",\"evalue\":\"a dependency is unknown or is the task itself\",\"traceback\":[]}") []

abbrev drawn_22_m6 : Message
drawn_22_m6 = message [] (codes "{\"msg_id\":\"l5\",\"msg_type\":\"unregistration_request\"}") (codes "{}") (codes "{}") (codes "{}") []

abbrev drawn_22_m7 : Message
drawn_22_m7 = message [] (codes "{\"msg_id\":\"q7\",\"msg_type\":\"purge_request\"}") (codes "{}") (codes "{}") (codes "{\"msg_ids\":[\"resubmit:2\",\"t3\"]}") []

abbrev drawn_22_m8 : Message
drawn_22_m8 = message [] (codes "{\"msg_id\":\"j8\",\"msg_type\":\"registration_request\"}") (codes "{}") (codes "{}") (codes "{\"uuid\":\"e0\"}") []

abbrev drawn_22_m9 : Message
drawn_22_m9 = message [] (codes "{\"msg_id\":\"q9\",\"msg_type\":\"resubmit_request\"}") (codes "{}") (codes "{}") (codes "{\"msg_ids\":[]}") []

-- 17 entries, 1 opening
abbrev pub drawn_22 : List Line
drawn_22 =
    line (Input (Open 0 Lru 1 3)) None true []
    ∷ line (Input (Up 2 Engine 0 0 (codes "conn-2"))) None true []
    ∷ line (Input (In 2 0 0 drawn_22_m0)) (Some (Join (101 ∷ 110 ∷ 103 ∷ 105 ∷ 110 ∷ 101 ∷ 32 ∷ 195 ∷ 169 ∷ []))) true (Made 2 0 (codes "hub-1-2") (codes "registration_reply") (codes "{\"msg_id\":\"j1\",\"msg_type\":\"registration_request\"}") (codes "{\"status\":\"ok\",\"id\":0}") [] ∷ [])
    ∷ line (Input (Up 3 Task 0 0 (codes "c"))) None true []
    ∷ line (Input (Up 4 Engine 0 0 (codes "d"))) None true []
    ∷ line (Input (In 4 0 0 drawn_22_m1)) (Some (Join (codes "e1"))) true (Made 4 0 (codes "hub-1-5") (codes "registration_reply") (codes "{\"msg_id\":\"j2\",\"msg_type\":\"registration_request\"}") (codes "{\"status\":\"ok\",\"id\":1}") [] ∷ [])
    ∷ line (Input (Up 5 Task 0 0 (154 ∷ []))) None true []
    ∷ line (Input (Up 6 Mux 0 0 (codes "conn-6"))) None true []
    ∷ line (Input (Up 7 Hub 0 0 (codes "conn-7"))) None true []
    ∷ line (Input (In 3 951836985170 5740245908664011867 drawn_22_m2)) (Some (Submit (submission (codes "t3") (codes "apply_request") (codes "s") (codes "u") (dep ((codes "unknown") ∷ []) true true false) no_dependency [] 0 0))) true []
    ∷ decision (Settle (codes "t3") Failed InvalidDependency) (Pass 3 drawn_22_m3 ∷ [])
    ∷ line (Input (In 7 951836985170 0 drawn_22_m4)) (Some (Resubmit ((codes "t3") ∷ []))) true (Made 7 951836985170 (codes "hub-1-11") (codes "resubmit_reply") (codes "{\"msg_id\":\"q4\",\"msg_type\":\"resubmit_request\"}") (codes "{\"status\":\"ok\",\"resubmitted\":{\"t3\":\"resubmit:2\"}}") [] ∷ [])
    ∷ decision (Settle (codes "resubmit:2") Failed InvalidDependency) (Pass 3 drawn_22_m5 ∷ [])
    ∷ line (Input (In 4 951836985170 12118372918440020932 drawn_22_m6)) (Some (Leave)) true (Made 4 951836985170 (codes "hub-1-13") (codes "unregistration_reply") (codes "{\"msg_id\":\"l5\",\"msg_type\":\"unregistration_request\"}") (codes "{\"status\":\"ok\"}") [] ∷ [])
    ∷ line (Input (In 7 951837045170 4340879868583242253 drawn_22_m7)) (Some (Purge false ((codes "resubmit:2") ∷ (codes "t3") ∷ []))) true (Made 7 951837045170 (codes "hub-1-14") (codes "purge_reply") (codes "{\"msg_id\":\"q7\",\"msg_type\":\"purge_request\"}") (codes "{\"status\":\"ok\"}") [] ∷ [])
    ∷ line (Input (In 4 951837045170 5937930877419851935 drawn_22_m8)) (Some (Join (codes "e0"))) true (Made 4 951837045170 (codes "hub-1-15") (codes "registration_reply") (codes "{\"msg_id\":\"j8\",\"msg_type\":\"registration_request\"}") (codes "{\"status\":\"ok\",\"id\":2}") [] ∷ [])
    ∷ line (Input (In 7 951837045670 0 drawn_22_m9)) (Some (Resubmit [])) true (Made 7 951837045670 (codes "hub-1-16") (codes "resubmit_reply") (codes "{\"msg_id\":\"q9\",\"msg_type\":\"resubmit_request\"}") (codes "{\"status\":\"ok\",\"resubmitted\":{}}") [] ∷ [])
    ∷ []

pub drawn_22_is_told : IsTold drawn_22
unfolding digits escape_byte reserved_front next_word answer_id beat_id beat_request outcome_id resubmit_id header_text reply_type submit_refused empty_object ok_content join_content beat_content error_content outcome_content resubmit_content connection_content history_content queue_member queue_content settled_member result_content engine_lost_text date_of day_text time_text date_digits civil_date from_year from_month encode_with serde_json_on_literals is_utf8 chars event_of read_header is_request is_reply is_leave read_submit whole_timeouts ends_in_name is_db request_of read_content read_task read_declined read_status
drawn_22_is_told = record { goes = refl; reads = refl; rests = refl }

pub drawn_22_legal : Legal (goes_on [] drawn_22)
drawn_22_legal = told_legal drawn_22 drawn_22_is_told

abbrev drawn_23_m0 : Message
drawn_23_m0 = message [] (codes "{\"msg_id\":\"j1\",\"msg_type\":\"registration_request\"}") (codes "{}") (codes "{}") (codes "{\"uuid\":\"e0\"}") []

abbrev drawn_23_m1 : Message
drawn_23_m1 = message [] (codes "{\"msg_id\":\"j2\",\"msg_type\":\"registration_request\"}") (codes "{}") (codes "{}") (codes "{\"uuid\":\"e3\"}") []

abbrev drawn_23_m2 : Message
drawn_23_m2 = message [] (codes "{\"msg_id\":\"p3\",\"msg_type\":\"beat_reply\"}") (codes "{}") (codes "{}") (codes "{\"beat\":1}") []

abbrev drawn_23_m3 : Message
drawn_23_m3 = message [] (codes "{\"msg_id\":\"q4\",\"msg_type\":\"connection_request\"}") (codes "{}") (codes "{}") (codes "{}") []

abbrev drawn_23_m4 : Message
drawn_23_m4 = message [] (codes "{\"msg_id\":\"q5\",\"msg_type\":\"purge_request\"}") (codes "{}") (codes "{}") (codes "{\"msg_ids\":[],\"engine_ids\":[0]}") []

abbrev drawn_23_m5 : Message
drawn_23_m5 = message [] (codes "{\"msg_id\":\"l6\",\"msg_type\":\"unregistration_request\"}") (codes "{}") (codes "{}") (codes "{}") []

abbrev drawn_23_m6 : Message
drawn_23_m6 = message [] (codes "{\"msg_id\":\"j7\",\"msg_type\":\"registration_request\"}") (codes "{}") (codes "{}") (codes "{\"uuid\":\"e1\"}") []

abbrev drawn_23_m7 : Message
drawn_23_m7 = message [] (codes "{\"msg_id\":\"p8\",\"msg_type\":\"beat_reply\"}") (codes "{}") (codes "{}") (codes "{\"beat\":1}") []

abbrev drawn_23_m8 : Message
drawn_23_m8 = message [] (codes "{\"msg_id\":\"t9\",\"msg_type\":\"execute_request\",\"session\":\"s\",\"username\":\"u\"}") (codes "{}") (codes "{\"follow\":{\"dependencies\":[],\"all\":true,\"success\":false}}") (codes "{\"code\":\"7+3\"}") []

abbrev drawn_23_m9 : Message
drawn_23_m9 = message [] (codes "{\"msg_id\":\"r10\",\"msg_type\":\"execute_reply\"}") (codes "{\"msg_id\":\"t9\",\"x\":1}") (codes "{\"dependencies_met\":true}") (codes "{\"status\":\"ok\",\"result\":\"42\"}") []

abbrev drawn_23_m10 : Message
drawn_23_m10 = message (codes "nobody") (codes "{\"msg_id\":\"d11\",\"msg_type\":\"execute_request\"}") (codes "{}") (codes "{}") (codes "{\"code\":\"1\"}") []

abbrev drawn_23_m11 : Message
drawn_23_m11 = message [] (codes "{\"msg_id\":\"q12\",\"msg_type\":\"purge_request\"}") (codes "{}") (codes "{}") (codes "{\"msg_ids\":[\"t9\"]}") []

abbrev drawn_23_m12 : Message
drawn_23_m12 = message [] (codes "{\"msg_id\":\"t13\",\"msg_type\":\"apply_request\",\"session\":\"s\",\"username\":\"u\"}") (codes "{}") (codes "{\"after\":\"t9\",\"follow\":{\"dependencies\":[\"t9\",\"t9\"],\"all\":false,\"success\":false,\"failure\":true},\"targets\":[\"e3\",\"e3\",\"nobody\"],\"timeout\":60}") (codes "{\"code\":\"4+3\"}") ((codes "buf") ∷ (codes "buf") ∷ [])

abbrev drawn_23_m13 : Message
drawn_23_m13 = message [] (codes "{\"msg_id\":\"out-2\",\"session\":\"controller\",\"username\":\"controller\",\"date\":\"2004-04-13T00:57:51.843Z\",\"msg_type\":\"apply_reply\",\"version\":\"5.3\"}") (codes "{\"msg_id\":\"t13\",\"msg_type\":\"apply_request\",\"session\":\"s\",\"username\":\"u\"}") (codes "{}") (codes "{\"status\":\"error\",\"ename\":\"ImpossibleDependency\",\"evalue\":\"the dependencies of this task cannot be met\",\"traceback\":[]}") []

abbrev drawn_23_m14 : Message
drawn_23_m14 = message [] (codes "{\"msg_id\":\"t13\",\"msg_type\":\"apply_request\",\"session\":\"s\",\"username\":\"u\"}") (codes "{}") (codes "{\"after\":\"t9\",\"follow\":{\"dependencies\":[\"t9\",\"t9\"],\"all\":false,\"success\":false,\"failure\":true},\"targets\":[\"e3\",\"e3\",\"nobody\"],\"timeout\":60}") (codes "{\"code\":\"4+3\"} ") ((codes "buf") ∷ (codes "buf") ∷ [])

-- 27 entries, 1 opening
abbrev pub drawn_23 : List Line
drawn_23 =
    line (Input (Open 0 Lru 2 1)) None true []
    ∷ line (Input (Up 3 Engine 0 0 (codes "conn-3"))) None true []
    ∷ line (Input (In 3 0 0 drawn_23_m0)) (Some (Join (codes "e0"))) true (Made 3 0 (codes "hub-1-2") (codes "registration_reply") (codes "{\"msg_id\":\"j1\",\"msg_type\":\"registration_request\"}") (codes "{\"status\":\"ok\",\"id\":0}") [] ∷ [])
    ∷ line (Input (Up 4 Task 0 0 (codes "x4"))) None true []
    ∷ line (Input (Up 5 Engine 0 0 (codes "d"))) None true []
    ∷ line (Input (In 5 0 0 drawn_23_m1)) (Some (Join (codes "e3"))) true (Made 5 0 (codes "hub-1-5") (codes "registration_reply") (codes "{\"msg_id\":\"j2\",\"msg_type\":\"registration_request\"}") (codes "{\"status\":\"ok\",\"id\":1}") [] ∷ [])
    ∷ line (Input (Up 12 Task 0 0 (codes "conn-12"))) None true []
    ∷ line (Input (Up 13 Mux 0 0 (codes "d"))) None true []
    ∷ line (Input (Up 14 Hub 0 0 (codes "d"))) None true []
    ∷ line (Input (In 3 1081817744836 4085151313651939944 drawn_23_m2)) (Some (Pong 1)) false []
    ∷ line (Input (In 14 1081817747837 4050885736103038782 drawn_23_m3)) (Some (Ask Connection)) false (Made 14 1081817747837 (codes "hub-1-10") (codes "connection_reply") (codes "{\"msg_id\":\"q4\",\"msg_type\":\"connection_request\"}") (codes "{\"status\":\"ok\",\"engines\":{\"0\":\"e0\",\"1\":\"e3\"}}") [] ∷ [])
    ∷ line (Input (In 14 1081817867837 14607483116564191404 drawn_23_m4)) (Some (Ask (Bad (codes "engine_ids")))) false (Made 14 1081817867837 (codes "hub-1-11") (codes "purge_reply") (codes "{\"msg_id\":\"q5\",\"msg_type\":\"purge_request\"}") (codes "{\"status\":\"error\",\"ename\":\"BadContent\",\"evalue\":\"engine_ids\",\"traceback\":[],\"ids\":[]}") [] ∷ [])
    ∷ line (Input (In 5 1081817867838 16109241228106956564 drawn_23_m5)) (Some (Leave)) true (Made 5 1081817867838 (codes "hub-1-12") (codes "unregistration_reply") (codes "{\"msg_id\":\"l6\",\"msg_type\":\"unregistration_request\"}") (codes "{\"status\":\"ok\"}") [] ∷ [])
    ∷ line (Input (In 5 1081817867838 5860069333548416917 drawn_23_m6)) (Some (Join (codes "e1"))) true (Made 5 1081817867838 (codes "hub-1-13") (codes "registration_reply") (codes "{\"msg_id\":\"j7\",\"msg_type\":\"registration_request\"}") (codes "{\"status\":\"ok\",\"id\":2}") [] ∷ [])
    ∷ line (Input (Time 1081817867840 9191349860887358990)) None true []
    ∷ line (Input (In 3 1081817868340 1768059534224990511 drawn_23_m7)) (Some (Pong 1)) false []
    ∷ line (Input (Up 16 Mux 1081817868341 290547882846504590 (codes "c"))) None true []
    ∷ line (Input (In 4 1081817868841 4635590731172353183 drawn_23_m8)) (Some (Submit (submission (codes "t9") (codes "execute_request") (codes "s") (codes "u") no_dependency (dep [] true false false) [] 0 0))) true []
    ∷ decision (Hand (codes "t9") 0) (Pass 3 drawn_23_m8 ∷ [])
    ∷ line (Input (Up 23 Task 1081817868841 6023440791358382621 (codes "x23"))) None true []
    ∷ line (Input (In 3 1081817871841 5619735856390755937 drawn_23_m9)) (Some (Reply (codes "t9") (codes "r10") true false)) true []
    ∷ decision (Settle (codes "t9") Completed ByReply) (Pass 4 drawn_23_m9 ∷ [])
    ∷ line (Input (In 13 1081817871842 17695027959482279518 drawn_23_m10)) (Some (Direct (submission (codes "d11") (codes "execute_request") [] [] no_dependency no_dependency [] 0 0))) false (Made 13 1081817871842 (codes "hub-1-22") (codes "submit_refused") (codes "{\"msg_id\":\"d11\",\"msg_type\":\"execute_request\"}") (codes "{\"status\":\"error\",\"ename\":\"NoSuchEngine\",\"evalue\":\"6e6f626f6479\",\"traceback\":[],\"ids\":[]}") [] ∷ [])
    ∷ line (Input (In 14 1081817871842 0 drawn_23_m11)) (Some (Purge false ((codes "t9") ∷ []))) true (Made 14 1081817871842 (codes "hub-1-23") (codes "purge_reply") (codes "{\"msg_id\":\"q12\",\"msg_type\":\"purge_request\"}") (codes "{\"status\":\"ok\"}") [] ∷ [])
    ∷ line (Input (In 23 1081817871843 2688756548375231763 drawn_23_m12)) (Some (Submit (submission (codes "t13") (codes "apply_request") (codes "s") (codes "u") (dep ((codes "t9") ∷ []) true true false) (dep ((codes "t9") ∷ []) false false true) ((codes "e3") ∷ (codes "e3") ∷ (codes "nobody") ∷ []) 60 0))) true []
    ∷ decision (Settle (codes "t13") Failed ImpossibleDependency) (Pass 23 drawn_23_m13 ∷ [])
    ∷ line (Input (In 23 1081817874843 2176212400868945186 drawn_23_m14)) (Some (Submit (submission (codes "t13") (codes "apply_request") (codes "s") (codes "u") (dep ((codes "t9") ∷ []) true true false) (dep ((codes "t9") ∷ []) false false true) ((codes "e3") ∷ (codes "e3") ∷ (codes "nobody") ∷ []) 60 0))) false (Made 23 1081817874843 (codes "hub-1-26") (codes "submit_refused") (codes "{\"msg_id\":\"t13\",\"msg_type\":\"apply_request\",\"session\":\"s\",\"username\":\"u\"}") (codes "{\"status\":\"error\",\"ename\":\"KnownId\",\"evalue\":\"t13\",\"traceback\":[],\"ids\":[]}") [] ∷ [])
    ∷ []

pub drawn_23_is_told : IsTold drawn_23
unfolding digits escape_byte reserved_front next_word answer_id beat_id beat_request outcome_id resubmit_id header_text reply_type submit_refused empty_object ok_content join_content beat_content error_content outcome_content resubmit_content connection_content history_content queue_member queue_content settled_member result_content engine_lost_text date_of day_text time_text date_digits civil_date from_year from_month encode_with serde_json_on_literals is_utf8 chars event_of read_header is_request is_reply is_leave read_submit whole_timeouts ends_in_name is_db request_of read_content read_task read_declined read_status
drawn_23_is_told = record { goes = refl; reads = refl; rests = refl }

pub drawn_23_legal : Legal (goes_on [] drawn_23)
drawn_23_legal = told_legal drawn_23 drawn_23_is_told

abbrev drawn_24_m0 : Message
drawn_24_m0 = message [] (codes "{\"msg_id\":\"j2\",\"msg_type\":\"registration_request\"}") (codes "{}") (codes "{}") (codes "{\"uuid\":\"e4\"}") []

abbrev drawn_24_m1 : Message
drawn_24_m1 = message [] (codes "{\"msg_id\":\"t5\",\"msg_type\":\"execute_request\",\"session\":\"s\",\"username\":\"u\"}") (codes "{}") (codes "{\"targets\":[\"engine \\u00e9\"]}") (codes "{\"code\":\"8+4\"}") ((codes "buf") ∷ (codes "buf") ∷ [])

abbrev drawn_24_m2 : Message
drawn_24_m2 = message [] (codes "{\"msg_id\":\"out-1\",\"session\":\"controller\",\"username\":\"controller\",\"date\":\"1988-08-17T03:12:18.938Z\",\"msg_type\":\"execute_reply\",\"version\":\"5.3\"}") (codes "{\"msg_id\":\"t5\",\"msg_type\":\"execute_request\",\"session\":\"s\",\"username\":\"u\"}") (codes "{}") (codes "{\"status\":\"error\",\"ename\":\"ImpossibleDependency\",\"evalue\":\"the dependencies of this task cannot be met\",\"traceback\":[]}") []

abbrev drawn_24_m3 : Message
drawn_24_m3 = message [] (codes "{\"msg_id\":\"q7\",\"msg_type\":\"queue_request\"}") (codes "{}") (codes "{}") (codes "{\"targets\":null,\"verbose\":false}") []

abbrev drawn_24_m4 : Message
drawn_24_m4 = message [] (codes "{\"msg_id\":\"q8\",\"msg_type\":\"what\"}") (codes "{}") (codes "{}") (codes "{}") []

abbrev drawn_24_m5 : Message
drawn_24_m5 = message [] (codes "{\"msg_id\":\"q9\",\"msg_type\":\"resubmit_request\"}") (codes "{}") (codes "{}") (codes "{\"msg_ids\":[\"t5\"]}") []

abbrev drawn_24_m6 : Message
drawn_24_m6 = message [] (codes "{\"msg_id\":\"out-2\",\"session\":\"controller\",\"username\":\"controller\",\"date\":\"1988-08-17T03:12:19.438Z\",\"msg_type\":\"execute_reply\",\"version\":\"5.3\"}") (codes "{\"msg_id\":\"resubmit:2\",\"session\":\"s\",\"username\":\"u\",\"date\":\"1988-08-17T03:12:19.438Z\",\"msg_type\":\"execute_request\",\"version\":\"5.3\"}") (codes "{}") (codes "{\"status\":\"error\",\"ename\":\"ImpossibleDependency\",\"evalue\":\"the dependencies of this task cannot be met\",\"traceback\":[]}") []

abbrev drawn_24_m7 : Message
drawn_24_m7 = message (codes "junk") (codes "{\"msg_id\":\"t10\",\"msg_type\":\"apply_request\",\"session\":\"s\",\"username\":\"u\"}") (codes "{}") (codes "{}") (codes "{\"code\":\"4+7\"}") []

abbrev drawn_24_m8 : Message
drawn_24_m8 = message [] (codes "{\"msg_id\":\"t10\",\"msg_type\":\"apply_request\",\"session\":\"s\",\"username\":\"u\"}") (codes "{}") (codes "{}") (codes "{\"code\":\"4+7\"}") []

abbrev drawn_24_m9 : Message
drawn_24_m9 = message [] (codes "{\"msg_id\":\"r11\",\"msg_type\":\"apply_reply\"}") (codes "{\"msg_id\":\"t10\",\"x\":1}") (codes "{\"started\":\"x\"}") (codes "{\"status\":\"ok\",\"result\":\"42\"}") ((codes "b") ∷ (codes "b") ∷ (codes "b") ∷ (codes "b") ∷ (codes "b") ∷ (codes "b") ∷ (codes "b") ∷ (codes "b") ∷ (codes "b") ∷ (codes "b") ∷ (codes "b") ∷ (codes "b") ∷ (codes "b") ∷ (codes "b") ∷ (codes "b") ∷ (codes "b") ∷ (codes "b") ∷ (codes "b") ∷ (codes "b") ∷ (codes "b") ∷ (codes "b") ∷ (codes "b") ∷ (codes "b") ∷ (codes "b") ∷ (codes "b") ∷ (codes "b") ∷ (codes "b") ∷ (codes "b") ∷ (codes "b") ∷ (codes "b") ∷ (codes "b") ∷ (codes "b") ∷ (codes "b") ∷ (codes "b") ∷ (codes "b") ∷ (codes "b") ∷ (codes "b") ∷ (codes "b") ∷ (codes "b") ∷ (codes "b") ∷ (codes "b") ∷ (codes "b") ∷ (codes "b") ∷ (codes "b") ∷ (codes "b") ∷ (codes "b") ∷ (codes "b") ∷ (codes "b") ∷ (codes "b") ∷ (codes "b") ∷ (codes "b") ∷ (codes "b") ∷ (codes "b") ∷ (codes "b") ∷ (codes "b") ∷ (codes "b") ∷ (codes "b") ∷ (codes "b") ∷ [])

abbrev drawn_24_m10 : Message
drawn_24_m10 = message [] (codes "{\"msg_id\":\"t13\",\"msg_type\":\"apply_request\",\"session\":\"s\",\"username\":\"u\"}") (codes "{}") (codes "{}") (codes "{\"code\":\"6+0\"}") ((codes "buf") ∷ (codes "buf") ∷ [])

abbrev drawn_24_m11 : Message
drawn_24_m11 = message [] (codes "{\"msg_id\":\"q14\",\"msg_type\":\"purge_request\"}") (codes "{}") (codes "{}") (codes "{\"msg_ids\":[\"resubmit:2\",\"t10\"],\"engine_ids\":[0]}") []

abbrev drawn_24_m12 : Message
drawn_24_m12 = message [] (codes "{\"msg_id\":\"r15\",\"msg_type\":\"apply_reply\"}") (codes "{\"msg_id\":\"t13\",\"x\":1}") (codes "{}") (codes "{\"status\":\"ok\",\"result\":\"42\"}") []

abbrev drawn_24_m13 : Message
drawn_24_m13 = message [] (codes "{\"msg_id\":\"t16\",\"msg_type\":\"apply_request\",\"session\":\"s\",\"username\":\"u\"}") (codes "{}") (codes "{\"after\":{\"dependencies\":[\"resubmit:2\",\"resubmit:2\",\"t10\"],\"all\":false}}") (codes "{\"code\":\"4+5\"}") []

abbrev drawn_24_m14 : Message
drawn_24_m14 = message [] (codes "{\"msg_id\":\"r17\",\"msg_type\":\"apply_reply\"}") (codes "{\"msg_id\":\"t16\",\"x\":1}") (codes "{\"dependencies_met\":false}") (codes "{\"status\":\"ok\",\"result\":\"42\"}") ((codes "b") ∷ (codes "b") ∷ (codes "b") ∷ [])

-- 28 entries, 1 opening
abbrev pub drawn_24 : List Line
drawn_24 =
    line (Input (Open 0 PlainRandom 2 1)) None true []
    ∷ line (Input (Up 5 Task 0 0 (codes "@@@@@@@@@@@@@@@@@@@@@@@@@@@@@@@@@@@@@@@@@@@@@@@@@@@@@@@@@@@@@@@@@@@@@@@@@@@@@@@@@@@@@@@@@@@@@@@@@@@@@@@@@@@@@@@@@@@@@@@@@@@@@@@@@@@@@@@@@@@@@@@@@@@@@@@@@@@@@@@@@@@@@@@@@@@@@@@@@@@@@@@@@@@@@@@@@@@@@@@@@@@@@@@@@@@@@@@@@@@@@@@@@@@@@@@@@@@@@@@@@@@@@@@@@@@@@@@"))) None true []
    ∷ line (Input (Up 6 Engine 0 0 (254 ∷ 254 ∷ 254 ∷ 254 ∷ 254 ∷ 254 ∷ 254 ∷ 254 ∷ 254 ∷ 254 ∷ 254 ∷ 254 ∷ 254 ∷ 254 ∷ 254 ∷ 254 ∷ 254 ∷ 254 ∷ 254 ∷ 254 ∷ 254 ∷ 254 ∷ 254 ∷ 254 ∷ 254 ∷ 254 ∷ 254 ∷ 254 ∷ 254 ∷ 254 ∷ 254 ∷ 254 ∷ 254 ∷ 254 ∷ 254 ∷ 254 ∷ 254 ∷ 254 ∷ 254 ∷ 254 ∷ 254 ∷ 254 ∷ 254 ∷ 254 ∷ 254 ∷ 254 ∷ 254 ∷ 254 ∷ 254 ∷ 254 ∷ 254 ∷ 254 ∷ 254 ∷ 254 ∷ 254 ∷ 254 ∷ 254 ∷ 254 ∷ 254 ∷ 254 ∷ 254 ∷ 254 ∷ 254 ∷ 254 ∷ 254 ∷ 254 ∷ 254 ∷ 254 ∷ 254 ∷ 254 ∷ 254 ∷ 254 ∷ 254 ∷ 254 ∷ 254 ∷ 254 ∷ 254 ∷ 254 ∷ 254 ∷ 254 ∷ 254 ∷ 254 ∷ 254 ∷ 254 ∷ 254 ∷ 254 ∷ 254 ∷ 254 ∷ 254 ∷ 254 ∷ 254 ∷ 254 ∷ 254 ∷ 254 ∷ 254 ∷ 254 ∷ 254 ∷ 254 ∷ 254 ∷ 254 ∷ 254 ∷ 254 ∷ 254 ∷ 254 ∷ 254 ∷ 254 ∷ 254 ∷ 254 ∷ 254 ∷ 254 ∷ 254 ∷ 254 ∷ 254 ∷ 254 ∷ 254 ∷ 254 ∷ 254 ∷ 254 ∷ 254 ∷ 254 ∷ 254 ∷ 254 ∷ 254 ∷ 254 ∷ 254 ∷ 254 ∷ 254 ∷ 254 ∷ 254 ∷ 254 ∷ 254 ∷ 254 ∷ 254 ∷ 254 ∷ 254 ∷ 254 ∷ 254 ∷ 254 ∷ 254 ∷ 254 ∷ 254 ∷ 254 ∷ 254 ∷ 254 ∷ 254 ∷ 254 ∷ 254 ∷ 254 ∷ 254 ∷ 254 ∷ 254 ∷ 254 ∷ 254 ∷ 254 ∷ 254 ∷ 254 ∷ 254 ∷ 254 ∷ 254 ∷ 254 ∷ 254 ∷ 254 ∷ 254 ∷ 254 ∷ 254 ∷ 254 ∷ 254 ∷ 254 ∷ 254 ∷ 254 ∷ 254 ∷ 254 ∷ 254 ∷ 254 ∷ 254 ∷ 254 ∷ 254 ∷ 254 ∷ 254 ∷ 254 ∷ 254 ∷ 254 ∷ 254 ∷ 254 ∷ 254 ∷ 254 ∷ 254 ∷ 254 ∷ 254 ∷ 254 ∷ 254 ∷ 254 ∷ 254 ∷ 254 ∷ 254 ∷ 254 ∷ 254 ∷ 254 ∷ 254 ∷ 254 ∷ 254 ∷ 254 ∷ 254 ∷ 254 ∷ 254 ∷ 254 ∷ 254 ∷ 254 ∷ 254 ∷ 254 ∷ 254 ∷ 254 ∷ 254 ∷ 254 ∷ 254 ∷ 254 ∷ 254 ∷ 254 ∷ 254 ∷ 254 ∷ 254 ∷ 254 ∷ 254 ∷ 254 ∷ 254 ∷ 254 ∷ 254 ∷ 254 ∷ 254 ∷ 254 ∷ 254 ∷ 254 ∷ 254 ∷ 254 ∷ 254 ∷ 254 ∷ 254 ∷ 254 ∷ 254 ∷ 254 ∷ 254 ∷ 254 ∷ 254 ∷ 254 ∷ 254 ∷ 254 ∷ 254 ∷ 254 ∷ 254 ∷ 254 ∷ 254 ∷ 254 ∷ 254 ∷ 254 ∷ 254 ∷ []))) None true []
    ∷ line (Input (In 6 0 0 drawn_24_m0)) (Some (Join (codes "e4"))) true (Made 6 0 (codes "hub-1-3") (codes "registration_reply") (codes "{\"msg_id\":\"j2\",\"msg_type\":\"registration_request\"}") (codes "{\"status\":\"ok\",\"id\":0}") [] ∷ [])
    ∷ line (Input (Up 7 Task 0 0 (codes "d"))) None true []
    ∷ line (Input (Up 8 Mux 0 0 (codes "conn-8"))) None true []
    ∷ line (Input (Up 15 Hub 0 0 (codes "c"))) None true []
    ∷ line (Input (Beat 587790735936 0)) None true (Made 6 587790735936 (codes "hub-1-7-0") (codes "beat_request") (codes "{}") (codes "{\"beat\":1}") [] ∷ [])
    ∷ line (Input (Up 16 Task 587790735936 14367386686213836625 (codes "d"))) None true []
    ∷ line (Input (In 7 587790738938 4457904620698360279 drawn_24_m1)) (Some (Submit (submission (codes "t5") (codes "execute_request") (codes "s") (codes "u") no_dependency no_dependency ((101 ∷ 110 ∷ 103 ∷ 105 ∷ 110 ∷ 101 ∷ 32 ∷ 195 ∷ 169 ∷ []) ∷ []) 0 0))) true []
    ∷ decision (Settle (codes "t5") Failed ImpossibleDependency) (Pass 16 drawn_24_m2 ∷ [])
    ∷ line (Input (In 15 587790739438 0 drawn_24_m3)) (Some (Ask (Queue [] false))) false (Made 15 587790739438 (codes "hub-1-11") (codes "queue_reply") (codes "{\"msg_id\":\"q7\",\"msg_type\":\"queue_request\"}") (codes "{\"status\":\"ok\",\"unassigned\":0,\"0\":{\"queue\":0,\"completed\":0,\"tasks\":0}}") [] ∷ [])
    ∷ line (Input (In 15 587790739438 0 drawn_24_m4)) (Some (Ask Unknown)) false (Made 15 587790739438 (codes "hub-1-12") (codes "what_reply") (codes "{\"msg_id\":\"q8\",\"msg_type\":\"what\"}") (codes "{\"status\":\"error\",\"ename\":\"UnknownRequest\",\"evalue\":\"what\",\"traceback\":[],\"ids\":[]}") [] ∷ [])
    ∷ line (Input (In 15 587790739438 0 drawn_24_m5)) (Some (Resubmit ((codes "t5") ∷ []))) true (Made 15 587790739438 (codes "hub-1-13") (codes "resubmit_reply") (codes "{\"msg_id\":\"q9\",\"msg_type\":\"resubmit_request\"}") (codes "{\"status\":\"ok\",\"resubmitted\":{\"t5\":\"resubmit:2\"}}") [] ∷ [])
    ∷ decision (Settle (codes "resubmit:2") Failed ImpossibleDependency) (Pass 16 drawn_24_m6 ∷ [])
    ∷ line (Input (In 16 587790739938 15903452999336857180 drawn_24_m7)) (Some (Submit (submission (codes "t10") (codes "apply_request") (codes "s") (codes "u") no_dependency no_dependency [] 0 0))) true []
    ∷ decision (Hand (codes "t10") 0) (Pass 6 drawn_24_m8 ∷ [])
    ∷ line (Input (In 6 587790739939 15227139877437291697 drawn_24_m9)) (Some (Reply (codes "t10") (codes "r11") true false)) true []
    ∷ decision (Settle (codes "t10") Completed ByReply) (Pass 16 drawn_24_m9 ∷ [])
    ∷ line (Input (In 7 587790739939 0 drawn_24_m10)) (Some (Submit (submission (codes "t13") (codes "apply_request") (codes "s") (codes "u") no_dependency no_dependency [] 0 0))) true []
    ∷ decision (Hand (codes "t13") 0) (Pass 6 drawn_24_m10 ∷ [])
    ∷ line (Input (In 15 587790739939 12275507789240488497 drawn_24_m11)) (Some (Ask (Bad (codes "engine_ids")))) false (Made 15 587790739939 (codes "hub-1-21") (codes "purge_reply") (codes "{\"msg_id\":\"q14\",\"msg_type\":\"purge_request\"}") (codes "{\"status\":\"error\",\"ename\":\"BadContent\",\"evalue\":\"engine_ids\",\"traceback\":[],\"ids\":[]}") [] ∷ [])
    ∷ line (Input (In 6 587790739939 13371976975242273025 drawn_24_m12)) (Some (Reply (codes "t13") (codes "r15") true false)) true []
    ∷ decision (Settle (codes "t13") Completed ByReply) (Pass 16 drawn_24_m12 ∷ [])
    ∷ line (Input (In 16 587790739939 0 drawn_24_m13)) (Some (Submit (submission (codes "t16") (codes "apply_request") (codes "s") (codes "u") (dep ((codes "resubmit:2") ∷ (codes "t10") ∷ []) false true false) no_dependency [] 0 0))) true []
    ∷ decision (Hand (codes "t16") 0) (Pass 6 drawn_24_m13 ∷ [])
    ∷ line (Input (Down 16 587790742939 4189754733653784638)) None true []
    ∷ line (Input (In 6 587790742939 17329450505448606106 drawn_24_m14)) (Some (Reply (codes "t16") (codes "r17") true true)) true []
    ∷ []

pub drawn_24_is_told : IsTold drawn_24
unfolding digits escape_byte reserved_front next_word answer_id beat_id beat_request outcome_id resubmit_id header_text reply_type submit_refused empty_object ok_content join_content beat_content error_content outcome_content resubmit_content connection_content history_content queue_member queue_content settled_member result_content engine_lost_text date_of day_text time_text date_digits civil_date from_year from_month encode_with serde_json_on_literals is_utf8 chars event_of read_header is_request is_reply is_leave read_submit whole_timeouts ends_in_name is_db request_of read_content read_task read_declined read_status
drawn_24_is_told = record { goes = refl; reads = refl; rests = refl }

pub drawn_24_legal : Legal (goes_on [] drawn_24)
drawn_24_legal = told_legal drawn_24 drawn_24_is_told
