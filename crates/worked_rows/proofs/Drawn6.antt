-- Short histories that a second, independent model of the cluster drew at random, with what it says of each entry. Nothing rests on them.
use Rattle.std.proofs.Common.{List, [], ◌∷◌, Some, None, true, false, refl}
use Rattle.std.specs.Prelude.{codes}
use Rattle.std.specs.Fmt.{digits}
use Rattle.std.specs.Str.{is_utf8, chars}
use Rattle.json.specs.Print.{escape_byte}
use Rattle.serde_json.proofs.OnLiterals.{serde_json_on_literals}
use Rattle.hex.specs.Hex.{encode_with}
use Rattle.edges.specs.Date.{date_of, day_text, time_text, digits as date_digits, civil_date, from_year, from_month}
use Rattle.cluster_types.specs.Verdicts.{engine_lost_text}
use Rattle.cluster_types.specs.declared.config.Channel.TheVariants.{Hub, Task, Mux, Engine}
use Rattle.cluster_types.specs.declared.config.Scheme.TheVariants.{Lru, LeastLoad, PlainRandom}
use Rattle.cluster_types.specs.declared.verdict.Verdict.TheVariants.{Completed, Failed}
use Rattle.cluster_types.specs.declared.verdict.Cause.TheVariants.{Reply as ByReply, EngineError, ImpossibleDependency, InvalidDependency, TaskTimeout}
use Rattle.cluster_types.specs.declared.message.Message.{Message}
use Rattle.cluster_types.specs.declared.event.Event.TheVariants.{Submit, Direct, Reply, Join, Leave, Pong, Purge, Resubmit, Ask}
use Rattle.cluster_types.specs.declared.event.Query.TheVariants.{Queue, Bad}
use Rattle.cluster_types.specs.declared.out.Out.TheVariants.{Pass, Made}
use Rattle.cluster_types.specs.declared.entry.Input.TheVariants.{Open, Up, Down, In, Beat, Time}
use Rattle.cluster_types.specs.declared.entry.Entry.TheVariants.{Input, Hand, Settle, Lose}
use Rattle.cluster_defs.specs.Event.{event_of, is_db, is_request, is_reply, is_leave}
use Rattle.cluster_defs.specs.Points.{whole_timeouts, ends_in_name}
use Rattle.cluster_defs.specs.Submit.{read_submit}
use Rattle.cluster_defs.specs.Reply.{read_task, read_declined, read_status}
use Rattle.cluster_defs.specs.Hub.{request_of, read_content}
use Rattle.cluster_defs.specs.Header.{read_header}
use Rattle.cluster_defs.specs.Texts.{answer_id, beat_id, beat_request, outcome_id, resubmit_id, header_text, reply_type, submit_refused, empty_object, ok_content, join_content, beat_content, error_content, outcome_content, resubmit_content, connection_content, history_content, queue_member, queue_content, settled_member, result_content}
use Rattle.cluster_defs.specs.Acceptance.{no_dependency, reserved_front}
use Rattle.cluster_types.specs.Chance.{next_word}
use Rattle.cluster_defs.specs.Histories.{Legal}
use Rattle.worked_rows.proofs.Told.{Line, line, decision, message, dep, submission, IsTold, goes_on, told_legal}

abbrev drawn_31_m0 : Message
drawn_31_m0 = message [] (codes "{\"msg_id\":\"j1\",\"msg_type\":\"registration_request\"}") (codes "{}") (codes "{}") (codes "{\"uuid\":\"e4\"}") []

abbrev drawn_31_m1 : Message
drawn_31_m1 = message [] (codes "{\"msg_id\":\"j2\",\"msg_type\":\"registration_request\"}") (codes "{}") (codes "{}") (codes "{\"uuid\":\"e3\"}") []

abbrev drawn_31_m2 : Message
drawn_31_m2 = message (codes "e4") (codes "{\"msg_id\":\"d3\",\"msg_type\":\"execute_request\"}") (codes "{}") (codes "{}") (codes "{\"code\":\"1\"}") []

abbrev drawn_31_m3 : Message
drawn_31_m3 = message [] (codes "{\"msg_id\":\"d3\",\"msg_type\":\"execute_request\"}") (codes "{}") (codes "{}") (codes "{\"code\":\"1\"}") []

abbrev drawn_31_m4 : Message
drawn_31_m4 = message [] (codes "{\"msg_id\":\"r4\",\"msg_type\":\"apply_reply\"}") (codes "{\"msg_id\":\"d3\",\"x\":1}") (codes "{}") (codes "{\"status\":\"ok\",\"result\":\"42\"}") ((codes "b") ∷ (codes "b") ∷ (codes "b") ∷ (codes "b") ∷ (codes "b") ∷ (codes "b") ∷ (codes "b") ∷ (codes "b") ∷ (codes "b") ∷ (codes "b") ∷ (codes "b") ∷ (codes "b") ∷ (codes "b") ∷ (codes "b") ∷ (codes "b") ∷ (codes "b") ∷ (codes "b") ∷ (codes "b") ∷ (codes "b") ∷ (codes "b") ∷ (codes "b") ∷ (codes "b") ∷ (codes "b") ∷ (codes "b") ∷ (codes "b") ∷ (codes "b") ∷ (codes "b") ∷ (codes "b") ∷ (codes "b") ∷ (codes "b") ∷ (codes "b") ∷ (codes "b") ∷ (codes "b") ∷ (codes "b") ∷ (codes "b") ∷ (codes "b") ∷ (codes "b") ∷ (codes "b") ∷ (codes "b") ∷ (codes "b") ∷ (codes "b") ∷ (codes "b") ∷ (codes "b") ∷ (codes "b") ∷ (codes "b") ∷ (codes "b") ∷ (codes "b") ∷ (codes "b") ∷ (codes "b") ∷ (codes "b") ∷ (codes "b") ∷ (codes "b") ∷ (codes "b") ∷ (codes "b") ∷ (codes "b") ∷ (codes "b") ∷ (codes "b") ∷ (codes "b") ∷ [])

abbrev drawn_31_m5 : Message
drawn_31_m5 = message [] (codes "{\"msg_id\":\"q8\",\"msg_type\":\"resubmit_request\"}") (codes "{}") (codes "{}") (codes "{\"msg_ids\":[\"d3\"]}") []

abbrev drawn_31_m6 : Message
drawn_31_m6 = message [] (codes "{\"msg_id\":\"resubmit:2\",\"session\":\"\",\"username\":\"\",\"date\":\"2023-07-09T06:07:25.163Z\",\"msg_type\":\"execute_request\",\"version\":\"5.3\"}") (codes "{}") (codes "{}") (codes "{\"code\":\"1\"}") []

abbrev drawn_31_m7 : Message
drawn_31_m7 = message (codes "e4") (codes "{\"msg_id\":\"d9\",\"msg_type\":\"execute_request\"}") (codes "{}") (codes "{}") (codes "{\"code\":\"1\"}") []

abbrev drawn_31_m8 : Message
drawn_31_m8 = message [] (codes "{\"msg_id\":\"d9\",\"msg_type\":\"execute_request\"}") (codes "{}") (codes "{}") (codes "{\"code\":\"1\"}") []

abbrev drawn_31_m9 : Message
drawn_31_m9 = message [] (codes "{\"msg_id\":\"r10\",\"msg_type\":\"execute_reply\"}") (codes "{\"msg_id\":\"d9\",\"x\":1}") (codes "{}") (codes "{\"status\":\"ok\",\"result\":\"42\"}") []

abbrev drawn_31_m10 : Message
drawn_31_m10 = message (codes "e4") (codes "{\"msg_id\":\"d12\",\"msg_type\":\"execute_request\"}") (codes "{}") (codes "{}") (codes "{\"code\":\"1\"}") []

abbrev drawn_31_m11 : Message
drawn_31_m11 = message [] (codes "{\"msg_id\":\"d12\",\"msg_type\":\"execute_request\"}") (codes "{}") (codes "{}") (codes "{\"code\":\"1\"}") []

abbrev drawn_31_m12 : Message
drawn_31_m12 = message [] (codes "{\"msg_id\":\"j13\",\"msg_type\":\"registration_request\"}") (codes "{}") (codes "{}") (codes "{\"uuid\":\"e0\"}") []

abbrev drawn_31_m13 : Message
drawn_31_m13 = message [] (codes "{\"msg_id\":\"r17\",\"msg_type\":\"apply_reply\"}") (codes "{\"msg_id\":\"d12\",\"x\":1}") (codes "{\"dependencies_met\":true}") (codes "{\"status\":\"ok\",\"result\":\"42\"}") ((codes "b") ∷ (codes "b") ∷ (codes "b") ∷ (codes "b") ∷ (codes "b") ∷ (codes "b") ∷ (codes "b") ∷ (codes "b") ∷ (codes "b") ∷ (codes "b") ∷ (codes "b") ∷ (codes "b") ∷ (codes "b") ∷ (codes "b") ∷ (codes "b") ∷ (codes "b") ∷ (codes "b") ∷ (codes "b") ∷ (codes "b") ∷ (codes "b") ∷ (codes "b") ∷ (codes "b") ∷ (codes "b") ∷ (codes "b") ∷ (codes "b") ∷ (codes "b") ∷ (codes "b") ∷ (codes "b") ∷ (codes "b") ∷ (codes "b") ∷ (codes "b") ∷ (codes "b") ∷ (codes "b") ∷ (codes "b") ∷ (codes "b") ∷ (codes "b") ∷ (codes "b") ∷ (codes "b") ∷ (codes "b") ∷ (codes "b") ∷ (codes "b") ∷ (codes "b") ∷ (codes "b") ∷ (codes "b") ∷ (codes "b") ∷ (codes "b") ∷ (codes "b") ∷ (codes "b") ∷ (codes "b") ∷ (codes "b") ∷ (codes "b") ∷ (codes "b") ∷ (codes "b") ∷ (codes "b") ∷ (codes "b") ∷ (codes "b") ∷ (codes "b") ∷ (codes "b") ∷ [])

abbrev drawn_31_m14 : Message
drawn_31_m14 = message [] (codes "{\"msg_id\":\"j1\",\"msg_type\":\"registration_request\"}") (codes "{}") (codes "{}") (codes "{\"uuid\":\"engine \\u00e9\"}") []

abbrev drawn_31_m15 : Message
drawn_31_m15 = message [] (codes "{\"msg_id\":\"q5\",\"msg_type\":\"purge_request\"}") (codes "{}") (codes "{}") (codes "{\"msg_ids\":[\"d9\",\"resubmit:2\"]}") []

abbrev drawn_31_m16 : Message
drawn_31_m16 = message [] (codes "{\"msg_id\":\"p6\",\"msg_type\":\"beat_reply\"}") (codes "{}") (codes "{}") (codes "{\"beat\":0}") []

abbrev drawn_31_m17 : Message
drawn_31_m17 = message (101 ∷ 110 ∷ 103 ∷ 105 ∷ 110 ∷ 101 ∷ 32 ∷ 195 ∷ 169 ∷ []) (codes "{\"msg_id\":\"d7\",\"msg_type\":\"execute_request\"}") (codes "{}") (codes "{}") (codes "{\"code\":\"1\"}") []

abbrev drawn_31_m18 : Message
drawn_31_m18 = message [] (codes "{\"msg_id\":\"d7\",\"msg_type\":\"execute_request\"}") (codes "{}") (codes "{}") (codes "{\"code\":\"1\"}") []

-- 40 entries, 2 openings
abbrev pub drawn_31 : List Line
drawn_31 =
    line (Input (Open 0 Lru 1 3)) None true []
    ∷ line (Input (Up 2 Engine 0 0 (codes "LLLLLLLLLLLLLLLLLLLLLLLLLLLLLLLLLLLLLLLLLLLLLLLLLLLLLLLLLLLLLLLLLLLLLLLLLLLLLLLLLLLLLLLLLLLLLLLLLLLLLLLLLLLLLLLLLLLLLLLLLLLLLLLLLLLLLLLLLLLLLLLLLLLLLLLLLLLLLLLLLLLLLLLLLLLLLLLLLLLLLLLLLLLLLLLLLLLLLLLLLLLLLLLLLLLLLLLLLLLLLLLLLLLLLLLLLLLLLLLLLLLLLLLLLLLLLLL"))) None true []
    ∷ line (Input (In 2 0 0 drawn_31_m0)) (Some (Join (codes "e4"))) true (Made 2 0 (codes "hub-1-2") (codes "registration_reply") (codes "{\"msg_id\":\"j1\",\"msg_type\":\"registration_request\"}") (codes "{\"status\":\"ok\",\"id\":0}") [] ∷ [])
    ∷ line (Input (Up 4 Engine 0 0 (codes "d"))) None true []
    ∷ line (Input (In 4 0 0 drawn_31_m1)) (Some (Join (codes "e3"))) true (Made 4 0 (codes "hub-1-4") (codes "registration_reply") (codes "{\"msg_id\":\"j2\",\"msg_type\":\"registration_request\"}") (codes "{\"status\":\"ok\",\"id\":1}") [] ∷ [])
    ∷ line (Input (Up 5 Task 0 0 (codes "x5"))) None true []
    ∷ line (Input (Up 6 Mux 0 0 (codes "conn-6"))) None true []
    ∷ line (Input (Up 7 Hub 0 0 (codes "d"))) None true []
    ∷ line (Input (In 6 1688882721662 8976926428172839042 drawn_31_m2)) (Some (Direct (submission (codes "d3") (codes "execute_request") [] [] no_dependency no_dependency [] 0 0))) true []
    ∷ decision (Hand (codes "d3") 0) (Pass 2 drawn_31_m3 ∷ [])
    ∷ line (Input (In 2 1688882721662 957324555529750261 drawn_31_m4)) (Some (Reply (codes "d3") (codes "r4") true false)) true []
    ∷ decision (Settle (codes "d3") Completed ByReply) (Pass 6 drawn_31_m4 ∷ [])
    ∷ line (Input (Up 8 Engine 1688882722162 0 (codes "x8"))) None true []
    ∷ line (Input (Up 9 Task 1688882782162 12337725934471771673 (codes "x9"))) None true []
    ∷ line (Input (Time 1688882785163 10875629508411589635)) None true []
    ∷ line (Input (Down 9 1688882845163 7903793628914459077)) None true []
    ∷ line (Input (In 7 1688882845163 0 drawn_31_m5)) (Some (Resubmit ((codes "d3") ∷ []))) true (Made 7 1688882845163 (codes "hub-1-16") (codes "resubmit_reply") (codes "{\"msg_id\":\"q8\",\"msg_type\":\"resubmit_request\"}") (codes "{\"status\":\"ok\",\"resubmitted\":{\"d3\":\"resubmit:2\"}}") [] ∷ [])
    ∷ decision (Hand (codes "resubmit:2") 0) (Pass 2 drawn_31_m6 ∷ [])
    ∷ line (Input (In 6 1688882848163 2341392281505147591 drawn_31_m7)) (Some (Direct (submission (codes "d9") (codes "execute_request") [] [] no_dependency no_dependency [] 0 0))) true []
    ∷ decision (Hand (codes "d9") 0) (Pass 2 drawn_31_m8 ∷ [])
    ∷ line (Input (In 2 1688882848163 0 drawn_31_m9)) (Some (Reply (codes "d9") (codes "r10") true false)) true []
    ∷ decision (Settle (codes "d9") Completed ByReply) (Pass 6 drawn_31_m9 ∷ [])
    ∷ line (Input (In 6 1688882908163 10936859743232998561 drawn_31_m10)) (Some (Direct (submission (codes "d12") (codes "execute_request") [] [] no_dependency no_dependency [] 0 0))) true []
    ∷ decision (Hand (codes "d12") 0) (Pass 2 drawn_31_m11 ∷ [])
    ∷ line (Input (In 8 1688882908163 13164730197877738952 drawn_31_m12)) (Some (Join (codes "e0"))) true (Made 8 1688882908163 (codes "hub-1-24") (codes "registration_reply") (codes "{\"msg_id\":\"j13\",\"msg_type\":\"registration_request\"}") (codes "{\"status\":\"ok\",\"id\":2}") [] ∷ [])
    ∷ line (Input (In 2 1688882908163 0 drawn_31_m13)) (Some (Reply (codes "d12") (codes "r17") true false)) true []
    ∷ decision (Settle (codes "d12") Completed ByReply) (Pass 6 drawn_31_m13 ∷ [])
    ∷ line (Input (Time 1688882968663 0)) None true []
    ∷ line (Input (Open 0 LeastLoad 1 3)) None true []
    ∷ decision (Settle (codes "resubmit:2") Failed EngineError) []
    ∷ line (Input (Up 3 Engine 0 0 (codes "x3"))) None true []
    ∷ line (Input (In 3 0 0 drawn_31_m14)) (Some (Join (101 ∷ 110 ∷ 103 ∷ 105 ∷ 110 ∷ 101 ∷ 32 ∷ 195 ∷ 169 ∷ []))) true (Made 3 0 (codes "hub-2-3") (codes "registration_reply") (codes "{\"msg_id\":\"j1\",\"msg_type\":\"registration_request\"}") (codes "{\"status\":\"ok\",\"id\":3}") [] ∷ [])
    ∷ line (Input (Up 4 Task 0 0 (codes "c"))) None true []
    ∷ line (Input (Up 12 Task 0 0 (codes "conn-12"))) None true []
    ∷ line (Input (Up 13 Mux 0 0 (codes "+"))) None true []
    ∷ line (Input (Up 14 Hub 0 0 (codes "x14"))) None true []
    ∷ line (Input (In 14 1448305638505 9305976438428646710 drawn_31_m15)) (Some (Purge false ((codes "d9") ∷ (codes "resubmit:2") ∷ []))) true (Made 14 1448305638505 (codes "hub-2-8") (codes "purge_reply") (codes "{\"msg_id\":\"q5\",\"msg_type\":\"purge_request\"}") (codes "{\"status\":\"ok\"}") [] ∷ [])
    ∷ line (Input (In 3 1448305641505 7607488337336982969 drawn_31_m16)) (Some (Pong 0)) false []
    ∷ line (Input (In 13 1448305641505 10254987118178738563 drawn_31_m17)) (Some (Direct (submission (codes "d7") (codes "execute_request") [] [] no_dependency no_dependency [] 0 0))) true []
    ∷ decision (Hand (codes "d7") 3) (Pass 3 drawn_31_m18 ∷ [])
    ∷ []

pub drawn_31_is_told : IsTold drawn_31
unfolding digits escape_byte reserved_front next_word answer_id beat_id beat_request outcome_id resubmit_id header_text reply_type submit_refused empty_object ok_content join_content beat_content error_content outcome_content resubmit_content connection_content history_content queue_member queue_content settled_member result_content engine_lost_text date_of day_text time_text date_digits civil_date from_year from_month encode_with serde_json_on_literals is_utf8 chars event_of read_header is_request is_reply is_leave read_submit whole_timeouts ends_in_name is_db request_of read_content read_task read_declined read_status
drawn_31_is_told = record { goes = refl; reads = refl; rests = refl }

pub drawn_31_legal : Legal (goes_on [] drawn_31)
drawn_31_legal = told_legal drawn_31 drawn_31_is_told

abbrev drawn_32_m0 : Message
drawn_32_m0 = message [] (codes "{\"msg_id\":\"j1\",\"msg_type\":\"registration_request\"}") (codes "{}") (codes "{}") (codes "{\"uuid\":\"e3\"}") []

abbrev drawn_32_m1 : Message
drawn_32_m1 = message [] (codes "{\"msg_id\":\"j2\",\"msg_type\":\"registration_request\"}") (codes "{}") (codes "{}") (codes "{\"uuid\":\"engine \\u00e9\"}") []

abbrev drawn_32_m2 : Message
drawn_32_m2 = message [] (codes "{\"msg_id\":\"l3\",\"msg_type\":\"unregistration_request\"}") (codes "{}") (codes "{}") (codes "{}") []

abbrev drawn_32_m3 : Message
drawn_32_m3 = message [] (codes "{\"msg_id\":\"t4\",\"msg_type\":\"apply_request\",\"session\":\"s\",\"username\":\"u\"}") (codes "{}") (codes "{\"retries\":1}") (codes "{\"code\":\"7+1\"}") []

abbrev drawn_32_m4 : Message
drawn_32_m4 = message [] (codes "{\"msg_id\":\"r5\",\"msg_type\":\"execute_reply\"}") (codes "{\"msg_id\":\"t4\",\"x\":1}") (codes "{\"started\":\"x\"}") (codes "{\"status\":\"ok\",\"result\":\"42\"}") []

abbrev drawn_32_m5 : Message
drawn_32_m5 = message [] (codes "{\"msg_id\":\"j6\",\"msg_type\":\"registration_request\"}") (codes "{}") (codes "{}") (codes "{\"uuid\":\"e5\"}") []

abbrev drawn_32_m6 : Message
drawn_32_m6 = message [] (codes "{\"msg_id\":\"t8\",\"msg_type\":\"execute_request\",\"session\":\"s\",\"username\":\"u\"}") (codes "{}") (codes "{\"timeout\":0}") (codes "{\"code\":\"5+1\"}") []

abbrev drawn_32_m7 : Message
drawn_32_m7 = message [] (codes "{\"msg_id\":\"t9\",\"msg_type\":\"apply_request\",\"session\":\"s\",\"username\":\"u\"}") (codes "{}") (codes "{\"follow\":{\"dependencies\":[\"t4\",\"t8\",\"t8\"],\"all\":false,\"success\":false,\"failure\":false},\"timeout\":5}") (codes "{\"code\":\"5+4\"}") []

abbrev drawn_32_m8 : Message
drawn_32_m8 = message [] (codes "{\"msg_id\":\"j2\",\"msg_type\":\"registration_request\"}") (codes "{}") (codes "{}") (codes "{\"uuid\":\"e4\"}") []

abbrev drawn_32_m9 : Message
drawn_32_m9 = message [] (codes "{\"msg_id\":\"t3\",\"msg_type\":\"apply_request\",\"session\":\"s\",\"username\":\"u\"}") (codes "{}") (codes "{\"timeout\": 96.0, \"retries\": 1}") (codes "{\"code\":\"2+3\"}") ((codes "buf") ∷ (codes "buf") ∷ [])

abbrev drawn_32_m10 : Message
drawn_32_m10 = message [] (codes "{\"msg_id\":\"t4\",\"msg_type\":\"execute_request\",\"session\":\"s\",\"username\":\"u\"}") (codes "{}") (codes "{\"retries\":0}") (codes "{\"code\":\"8+5\"}") []

abbrev drawn_32_m11 : Message
drawn_32_m11 = message [] (123 ∷ 34 ∷ 109 ∷ 115 ∷ 103 ∷ 95 ∷ 116 ∷ 121 ∷ 112 ∷ 101 ∷ 34 ∷ 58 ∷ 34 ∷ 101 ∷ 120 ∷ 101 ∷ 99 ∷ 117 ∷ 116 ∷ 101 ∷ 95 ∷ 114 ∷ 101 ∷ 113 ∷ 117 ∷ 101 ∷ 115 ∷ 116 ∷ 34 ∷ 44 ∷ 34 ∷ 109 ∷ 115 ∷ 103 ∷ 95 ∷ 105 ∷ 100 ∷ 34 ∷ 58 ∷ 34 ∷ 195 ∷ 169 ∷ 92 ∷ 34 ∷ 92 ∷ 92 ∷ 92 ∷ 110 ∷ 53 ∷ 34 ∷ 44 ∷ 34 ∷ 117 ∷ 115 ∷ 101 ∷ 114 ∷ 110 ∷ 97 ∷ 109 ∷ 101 ∷ 34 ∷ 58 ∷ 45 ∷ 48 ∷ 125 ∷ []) (codes "{}") (codes "{}") (codes "{}") []

abbrev drawn_32_m12 : Message
drawn_32_m12 = message [] (codes "{\"msg_id\":\"j1\",\"msg_type\":\"registration_request\"}") (codes "{}") (codes "{}") (codes "{\"uuid\":\"e0\"}") []

abbrev drawn_32_m13 : Message
drawn_32_m13 = message [] (codes "{\"msg_id\":\"p6\",\"msg_type\":\"beat_reply\"}") (codes "{}") (codes "{}") (codes "{\"beat\":0}") []

abbrev drawn_32_m14 : Message
drawn_32_m14 = message [] (codes "{\"msg_id\":\"r7\",\"msg_type\":\"apply_reply\"}") (codes "{\"msg_id\":\"\\u00e9\\\"\\\\\\n5\",\"x\":1}") (codes "{\"dependencies_met\":true}") (codes "{\"status\":\"ok\",\"result\":\"42\"}") ((codes "b") ∷ (codes "b") ∷ (codes "b") ∷ [])

abbrev drawn_32_m15 : Message
drawn_32_m15 = message [] (codes "{\"msg_id\":\"r8\",\"msg_type\":\"apply_reply\"}") (codes "{\"msg_id\":\"t3\",\"x\":1}") (codes "{\"dependencies_met\":true}") (codes "{\"status\":\"ok\",\"result\":\"42\"}") []

abbrev drawn_32_m16 : Message
drawn_32_m16 = message [] (codes "{\"msg_id\":\"t9\",\"msg_type\":\"execute_request\",\"session\":\"s\",\"username\":\"u\"}") (codes "{}") (codes "{\"targets\":[\"e4\",\"nobody\"]}") (codes "{\"code\":\"1+4\"}") ((codes "buf") ∷ (codes "buf") ∷ [])

-- 42 entries, 2 openings
abbrev pub drawn_32 : List Line
drawn_32 =
    line (Input (Open 0 Lru 1 3)) None true []
    ∷ line (Input (Up 2 Engine 0 0 (codes "conn-2"))) None true []
    ∷ line (Input (In 2 0 0 drawn_32_m0)) (Some (Join (codes "e3"))) true (Made 2 0 (codes "hub-1-2") (codes "registration_reply") (codes "{\"msg_id\":\"j1\",\"msg_type\":\"registration_request\"}") (codes "{\"status\":\"ok\",\"id\":0}") [] ∷ [])
    ∷ line (Input (Up 3 Task 0 0 (codes "d"))) None true []
    ∷ line (Input (Up 4 Engine 0 0 (codes "x4"))) None true []
    ∷ line (Input (In 4 0 0 drawn_32_m1)) (Some (Join (101 ∷ 110 ∷ 103 ∷ 105 ∷ 110 ∷ 101 ∷ 32 ∷ 195 ∷ 169 ∷ []))) true (Made 4 0 (codes "hub-1-5") (codes "registration_reply") (codes "{\"msg_id\":\"j2\",\"msg_type\":\"registration_request\"}") (codes "{\"status\":\"ok\",\"id\":1}") [] ∷ [])
    ∷ line (Input (Up 5 Task 0 0 (codes "x5"))) None true []
    ∷ line (Input (Up 13 Hub 0 0 (146 ∷ []))) None true []
    ∷ line (Input (Time 361556396905 0)) None true []
    ∷ line (Input (In 4 361556396905 0 drawn_32_m2)) (Some (Leave)) true (Made 4 361556396905 (codes "hub-1-9") (codes "unregistration_reply") (codes "{\"msg_id\":\"l3\",\"msg_type\":\"unregistration_request\"}") (codes "{\"status\":\"ok\"}") [] ∷ [])
    ∷ line (Input (In 5 361556396905 5422905920327262439 drawn_32_m3)) (Some (Submit (submission (codes "t4") (codes "apply_request") (codes "s") (codes "u") no_dependency no_dependency [] 0 1))) true []
    ∷ decision (Hand (codes "t4") 0) (Pass 2 drawn_32_m3 ∷ [])
    ∷ line (Input (In 2 361556399905 9528690083091844374 drawn_32_m4)) (Some (Reply (codes "t4") (codes "r5") true false)) true []
    ∷ decision (Settle (codes "t4") Completed ByReply) (Pass 5 drawn_32_m4 ∷ [])
    ∷ line (Input (In 4 361556459905 13920713084879860084 drawn_32_m5)) (Some (Join (codes "e5"))) true (Made 4 361556459905 (codes "hub-1-14") (codes "registration_reply") (codes "{\"msg_id\":\"j6\",\"msg_type\":\"registration_request\"}") (codes "{\"status\":\"ok\",\"id\":2}") [] ∷ [])
    ∷ line (Input (Up 14 Task 361556460405 13037054963502173972 (codes "c"))) None true []
    ∷ line (Input (Time 361556460405 3486958309574596898)) None true []
    ∷ line (Input (In 14 361556460405 0 drawn_32_m6)) (Some (Submit (submission (codes "t8") (codes "execute_request") (codes "s") (codes "u") no_dependency no_dependency [] 0 0))) true []
    ∷ decision (Hand (codes "t8") 0) (Pass 2 drawn_32_m6 ∷ [])
    ∷ line (Input (In 14 361556460405 2111584414240457569 drawn_32_m7)) (Some (Submit (submission (codes "t9") (codes "apply_request") (codes "s") (codes "u") no_dependency (dep ((codes "t4") ∷ (codes "t8") ∷ []) false false false) [] 5 0))) true []
    ∷ line (Input (Open 0 Lru 2 3)) None true []
    ∷ decision (Settle (codes "t8") Failed EngineError) []
    ∷ decision (Settle (codes "t9") Failed ImpossibleDependency) []
    ∷ line (Input (Up 4 Engine 0 0 (codes "d"))) None true []
    ∷ line (Input (Up 5 Task 0 0 (codes "d"))) None true []
    ∷ line (Input (Up 6 Engine 0 0 (codes "c"))) None true []
    ∷ line (Input (In 6 0 0 drawn_32_m8)) (Some (Join (codes "e4"))) true (Made 6 0 (codes "hub-2-6") (codes "registration_reply") (codes "{\"msg_id\":\"j2\",\"msg_type\":\"registration_request\"}") (codes "{\"status\":\"ok\",\"id\":3}") [] ∷ [])
    ∷ line (Input (Up 7 Task 0 0 (codes "conn-7"))) None true []
    ∷ line (Input (Up 14 Mux 0 0 (codes "d"))) None true []
    ∷ line (Input (Up 15 Hub 0 0 (codes "d"))) None true []
    ∷ line (Input (In 7 1376843792374 4064564684029899760 drawn_32_m9)) (Some (Submit (submission (codes "t3") (codes "apply_request") (codes "s") (codes "u") no_dependency no_dependency [] 96 1))) true []
    ∷ decision (Hand (codes "t3") 3) (Pass 6 drawn_32_m9 ∷ [])
    ∷ line (Input (In 7 1376843792374 6984524713151870504 drawn_32_m10)) (Some (Submit (submission (codes "t4") (codes "execute_request") (codes "s") (codes "u") no_dependency no_dependency [] 0 0))) false (Made 7 1376843792374 (codes "hub-2-12") (codes "submit_refused") (codes "{\"msg_id\":\"t4\",\"msg_type\":\"execute_request\",\"session\":\"s\",\"username\":\"u\"}") (codes "{\"status\":\"error\",\"ename\":\"KnownId\",\"evalue\":\"t4\",\"traceback\":[],\"ids\":[]}") [] ∷ [])
    ∷ line (Input (In 5 1376843852374 0 drawn_32_m11)) (Some (Submit (submission (195 ∷ 169 ∷ 34 ∷ 92 ∷ 10 ∷ 53 ∷ []) (codes "execute_request") [] [] no_dependency no_dependency [] 0 0))) true []
    ∷ decision (Hand (195 ∷ 169 ∷ 34 ∷ 92 ∷ 10 ∷ 53 ∷ []) 3) (Pass 6 drawn_32_m11 ∷ [])
    ∷ line (Input (In 4 1376843855374 0 drawn_32_m12)) (Some (Join (codes "e0"))) true (Made 4 1376843855374 (codes "hub-2-15") (codes "registration_reply") (codes "{\"msg_id\":\"j1\",\"msg_type\":\"registration_request\"}") (codes "{\"status\":\"ok\",\"id\":4}") [] ∷ [])
    ∷ line (Input (In 4 1376843855374 0 drawn_32_m13)) (Some (Pong 0)) false []
    ∷ line (Input (In 6 1376843855374 0 drawn_32_m14)) (Some (Reply (195 ∷ 169 ∷ 34 ∷ 92 ∷ 10 ∷ 53 ∷ []) (codes "r7") true false)) true []
    ∷ decision (Settle (195 ∷ 169 ∷ 34 ∷ 92 ∷ 10 ∷ 53 ∷ []) Completed ByReply) (Pass 5 drawn_32_m14 ∷ [])
    ∷ line (Input (In 6 1376843855374 0 drawn_32_m15)) (Some (Reply (codes "t3") (codes "r8") true false)) true []
    ∷ decision (Settle (codes "t3") Completed ByReply) (Pass 7 drawn_32_m15 ∷ [])
    ∷ line (Input (In 5 1376843855874 0 drawn_32_m16)) (Some (Submit (submission (codes "t9") (codes "execute_request") (codes "s") (codes "u") no_dependency no_dependency ((codes "e4") ∷ (codes "nobody") ∷ []) 0 0))) false (Made 5 1376843855874 (codes "hub-2-21") (codes "submit_refused") (codes "{\"msg_id\":\"t9\",\"msg_type\":\"execute_request\",\"session\":\"s\",\"username\":\"u\"}") (codes "{\"status\":\"error\",\"ename\":\"KnownId\",\"evalue\":\"t9\",\"traceback\":[],\"ids\":[]}") [] ∷ [])
    ∷ []

pub drawn_32_is_told : IsTold drawn_32
unfolding digits escape_byte reserved_front next_word answer_id beat_id beat_request outcome_id resubmit_id header_text reply_type submit_refused empty_object ok_content join_content beat_content error_content outcome_content resubmit_content connection_content history_content queue_member queue_content settled_member result_content engine_lost_text date_of day_text time_text date_digits civil_date from_year from_month encode_with serde_json_on_literals is_utf8 chars event_of read_header is_request is_reply is_leave read_submit whole_timeouts ends_in_name is_db request_of read_content read_task read_declined read_status
drawn_32_is_told = record { goes = refl; reads = refl; rests = refl }

pub drawn_32_legal : Legal (goes_on [] drawn_32)
drawn_32_legal = told_legal drawn_32 drawn_32_is_told

abbrev drawn_33_m0 : Message
drawn_33_m0 = message [] (codes "{\"msg_id\":\"j1\",\"msg_type\":\"registration_request\"}") (codes "{}") (codes "{}") (codes "{\"uuid\":\"e4\"}") []

abbrev drawn_33_m1 : Message
drawn_33_m1 = message [] (codes "{\"msg_id\":\"j2\",\"msg_type\":\"registration_request\"}") (codes "{}") (codes "{}") (codes "{\"uuid\":\"e2\"}") []

abbrev drawn_33_m2 : Message
drawn_33_m2 = message (codes "e4") (codes "{\"msg_id\":\"d3\",\"msg_type\":\"execute_request\"}") (codes "{}") (codes "{}") (codes "{\"code\":\"1\"}") []

abbrev drawn_33_m3 : Message
drawn_33_m3 = message [] (codes "{\"msg_id\":\"d3\",\"msg_type\":\"execute_request\"}") (codes "{}") (codes "{}") (codes "{\"code\":\"1\"}") []

abbrev drawn_33_m4 : Message
drawn_33_m4 = message [] (codes "{\"msg_id\":\"t4\",\"msg_type\":\"apply_request\",\"session\":\"s\",\"username\":\"u\"}") (codes "{}") (codes "{\"targets\":[],\"timeout\":0}") (codes "{\"code\":\"5+6\"}") []

abbrev drawn_33_m5 : Message
drawn_33_m5 = message [] (codes "{\"msg_id\":\"r5\",\"msg_type\":\"apply_reply\"}") (codes "{\"msg_id\":\"d3\",\"x\":1}") (codes "{\"started\":\"x\"}") (codes "{\"status\":\"ok\",\"result\":\"42\"}") []

abbrev drawn_33_m6 : Message
drawn_33_m6 = message [] (codes "{\"msg_id\":\"q7\",\"msg_type\":\"purge_request\"}") (codes "{}") (codes "{}") (codes "{\"msg_ids\":[\"d3\"]}") []

abbrev drawn_33_m7 : Message
drawn_33_m7 = message [] (codes "{\"msg_id\":\"t8\",\"msg_type\":\"execute_request\",\"session\":\"s\",\"username\":\"u\"}") (codes "{}") (codes "{\"after\":\"d3\",\"targets\":[\"e1\",\"e4\",\"e3\"],\"retries\":0,\"timeout\":1}") (codes "{\"code\":\"4+6\"}") []

abbrev drawn_33_m8 : Message
drawn_33_m8 = message [] (codes "{\"msg_id\":\"r9\",\"msg_type\":\"apply_reply\"}") (codes "{\"msg_id\":\"t4\",\"x\":1}") (codes "{\"dependencies_met\":true}") (codes "{\"status\":\"ok\",\"result\":\"42\"}") ((codes "b") ∷ (codes "b") ∷ (codes "b") ∷ [])

abbrev drawn_33_m9 : Message
drawn_33_m9 = message [] (codes "{\"msg_id\":\"r10\",\"msg_type\":\"apply_reply\"}") (codes "{\"msg_id\":\"t8\",\"x\":1}") (codes "{\"started\":\"x\"}") (codes "{\"status\":\"ok\",\"result\":\"42\"}") []

abbrev drawn_33_m10 : Message
drawn_33_m10 = message [] (codes "{\"msg_id\":\"t11\",\"msg_type\":\"execute_request\",\"session\":\"s\",\"username\":\"u\"}") (codes "{}") (codes "{\"timeout\": 47.0, \"retries\": 1}") (codes "{\"code\":\"4+0\"}") []

abbrev drawn_33_m11 : Message
drawn_33_m11 = message [] (codes "{\"msg_id\":\"j13\",\"msg_type\":\"registration_request\"}") (codes "{}") (codes "{}") (codes "{\"uuid\":\"e1\"}") []

abbrev drawn_33_m12 : Message
drawn_33_m12 = message [] (codes "{\"msg_id\":\"t14\",\"msg_type\":\"execute_request\",\"session\":\"s\",\"username\":\"u\"}") (codes "{}") (codes "{\"follow\":{\"dependencies\":[],\"all\":true,\"success\":false},\"targets\":[\"engine \\u00e9\",\"e4\",\"e4\"],\"retries\":null}") (codes "{\"code\":\"0+3\"}") []

abbrev drawn_33_m13 : Message
drawn_33_m13 = message [] (codes "{\"msg_id\":\"r15\",\"msg_type\":\"execute_reply\"}") (codes "{\"msg_id\":\"t14\",\"x\":1}") (codes "{\"dependencies_met\":true}") (codes "{\"status\":\"ok\",\"result\":\"42\"}") ((codes "b") ∷ (codes "b") ∷ (codes "b") ∷ [])

abbrev drawn_33_m14 : Message
drawn_33_m14 = message [] (codes "{\"msg_id\":\"r17\",\"msg_type\":\"apply_reply\"}") (codes "{\"msg_id\":\"t11\",\"x\":1}") (codes "{\"dependencies_met\":true}") (codes "{\"status\":\"ok\",\"result\":\"42\"}") []

abbrev drawn_33_m15 : Message
drawn_33_m15 = message [] (codes "{\"msg_id\":\"t18\",\"msg_type\":\"apply_request\",\"session\":\"s\",\"username\":\"u\"}") (codes "{}") (codes "{\"after\":{\"dependencies\":[\"t11\"]},\"follow\":{\"dependencies\":[\"t14\",\"t4\",\"t8\"],\"all\":false,\"failure\":true}}") (codes "{\"code\":\"4+2\"}") []

abbrev drawn_33_m16 : Message
drawn_33_m16 = message [] (codes "{\"msg_id\":\"r19\",\"msg_type\":\"apply_reply\"}") (codes "{\"msg_id\":\"t18\",\"x\":1}") (codes "{\"dependencies_met\":true}") (codes "{\"status\":\"aborted\",\"result\":\"42\"}") []

-- 41 entries, 2 openings
abbrev pub drawn_33 : List Line
drawn_33 =
    line (Input (Open 0 LeastLoad 2 3)) None true []
    ∷ line (Input (Up 4 Engine 0 0 (codes "c"))) None true []
    ∷ line (Input (In 4 0 0 drawn_33_m0)) (Some (Join (codes "e4"))) true (Made 4 0 (codes "hub-1-2") (codes "registration_reply") (codes "{\"msg_id\":\"j1\",\"msg_type\":\"registration_request\"}") (codes "{\"status\":\"ok\",\"id\":0}") [] ∷ [])
    ∷ line (Input (Up 5 Task 0 0 (codes "c"))) None true []
    ∷ line (Input (Up 6 Engine 0 0 (215 ∷ []))) None true []
    ∷ line (Input (In 6 0 0 drawn_33_m1)) (Some (Join (codes "e2"))) true (Made 6 0 (codes "hub-1-5") (codes "registration_reply") (codes "{\"msg_id\":\"j2\",\"msg_type\":\"registration_request\"}") (codes "{\"status\":\"ok\",\"id\":1}") [] ∷ [])
    ∷ line (Input (Up 7 Task 0 0 (codes "conn-7"))) None true []
    ∷ line (Input (Up 14 Mux 0 0 (codes "conn-14"))) None true []
    ∷ line (Input (Up 15 Hub 0 0 (codes "d"))) None true []
    ∷ line (Input (In 14 489193782436 14945703675070908172 drawn_33_m2)) (Some (Direct (submission (codes "d3") (codes "execute_request") [] [] no_dependency no_dependency [] 0 0))) true []
    ∷ decision (Hand (codes "d3") 0) (Pass 4 drawn_33_m3 ∷ [])
    ∷ line (Input (Up 16 Engine 489193785436 15460612111783328259 (codes "\\"))) None true []
    ∷ line (Input (In 7 489193785437 0 drawn_33_m4)) (Some (Submit (submission (codes "t4") (codes "apply_request") (codes "s") (codes "u") no_dependency no_dependency [] 0 0))) true []
    ∷ decision (Hand (codes "t4") 0) (Pass 4 drawn_33_m4 ∷ [])
    ∷ line (Input (In 4 489193785437 1583969805842636357 drawn_33_m5)) (Some (Reply (codes "d3") (codes "r5") true false)) true []
    ∷ decision (Settle (codes "d3") Completed ByReply) (Pass 14 drawn_33_m5 ∷ [])
    ∷ line (Input (In 15 489193845437 0 drawn_33_m6)) (Some (Purge false ((codes "d3") ∷ []))) true (Made 15 489193845437 (codes "hub-1-16") (codes "purge_reply") (codes "{\"msg_id\":\"q7\",\"msg_type\":\"purge_request\"}") (codes "{\"status\":\"ok\"}") [] ∷ [])
    ∷ line (Input (In 5 489193845437 0 drawn_33_m7)) (Some (Submit (submission (codes "t8") (codes "execute_request") (codes "s") (codes "u") (dep ((codes "d3") ∷ []) true true false) no_dependency ((codes "e1") ∷ (codes "e4") ∷ (codes "e3") ∷ []) 1 0))) true []
    ∷ decision (Hand (codes "t8") 0) (Pass 4 drawn_33_m7 ∷ [])
    ∷ line (Input (In 4 489193845437 5776542586796390569 drawn_33_m8)) (Some (Reply (codes "t4") (codes "r9") true false)) true []
    ∷ decision (Settle (codes "t4") Completed ByReply) (Pass 7 drawn_33_m8 ∷ [])
    ∷ line (Input (Time 489193905437 7500107169679858835)) None true []
    ∷ line (Input (Up 17 Task 489193908437 0 (158 ∷ []))) None true []
    ∷ line (Input (In 4 489193908438 704739173972029613 drawn_33_m9)) (Some (Reply (codes "t8") (codes "r10") true false)) true []
    ∷ decision (Settle (codes "t8") Completed ByReply) (Pass 5 drawn_33_m9 ∷ [])
    ∷ line (Input (In 17 489193908938 17943913393577482110 drawn_33_m10)) (Some (Submit (submission (codes "t11") (codes "execute_request") (codes "s") (codes "u") no_dependency no_dependency [] 47 1))) true []
    ∷ decision (Hand (codes "t11") 1) (Pass 6 drawn_33_m10 ∷ [])
    ∷ line (Input (In 16 489193908939 1145270613084425611 drawn_33_m11)) (Some (Join (codes "e1"))) true (Made 16 489193908939 (codes "hub-1-27") (codes "registration_reply") (codes "{\"msg_id\":\"j13\",\"msg_type\":\"registration_request\"}") (codes "{\"status\":\"ok\",\"id\":2}") [] ∷ [])
    ∷ line (Input (In 7 489193908939 0 drawn_33_m12)) (Some (Submit (submission (codes "t14") (codes "execute_request") (codes "s") (codes "u") no_dependency (dep [] true false false) ((101 ∷ 110 ∷ 103 ∷ 105 ∷ 110 ∷ 101 ∷ 32 ∷ 195 ∷ 169 ∷ []) ∷ (codes "e4") ∷ (codes "e4") ∷ []) 0 0))) true []
    ∷ decision (Hand (codes "t14") 0) (Pass 4 drawn_33_m12 ∷ [])
    ∷ line (Input (In 4 489193908940 9810998417640646255 drawn_33_m13)) (Some (Reply (codes "t14") (codes "r15") true false)) true []
    ∷ decision (Settle (codes "t14") Completed ByReply) (Pass 7 drawn_33_m13 ∷ [])
    ∷ line (Input (In 6 489193908940 0 drawn_33_m14)) (Some (Reply (codes "t11") (codes "r17") true false)) true []
    ∷ decision (Settle (codes "t11") Completed ByReply) (Pass 17 drawn_33_m14 ∷ [])
    ∷ line (Input (Time 489193908940 17733056222980998038)) None true []
    ∷ line (Input (In 5 489193968940 624241203694537537 drawn_33_m15)) (Some (Submit (submission (codes "t18") (codes "apply_request") (codes "s") (codes "u") (dep ((codes "t11") ∷ []) true true false) (dep ((codes "t14") ∷ (codes "t4") ∷ (codes "t8") ∷ []) false true true) [] 0 0))) true []
    ∷ decision (Hand (codes "t18") 0) (Pass 4 drawn_33_m15 ∷ [])
    ∷ line (Input (In 4 489193968940 0 drawn_33_m16)) (Some (Reply (codes "t18") (codes "r19") false false)) true []
    ∷ decision (Settle (codes "t18") Failed ByReply) (Pass 5 drawn_33_m16 ∷ [])
    ∷ line (Input (Open 0 Lru 0 3)) None true []
    ∷ line (Input (Time 1978851640678 9435331246456351552)) None true []
    ∷ []

pub drawn_33_is_told : IsTold drawn_33
unfolding digits escape_byte reserved_front next_word answer_id beat_id beat_request outcome_id resubmit_id header_text reply_type submit_refused empty_object ok_content join_content beat_content error_content outcome_content resubmit_content connection_content history_content queue_member queue_content settled_member result_content engine_lost_text date_of day_text time_text date_digits civil_date from_year from_month encode_with serde_json_on_literals is_utf8 chars event_of read_header is_request is_reply is_leave read_submit whole_timeouts ends_in_name is_db request_of read_content read_task read_declined read_status
drawn_33_is_told = record { goes = refl; reads = refl; rests = refl }

pub drawn_33_legal : Legal (goes_on [] drawn_33)
drawn_33_legal = told_legal drawn_33 drawn_33_is_told

abbrev drawn_34_m0 : Message
drawn_34_m0 = message [] (codes "{\"msg_id\":\"q3\",\"msg_type\":\"queue_request\"}") (codes "{}") (codes "{}") (codes "{\"targets\":[1,0,1],\"verbose\":true}") []

abbrev drawn_34_m1 : Message
drawn_34_m1 = message [] (codes "{\"msg_id\":\"t5\",\"msg_type\":\"execute_request\",\"session\":\"s\",\"username\":\"u\"}") (codes "{}") (codes "{\"timeout\": 19.0, \"retries\": 1}") (codes "{\"code\":\"7+3\"}") []

abbrev drawn_34_m2 : Message
drawn_34_m2 = message [] (codes "{\"msg_id\":\"q6\",\"msg_type\":\"queue_request\"}") (codes "{}") (codes "{}") (codes "{\"targets\":[],\"verbose\":false}") []

abbrev drawn_34_m3 : Message
drawn_34_m3 = message (codes "nobody") (codes "{\"msg_id\":\"d7\",\"msg_type\":\"execute_request\"}") (codes "{}") (codes "{}") (codes "{\"code\":\"1\"}") []

abbrev drawn_34_m4 : Message
drawn_34_m4 = message (codes "nobody") (codes "{\"msg_id\":\"d9\",\"msg_type\":\"execute_request\"}") (codes "{}") (codes "{}") (codes "{\"code\":\"1\"}") []

abbrev drawn_34_m5 : Message
drawn_34_m5 = message [] (codes "{\"msg_id\":\"j1\",\"msg_type\":\"registration_request\"}") (codes "{}") (codes "{}") (codes "{\"uuid\":\"e1\"}") []

abbrev drawn_34_m6 : Message
drawn_34_m6 = message (codes "nobody") (codes "{\"msg_id\":\"d10\",\"msg_type\":\"execute_request\"}") (codes "{}") (codes "{}") (codes "{\"code\":\"1\"}") []

abbrev drawn_34_m7 : Message
drawn_34_m7 = message [] (codes "{\"msg_id\":\"out-1\",\"session\":\"controller\",\"username\":\"controller\",\"date\":\"1978-05-07T04:46:27.453Z\",\"msg_type\":\"execute_reply\",\"version\":\"5.3\"}") (codes "{\"msg_id\":\"t5\",\"msg_type\":\"execute_request\",\"session\":\"s\",\"username\":\"u\"}") (codes "{}") (codes "{\"status\":\"error\",\"ename\":\"TaskTimeout\",\"evalue\":\"the task waited past its timeout\",\"traceback\":[]}") []

abbrev drawn_34_m8 : Message
drawn_34_m8 = message [] (codes "{\"msg_id\":\"q13\",\"msg_type\":\"queue_request\"}") (codes "{}") (codes "{}") (codes "{\"targets\":[99],\"verbose\":false}") []

-- 19 entries, 1 opening
abbrev pub drawn_34 : List Line
drawn_34 =
    line (Input (Open 0 LeastLoad 1 3)) None true []
    ∷ line (Input (Up 1 Engine 0 0 (codes "d"))) None true []
    ∷ line (Input (Up 10 Task 0 0 (codes "conn-10"))) None true []
    ∷ line (Input (Up 11 Mux 0 0 (codes "d"))) None true []
    ∷ line (Input (Up 12 Hub 0 0 (codes "d"))) None true []
    ∷ line (Input (In 12 263364266949 0 drawn_34_m0)) (Some (Ask (Queue (1 ∷ 0 ∷ 1 ∷ []) true))) false (Made 12 263364266949 (codes "hub-1-5") (codes "queue_reply") (codes "{\"msg_id\":\"q3\",\"msg_type\":\"queue_request\"}") (codes "{\"status\":\"error\",\"ename\":\"NoSuchEngine\",\"evalue\":\"1\",\"traceback\":[],\"ids\":[]}") [] ∷ [])
    ∷ line (Input (Time 263364266950 3645698846018422859)) None true []
    ∷ line (Input (In 10 263364326951 10327103031604241512 drawn_34_m1)) (Some (Submit (submission (codes "t5") (codes "execute_request") (codes "s") (codes "u") no_dependency no_dependency [] 19 1))) true []
    ∷ line (Input (In 12 263364326952 0 drawn_34_m2)) (Some (Ask (Queue [] false))) false (Made 12 263364326952 (codes "hub-1-8") (codes "queue_reply") (codes "{\"msg_id\":\"q6\",\"msg_type\":\"queue_request\"}") (codes "{\"status\":\"ok\",\"unassigned\":1}") [] ∷ [])
    ∷ line (Input (In 11 263364326952 17423272384706826357 drawn_34_m3)) (Some (Direct (submission (codes "d7") (codes "execute_request") [] [] no_dependency no_dependency [] 0 0))) false (Made 11 263364326952 (codes "hub-1-9") (codes "submit_refused") (codes "{\"msg_id\":\"d7\",\"msg_type\":\"execute_request\"}") (codes "{\"status\":\"error\",\"ename\":\"NoSuchEngine\",\"evalue\":\"6e6f626f6479\",\"traceback\":[],\"ids\":[]}") [] ∷ [])
    ∷ line (Input (In 11 263364386952 17075109031623243523 drawn_34_m4)) (Some (Direct (submission (codes "d9") (codes "execute_request") [] [] no_dependency no_dependency [] 0 0))) false (Made 11 263364386952 (codes "hub-1-10") (codes "submit_refused") (codes "{\"msg_id\":\"d9\",\"msg_type\":\"execute_request\"}") (codes "{\"status\":\"error\",\"ename\":\"NoSuchEngine\",\"evalue\":\"6e6f626f6479\",\"traceback\":[],\"ids\":[]}") [] ∷ [])
    ∷ line (Input (In 1 263364387452 15669192975933072034 drawn_34_m5)) (Some (Join (codes "e1"))) true (Made 1 263364387452 (codes "hub-1-11") (codes "registration_reply") (codes "{\"msg_id\":\"j1\",\"msg_type\":\"registration_request\"}") (codes "{\"status\":\"ok\",\"id\":0}") [] ∷ [])
    ∷ decision (Hand (codes "t5") 0) (Pass 1 drawn_34_m1 ∷ [])
    ∷ line (Input (Down 1 263364387452 15669192975933072034)) None true []
    ∷ line (Input (In 11 263364387452 7031813659227291183 drawn_34_m6)) (Some (Direct (submission (codes "d10") (codes "execute_request") [] [] no_dependency no_dependency [] 0 0))) false (Made 11 263364387452 (codes "hub-1-14") (codes "submit_refused") (codes "{\"msg_id\":\"d10\",\"msg_type\":\"execute_request\"}") (codes "{\"status\":\"error\",\"ename\":\"NoSuchEngine\",\"evalue\":\"6e6f626f6479\",\"traceback\":[],\"ids\":[]}") [] ∷ [])
    ∷ line (Input (In 10 263364387452 8085435665368284358 drawn_34_m1)) (Some (Submit (submission (codes "t5") (codes "execute_request") (codes "s") (codes "u") no_dependency no_dependency [] 19 1))) false []
    ∷ line (Input (Time 263364387453 5845571097113060050)) None true []
    ∷ decision (Settle (codes "t5") Failed TaskTimeout) (Pass 10 drawn_34_m7 ∷ [])
    ∷ line (Input (In 12 263364387453 11774911697521201977 drawn_34_m8)) (Some (Ask (Queue (99 ∷ []) false))) false (Made 12 263364387453 (codes "hub-1-18") (codes "queue_reply") (codes "{\"msg_id\":\"q13\",\"msg_type\":\"queue_request\"}") (codes "{\"status\":\"error\",\"ename\":\"NoSuchEngine\",\"evalue\":\"99\",\"traceback\":[],\"ids\":[]}") [] ∷ [])
    ∷ []

pub drawn_34_is_told : IsTold drawn_34
unfolding digits escape_byte reserved_front next_word answer_id beat_id beat_request outcome_id resubmit_id header_text reply_type submit_refused empty_object ok_content join_content beat_content error_content outcome_content resubmit_content connection_content history_content queue_member queue_content settled_member result_content engine_lost_text date_of day_text time_text date_digits civil_date from_year from_month encode_with serde_json_on_literals is_utf8 chars event_of read_header is_request is_reply is_leave read_submit whole_timeouts ends_in_name is_db request_of read_content read_task read_declined read_status
drawn_34_is_told = record { goes = refl; reads = refl; rests = refl }

pub drawn_34_legal : Legal (goes_on [] drawn_34)
drawn_34_legal = told_legal drawn_34 drawn_34_is_told

abbrev drawn_35_m0 : Message
drawn_35_m0 = message [] (codes "{\"msg_id\":\"j1\",\"msg_type\":\"registration_request\"}") (codes "{}") (codes "{}") (codes "{\"uuid\":\"engine \\u00e9\"}") []

abbrev drawn_35_m1 : Message
drawn_35_m1 = message (codes "junk") (codes "{\"msg_id\":\"t6\",\"msg_type\":\"apply_request\",\"session\":\"s\",\"username\":\"u\"}") (codes "{}") (codes "{\"targets\":[]}") (codes "{\"code\":\"0+5\"}") []

abbrev drawn_35_m2 : Message
drawn_35_m2 = message [] (codes "{\"msg_id\":\"t6\",\"msg_type\":\"apply_request\",\"session\":\"s\",\"username\":\"u\"}") (codes "{}") (codes "{\"targets\":[]}") (codes "{\"code\":\"0+5\"}") []

abbrev drawn_35_m3 : Message
drawn_35_m3 = message [] (codes "{\"msg_id\":\"t7\",\"msg_type\":\"apply_request\",\"session\":\"s\",\"username\":\"u\"}") (codes "{}") (codes "{\"after\":{\"dependencies\":[\"t6\"],\"all\":false,\"success\":true,\"failure\":true},\"targets\":[],\"retries\":5}") (codes "{\"code\":\"5+4\"}") ((codes "buf") ∷ (codes "buf") ∷ [])

abbrev drawn_35_m4 : Message
drawn_35_m4 = message [] (codes "{\"msg_id\":\"t10\",\"msg_type\":\"apply_request\",\"session\":\"s\",\"username\":\"u\"}") (codes "{}") (codes "{\"targets\":true,\"timeout\":null}") (codes "{\"code\":\"0+2\"}") []

abbrev drawn_35_m5 : Message
drawn_35_m5 = message [] (codes "{\"msg_id\":\"out-1\",\"session\":\"controller\",\"username\":\"controller\",\"date\":\"1983-06-18T11:23:57.889Z\",\"msg_type\":\"apply_reply\",\"version\":\"5.3\"}") (codes "{\"msg_id\":\"t6\",\"msg_type\":\"apply_request\",\"session\":\"s\",\"username\":\"u\"}") (codes "{}") (codes "{\"status\":\"error\",\"ename\":\"EngineError\",\"evalue\":\"engine 0 was lost while it ran this task\",\"traceback\":[]}") []

abbrev drawn_35_m6 : Message
drawn_35_m6 = message (codes "nobody") (codes "{\"msg_id\":\"d12\",\"msg_type\":\"execute_request\"}") (codes "{}") (codes "{}") (codes "{\"code\":\"1\"}") []

abbrev drawn_35_m7 : Message
drawn_35_m7 = message [] (codes "{\"msg_id\":\"q15\",\"msg_type\":\"purge_request\"}") (codes "{}") (codes "{}") (codes "{\"msg_ids\":[\"t7\"]}") []

-- 18 entries, 1 opening
abbrev pub drawn_35 : List Line
drawn_35 =
    line (Input (Open 0 Lru 2 1)) None true []
    ∷ line (Input (Up 2 Engine 0 0 (codes "conn-2"))) None true []
    ∷ line (Input (In 2 0 0 drawn_35_m0)) (Some (Join (101 ∷ 110 ∷ 103 ∷ 105 ∷ 110 ∷ 101 ∷ 32 ∷ 195 ∷ 169 ∷ []))) true (Made 2 0 (codes "hub-1-2") (codes "registration_reply") (codes "{\"msg_id\":\"j1\",\"msg_type\":\"registration_request\"}") (codes "{\"status\":\"ok\",\"id\":0}") [] ∷ [])
    ∷ line (Input (Up 3 Task 0 0 (codes "conn-3"))) None true []
    ∷ line (Input (Up 5 Task 0 0 (codes "c"))) None true []
    ∷ line (Input (Up 12 Mux 0 0 (codes "d"))) None true []
    ∷ line (Input (Up 13 Hub 0 0 (codes "conn-13"))) None true []
    ∷ line (Input (Beat 424783371388 818797369805555576)) None true (Made 2 424783371388 (codes "hub-1-7-0") (codes "beat_request") (codes "{}") (codes "{\"beat\":1}") [] ∷ [])
    ∷ line (Input (In 3 424783434388 0 drawn_35_m1)) (Some (Submit (submission (codes "t6") (codes "apply_request") (codes "s") (codes "u") no_dependency no_dependency [] 0 0))) true []
    ∷ decision (Hand (codes "t6") 0) (Pass 2 drawn_35_m2 ∷ [])
    ∷ line (Input (In 5 424783434389 12416113212710124871 drawn_35_m3)) (Some (Submit (submission (codes "t7") (codes "apply_request") (codes "s") (codes "u") (dep ((codes "t6") ∷ []) false true true) no_dependency [] 0 5))) true []
    ∷ line (Input (In 3 424783437389 8148187979825370195 drawn_35_m4)) (Some (Ask (Bad (codes "targets")))) false (Made 3 424783437389 (codes "hub-1-11") (codes "submit_refused") (codes "{\"msg_id\":\"t10\",\"msg_type\":\"apply_request\",\"session\":\"s\",\"username\":\"u\"}") (codes "{\"status\":\"error\",\"ename\":\"BadMetadata\",\"evalue\":\"targets\",\"traceback\":[],\"ids\":[]}") [] ∷ [])
    ∷ line (Input (Down 5 424783437889 0)) None true []
    ∷ line (Input (Beat 424783437889 1845243901200634258)) None true (Made 2 424783437889 (codes "hub-1-13-0") (codes "beat_request") (codes "{}") (codes "{\"beat\":2}") [] ∷ [])
    ∷ decision (Lose 0) []
    ∷ decision (Settle (codes "t6") Failed EngineError) (Pass 3 drawn_35_m5 ∷ [])
    ∷ line (Input (In 12 424783497889 0 drawn_35_m6)) (Some (Direct (submission (codes "d12") (codes "execute_request") [] [] no_dependency no_dependency [] 0 0))) false (Made 12 424783497889 (codes "hub-1-16") (codes "submit_refused") (codes "{\"msg_id\":\"d12\",\"msg_type\":\"execute_request\"}") (codes "{\"status\":\"error\",\"ename\":\"NoSuchEngine\",\"evalue\":\"6e6f626f6479\",\"traceback\":[],\"ids\":[]}") [] ∷ [])
    ∷ line (Input (In 13 424783498389 10951678578606180205 drawn_35_m7)) (Some (Purge false ((codes "t7") ∷ []))) false (Made 13 424783498389 (codes "hub-1-17") (codes "purge_reply") (codes "{\"msg_id\":\"q15\",\"msg_type\":\"purge_request\"}") (codes "{\"status\":\"error\",\"ename\":\"Inflight\",\"evalue\":\"\",\"traceback\":[],\"ids\":[\"t7\"]}") [] ∷ [])
    ∷ []

pub drawn_35_is_told : IsTold drawn_35
unfolding digits escape_byte reserved_front next_word answer_id beat_id beat_request outcome_id resubmit_id header_text reply_type submit_refused empty_object ok_content join_content beat_content error_content outcome_content resubmit_content connection_content history_content queue_member queue_content settled_member result_content engine_lost_text date_of day_text time_text date_digits civil_date from_year from_month encode_with serde_json_on_literals is_utf8 chars event_of read_header is_request is_reply is_leave read_submit whole_timeouts ends_in_name is_db request_of read_content read_task read_declined read_status
drawn_35_is_told = record { goes = refl; reads = refl; rests = refl }

pub drawn_35_legal : Legal (goes_on [] drawn_35)
drawn_35_legal = told_legal drawn_35 drawn_35_is_told

abbrev drawn_36_m0 : Message
drawn_36_m0 = message [] (codes "{\"msg_id\":\"j1\",\"msg_type\":\"registration_request\"}") (codes "{}") (codes "{}") (codes "{\"uuid\":\"e5\"}") []

abbrev drawn_36_m1 : Message
drawn_36_m1 = message [] (codes "{\"msg_id\":\"j2\",\"msg_type\":\"registration_request\"}") (codes "{}") (codes "{}") (codes "{\"uuid\":\"e4\"}") []

abbrev drawn_36_m2 : Message
drawn_36_m2 = message (codes "e5") (codes "{\"msg_id\":\"d3\",\"msg_type\":\"execute_request\"}") (codes "{}") (codes "{}") (codes "{\"code\":\"1\"}") []

abbrev drawn_36_m3 : Message
drawn_36_m3 = message [] (codes "{\"msg_id\":\"d3\",\"msg_type\":\"execute_request\"}") (codes "{}") (codes "{}") (codes "{\"code\":\"1\"}") []

abbrev drawn_36_m4 : Message
drawn_36_m4 = message [] (codes "{\"msg_id\":\"r4\",\"msg_type\":\"apply_reply\"}") (codes "{\"msg_id\":\"d3\",\"x\":1}") (codes "{\"dependencies_met\":true}") (codes "{\"status\":\"ok\",\"result\":\"42\"}") ((codes "b") ∷ [])

abbrev drawn_36_m5 : Message
drawn_36_m5 = message [] (codes "{\"msg_id\":\"q5\",\"msg_type\":\"resubmit_request\"}") (codes "{}") (codes "{}") (codes "{\"msg_ids\":[\"d3\"]}") []

abbrev drawn_36_m6 : Message
drawn_36_m6 = message [] (codes "{\"msg_id\":\"resubmit:2\",\"session\":\"\",\"username\":\"\",\"date\":\"2028-08-31T05:33:12.430Z\",\"msg_type\":\"execute_request\",\"version\":\"5.3\"}") (codes "{}") (codes "{}") (codes "{\"code\":\"1\"}") []

abbrev drawn_36_m7 : Message
drawn_36_m7 = message [] (codes "{\"msg_id\":\"r6\",\"msg_type\":\"apply_reply\"}") (codes "{\"msg_id\":\"resubmit:2\",\"x\":1}") (codes "{\"dependencies_met\":true}") (codes "{\"status\":\"ok\",\"result\":\"42\"}") []

abbrev drawn_36_m8 : Message
drawn_36_m8 = message [] (codes "{\"msg_id\":\"t7\",\"msg_type\":\"execute_request\",\"session\":\"s\",\"username\":\"u\"}") (codes "{}") (codes "{\"after\":\"x\",\"targets\":[\"engine \\u00e9\",\"e1\"]}") (codes "{\"code\":\"6+5\"}") []

abbrev drawn_36_m9 : Message
drawn_36_m9 = message [] (codes "{\"msg_id\":\"out-3\",\"session\":\"controller\",\"username\":\"controller\",\"date\":\"2028-08-31T05:33:15.430Z\",\"msg_type\":\"execute_reply\",\"version\":\"5.3\"}") (codes "{\"msg_id\":\"t7\",\"msg_type\":\"execute_request\",\"session\":\"s\",\"username\":\"u\"}") (codes "{}") (codes "{\"status\":\"error\",\"ename\":\"InvalidDependency\",\"evalue\":\"a dependency is unknown or is the task itself\",\"traceback\":[]}") []

abbrev drawn_36_m10 : Message
drawn_36_m10 = message [] (codes "{\"msg_id\":\"t8\",\"msg_type\":\"execute_request\",\"session\":\"s\",\"username\":\"u\"}") (codes "{}") (codes "{\"after\":{\"dependencies\":[],\"failure\":true},\"follow\":{\"dependencies\":[\"resubmit:2\",\"d3\"]}}") (codes "{\"code\":\"4+2\"}") []

abbrev drawn_36_m11 : Message
drawn_36_m11 = message [] (codes "{\"msg_id\":\"out-4\",\"session\":\"controller\",\"username\":\"controller\",\"date\":\"2028-08-31T05:33:15.930Z\",\"msg_type\":\"execute_reply\",\"version\":\"5.3\"}") (codes "{\"msg_id\":\"t8\",\"msg_type\":\"execute_request\",\"session\":\"s\",\"username\":\"u\"}") (codes "{}") (codes "{\"status\":\"error\",\"ename\":\"ImpossibleDependency\",\"evalue\":\"the dependencies of this task cannot be met\",\"traceback\":[]}") []

abbrev drawn_36_m12 : Message
drawn_36_m12 = message [] (codes "{\"msg_id\":\"t8\",\"msg_type\":\"execute_request\",\"session\":\"s\",\"username\":\"u\"}") (codes "{}") (codes "{\"after\":{\"dependencies\":[],\"failure\":true},\"follow\":{\"dependencies\":[\"resubmit:2\",\"d3\"]}}") (codes "{\"code\":\"4+2\"} ") []

abbrev drawn_36_m13 : Message
drawn_36_m13 = message [] (codes "{\"msg_id\":\"t9\",\"msg_type\":\"apply_request\",\"session\":\"s\",\"username\":\"u\"}") (codes "{}") (codes "{\"after\":{\"dependencies\":[\"t7\",\"t7\",\"t8\"]}}") (codes "{\"code\":\"0+8\"}") ((codes "buf") ∷ (codes "buf") ∷ [])

abbrev drawn_36_m14 : Message
drawn_36_m14 = message [] (codes "{\"msg_id\":\"out-5\",\"session\":\"controller\",\"username\":\"controller\",\"date\":\"2028-08-31T05:33:15.930Z\",\"msg_type\":\"apply_reply\",\"version\":\"5.3\"}") (codes "{\"msg_id\":\"t9\",\"msg_type\":\"apply_request\",\"session\":\"s\",\"username\":\"u\"}") (codes "{}") (codes "{\"status\":\"error\",\"ename\":\"ImpossibleDependency\",\"evalue\":\"the dependencies of this task cannot be met\",\"traceback\":[]}") []

abbrev drawn_36_m15 : Message
drawn_36_m15 = message [] (codes "{\"msg_id\":\"t10\",\"msg_type\":\"execute_request\",\"session\":\"s\",\"username\":\"u\"}") (codes "{}") (codes "{\"follow\":{\"dependencies\":[\"resubmit:2\",\"d3\",\"t8\"],\"failure\":false},\"retries\":0}") (codes "{\"code\":\"8+7\"}") ((codes "buf") ∷ (codes "buf") ∷ [])

abbrev drawn_36_m16 : Message
drawn_36_m16 = message [] (codes "{\"msg_id\":\"out-6\",\"session\":\"controller\",\"username\":\"controller\",\"date\":\"2028-08-31T05:33:18.931Z\",\"msg_type\":\"execute_reply\",\"version\":\"5.3\"}") (codes "{\"msg_id\":\"t10\",\"msg_type\":\"execute_request\",\"session\":\"s\",\"username\":\"u\"}") (codes "{}") (codes "{\"status\":\"error\",\"ename\":\"ImpossibleDependency\",\"evalue\":\"the dependencies of this task cannot be met\",\"traceback\":[]}") []

abbrev drawn_36_m17 : Message
drawn_36_m17 = message [] (codes "{\"msg_id\":\"q11\",\"msg_type\":\"queue_request\"}") (codes "{}") (codes "{}") (codes "{\"targets\":null,\"verbose\":true}") []

abbrev drawn_36_m18 : Message
drawn_36_m18 = message [] (codes "{\"msg_id\":\"q12\",\"msg_type\":\"queue_request\"}") (codes "{}") (codes "{}") (codes "{\"targets\":[0],\"verbose\":true}") []

abbrev drawn_36_m19 : Message
drawn_36_m19 = message [] (codes "{\"msg_id\":\"t13\",\"msg_type\":\"apply_request\",\"session\":\"s\",\"username\":\"u\"}") (codes "{}") (codes "{\"after\":{\"dependencies\":[\"d3\",\"d3\",\"d3\"]},\"retries\":0,\"timeout\":0}") (codes "{\"code\":\"8+0\"}") []

abbrev drawn_36_m20 : Message
drawn_36_m20 = message [] (codes "{\"msg_id\":\"r14\",\"msg_type\":\"apply_reply\"}") (codes "{\"msg_id\":\"t13\",\"x\":1}") (codes "{}") (codes "{\"status\":\"ok\",\"result\":\"42\"}") []

abbrev drawn_36_m21 : Message
drawn_36_m21 = message [] (codes "{\"msg_id\":\"t15\",\"msg_type\":\"apply_request\",\"session\":\"s\",\"username\":\"u\"}") (codes "{}") (codes "{\"timeout\":5}") (codes "{\"code\":\"1+5\"}") []

-- 38 entries, 1 opening
abbrev pub drawn_36 : List Line
drawn_36 =
    line (Input (Open 0 PlainRandom 2 1)) None true []
    ∷ line (Input (Up 1 Engine 0 0 (codes "l"))) None true []
    ∷ line (Input (In 1 0 0 drawn_36_m0)) (Some (Join (codes "e5"))) true (Made 1 0 (codes "hub-1-2") (codes "registration_reply") (codes "{\"msg_id\":\"j1\",\"msg_type\":\"registration_request\"}") (codes "{\"status\":\"ok\",\"id\":0}") [] ∷ [])
    ∷ line (Input (Up 2 Task 0 0 (codes "d"))) None true []
    ∷ line (Input (Up 3 Engine 0 0 (codes "<"))) None true []
    ∷ line (Input (In 3 0 0 drawn_36_m1)) (Some (Join (codes "e4"))) true (Made 3 0 (codes "hub-1-5") (codes "registration_reply") (codes "{\"msg_id\":\"j2\",\"msg_type\":\"registration_request\"}") (codes "{\"status\":\"ok\",\"id\":1}") [] ∷ [])
    ∷ line (Input (Up 4 Task 0 0 (codes "c"))) None true []
    ∷ line (Input (Up 5 Mux 0 0 (codes "x5"))) None true []
    ∷ line (Input (Up 6 Hub 0 0 (codes "conn-6"))) None true []
    ∷ line (Input (Down 4 1851312789430 1241774410936212856)) None true []
    ∷ line (Input (In 5 1851312792430 17439211438543768954 drawn_36_m2)) (Some (Direct (submission (codes "d3") (codes "execute_request") [] [] no_dependency no_dependency [] 0 0))) true []
    ∷ decision (Hand (codes "d3") 0) (Pass 1 drawn_36_m3 ∷ [])
    ∷ line (Input (In 1 1851312792430 1214541383624446654 drawn_36_m4)) (Some (Reply (codes "d3") (codes "r4") true false)) true []
    ∷ decision (Settle (codes "d3") Completed ByReply) (Pass 5 drawn_36_m4 ∷ [])
    ∷ line (Input (In 6 1851312792430 17970338732678321885 drawn_36_m5)) (Some (Resubmit ((codes "d3") ∷ []))) true (Made 6 1851312792430 (codes "hub-1-14") (codes "resubmit_reply") (codes "{\"msg_id\":\"q5\",\"msg_type\":\"resubmit_request\"}") (codes "{\"status\":\"ok\",\"resubmitted\":{\"d3\":\"resubmit:2\"}}") [] ∷ [])
    ∷ decision (Hand (codes "resubmit:2") 1) (Pass 3 drawn_36_m6 ∷ [])
    ∷ line (Input (In 3 1851312792430 0 drawn_36_m7)) (Some (Reply (codes "resubmit:2") (codes "r6") true false)) true []
    ∷ decision (Settle (codes "resubmit:2") Completed ByReply) (Pass 5 drawn_36_m7 ∷ [])
    ∷ line (Input (In 2 1851312795430 9912858518127138998 drawn_36_m8)) (Some (Submit (submission (codes "t7") (codes "execute_request") (codes "s") (codes "u") (dep ((codes "x") ∷ []) true true false) no_dependency ((101 ∷ 110 ∷ 103 ∷ 105 ∷ 110 ∷ 101 ∷ 32 ∷ 195 ∷ 169 ∷ []) ∷ (codes "e1") ∷ []) 0 0))) true []
    ∷ decision (Settle (codes "t7") Failed InvalidDependency) (Pass 2 drawn_36_m9 ∷ [])
    ∷ line (Input (In 2 1851312795930 5599519816906895785 drawn_36_m10)) (Some (Submit (submission (codes "t8") (codes "execute_request") (codes "s") (codes "u") (dep [] true true true) (dep ((codes "resubmit:2") ∷ (codes "d3") ∷ []) true true false) [] 0 0))) true []
    ∷ decision (Settle (codes "t8") Failed ImpossibleDependency) (Pass 2 drawn_36_m11 ∷ [])
    ∷ line (Input (In 2 1851312795930 17257384626341738854 drawn_36_m12)) (Some (Submit (submission (codes "t8") (codes "execute_request") (codes "s") (codes "u") (dep [] true true true) (dep ((codes "resubmit:2") ∷ (codes "d3") ∷ []) true true false) [] 0 0))) false (Made 2 1851312795930 (codes "hub-1-22") (codes "submit_refused") (codes "{\"msg_id\":\"t8\",\"msg_type\":\"execute_request\",\"session\":\"s\",\"username\":\"u\"}") (codes "{\"status\":\"error\",\"ename\":\"KnownId\",\"evalue\":\"t8\",\"traceback\":[],\"ids\":[]}") [] ∷ [])
    ∷ line (Input (In 2 1851312795930 0 drawn_36_m13)) (Some (Submit (submission (codes "t9") (codes "apply_request") (codes "s") (codes "u") (dep ((codes "t7") ∷ (codes "t8") ∷ []) true true false) no_dependency [] 0 0))) true []
    ∷ decision (Settle (codes "t9") Failed ImpossibleDependency) (Pass 2 drawn_36_m14 ∷ [])
    ∷ line (Input (In 2 1851312798930 16440945217493985469 drawn_36_m8)) (Some (Submit (submission (codes "t7") (codes "execute_request") (codes "s") (codes "u") (dep ((codes "x") ∷ []) true true false) no_dependency ((101 ∷ 110 ∷ 103 ∷ 105 ∷ 110 ∷ 101 ∷ 32 ∷ 195 ∷ 169 ∷ []) ∷ (codes "e1") ∷ []) 0 0))) false (Pass 2 drawn_36_m9 ∷ [])
    ∷ line (Input (In 2 1851312798931 9388423116832726678 drawn_36_m15)) (Some (Submit (submission (codes "t10") (codes "execute_request") (codes "s") (codes "u") no_dependency (dep ((codes "resubmit:2") ∷ (codes "d3") ∷ (codes "t8") ∷ []) true true false) [] 0 0))) true []
    ∷ decision (Settle (codes "t10") Failed ImpossibleDependency) (Pass 2 drawn_36_m16 ∷ [])
    ∷ line (Input (In 6 1851312798931 644042897683268830 drawn_36_m17)) (Some (Ask (Queue [] true))) false (Made 6 1851312798931 (codes "hub-1-28") (codes "queue_reply") (codes "{\"msg_id\":\"q11\",\"msg_type\":\"queue_request\"}") (codes "{\"status\":\"ok\",\"unassigned\":[],\"0\":{\"queue\":[],\"completed\":[\"d3\"],\"tasks\":[]},\"1\":{\"queue\":[],\"completed\":[\"resubmit:2\"],\"tasks\":[]}}") [] ∷ [])
    ∷ line (Input (In 6 1851312798931 14935741923364634115 drawn_36_m18)) (Some (Ask (Queue (0 ∷ []) true))) false (Made 6 1851312798931 (codes "hub-1-29") (codes "queue_reply") (codes "{\"msg_id\":\"q12\",\"msg_type\":\"queue_request\"}") (codes "{\"status\":\"ok\",\"unassigned\":[],\"0\":{\"queue\":[],\"completed\":[\"d3\"],\"tasks\":[]}}") [] ∷ [])
    ∷ line (Input (In 2 1851312798931 6756695656326808841 drawn_36_m19)) (Some (Submit (submission (codes "t13") (codes "apply_request") (codes "s") (codes "u") (dep ((codes "d3") ∷ []) true true false) no_dependency [] 0 0))) true []
    ∷ decision (Hand (codes "t13") 1) (Pass 3 drawn_36_m19 ∷ [])
    ∷ line (Input (Beat 1851312799431 6144930945430352629)) None true (Made 1 1851312799431 (codes "hub-1-32-0") (codes "beat_request") (codes "{}") (codes "{\"beat\":1}") [] ∷ Made 3 1851312799431 (codes "hub-1-32-1") (codes "beat_request") (codes "{}") (codes "{\"beat\":1}") [] ∷ [])
    ∷ line (Input (Up 13 Engine 1851312799431 4417566841876331848 (codes "conn-13"))) None true []
    ∷ line (Input (In 3 1851312799431 0 drawn_36_m20)) (Some (Reply (codes "t13") (codes "r14") true false)) true []
    ∷ decision (Settle (codes "t13") Completed ByReply) (Pass 2 drawn_36_m20 ∷ [])
    ∷ line (Input (In 2 1851312799431 13558852796568666372 drawn_36_m21)) (Some (Submit (submission (codes "t15") (codes "apply_request") (codes "s") (codes "u") no_dependency no_dependency [] 5 0))) true []
    ∷ decision (Hand (codes "t15") 0) (Pass 1 drawn_36_m21 ∷ [])
    ∷ []

pub drawn_36_is_told : IsTold drawn_36
unfolding digits escape_byte reserved_front next_word answer_id beat_id beat_request outcome_id resubmit_id header_text reply_type submit_refused empty_object ok_content join_content beat_content error_content outcome_content resubmit_content connection_content history_content queue_member queue_content settled_member result_content engine_lost_text date_of day_text time_text date_digits civil_date from_year from_month encode_with serde_json_on_literals is_utf8 chars event_of read_header is_request is_reply is_leave read_submit whole_timeouts ends_in_name is_db request_of read_content read_task read_declined read_status
drawn_36_is_told = record { goes = refl; reads = refl; rests = refl }

pub drawn_36_legal : Legal (goes_on [] drawn_36)
drawn_36_legal = told_legal drawn_36 drawn_36_is_told
