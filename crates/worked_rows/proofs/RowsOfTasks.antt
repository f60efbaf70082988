-- Worked rows on attempts, beats and timeouts, computed: each history is legal, is at rest, and sends what is said. Nothing rests on them.
use Rattle.std.proofs.Common.{List, [], ◌∷◌, Some, None, true, false, refl}
use Rattle.std.specs.Prelude.{codes}
use Rattle.std.specs.Fmt.{digits}
use Rattle.std.specs.Str.{is_utf8, chars}
use Rattle.json.specs.Print.{escape_byte}
use Rattle.serde_json.proofs.OnLiterals.{serde_json_on_literals}
use Rattle.hex.specs.Hex.{encode_with}
use Rattle.edges.specs.Date.{date_of, day_text, time_text, digits as date_digits, civil_date, from_year, from_month}
use Rattle.cluster_types.specs.Verdicts.{engine_lost_text}
use Rattle.cluster_types.specs.declared.config.Channel.TheVariants.{Task, Engine}
use Rattle.cluster_types.specs.declared.config.Scheme.TheVariants.{LeastLoad}
use Rattle.cluster_types.specs.declared.verdict.Verdict.TheVariants.{Completed, Failed}
use Rattle.cluster_types.specs.declared.verdict.Cause.TheVariants.{Reply as ByReply, EngineError, ImpossibleDependency, TaskTimeout}
use Rattle.cluster_types.specs.declared.message.Message.{Message}
use Rattle.cluster_types.specs.declared.event.Event.TheVariants.{Submit, Reply, Join, Pong}
use Rattle.cluster_types.specs.declared.out.Out.TheVariants.{Pass, Made}
use Rattle.cluster_types.specs.declared.entry.Input.TheVariants.{Open, Up, Down, In, Beat, Time}
use Rattle.cluster_types.specs.declared.entry.Entry.TheVariants.{Input, Hand, Settle, Lose}
use Rattle.cluster_defs.specs.Event.{event_of, is_db, is_request, is_reply, is_leave}
use Rattle.cluster_defs.specs.Points.{whole_timeouts, ends_in_name}
use Rattle.cluster_defs.specs.Submit.{read_submit}
use Rattle.cluster_defs.specs.Reply.{read_task, read_declined, read_status}
use Rattle.cluster_defs.specs.Hub.{request_of, read_content}
use Rattle.cluster_defs.specs.Header.{read_header}
use Rattle.cluster_defs.specs.Texts.{answer_id, beat_id, beat_request, outcome_id, resubmit_id, header_text, reply_type, submit_refused, empty_object, ok_content, join_content, beat_content, error_content, outcome_content, resubmit_content, connection_content, history_content, queue_member, queue_content, settled_member, result_content}
use Rattle.cluster_defs.specs.Acceptance.{no_dependency, reserved_front}
use Rattle.cluster_types.specs.Chance.{next_word}
use Rattle.cluster_defs.specs.Histories.{Legal}
use Rattle.worked_rows.proofs.Told.{Line, line, decision, message, dep, submission, IsTold, goes_on, told_legal}

abbrev one_task_m0 : Message
one_task_m0 = message [] (codes "{\"msg_id\":\"join-e0\",\"msg_type\":\"registration_request\"}") (codes "{}") (codes "{}") (codes "{\"uuid\":\"e0\"}") []

abbrev one_task_m1 : Message
one_task_m1 = message [] (codes "{\"msg_id\":\"a\",\"msg_type\":\"execute_request\"}") (codes "{}") (codes "{}") (codes "{\"code\":\"6*7\"}") []

abbrev one_task_m2 : Message
one_task_m2 = message [] (codes "{\"msg_id\":\"r1\",\"msg_type\":\"execute_reply\"}") (codes "{\"msg_id\":\"a\"}") (codes "{}") (codes "{\"status\":\"ok\",\"result\":\"42\"}") []

-- one task: joined, submitted, handed out, replied to, settled
abbrev pub one_task : List Line
one_task =
    line (Input (Open 0 LeastLoad 1 10)) None true []
    ∷ line (Input (Up 1 Engine 0 0 (codes "e"))) None true []
    ∷ line (Input (In 1 0 0 one_task_m0)) (Some (Join (codes "e0"))) true (Made 1 0 (codes "hub-1-2") (codes "registration_reply") (codes "{\"msg_id\":\"join-e0\",\"msg_type\":\"registration_request\"}") (codes "{\"status\":\"ok\",\"id\":0}") [] ∷ [])
    ∷ line (Input (Up 2 Task 0 0 (codes "c"))) None true []
    ∷ line (Input (In 2 0 0 one_task_m1)) (Some (Submit (submission (codes "a") (codes "execute_request") [] [] no_dependency no_dependency [] 0 0))) true []
    ∷ decision (Hand (codes "a") 0) (Pass 1 one_task_m1 ∷ [])
    ∷ line (Input (In 1 0 0 one_task_m2)) (Some (Reply (codes "a") (codes "r1") true false)) true []
    ∷ decision (Settle (codes "a") Completed ByReply) (Pass 2 one_task_m2 ∷ [])
    ∷ []

pub one_task_is_told : IsTold one_task
unfolding digits escape_byte reserved_front next_word answer_id beat_id beat_request outcome_id resubmit_id header_text reply_type submit_refused empty_object ok_content join_content beat_content error_content outcome_content resubmit_content connection_content history_content queue_member queue_content settled_member result_content engine_lost_text date_of day_text time_text date_digits civil_date from_year from_month encode_with serde_json_on_literals is_utf8 chars event_of read_header is_request is_reply is_leave read_submit whole_timeouts ends_in_name is_db request_of read_content read_task read_declined read_status
one_task_is_told = record { goes = refl; reads = refl; rests = refl }

pub one_task_legal : Legal (goes_on [] one_task)
one_task_legal = told_legal one_task one_task_is_told

abbrev three_tries_m0 : Message
three_tries_m0 = message [] (codes "{\"msg_id\":\"join-e0\",\"msg_type\":\"registration_request\"}") (codes "{}") (codes "{}") (codes "{\"uuid\":\"e0\"}") []

abbrev three_tries_m1 : Message
three_tries_m1 = message [] (codes "{\"msg_id\":\"join-e1\",\"msg_type\":\"registration_request\"}") (codes "{}") (codes "{}") (codes "{\"uuid\":\"e1\"}") []

abbrev three_tries_m2 : Message
three_tries_m2 = message [] (codes "{\"msg_id\":\"a\",\"msg_type\":\"execute_request\"}") (codes "{}") (codes "{\"retries\":2}") (codes "{\"code\":\"6*7\"}") []

abbrev three_tries_m3 : Message
three_tries_m3 = message [] (codes "{\"msg_id\":\"r1\",\"msg_type\":\"execute_reply\"}") (codes "{\"msg_id\":\"a\"}") (codes "{}") (codes "{\"status\":\"error\",\"n\":1}") []

abbrev three_tries_m4 : Message
three_tries_m4 = message [] (codes "{\"msg_id\":\"r2\",\"msg_type\":\"execute_reply\"}") (codes "{\"msg_id\":\"a\"}") (codes "{}") (codes "{\"status\":\"error\",\"n\":2}") []

-- retries 2: an engine's end, an error reply, an error reply; the outcome is the last reply
abbrev pub three_tries : List Line
three_tries =
    line (Input (Open 0 LeastLoad 1 10)) None true []
    ∷ line (Input (Up 1 Engine 0 0 (codes "e"))) None true []
    ∷ line (Input (In 1 0 0 three_tries_m0)) (Some (Join (codes "e0"))) true (Made 1 0 (codes "hub-1-2") (codes "registration_reply") (codes "{\"msg_id\":\"join-e0\",\"msg_type\":\"registration_request\"}") (codes "{\"status\":\"ok\",\"id\":0}") [] ∷ [])
    ∷ line (Input (Up 2 Task 0 0 (codes "c"))) None true []
    ∷ line (Input (Up 3 Engine 0 0 (codes "e1"))) None true []
    ∷ line (Input (In 3 0 0 three_tries_m1)) (Some (Join (codes "e1"))) true (Made 3 0 (codes "hub-1-5") (codes "registration_reply") (codes "{\"msg_id\":\"join-e1\",\"msg_type\":\"registration_request\"}") (codes "{\"status\":\"ok\",\"id\":1}") [] ∷ [])
    ∷ line (Input (In 2 0 0 three_tries_m2)) (Some (Submit (submission (codes "a") (codes "execute_request") [] [] no_dependency no_dependency [] 0 2))) true []
    ∷ decision (Hand (codes "a") 0) (Pass 1 three_tries_m2 ∷ [])
    ∷ line (Input (Down 1 0 0)) None true []
    ∷ decision (Hand (codes "a") 1) (Pass 3 three_tries_m2 ∷ [])
    ∷ line (Input (In 3 0 0 three_tries_m3)) (Some (Reply (codes "a") (codes "r1") false false)) true []
    ∷ decision (Hand (codes "a") 1) (Pass 3 three_tries_m2 ∷ [])
    ∷ line (Input (In 3 0 0 three_tries_m4)) (Some (Reply (codes "a") (codes "r2") false false)) true []
    ∷ decision (Settle (codes "a") Failed ByReply) (Pass 2 three_tries_m4 ∷ [])
    ∷ []

pub three_tries_is_told : IsTold three_tries
unfolding digits escape_byte reserved_front next_word answer_id beat_id beat_request outcome_id resubmit_id header_text reply_type submit_refused empty_object ok_content join_content beat_content error_content outcome_content resubmit_content connection_content history_content queue_member queue_content settled_member result_content engine_lost_text date_of day_text time_text date_digits civil_date from_year from_month encode_with serde_json_on_literals is_utf8 chars event_of read_header is_request is_reply is_leave read_submit whole_timeouts ends_in_name is_db request_of read_content read_task read_declined read_status
three_tries_is_told = record { goes = refl; reads = refl; rests = refl }

pub three_tries_legal : Legal (goes_on [] three_tries)
three_tries_legal = told_legal three_tries three_tries_is_told

abbrev repeated_error_reply_m0 : Message
repeated_error_reply_m0 = message [] (codes "{\"msg_id\":\"join-e0\",\"msg_type\":\"registration_request\"}") (codes "{}") (codes "{}") (codes "{\"uuid\":\"e0\"}") []

abbrev repeated_error_reply_m1 : Message
repeated_error_reply_m1 = message [] (codes "{\"msg_id\":\"a\",\"msg_type\":\"execute_request\"}") (codes "{}") (codes "{\"retries\":1}") (codes "{\"code\":\"6*7\"}") []

abbrev repeated_error_reply_m2 : Message
repeated_error_reply_m2 = message [] (codes "{\"msg_id\":\"r1\",\"msg_type\":\"execute_reply\"}") (codes "{\"msg_id\":\"a\"}") (codes "{}") (codes "{\"status\":\"error\"}") []

abbrev repeated_error_reply_m3 : Message
repeated_error_reply_m3 = message [] (codes "{\"msg_id\":\"r2\",\"msg_type\":\"execute_reply\"}") (codes "{\"msg_id\":\"a\"}") (codes "{}") (codes "{\"status\":\"ok\"}") []

-- the same error reply again, while the second attempt runs, isn't valid; the next ok reply completes
abbrev pub repeated_error_reply : List Line
repeated_error_reply =
    line (Input (Open 0 LeastLoad 1 10)) None true []
    ∷ line (Input (Up 1 Engine 0 0 (codes "e"))) None true []
    ∷ line (Input (In 1 0 0 repeated_error_reply_m0)) (Some (Join (codes "e0"))) true (Made 1 0 (codes "hub-1-2") (codes "registration_reply") (codes "{\"msg_id\":\"join-e0\",\"msg_type\":\"registration_request\"}") (codes "{\"status\":\"ok\",\"id\":0}") [] ∷ [])
    ∷ line (Input (Up 2 Task 0 0 (codes "c"))) None true []
    ∷ line (Input (In 2 0 0 repeated_error_reply_m1)) (Some (Submit (submission (codes "a") (codes "execute_request") [] [] no_dependency no_dependency [] 0 1))) true []
    ∷ decision (Hand (codes "a") 0) (Pass 1 repeated_error_reply_m1 ∷ [])
    ∷ line (Input (In 1 0 0 repeated_error_reply_m2)) (Some (Reply (codes "a") (codes "r1") false false)) true []
    ∷ decision (Hand (codes "a") 0) (Pass 1 repeated_error_reply_m1 ∷ [])
    ∷ line (Input (In 1 0 0 repeated_error_reply_m2)) (Some (Reply (codes "a") (codes "r1") false false)) false []
    ∷ line (Input (In 1 0 0 repeated_error_reply_m3)) (Some (Reply (codes "a") (codes "r2") true false)) true []
    ∷ decision (Settle (codes "a") Completed ByReply) (Pass 2 repeated_error_reply_m3 ∷ [])
    ∷ []

pub repeated_error_reply_is_told : IsTold repeated_error_reply
unfolding digits escape_byte reserved_front next_word answer_id beat_id beat_request outcome_id resubmit_id header_text reply_type submit_refused empty_object ok_content join_content beat_content error_content outcome_content resubmit_content connection_content history_content queue_member queue_content settled_member result_content engine_lost_text date_of day_text time_text date_digits civil_date from_year from_month encode_with serde_json_on_literals is_utf8 chars event_of read_header is_request is_reply is_leave read_submit whole_timeouts ends_in_name is_db request_of read_content read_task read_declined read_status
repeated_error_reply_is_told = record { goes = refl; reads = refl; rests = refl }

pub repeated_error_reply_legal : Legal (goes_on [] repeated_error_reply)
repeated_error_reply_legal = told_legal repeated_error_reply repeated_error_reply_is_told

abbrev leastload_order_m0 : Message
leastload_order_m0 = message [] (codes "{\"msg_id\":\"join-e0\",\"msg_type\":\"registration_request\"}") (codes "{}") (codes "{}") (codes "{\"uuid\":\"e0\"}") []

abbrev leastload_order_m1 : Message
leastload_order_m1 = message [] (codes "{\"msg_id\":\"join-e1\",\"msg_type\":\"registration_request\"}") (codes "{}") (codes "{}") (codes "{\"uuid\":\"e1\"}") []

abbrev leastload_order_m2 : Message
leastload_order_m2 = message [] (codes "{\"msg_id\":\"t0\",\"msg_type\":\"execute_request\"}") (codes "{}") (codes "{}") (codes "{\"code\":\"6*7\"}") []

abbrev leastload_order_m3 : Message
leastload_order_m3 = message [] (codes "{\"msg_id\":\"r0\",\"msg_type\":\"execute_reply\"}") (codes "{\"msg_id\":\"t0\"}") (codes "{}") (codes "{\"status\":\"ok\"}") []

abbrev leastload_order_m4 : Message
leastload_order_m4 = message [] (codes "{\"msg_id\":\"t1\",\"msg_type\":\"execute_request\"}") (codes "{}") (codes "{}") (codes "{\"code\":\"6*7\"}") []

abbrev leastload_order_m5 : Message
leastload_order_m5 = message [] (codes "{\"msg_id\":\"r1\",\"msg_type\":\"execute_reply\"}") (codes "{\"msg_id\":\"t1\"}") (codes "{}") (codes "{\"status\":\"ok\"}") []

abbrev leastload_order_m6 : Message
leastload_order_m6 = message [] (codes "{\"msg_id\":\"t2\",\"msg_type\":\"execute_request\"}") (codes "{}") (codes "{}") (codes "{\"code\":\"6*7\"}") []

abbrev leastload_order_m7 : Message
leastload_order_m7 = message [] (codes "{\"msg_id\":\"r2\",\"msg_type\":\"execute_reply\"}") (codes "{\"msg_id\":\"t2\"}") (codes "{}") (codes "{\"status\":\"ok\"}") []

abbrev leastload_order_m8 : Message
leastload_order_m8 = message [] (codes "{\"msg_id\":\"t3\",\"msg_type\":\"execute_request\"}") (codes "{}") (codes "{}") (codes "{\"code\":\"6*7\"}") []

abbrev leastload_order_m9 : Message
leastload_order_m9 = message [] (codes "{\"msg_id\":\"r3\",\"msg_type\":\"execute_reply\"}") (codes "{\"msg_id\":\"t3\"}") (codes "{}") (codes "{\"status\":\"ok\"}") []

abbrev leastload_order_m10 : Message
leastload_order_m10 = message [] (codes "{\"msg_id\":\"t4\",\"msg_type\":\"execute_request\"}") (codes "{}") (codes "{}") (codes "{\"code\":\"6*7\"}") []

abbrev leastload_order_m11 : Message
leastload_order_m11 = message [] (codes "{\"msg_id\":\"r4\",\"msg_type\":\"execute_reply\"}") (codes "{\"msg_id\":\"t4\"}") (codes "{}") (codes "{\"status\":\"ok\"}") []

-- five tasks under `leastload`, each answered before the next: to engines 0, 1, 0, 1, 0
abbrev pub leastload_order : List Line
leastload_order =
    line (Input (Open 0 LeastLoad 1 10)) None true []
    ∷ line (Input (Up 1 Engine 0 0 (codes "e"))) None true []
    ∷ line (Input (In 1 0 0 leastload_order_m0)) (Some (Join (codes "e0"))) true (Made 1 0 (codes "hub-1-2") (codes "registration_reply") (codes "{\"msg_id\":\"join-e0\",\"msg_type\":\"registration_request\"}") (codes "{\"status\":\"ok\",\"id\":0}") [] ∷ [])
    ∷ line (Input (Up 2 Task 0 0 (codes "c"))) None true []
    ∷ line (Input (Up 3 Engine 0 0 (codes "e1"))) None true []
    ∷ line (Input (In 3 0 0 leastload_order_m1)) (Some (Join (codes "e1"))) true (Made 3 0 (codes "hub-1-5") (codes "registration_reply") (codes "{\"msg_id\":\"join-e1\",\"msg_type\":\"registration_request\"}") (codes "{\"status\":\"ok\",\"id\":1}") [] ∷ [])
    ∷ line (Input (In 2 0 0 leastload_order_m2)) (Some (Submit (submission (codes "t0") (codes "execute_request") [] [] no_dependency no_dependency [] 0 0))) true []
    ∷ decision (Hand (codes "t0") 0) (Pass 1 leastload_order_m2 ∷ [])
    ∷ line (Input (In 1 0 0 leastload_order_m3)) (Some (Reply (codes "t0") (codes "r0") true false)) true []
    ∷ decision (Settle (codes "t0") Completed ByReply) (Pass 2 leastload_order_m3 ∷ [])
    ∷ line (Input (In 2 0 0 leastload_order_m4)) (Some (Submit (submission (codes "t1") (codes "execute_request") [] [] no_dependency no_dependency [] 0 0))) true []
    ∷ decision (Hand (codes "t1") 1) (Pass 3 leastload_order_m4 ∷ [])
    ∷ line (Input (In 3 0 0 leastload_order_m5)) (Some (Reply (codes "t1") (codes "r1") true false)) true []
    ∷ decision (Settle (codes "t1") Completed ByReply) (Pass 2 leastload_order_m5 ∷ [])
    ∷ line (Input (In 2 0 0 leastload_order_m6)) (Some (Submit (submission (codes "t2") (codes "execute_request") [] [] no_dependency no_dependency [] 0 0))) true []
    ∷ decision (Hand (codes "t2") 0) (Pass 1 leastload_order_m6 ∷ [])
    ∷ line (Input (In 1 0 0 leastload_order_m7)) (Some (Reply (codes "t2") (codes "r2") true false)) true []
    ∷ decision (Settle (codes "t2") Completed ByReply) (Pass 2 leastload_order_m7 ∷ [])
    ∷ line (Input (In 2 0 0 leastload_order_m8)) (Some (Submit (submission (codes "t3") (codes "execute_request") [] [] no_dependency no_dependency [] 0 0))) true []
    ∷ decision (Hand (codes "t3") 1) (Pass 3 leastload_order_m8 ∷ [])
    ∷ line (Input (In 3 0 0 leastload_order_m9)) (Some (Reply (codes "t3") (codes "r3") true false)) true []
    ∷ decision (Settle (codes "t3") Completed ByReply) (Pass 2 leastload_order_m9 ∷ [])
    ∷ line (Input (In 2 0 0 leastload_order_m10)) (Some (Submit (submission (codes "t4") (codes "execute_request") [] [] no_dependency no_dependency [] 0 0))) true []
    ∷ decision (Hand (codes "t4") 0) (Pass 1 leastload_order_m10 ∷ [])
    ∷ line (Input (In 1 0 0 leastload_order_m11)) (Some (Reply (codes "t4") (codes "r4") true false)) true []
    ∷ decision (Settle (codes "t4") Completed ByReply) (Pass 2 leastload_order_m11 ∷ [])
    ∷ []

pub leastload_order_is_told : IsTold leastload_order
unfolding digits escape_byte reserved_front next_word answer_id beat_id beat_request outcome_id resubmit_id header_text reply_type submit_refused empty_object ok_content join_content beat_content error_content outcome_content resubmit_content connection_content history_content queue_member queue_content settled_member result_content engine_lost_text date_of day_text time_text date_digits civil_date from_year from_month encode_with serde_json_on_literals is_utf8 chars event_of read_header is_request is_reply is_leave read_submit whole_timeouts ends_in_name is_db request_of read_content read_task read_declined read_status
leastload_order_is_told = record { goes = refl; reads = refl; rests = refl }

pub leastload_order_legal : Legal (goes_on [] leastload_order)
leastload_order_legal = told_legal leastload_order leastload_order_is_told

abbrev missed_beats_lose_m0 : Message
missed_beats_lose_m0 = message [] (codes "{\"msg_id\":\"join-e0\",\"msg_type\":\"registration_request\"}") (codes "{}") (codes "{}") (codes "{\"uuid\":\"e0\"}") []

-- two beats without an echo, where one may be missed: the engine is lost
abbrev pub missed_beats_lose : List Line
missed_beats_lose =
    line (Input (Open 0 LeastLoad 1 1)) None true []
    ∷ line (Input (Up 1 Engine 0 0 (codes "e"))) None true []
    ∷ line (Input (In 1 0 0 missed_beats_lose_m0)) (Some (Join (codes "e0"))) true (Made 1 0 (codes "hub-1-2") (codes "registration_reply") (codes "{\"msg_id\":\"join-e0\",\"msg_type\":\"registration_request\"}") (codes "{\"status\":\"ok\",\"id\":0}") [] ∷ [])
    ∷ line (Input (Up 2 Task 0 0 (codes "c"))) None true []
    ∷ line (Input (Beat 0 0)) None true (Made 1 0 (codes "hub-1-4-0") (codes "beat_request") (codes "{}") (codes "{\"beat\":1}") [] ∷ [])
    ∷ line (Input (Beat 0 0)) None true (Made 1 0 (codes "hub-1-5-0") (codes "beat_request") (codes "{}") (codes "{\"beat\":2}") [] ∷ [])
    ∷ decision (Lose 0) []
    ∷ []

pub missed_beats_lose_is_told : IsTold missed_beats_lose
unfolding digits escape_byte reserved_front next_word answer_id beat_id beat_request outcome_id resubmit_id header_text reply_type submit_refused empty_object ok_content join_content beat_content error_content outcome_content resubmit_content connection_content history_content queue_member queue_content settled_member result_content engine_lost_text date_of day_text time_text date_digits civil_date from_year from_month encode_with serde_json_on_literals is_utf8 chars event_of read_header is_request is_reply is_leave read_submit whole_timeouts ends_in_name is_db request_of read_content read_task read_declined read_status
missed_beats_lose_is_told = record { goes = refl; reads = refl; rests = refl }

pub missed_beats_lose_legal : Legal (goes_on [] missed_beats_lose)
missed_beats_lose_legal = told_legal missed_beats_lose missed_beats_lose_is_told

abbrev missed_beats_echoed_m0 : Message
missed_beats_echoed_m0 = message [] (codes "{\"msg_id\":\"join-e0\",\"msg_type\":\"registration_request\"}") (codes "{}") (codes "{}") (codes "{\"uuid\":\"e0\"}") []

abbrev missed_beats_echoed_m1 : Message
missed_beats_echoed_m1 = message [] (codes "{\"msg_id\":\"pong-1\",\"msg_type\":\"beat_reply\"}") (codes "{}") (codes "{}") (codes "{\"beat\":1}") []

-- with an echo of the first beat it stays live
abbrev pub missed_beats_echoed : List Line
missed_beats_echoed =
    line (Input (Open 0 LeastLoad 1 1)) None true []
    ∷ line (Input (Up 1 Engine 0 0 (codes "e"))) None true []
    ∷ line (Input (In 1 0 0 missed_beats_echoed_m0)) (Some (Join (codes "e0"))) true (Made 1 0 (codes "hub-1-2") (codes "registration_reply") (codes "{\"msg_id\":\"join-e0\",\"msg_type\":\"registration_request\"}") (codes "{\"status\":\"ok\",\"id\":0}") [] ∷ [])
    ∷ line (Input (Up 2 Task 0 0 (codes "c"))) None true []
    ∷ line (Input (Beat 0 0)) None true (Made 1 0 (codes "hub-1-4-0") (codes "beat_request") (codes "{}") (codes "{\"beat\":1}") [] ∷ [])
    ∷ line (Input (In 1 0 0 missed_beats_echoed_m1)) (Some (Pong 1)) true []
    ∷ line (Input (Beat 0 0)) None true (Made 1 0 (codes "hub-1-6-0") (codes "beat_request") (codes "{}") (codes "{\"beat\":2}") [] ∷ [])
    ∷ []

pub missed_beats_echoed_is_told : IsTold missed_beats_echoed
unfolding digits escape_byte reserved_front next_word answer_id beat_id beat_request outcome_id resubmit_id header_text reply_type submit_refused empty_object ok_content join_content beat_content error_content outcome_content resubmit_content connection_content history_content queue_member queue_content settled_member result_content engine_lost_text date_of day_text time_text date_digits civil_date from_year from_month encode_with serde_json_on_literals is_utf8 chars event_of read_header is_request is_reply is_leave read_submit whole_timeouts ends_in_name is_db request_of read_content read_task read_declined read_status
missed_beats_echoed_is_told = record { goes = refl; reads = refl; rests = refl }

pub missed_beats_echoed_legal : Legal (goes_on [] missed_beats_echoed)
missed_beats_echoed_legal = told_legal missed_beats_echoed missed_beats_echoed_is_told

abbrev missed_beats_running_m0 : Message
missed_beats_running_m0 = message [] (codes "{\"msg_id\":\"join-e0\",\"msg_type\":\"registration_request\"}") (codes "{}") (codes "{}") (codes "{\"uuid\":\"e0\"}") []

abbrev missed_beats_running_m1 : Message
missed_beats_running_m1 = message [] (codes "{\"msg_id\":\"a\",\"msg_type\":\"execute_request\"}") (codes "{}") (codes "{}") (codes "{\"code\":\"6*7\"}") []

abbrev missed_beats_running_m2 : Message
missed_beats_running_m2 = message [] (codes "{\"msg_id\":\"out-1\",\"session\":\"controller\",\"username\":\"controller\",\"date\":\"1970-01-01T00:00:00.000Z\",\"msg_type\":\"execute_reply\",\"version\":\"5.3\"}") (codes "{\"msg_id\":\"a\",\"msg_type\":\"execute_request\"}") (codes "{}") (codes "{\"status\":\"error\",\"ename\":\"EngineError\",\"evalue\":\"engine 0 was lost while it ran this task\",\"traceback\":[]}") []

-- a running task without retries fails with its engine
abbrev pub missed_beats_running : List Line
missed_beats_running =
    line (Input (Open 0 LeastLoad 1 1)) None true []
    ∷ line (Input (Up 1 Engine 0 0 (codes "e"))) None true []
    ∷ line (Input (In 1 0 0 missed_beats_running_m0)) (Some (Join (codes "e0"))) true (Made 1 0 (codes "hub-1-2") (codes "registration_reply") (codes "{\"msg_id\":\"join-e0\",\"msg_type\":\"registration_request\"}") (codes "{\"status\":\"ok\",\"id\":0}") [] ∷ [])
    ∷ line (Input (Up 2 Task 0 0 (codes "c"))) None true []
    ∷ line (Input (In 2 0 0 missed_beats_running_m1)) (Some (Submit (submission (codes "a") (codes "execute_request") [] [] no_dependency no_dependency [] 0 0))) true []
    ∷ decision (Hand (codes "a") 0) (Pass 1 missed_beats_running_m1 ∷ [])
    ∷ line (Input (Beat 0 0)) None true (Made 1 0 (codes "hub-1-6-0") (codes "beat_request") (codes "{}") (codes "{\"beat\":1}") [] ∷ [])
    ∷ line (Input (Beat 0 0)) None true (Made 1 0 (codes "hub-1-7-0") (codes "beat_request") (codes "{}") (codes "{\"beat\":2}") [] ∷ [])
    ∷ decision (Lose 0) []
    ∷ decision (Settle (codes "a") Failed EngineError) (Pass 2 missed_beats_running_m2 ∷ [])
    ∷ []

pub missed_beats_running_is_told : IsTold missed_beats_running
unfolding digits escape_byte reserved_front next_word answer_id beat_id beat_request outcome_id resubmit_id header_text reply_type submit_refused empty_object ok_content join_content beat_content error_content outcome_content resubmit_content connection_content history_content queue_member queue_content settled_member result_content engine_lost_text date_of day_text time_text date_digits civil_date from_year from_month encode_with serde_json_on_literals is_utf8 chars event_of read_header is_request is_reply is_leave read_submit whole_timeouts ends_in_name is_db request_of read_content read_task read_declined read_status
missed_beats_running_is_told = record { goes = refl; reads = refl; rests = refl }

pub missed_beats_running_legal : Legal (goes_on [] missed_beats_running)
missed_beats_running_legal = told_legal missed_beats_running missed_beats_running_is_told

abbrev task_timeout_m0 : Message
task_timeout_m0 = message [] (codes "{\"msg_id\":\"a\",\"msg_type\":\"execute_request\"}") (codes "{}") (codes "{\"timeout\":5}") (codes "{\"code\":\"6*7\"}") []

abbrev task_timeout_m1 : Message
task_timeout_m1 = message [] (codes "{\"msg_id\":\"out-1\",\"session\":\"controller\",\"username\":\"controller\",\"date\":\"1970-01-01T00:00:06.000Z\",\"msg_type\":\"execute_reply\",\"version\":\"5.3\"}") (codes "{\"msg_id\":\"a\",\"msg_type\":\"execute_request\"}") (codes "{}") (codes "{\"status\":\"error\",\"ename\":\"TaskTimeout\",\"evalue\":\"the task waited past its timeout\",\"traceback\":[]}") []

-- a timeout of 5 seconds from moment 1000 on: nothing at 5999, TaskTimeout at 6000
abbrev pub task_timeout : List Line
task_timeout =
    line (Input (Open 0 LeastLoad 1 10)) None true []
    ∷ line (Input (Up 2 Task 0 0 (codes "c"))) None true []
    ∷ line (Input (In 2 1000 0 task_timeout_m0)) (Some (Submit (submission (codes "a") (codes "execute_request") [] [] no_dependency no_dependency [] 5 0))) true []
    ∷ line (Input (Time 5999 0)) None true []
    ∷ line (Input (Time 6000 0)) None true []
    ∷ decision (Settle (codes "a") Failed TaskTimeout) (Pass 2 task_timeout_m1 ∷ [])
    ∷ []

pub task_timeout_is_told : IsTold task_timeout
unfolding digits escape_byte reserved_front next_word answer_id beat_id beat_request outcome_id resubmit_id header_text reply_type submit_refused empty_object ok_content join_content beat_content error_content outcome_content resubmit_content connection_content history_content queue_member queue_content settled_member result_content engine_lost_text date_of day_text time_text date_digits civil_date from_year from_month encode_with serde_json_on_literals is_utf8 chars event_of read_header is_request is_reply is_leave read_submit whole_timeouts ends_in_name is_db request_of read_content read_task read_declined read_status
task_timeout_is_told = record { goes = refl; reads = refl; rests = refl }

pub task_timeout_legal : Legal (goes_on [] task_timeout)
task_timeout_legal = told_legal task_timeout task_timeout_is_told

abbrev header_of_another_engine_m0 : Message
header_of_another_engine_m0 = message [] (codes "{\"msg_id\":\"join-e0\",\"msg_type\":\"registration_request\"}") (codes "{}") (codes "{}") (codes "{\"uuid\":\"e0\"}") []

abbrev header_of_another_engine_m1 : Message
header_of_another_engine_m1 = message [] (codes "{\"msg_id\":\"join-e1\",\"msg_type\":\"registration_request\"}") (codes "{}") (codes "{}") (codes "{\"uuid\":\"e1\"}") []

abbrev header_of_another_engine_m2 : Message
header_of_another_engine_m2 = message [] (codes "{\"msg_id\":\"a\",\"msg_type\":\"execute_request\"}") (codes "{}") (codes "{\"retries\":1}") (codes "{\"code\":\"6*7\"}") []

abbrev header_of_another_engine_m3 : Message
header_of_another_engine_m3 = message [] (codes "{\"msg_id\":\"r1\",\"msg_type\":\"execute_reply\"}") (codes "{\"msg_id\":\"a\"}") (codes "{}") (codes "{\"status\":\"error\"}") []

abbrev header_of_another_engine_m4 : Message
header_of_another_engine_m4 = message [] (codes "{\"msg_id\":\"r1\",\"msg_type\":\"execute_reply\"}") (codes "{\"msg_id\":\"a\"}") (codes "{}") (codes "{\"status\":\"ok\"}") []

-- a reply with the header id of another engine's earlier reply is valid
abbrev pub header_of_another_engine : List Line
header_of_another_engine =
    line (Input (Open 0 LeastLoad 1 10)) None true []
    ∷ line (Input (Up 1 Engine 0 0 (codes "e"))) None true []
    ∷ line (Input (In 1 0 0 header_of_another_engine_m0)) (Some (Join (codes "e0"))) true (Made 1 0 (codes "hub-1-2") (codes "registration_reply") (codes "{\"msg_id\":\"join-e0\",\"msg_type\":\"registration_request\"}") (codes "{\"status\":\"ok\",\"id\":0}") [] ∷ [])
    ∷ line (Input (Up 2 Task 0 0 (codes "c"))) None true []
    ∷ line (Input (Up 3 Engine 0 0 (codes "e1"))) None true []
    ∷ line (Input (In 3 0 0 header_of_another_engine_m1)) (Some (Join (codes "e1"))) true (Made 3 0 (codes "hub-1-5") (codes "registration_reply") (codes "{\"msg_id\":\"join-e1\",\"msg_type\":\"registration_request\"}") (codes "{\"status\":\"ok\",\"id\":1}") [] ∷ [])
    ∷ line (Input (In 2 0 0 header_of_another_engine_m2)) (Some (Submit (submission (codes "a") (codes "execute_request") [] [] no_dependency no_dependency [] 0 1))) true []
    ∷ decision (Hand (codes "a") 0) (Pass 1 header_of_another_engine_m2 ∷ [])
    ∷ line (Input (In 1 0 0 header_of_another_engine_m3)) (Some (Reply (codes "a") (codes "r1") false false)) true []
    ∷ decision (Hand (codes "a") 1) (Pass 3 header_of_another_engine_m2 ∷ [])
    ∷ line (Input (In 3 0 0 header_of_another_engine_m4)) (Some (Reply (codes "a") (codes "r1") true false)) true []
    ∷ decision (Settle (codes "a") Completed ByReply) (Pass 2 header_of_another_engine_m4 ∷ [])
    ∷ []

pub header_of_another_engine_is_told : IsTold header_of_another_engine
unfolding digits escape_byte reserved_front next_word answer_id beat_id beat_request outcome_id resubmit_id header_text reply_type submit_refused empty_object ok_content join_content beat_content error_content outcome_content resubmit_content connection_content history_content queue_member queue_content settled_member result_content engine_lost_text date_of day_text time_text date_digits civil_date from_year from_month encode_with serde_json_on_literals is_utf8 chars event_of read_header is_request is_reply is_leave read_submit whole_timeouts ends_in_name is_db request_of read_content read_task read_declined read_status
header_of_another_engine_is_told = record { goes = refl; reads = refl; rests = refl }

pub header_of_another_engine_legal : Legal (goes_on [] header_of_another_engine)
header_of_another_engine_legal = told_legal header_of_another_engine header_of_another_engine_is_told

abbrev dead_before_timeout_m0 : Message
dead_before_timeout_m0 = message [] (codes "{\"msg_id\":\"x\",\"msg_type\":\"execute_request\"}") (codes "{}") (codes "{\"timeout\":5}") (codes "{\"code\":\"6*7\"}") []

abbrev dead_before_timeout_m1 : Message
dead_before_timeout_m1 = message [] (codes "{\"msg_id\":\"t\",\"msg_type\":\"execute_request\"}") (codes "{}") (codes "{\"timeout\":5,\"after\":[\"x\"]}") (codes "{\"code\":\"6*7\"}") []

abbrev dead_before_timeout_m2 : Message
dead_before_timeout_m2 = message [] (codes "{\"msg_id\":\"out-1\",\"session\":\"controller\",\"username\":\"controller\",\"date\":\"1970-01-01T00:00:06.000Z\",\"msg_type\":\"execute_reply\",\"version\":\"5.3\"}") (codes "{\"msg_id\":\"x\",\"msg_type\":\"execute_request\"}") (codes "{}") (codes "{\"status\":\"error\",\"ename\":\"TaskTimeout\",\"evalue\":\"the task waited past its timeout\",\"traceback\":[]}") []

abbrev dead_before_timeout_m3 : Message
dead_before_timeout_m3 = message [] (codes "{\"msg_id\":\"out-2\",\"session\":\"controller\",\"username\":\"controller\",\"date\":\"1970-01-01T00:00:06.000Z\",\"msg_type\":\"execute_reply\",\"version\":\"5.3\"}") (codes "{\"msg_id\":\"t\",\"msg_type\":\"execute_request\"}") (codes "{}") (codes "{\"status\":\"error\",\"ename\":\"ImpossibleDependency\",\"evalue\":\"the dependencies of this task cannot be met\",\"traceback\":[]}") []

-- two tasks time out, and the second waits for the first: it is impossible
abbrev pub dead_before_timeout : List Line
dead_before_timeout =
    line (Input (Open 0 LeastLoad 1 10)) None true []
    ∷ line (Input (Up 2 Task 0 0 (codes "c"))) None true []
    ∷ line (Input (In 2 1000 0 dead_before_timeout_m0)) (Some (Submit (submission (codes "x") (codes "execute_request") [] [] no_dependency no_dependency [] 5 0))) true []
    ∷ line (Input (In 2 1000 0 dead_before_timeout_m1)) (Some (Submit (submission (codes "t") (codes "execute_request") [] [] (dep ((codes "x") ∷ []) true true false) no_dependency [] 5 0))) true []
    ∷ line (Input (Time 6000 0)) None true []
    ∷ decision (Settle (codes "x") Failed TaskTimeout) (Pass 2 dead_before_timeout_m2 ∷ [])
    ∷ decision (Settle (codes "t") Failed ImpossibleDependency) (Pass 2 dead_before_timeout_m3 ∷ [])
    ∷ []

pub dead_before_timeout_is_told : IsTold dead_before_timeout
unfolding digits escape_byte reserved_front next_word answer_id beat_id beat_request outcome_id resubmit_id header_text reply_type submit_refused empty_object ok_content join_content beat_content error_content outcome_content resubmit_content connection_content history_content queue_member queue_content settled_member result_content engine_lost_text date_of day_text time_text date_digits civil_date from_year from_month encode_with serde_json_on_literals is_utf8 chars event_of read_header is_request is_reply is_leave read_submit whole_timeouts ends_in_name is_db request_of read_content read_task read_declined read_status
dead_before_timeout_is_told = record { goes = refl; reads = refl; rests = refl }

pub dead_before_timeout_legal : Legal (goes_on [] dead_before_timeout)
dead_before_timeout_legal = told_legal dead_before_timeout dead_before_timeout_is_told

abbrev beats_anew_m0 : Message
beats_anew_m0 = message [] (codes "{\"msg_id\":\"join-e0\",\"msg_type\":\"registration_request\"}") (codes "{}") (codes "{}") (codes "{\"uuid\":\"e0\"}") []

-- beats are numbered from 1 in each opening
abbrev pub beats_anew : List Line
beats_anew =
    line (Input (Open 0 LeastLoad 1 10)) None true []
    ∷ line (Input (Up 1 Engine 0 0 (codes "e"))) None true []
    ∷ line (Input (In 1 0 0 beats_anew_m0)) (Some (Join (codes "e0"))) true (Made 1 0 (codes "hub-1-2") (codes "registration_reply") (codes "{\"msg_id\":\"join-e0\",\"msg_type\":\"registration_request\"}") (codes "{\"status\":\"ok\",\"id\":0}") [] ∷ [])
    ∷ line (Input (Up 2 Task 0 0 (codes "c"))) None true []
    ∷ line (Input (Beat 0 0)) None true (Made 1 0 (codes "hub-1-4-0") (codes "beat_request") (codes "{}") (codes "{\"beat\":1}") [] ∷ [])
    ∷ line (Input (Beat 0 0)) None true (Made 1 0 (codes "hub-1-5-0") (codes "beat_request") (codes "{}") (codes "{\"beat\":2}") [] ∷ [])
    ∷ line (Input (Open 0 LeastLoad 1 10)) None true []
    ∷ line (Input (Up 1 Engine 0 0 (codes "e"))) None true []
    ∷ line (Input (In 1 0 0 beats_anew_m0)) (Some (Join (codes "e0"))) true (Made 1 0 (codes "hub-2-2") (codes "registration_reply") (codes "{\"msg_id\":\"join-e0\",\"msg_type\":\"registration_request\"}") (codes "{\"status\":\"ok\",\"id\":1}") [] ∷ [])
    ∷ line (Input (Up 2 Task 0 0 (codes "c"))) None true []
    ∷ line (Input (Beat 0 0)) None true (Made 1 0 (codes "hub-2-4-1") (codes "beat_request") (codes "{}") (codes "{\"beat\":1}") [] ∷ [])
    ∷ []

pub beats_anew_is_told : IsTold beats_anew
unfolding digits escape_byte reserved_front next_word answer_id beat_id beat_request outcome_id resubmit_id header_text reply_type submit_refused empty_object ok_content join_content beat_content error_content outcome_content resubmit_content connection_content history_content queue_member queue_content settled_member result_content engine_lost_text date_of day_text time_text date_digits civil_date from_year from_month encode_with serde_json_on_literals is_utf8 chars event_of read_header is_request is_reply is_leave read_submit whole_timeouts ends_in_name is_db request_of read_content read_task read_declined read_status
beats_anew_is_told = record { goes = refl; reads = refl; rests = refl }

pub beats_anew_legal : Legal (goes_on [] beats_anew)
beats_anew_legal = told_legal beats_anew beats_anew_is_told
