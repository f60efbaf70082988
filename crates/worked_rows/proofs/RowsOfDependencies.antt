-- Worked rows on dependencies, targets and draws, computed. Nothing rests on them.
use Rattle.std.proofs.Common.{List, [], ◌∷◌, Some, None, true, false, refl}
use Rattle.std.specs.Prelude.{codes}
use Rattle.std.specs.Fmt.{digits}
use Rattle.std.specs.Str.{is_utf8, chars}
use Rattle.json.specs.Print.{escape_byte}
use Rattle.serde_json.proofs.OnLiterals.{serde_json_on_literals}
use Rattle.hex.specs.Hex.{encode_with}
use Rattle.edges.specs.Date.{date_of, day_text, time_text, digits as date_digits, civil_date, from_year, from_month}
use Rattle.cluster_types.specs.Verdicts.{engine_lost_text}
use Rattle.cluster_types.specs.declared.config.Channel.TheVariants.{Task, Engine}
use Rattle.cluster_types.specs.declared.config.Scheme.TheVariants.{LeastLoad, PlainRandom}
use Rattle.cluster_types.specs.declared.verdict.Verdict.TheVariants.{Completed, Failed}
use Rattle.cluster_types.specs.declared.verdict.Cause.TheVariants.{Reply as ByReply, ImpossibleDependency, InvalidDependency}
use Rattle.cluster_types.specs.declared.message.Message.{Message}
use Rattle.cluster_types.specs.declared.event.Event.TheVariants.{Submit, Reply, Join}
use Rattle.cluster_types.specs.declared.out.Out.TheVariants.{Pass, Made}
use Rattle.cluster_types.specs.declared.entry.Input.TheVariants.{Open, Up, In}
use Rattle.cluster_types.specs.declared.entry.Entry.TheVariants.{Input, Hand, Settle}
use Rattle.cluster_defs.specs.Event.{event_of, is_db, is_request, is_reply, is_leave}
use Rattle.cluster_defs.specs.Points.{whole_timeouts, ends_in_name}
use Rattle.cluster_defs.specs.Submit.{read_submit}
use Rattle.cluster_defs.specs.Reply.{read_task, read_declined, read_status}
use Rattle.cluster_defs.specs.Hub.{request_of, read_content}
use Rattle.cluster_defs.specs.Header.{read_header}
use Rattle.cluster_defs.specs.Texts.{answer_id, beat_id, beat_request, outcome_id, resubmit_id, header_text, reply_type, submit_refused, empty_object, ok_content, join_content, beat_content, error_content, outcome_content, resubmit_content, connection_content, history_content, queue_member, queue_content, settled_member, result_content}
use Rattle.cluster_defs.specs.Acceptance.{no_dependency, reserved_front}
use Rattle.cluster_types.specs.Chance.{next_word}
use Rattle.cluster_defs.specs.Histories.{Legal}
use Rattle.worked_rows.proofs.Told.{Line, line, decision, message, dep, submission, IsTold, goes_on, told_legal}

abbrev after_both_kinds_met_m0 : Message
after_both_kinds_met_m0 = message [] (codes "{\"msg_id\":\"join-e0\",\"msg_type\":\"registration_request\"}") (codes "{}") (codes "{}") (codes "{\"uuid\":\"e0\"}") []

abbrev after_both_kinds_met_m1 : Message
after_both_kinds_met_m1 = message [] (codes "{\"msg_id\":\"x\",\"msg_type\":\"execute_request\"}") (codes "{}") (codes "{}") (codes "{\"code\":\"6*7\"}") []

abbrev after_both_kinds_met_m2 : Message
after_both_kinds_met_m2 = message [] (codes "{\"msg_id\":\"rx\",\"msg_type\":\"execute_reply\"}") (codes "{\"msg_id\":\"x\"}") (codes "{}") (codes "{\"status\":\"ok\"}") []

abbrev after_both_kinds_met_m3 : Message
after_both_kinds_met_m3 = message [] (codes "{\"msg_id\":\"y\",\"msg_type\":\"execute_request\"}") (codes "{}") (codes "{}") (codes "{\"code\":\"6*7\"}") []

abbrev after_both_kinds_met_m4 : Message
after_both_kinds_met_m4 = message [] (codes "{\"msg_id\":\"ry\",\"msg_type\":\"execute_reply\"}") (codes "{\"msg_id\":\"y\"}") (codes "{}") (codes "{\"status\":\"error\"}") []

abbrev after_both_kinds_met_m5 : Message
after_both_kinds_met_m5 = message [] (codes "{\"msg_id\":\"t\",\"msg_type\":\"execute_request\"}") (codes "{}") (codes "{\"after\":{\"dependencies\":[\"x\",\"y\"],\"success\":true,\"failure\":true}}") (codes "{\"code\":\"6*7\"}") []

-- `x` completed and `y` failed: `after` of both with `success` and `failure` is met
abbrev pub after_both_kinds_met : List Line
after_both_kinds_met =
    line (Input (Open 0 LeastLoad 1 10)) None true []
    ∷ line (Input (Up 1 Engine 0 0 (codes "e"))) None true []
    ∷ line (Input (In 1 0 0 after_both_kinds_met_m0)) (Some (Join (codes "e0"))) true (Made 1 0 (codes "hub-1-2") (codes "registration_reply") (codes "{\"msg_id\":\"join-e0\",\"msg_type\":\"registration_request\"}") (codes "{\"status\":\"ok\",\"id\":0}") [] ∷ [])
    ∷ line (Input (Up 2 Task 0 0 (codes "c"))) None true []
    ∷ line (Input (In 2 0 0 after_both_kinds_met_m1)) (Some (Submit (submission (codes "x") (codes "execute_request") [] [] no_dependency no_dependency [] 0 0))) true []
    ∷ decision (Hand (codes "x") 0) (Pass 1 after_both_kinds_met_m1 ∷ [])
    ∷ line (Input (In 1 0 0 after_both_kinds_met_m2)) (Some (Reply (codes "x") (codes "rx") true false)) true []
    ∷ decision (Settle (codes "x") Completed ByReply) (Pass 2 after_both_kinds_met_m2 ∷ [])
    ∷ line (Input (In 2 0 0 after_both_kinds_met_m3)) (Some (Submit (submission (codes "y") (codes "execute_request") [] [] no_dependency no_dependency [] 0 0))) true []
    ∷ decision (Hand (codes "y") 0) (Pass 1 after_both_kinds_met_m3 ∷ [])
    ∷ line (Input (In 1 0 0 after_both_kinds_met_m4)) (Some (Reply (codes "y") (codes "ry") false false)) true []
    ∷ decision (Settle (codes "y") Failed ByReply) (Pass 2 after_both_kinds_met_m4 ∷ [])
    ∷ line (Input (In 2 0 0 after_both_kinds_met_m5)) (Some (Submit (submission (codes "t") (codes "execute_request") [] [] (dep ((codes "x") ∷ (codes "y") ∷ []) true true true) no_dependency [] 0 0))) true []
    ∷ decision (Hand (codes "t") 0) (Pass 1 after_both_kinds_met_m5 ∷ [])
    ∷ []

pub after_both_kinds_met_is_told : IsTold after_both_kinds_met
unfolding digits escape_byte reserved_front next_word answer_id beat_id beat_request outcome_id resubmit_id header_text reply_type submit_refused empty_object ok_content join_content beat_content error_content outcome_content resubmit_content connection_content history_content queue_member queue_content settled_member result_content engine_lost_text date_of day_text time_text date_digits civil_date from_year from_month encode_with serde_json_on_literals is_utf8 chars event_of read_header is_request is_reply is_leave read_submit whole_timeouts ends_in_name is_db request_of read_content read_task read_declined read_status
after_both_kinds_met_is_told = record { goes = refl; reads = refl; rests = refl }

pub after_both_kinds_met_legal : Legal (goes_on [] after_both_kinds_met)
after_both_kinds_met_legal = told_legal after_both_kinds_met after_both_kinds_met_is_told

abbrev after_both_kinds_default_m0 : Message
after_both_kinds_default_m0 = message [] (codes "{\"msg_id\":\"join-e0\",\"msg_type\":\"registration_request\"}") (codes "{}") (codes "{}") (codes "{\"uuid\":\"e0\"}") []

abbrev after_both_kinds_default_m1 : Message
after_both_kinds_default_m1 = message [] (codes "{\"msg_id\":\"x\",\"msg_type\":\"execute_request\"}") (codes "{}") (codes "{}") (codes "{\"code\":\"6*7\"}") []

abbrev after_both_kinds_default_m2 : Message
after_both_kinds_default_m2 = message [] (codes "{\"msg_id\":\"rx\",\"msg_type\":\"execute_reply\"}") (codes "{\"msg_id\":\"x\"}") (codes "{}") (codes "{\"status\":\"ok\"}") []

abbrev after_both_kinds_default_m3 : Message
after_both_kinds_default_m3 = message [] (codes "{\"msg_id\":\"y\",\"msg_type\":\"execute_request\"}") (codes "{}") (codes "{}") (codes "{\"code\":\"6*7\"}") []

abbrev after_both_kinds_default_m4 : Message
after_both_kinds_default_m4 = message [] (codes "{\"msg_id\":\"ry\",\"msg_type\":\"execute_reply\"}") (codes "{\"msg_id\":\"y\"}") (codes "{}") (codes "{\"status\":\"error\"}") []

abbrev after_both_kinds_default_m5 : Message
after_both_kinds_default_m5 = message [] (codes "{\"msg_id\":\"t\",\"msg_type\":\"execute_request\"}") (codes "{}") (codes "{\"after\":[\"x\",\"y\"]}") (codes "{\"code\":\"6*7\"}") []

abbrev after_both_kinds_default_m6 : Message
after_both_kinds_default_m6 = message [] (codes "{\"msg_id\":\"out-3\",\"session\":\"controller\",\"username\":\"controller\",\"date\":\"1970-01-01T00:00:00.000Z\",\"msg_type\":\"execute_reply\",\"version\":\"5.3\"}") (codes "{\"msg_id\":\"t\",\"msg_type\":\"execute_request\"}") (codes "{}") (codes "{\"status\":\"error\",\"ename\":\"ImpossibleDependency\",\"evalue\":\"the dependencies of this task cannot be met\",\"traceback\":[]}") []

-- with the defaults it is impossible
abbrev pub after_both_kinds_default : List Line
after_both_kinds_default =
    line (Input (Open 0 LeastLoad 1 10)) None true []
    ∷ line (Input (Up 1 Engine 0 0 (codes "e"))) None true []
    ∷ line (Input (In 1 0 0 after_both_kinds_default_m0)) (Some (Join (codes "e0"))) true (Made 1 0 (codes "hub-1-2") (codes "registration_reply") (codes "{\"msg_id\":\"join-e0\",\"msg_type\":\"registration_request\"}") (codes "{\"status\":\"ok\",\"id\":0}") [] ∷ [])
    ∷ line (Input (Up 2 Task 0 0 (codes "c"))) None true []
    ∷ line (Input (In 2 0 0 after_both_kinds_default_m1)) (Some (Submit (submission (codes "x") (codes "execute_request") [] [] no_dependency no_dependency [] 0 0))) true []
    ∷ decision (Hand (codes "x") 0) (Pass 1 after_both_kinds_default_m1 ∷ [])
    ∷ line (Input (In 1 0 0 after_both_kinds_default_m2)) (Some (Reply (codes "x") (codes "rx") true false)) true []
    ∷ decision (Settle (codes "x") Completed ByReply) (Pass 2 after_both_kinds_default_m2 ∷ [])
    ∷ line (Input (In 2 0 0 after_both_kinds_default_m3)) (Some (Submit (submission (codes "y") (codes "execute_request") [] [] no_dependency no_dependency [] 0 0))) true []
    ∷ decision (Hand (codes "y") 0) (Pass 1 after_both_kinds_default_m3 ∷ [])
    ∷ line (Input (In 1 0 0 after_both_kinds_default_m4)) (Some (Reply (codes "y") (codes "ry") false false)) true []
    ∷ decision (Settle (codes "y") Failed ByReply) (Pass 2 after_both_kinds_default_m4 ∷ [])
    ∷ line (Input (In 2 0 0 after_both_kinds_default_m5)) (Some (Submit (submission (codes "t") (codes "execute_request") [] [] (dep ((codes "x") ∷ (codes "y") ∷ []) true true false) no_dependency [] 0 0))) true []
    ∷ decision (Settle (codes "t") Failed ImpossibleDependency) (Pass 2 after_both_kinds_default_m6 ∷ [])
    ∷ []

pub after_both_kinds_default_is_told : IsTold after_both_kinds_default
unfolding digits escape_byte reserved_front next_word answer_id beat_id beat_request outcome_id resubmit_id header_text reply_type submit_refused empty_object ok_content join_content beat_content error_content outcome_content resubmit_content connection_content history_content queue_member queue_content settled_member result_content engine_lost_text date_of day_text time_text date_digits civil_date from_year from_month encode_with serde_json_on_literals is_utf8 chars event_of read_header is_request is_reply is_leave read_submit whole_timeouts ends_in_name is_db request_of read_content read_task read_declined read_status
after_both_kinds_default_is_told = record { goes = refl; reads = refl; rests = refl }

pub after_both_kinds_default_legal : Legal (goes_on [] after_both_kinds_default)
after_both_kinds_default_legal = told_legal after_both_kinds_default after_both_kinds_default_is_told

abbrev follow_two_engines_m0 : Message
follow_two_engines_m0 = message [] (codes "{\"msg_id\":\"join-e0\",\"msg_type\":\"registration_request\"}") (codes "{}") (codes "{}") (codes "{\"uuid\":\"e0\"}") []

abbrev follow_two_engines_m1 : Message
follow_two_engines_m1 = message [] (codes "{\"msg_id\":\"join-e1\",\"msg_type\":\"registration_request\"}") (codes "{}") (codes "{}") (codes "{\"uuid\":\"e1\"}") []

abbrev follow_two_engines_m2 : Message
follow_two_engines_m2 = message [] (codes "{\"msg_id\":\"x\",\"msg_type\":\"execute_request\"}") (codes "{}") (codes "{}") (codes "{\"code\":\"6*7\"}") []

abbrev follow_two_engines_m3 : Message
follow_two_engines_m3 = message [] (codes "{\"msg_id\":\"y\",\"msg_type\":\"execute_request\"}") (codes "{}") (codes "{}") (codes "{\"code\":\"6*7\"}") []

abbrev follow_two_engines_m4 : Message
follow_two_engines_m4 = message [] (codes "{\"msg_id\":\"r1\",\"msg_type\":\"execute_reply\"}") (codes "{\"msg_id\":\"x\"}") (codes "{}") (codes "{\"status\":\"ok\"}") []

abbrev follow_two_engines_m5 : Message
follow_two_engines_m5 = message [] (codes "{\"msg_id\":\"r2\",\"msg_type\":\"execute_reply\"}") (codes "{\"msg_id\":\"y\"}") (codes "{}") (codes "{\"status\":\"ok\"}") []

abbrev follow_two_engines_m6 : Message
follow_two_engines_m6 = message [] (codes "{\"msg_id\":\"t\",\"msg_type\":\"execute_request\"}") (codes "{}") (codes "{\"follow\":[\"x\",\"y\"]}") (codes "{\"code\":\"6*7\"}") []

abbrev follow_two_engines_m7 : Message
follow_two_engines_m7 = message [] (codes "{\"msg_id\":\"out-3\",\"session\":\"controller\",\"username\":\"controller\",\"date\":\"1970-01-01T00:00:00.000Z\",\"msg_type\":\"execute_reply\",\"version\":\"5.3\"}") (codes "{\"msg_id\":\"t\",\"msg_type\":\"execute_request\"}") (codes "{}") (codes "{\"status\":\"error\",\"ename\":\"ImpossibleDependency\",\"evalue\":\"the dependencies of this task cannot be met\",\"traceback\":[]}") []

-- `follow` of two tasks that completed on two engines is impossible at once
abbrev pub follow_two_engines : List Line
follow_two_engines =
    line (Input (Open 0 LeastLoad 1 10)) None true []
    ∷ line (Input (Up 1 Engine 0 0 (codes "e"))) None true []
    ∷ line (Input (In 1 0 0 follow_two_engines_m0)) (Some (Join (codes "e0"))) true (Made 1 0 (codes "hub-1-2") (codes "registration_reply") (codes "{\"msg_id\":\"join-e0\",\"msg_type\":\"registration_request\"}") (codes "{\"status\":\"ok\",\"id\":0}") [] ∷ [])
    ∷ line (Input (Up 2 Task 0 0 (codes "c"))) None true []
    ∷ line (Input (Up 3 Engine 0 0 (codes "e1"))) None true []
    ∷ line (Input (In 3 0 0 follow_two_engines_m1)) (Some (Join (codes "e1"))) true (Made 3 0 (codes "hub-1-5") (codes "registration_reply") (codes "{\"msg_id\":\"join-e1\",\"msg_type\":\"registration_request\"}") (codes "{\"status\":\"ok\",\"id\":1}") [] ∷ [])
    ∷ line (Input (In 2 0 0 follow_two_engines_m2)) (Some (Submit (submission (codes "x") (codes "execute_request") [] [] no_dependency no_dependency [] 0 0))) true []
    ∷ decision (Hand (codes "x") 0) (Pass 1 follow_two_engines_m2 ∷ [])
    ∷ line (Input (In 2 0 0 follow_two_engines_m3)) (Some (Submit (submission (codes "y") (codes "execute_request") [] [] no_dependency no_dependency [] 0 0))) true []
    ∷ decision (Hand (codes "y") 1) (Pass 3 follow_two_engines_m3 ∷ [])
    ∷ line (Input (In 1 0 0 follow_two_engines_m4)) (Some (Reply (codes "x") (codes "r1") true false)) true []
    ∷ decision (Settle (codes "x") Completed ByReply) (Pass 2 follow_two_engines_m4 ∷ [])
    ∷ line (Input (In 3 0 0 follow_two_engines_m5)) (Some (Reply (codes "y") (codes "r2") true false)) true []
    ∷ decision (Settle (codes "y") Completed ByReply) (Pass 2 follow_two_engines_m5 ∷ [])
    ∷ line (Input (In 2 0 0 follow_two_engines_m6)) (Some (Submit (submission (codes "t") (codes "execute_request") [] [] no_dependency (dep ((codes "x") ∷ (codes "y") ∷ []) true true false) [] 0 0))) true []
    ∷ decision (Settle (codes "t") Failed ImpossibleDependency) (Pass 2 follow_two_engines_m7 ∷ [])
    ∷ []

pub follow_two_engines_is_told : IsTold follow_two_engines
unfolding digits escape_byte reserved_front next_word answer_id beat_id beat_request outcome_id resubmit_id header_text reply_type submit_refused empty_object ok_content join_content beat_content error_content outcome_content resubmit_content connection_content history_content queue_member queue_content settled_member result_content engine_lost_text date_of day_text time_text date_digits civil_date from_year from_month encode_with serde_json_on_literals is_utf8 chars event_of read_header is_request is_reply is_leave read_submit whole_timeouts ends_in_name is_db request_of read_content read_task read_declined read_status
follow_two_engines_is_told = record { goes = refl; reads = refl; rests = refl }

pub follow_two_engines_legal : Legal (goes_on [] follow_two_engines)
follow_two_engines_legal = told_legal follow_two_engines follow_two_engines_is_told

abbrev invalid_dependency_m0 : Message
invalid_dependency_m0 = message [] (codes "{\"msg_id\":\"join-e0\",\"msg_type\":\"registration_request\"}") (codes "{}") (codes "{}") (codes "{\"uuid\":\"e0\"}") []

abbrev invalid_dependency_m1 : Message
invalid_dependency_m1 = message [] (codes "{\"msg_id\":\"a\",\"msg_type\":\"execute_request\"}") (codes "{}") (codes "{\"after\":[\"a\"]}") (codes "{\"code\":\"6*7\"}") []

abbrev invalid_dependency_m2 : Message
invalid_dependency_m2 = message [] (codes "{\"msg_id\":\"out-1\",\"session\":\"controller\",\"username\":\"controller\",\"date\":\"1970-01-01T00:00:00.000Z\",\"msg_type\":\"execute_reply\",\"version\":\"5.3\"}") (codes "{\"msg_id\":\"a\",\"msg_type\":\"execute_request\"}") (codes "{}") (codes "{\"status\":\"error\",\"ename\":\"InvalidDependency\",\"evalue\":\"a dependency is unknown or is the task itself\",\"traceback\":[]}") []

abbrev invalid_dependency_m3 : Message
invalid_dependency_m3 = message [] (codes "{\"msg_id\":\"b\",\"msg_type\":\"execute_request\"}") (codes "{}") (codes "{\"after\":[\"zz\"]}") (codes "{\"code\":\"6*7\"}") []

abbrev invalid_dependency_m4 : Message
invalid_dependency_m4 = message [] (codes "{\"msg_id\":\"out-2\",\"session\":\"controller\",\"username\":\"controller\",\"date\":\"1970-01-01T00:00:00.000Z\",\"msg_type\":\"execute_reply\",\"version\":\"5.3\"}") (codes "{\"msg_id\":\"b\",\"msg_type\":\"execute_request\"}") (codes "{}") (codes "{\"status\":\"error\",\"ename\":\"InvalidDependency\",\"evalue\":\"a dependency is unknown or is the task itself\",\"traceback\":[]}") []

-- a task that waits for itself, and one that waits for an unknown id: invalid both, no hand-out
abbrev pub invalid_dependency : List Line
invalid_dependency =
    line (Input (Open 0 LeastLoad 1 10)) None true []
    ∷ line (Input (Up 1 Engine 0 0 (codes "e"))) None true []
    ∷ line (Input (In 1 0 0 invalid_dependency_m0)) (Some (Join (codes "e0"))) true (Made 1 0 (codes "hub-1-2") (codes "registration_reply") (codes "{\"msg_id\":\"join-e0\",\"msg_type\":\"registration_request\"}") (codes "{\"status\":\"ok\",\"id\":0}") [] ∷ [])
    ∷ line (Input (Up 2 Task 0 0 (codes "c"))) None true []
    ∷ line (Input (In 2 0 0 invalid_dependency_m1)) (Some (Submit (submission (codes "a") (codes "execute_request") [] [] (dep ((codes "a") ∷ []) true true false) no_dependency [] 0 0))) true []
    ∷ decision (Settle (codes "a") Failed InvalidDependency) (Pass 2 invalid_dependency_m2 ∷ [])
    ∷ line (Input (In 2 0 0 invalid_dependency_m3)) (Some (Submit (submission (codes "b") (codes "execute_request") [] [] (dep ((codes "zz") ∷ []) true true false) no_dependency [] 0 0))) true []
    ∷ decision (Settle (codes "b") Failed InvalidDependency) (Pass 2 invalid_dependency_m4 ∷ [])
    ∷ []

pub invalid_dependency_is_told : IsTold invalid_dependency
unfolding digits escape_byte reserved_front next_word answer_id beat_id beat_request outcome_id resubmit_id header_text reply_type submit_refused empty_object ok_content join_content beat_content error_content outcome_content resubmit_content connection_content history_content queue_member queue_content settled_member result_content engine_lost_text date_of day_text time_text date_digits civil_date from_year from_month encode_with serde_json_on_literals is_utf8 chars event_of read_header is_request is_reply is_leave read_submit whole_timeouts ends_in_name is_db request_of read_content read_task read_declined read_status
invalid_dependency_is_told = record { goes = refl; reads = refl; rests = refl }

pub invalid_dependency_legal : Legal (goes_on [] invalid_dependency)
invalid_dependency_legal = told_legal invalid_dependency invalid_dependency_is_told

abbrev declines_wait_m0 : Message
declines_wait_m0 = message [] (codes "{\"msg_id\":\"join-e0\",\"msg_type\":\"registration_request\"}") (codes "{}") (codes "{}") (codes "{\"uuid\":\"e0\"}") []

abbrev declines_wait_m1 : Message
declines_wait_m1 = message [] (codes "{\"msg_id\":\"join-e1\",\"msg_type\":\"registration_request\"}") (codes "{}") (codes "{}") (codes "{\"uuid\":\"e1\"}") []

abbrev declines_wait_m2 : Message
declines_wait_m2 = message [] (codes "{\"msg_id\":\"a\",\"msg_type\":\"execute_request\"}") (codes "{}") (codes "{}") (codes "{\"code\":\"6*7\"}") []

abbrev declines_wait_m3 : Message
declines_wait_m3 = message [] (codes "{\"msg_id\":\"r1\",\"msg_type\":\"execute_reply\"}") (codes "{\"msg_id\":\"a\"}") (codes "{\"dependencies_met\":false}") (codes "{\"status\":\"ok\"}") []

abbrev declines_wait_m4 : Message
declines_wait_m4 = message [] (codes "{\"msg_id\":\"r2\",\"msg_type\":\"execute_reply\"}") (codes "{\"msg_id\":\"a\"}") (codes "{\"dependencies_met\":false}") (codes "{\"status\":\"ok\"}") []

-- two engines decline: the task waits
abbrev pub declines_wait : List Line
declines_wait =
    line (Input (Open 0 LeastLoad 1 10)) None true []
    ∷ line (Input (Up 1 Engine 0 0 (codes "e"))) None true []
    ∷ line (Input (In 1 0 0 declines_wait_m0)) (Some (Join (codes "e0"))) true (Made 1 0 (codes "hub-1-2") (codes "registration_reply") (codes "{\"msg_id\":\"join-e0\",\"msg_type\":\"registration_request\"}") (codes "{\"status\":\"ok\",\"id\":0}") [] ∷ [])
    ∷ line (Input (Up 2 Task 0 0 (codes "c"))) None true []
    ∷ line (Input (Up 3 Engine 0 0 (codes "e1"))) None true []
    ∷ line (Input (In 3 0 0 declines_wait_m1)) (Some (Join (codes "e1"))) true (Made 3 0 (codes "hub-1-5") (codes "registration_reply") (codes "{\"msg_id\":\"join-e1\",\"msg_type\":\"registration_request\"}") (codes "{\"status\":\"ok\",\"id\":1}") [] ∷ [])
    ∷ line (Input (In 2 0 0 declines_wait_m2)) (Some (Submit (submission (codes "a") (codes "execute_request") [] [] no_dependency no_dependency [] 0 0))) true []
    ∷ decision (Hand (codes "a") 0) (Pass 1 declines_wait_m2 ∷ [])
    ∷ line (Input (In 1 0 0 declines_wait_m3)) (Some (Reply (codes "a") (codes "r1") true true)) true []
    ∷ decision (Hand (codes "a") 1) (Pass 3 declines_wait_m2 ∷ [])
    ∷ line (Input (In 3 0 0 declines_wait_m4)) (Some (Reply (codes "a") (codes "r2") true true)) true []
    ∷ []

pub declines_wait_is_told : IsTold declines_wait
unfolding digits escape_byte reserved_front next_word answer_id beat_id beat_request outcome_id resubmit_id header_text reply_type submit_refused empty_object ok_content join_content beat_content error_content outcome_content resubmit_content connection_content history_content queue_member queue_content settled_member result_content engine_lost_text date_of day_text time_text date_digits civil_date from_year from_month encode_with serde_json_on_literals is_utf8 chars event_of read_header is_request is_reply is_leave read_submit whole_timeouts ends_in_name is_db request_of read_content read_task read_declined read_status
declines_wait_is_told = record { goes = refl; reads = refl; rests = refl }

pub declines_wait_legal : Legal (goes_on [] declines_wait)
declines_wait_legal = told_legal declines_wait declines_wait_is_told

abbrev declines_of_targets_m0 : Message
declines_of_targets_m0 = message [] (codes "{\"msg_id\":\"join-e0\",\"msg_type\":\"registration_request\"}") (codes "{}") (codes "{}") (codes "{\"uuid\":\"e0\"}") []

abbrev declines_of_targets_m1 : Message
declines_of_targets_m1 = message [] (codes "{\"msg_id\":\"join-e1\",\"msg_type\":\"registration_request\"}") (codes "{}") (codes "{}") (codes "{\"uuid\":\"e1\"}") []

abbrev declines_of_targets_m2 : Message
declines_of_targets_m2 = message [] (codes "{\"msg_id\":\"a\",\"msg_type\":\"execute_request\"}") (codes "{}") (codes "{\"targets\":[\"e0\",\"e1\"]}") (codes "{\"code\":\"6*7\"}") []

abbrev declines_of_targets_m3 : Message
declines_of_targets_m3 = message [] (codes "{\"msg_id\":\"r1\",\"msg_type\":\"execute_reply\"}") (codes "{\"msg_id\":\"a\"}") (codes "{\"dependencies_met\":false}") (codes "{\"status\":\"ok\"}") []

abbrev declines_of_targets_m4 : Message
declines_of_targets_m4 = message [] (codes "{\"msg_id\":\"r2\",\"msg_type\":\"execute_reply\"}") (codes "{\"msg_id\":\"a\"}") (codes "{\"dependencies_met\":false}") (codes "{\"status\":\"ok\"}") []

abbrev declines_of_targets_m5 : Message
declines_of_targets_m5 = message [] (codes "{\"msg_id\":\"out-1\",\"session\":\"controller\",\"username\":\"controller\",\"date\":\"1970-01-01T00:00:00.000Z\",\"msg_type\":\"execute_reply\",\"version\":\"5.3\"}") (codes "{\"msg_id\":\"a\",\"msg_type\":\"execute_request\"}") (codes "{}") (codes "{\"status\":\"error\",\"ename\":\"ImpossibleDependency\",\"evalue\":\"the dependencies of this task cannot be met\",\"traceback\":[]}") []

-- where both are its targets it is impossible after the second
abbrev pub declines_of_targets : List Line
declines_of_targets =
    line (Input (Open 0 LeastLoad 1 10)) None true []
    ∷ line (Input (Up 1 Engine 0 0 (codes "e"))) None true []
    ∷ line (Input (In 1 0 0 declines_of_targets_m0)) (Some (Join (codes "e0"))) true (Made 1 0 (codes "hub-1-2") (codes "registration_reply") (codes "{\"msg_id\":\"join-e0\",\"msg_type\":\"registration_request\"}") (codes "{\"status\":\"ok\",\"id\":0}") [] ∷ [])
    ∷ line (Input (Up 2 Task 0 0 (codes "c"))) None true []
    ∷ line (Input (Up 3 Engine 0 0 (codes "e1"))) None true []
    ∷ line (Input (In 3 0 0 declines_of_targets_m1)) (Some (Join (codes "e1"))) true (Made 3 0 (codes "hub-1-5") (codes "registration_reply") (codes "{\"msg_id\":\"join-e1\",\"msg_type\":\"registration_request\"}") (codes "{\"status\":\"ok\",\"id\":1}") [] ∷ [])
    ∷ line (Input (In 2 0 0 declines_of_targets_m2)) (Some (Submit (submission (codes "a") (codes "execute_request") [] [] no_dependency no_dependency ((codes "e0") ∷ (codes "e1") ∷ []) 0 0))) true []
    ∷ decision (Hand (codes "a") 0) (Pass 1 declines_of_targets_m2 ∷ [])
    ∷ line (Input (In 1 0 0 declines_of_targets_m3)) (Some (Reply (codes "a") (codes "r1") true true)) true []
    ∷ decision (Hand (codes "a") 1) (Pass 3 declines_of_targets_m2 ∷ [])
    ∷ line (Input (In 3 0 0 declines_of_targets_m4)) (Some (Reply (codes "a") (codes "r2") true true)) true []
    ∷ decision (Settle (codes "a") Failed ImpossibleDependency) (Pass 2 declines_of_targets_m5 ∷ [])
    ∷ []

pub declines_of_targets_is_told : IsTold declines_of_targets
unfolding digits escape_byte reserved_front next_word answer_id beat_id beat_request outcome_id resubmit_id header_text reply_type submit_refused empty_object ok_content join_content beat_content error_content outcome_content resubmit_content connection_content history_content queue_member queue_content settled_member result_content engine_lost_text date_of day_text time_text date_digits civil_date from_year from_month encode_with serde_json_on_literals is_utf8 chars event_of read_header is_request is_reply is_leave read_submit whole_timeouts ends_in_name is_db request_of read_content read_task read_declined read_status
declines_of_targets_is_told = record { goes = refl; reads = refl; rests = refl }

pub declines_of_targets_legal : Legal (goes_on [] declines_of_targets)
declines_of_targets_legal = told_legal declines_of_targets declines_of_targets_is_told

abbrev targets_nobody_m0 : Message
targets_nobody_m0 = message [] (codes "{\"msg_id\":\"join-e0\",\"msg_type\":\"registration_request\"}") (codes "{}") (codes "{}") (codes "{\"uuid\":\"e0\"}") []

abbrev targets_nobody_m1 : Message
targets_nobody_m1 = message [] (codes "{\"msg_id\":\"join-e1\",\"msg_type\":\"registration_request\"}") (codes "{}") (codes "{}") (codes "{\"uuid\":\"e1\"}") []

abbrev targets_nobody_m2 : Message
targets_nobody_m2 = message [] (codes "{\"msg_id\":\"a\",\"msg_type\":\"execute_request\"}") (codes "{}") (codes "{\"targets\":[\"nobody\"]}") (codes "{\"code\":\"6*7\"}") []

abbrev targets_nobody_m3 : Message
targets_nobody_m3 = message [] (codes "{\"msg_id\":\"out-1\",\"session\":\"controller\",\"username\":\"controller\",\"date\":\"1970-01-01T00:00:00.000Z\",\"msg_type\":\"execute_reply\",\"version\":\"5.3\"}") (codes "{\"msg_id\":\"a\",\"msg_type\":\"execute_request\"}") (codes "{}") (codes "{\"status\":\"error\",\"ename\":\"ImpossibleDependency\",\"evalue\":\"the dependencies of this task cannot be met\",\"traceback\":[]}") []

-- targets that no live engine has: impossible at once
abbrev pub targets_nobody : List Line
targets_nobody =
    line (Input (Open 0 LeastLoad 1 10)) None true []
    ∷ line (Input (Up 1 Engine 0 0 (codes "e"))) None true []
    ∷ line (Input (In 1 0 0 targets_nobody_m0)) (Some (Join (codes "e0"))) true (Made 1 0 (codes "hub-1-2") (codes "registration_reply") (codes "{\"msg_id\":\"join-e0\",\"msg_type\":\"registration_request\"}") (codes "{\"status\":\"ok\",\"id\":0}") [] ∷ [])
    ∷ line (Input (Up 2 Task 0 0 (codes "c"))) None true []
    ∷ line (Input (Up 3 Engine 0 0 (codes "e1"))) None true []
    ∷ line (Input (In 3 0 0 targets_nobody_m1)) (Some (Join (codes "e1"))) true (Made 3 0 (codes "hub-1-5") (codes "registration_reply") (codes "{\"msg_id\":\"join-e1\",\"msg_type\":\"registration_request\"}") (codes "{\"status\":\"ok\",\"id\":1}") [] ∷ [])
    ∷ line (Input (In 2 0 0 targets_nobody_m2)) (Some (Submit (submission (codes "a") (codes "execute_request") [] [] no_dependency no_dependency ((codes "nobody") ∷ []) 0 0))) true []
    ∷ decision (Settle (codes "a") Failed ImpossibleDependency) (Pass 2 targets_nobody_m3 ∷ [])
    ∷ []

pub targets_nobody_is_told : IsTold targets_nobody
unfolding digits escape_byte reserved_front next_word answer_id beat_id beat_request outcome_id resubmit_id header_text reply_type submit_refused empty_object ok_content join_content beat_content error_content outcome_content resubmit_content connection_content history_content queue_member queue_content settled_member result_content engine_lost_text date_of day_text time_text date_digits civil_date from_year from_month encode_with serde_json_on_literals is_utf8 chars event_of read_header is_request is_reply is_leave read_submit whole_timeouts ends_in_name is_db request_of read_content read_task read_declined read_status
targets_nobody_is_told = record { goes = refl; reads = refl; rests = refl }

pub targets_nobody_legal : Legal (goes_on [] targets_nobody)
targets_nobody_legal = told_legal targets_nobody targets_nobody_is_told

abbrev plainrandom_words_m0 : Message
plainrandom_words_m0 = message [] (codes "{\"msg_id\":\"join-e0\",\"msg_type\":\"registration_request\"}") (codes "{}") (codes "{}") (codes "{\"uuid\":\"e0\"}") []

abbrev plainrandom_words_m1 : Message
plainrandom_words_m1 = message [] (codes "{\"msg_id\":\"join-e1\",\"msg_type\":\"registration_request\"}") (codes "{}") (codes "{}") (codes "{\"uuid\":\"e1\"}") []

abbrev plainrandom_words_m2 : Message
plainrandom_words_m2 = message [] (codes "{\"msg_id\":\"join-e2\",\"msg_type\":\"registration_request\"}") (codes "{}") (codes "{}") (codes "{\"uuid\":\"e2\"}") []

abbrev plainrandom_words_m3 : Message
plainrandom_words_m3 = message [] (codes "{\"msg_id\":\"x\",\"msg_type\":\"execute_request\"}") (codes "{}") (codes "{}") (codes "{\"code\":\"6*7\"}") []

abbrev plainrandom_words_m4 : Message
plainrandom_words_m4 = message [] (codes "{\"msg_id\":\"b\",\"msg_type\":\"execute_request\"}") (codes "{}") (codes "{\"after\":[\"x\"]}") (codes "{\"code\":\"6*7\"}") []

abbrev plainrandom_words_m5 : Message
plainrandom_words_m5 = message [] (codes "{\"msg_id\":\"c\",\"msg_type\":\"execute_request\"}") (codes "{}") (codes "{\"after\":[\"x\"]}") (codes "{\"code\":\"6*7\"}") []

abbrev plainrandom_words_m6 : Message
plainrandom_words_m6 = message [] (codes "{\"msg_id\":\"r\",\"msg_type\":\"execute_reply\"}") (codes "{\"msg_id\":\"x\"}") (codes "{}") (codes "{\"status\":\"ok\"}") []

-- words: place 1 of 1, 2, 0 by 7, then place 2 of 1, 0, 2 by the next word
abbrev pub plainrandom_words : List Line
plainrandom_words =
    line (Input (Open 0 PlainRandom 0 10)) None true []
    ∷ line (Input (Up 1 Engine 0 0 (codes "e"))) None true []
    ∷ line (Input (In 1 0 0 plainrandom_words_m0)) (Some (Join (codes "e0"))) true (Made 1 0 (codes "hub-1-2") (codes "registration_reply") (codes "{\"msg_id\":\"join-e0\",\"msg_type\":\"registration_request\"}") (codes "{\"status\":\"ok\",\"id\":0}") [] ∷ [])
    ∷ line (Input (Up 2 Task 0 0 (codes "c"))) None true []
    ∷ line (Input (Up 3 Engine 0 0 (codes "e1"))) None true []
    ∷ line (Input (In 3 0 0 plainrandom_words_m1)) (Some (Join (codes "e1"))) true (Made 3 0 (codes "hub-1-5") (codes "registration_reply") (codes "{\"msg_id\":\"join-e1\",\"msg_type\":\"registration_request\"}") (codes "{\"status\":\"ok\",\"id\":1}") [] ∷ [])
    ∷ line (Input (Up 4 Engine 0 0 (codes "e2"))) None true []
    ∷ line (Input (In 4 0 0 plainrandom_words_m2)) (Some (Join (codes "e2"))) true (Made 4 0 (codes "hub-1-7") (codes "registration_reply") (codes "{\"msg_id\":\"join-e2\",\"msg_type\":\"registration_request\"}") (codes "{\"status\":\"ok\",\"id\":2}") [] ∷ [])
    ∷ line (Input (In 2 0 0 plainrandom_words_m3)) (Some (Submit (submission (codes "x") (codes "execute_request") [] [] no_dependency no_dependency [] 0 0))) true []
    ∷ decision (Hand (codes "x") 0) (Pass 1 plainrandom_words_m3 ∷ [])
    ∷ line (Input (In 2 0 0 plainrandom_words_m4)) (Some (Submit (submission (codes "b") (codes "execute_request") [] [] (dep ((codes "x") ∷ []) true true false) no_dependency [] 0 0))) true []
    ∷ line (Input (In 2 0 0 plainrandom_words_m5)) (Some (Submit (submission (codes "c") (codes "execute_request") [] [] (dep ((codes "x") ∷ []) true true false) no_dependency [] 0 0))) true []
    ∷ line (Input (In 1 0 7 plainrandom_words_m6)) (Some (Reply (codes "x") (codes "r") true false)) true []
    ∷ decision (Settle (codes "x") Completed ByReply) (Pass 2 plainrandom_words_m6 ∷ [])
    ∷ decision (Hand (codes "b") 2) (Pass 4 plainrandom_words_m4 ∷ [])
    ∷ decision (Hand (codes "c") 2) (Pass 4 plainrandom_words_m5 ∷ [])
    ∷ []

pub plainrandom_words_is_told : IsTold plainrandom_words
unfolding digits escape_byte reserved_front next_word answer_id beat_id beat_request outcome_id resubmit_id header_text reply_type submit_refused empty_object ok_content join_content beat_content error_content outcome_content resubmit_content connection_content history_content queue_member queue_content settled_member result_content engine_lost_text date_of day_text time_text date_digits civil_date from_year from_month encode_with serde_json_on_literals is_utf8 chars event_of read_header is_request is_reply is_leave read_submit whole_timeouts ends_in_name is_db request_of read_content read_task read_declined read_status
plainrandom_words_is_told = record { goes = refl; reads = refl; rests = refl }

pub plainrandom_words_legal : Legal (goes_on [] plainrandom_words)
plainrandom_words_legal = told_legal plainrandom_words plainrandom_words_is_told
