-- Worked rows on aborts, computed. Nothing rests on them.
use Rattle.std.proofs.Common.{List, [], ◌∷◌, Some, None, true, false, refl}
use Rattle.std.specs.Prelude.{codes}
use Rattle.std.specs.Fmt.{digits}
use Rattle.std.specs.Str.{is_utf8, chars}
use Rattle.json.specs.Print.{escape_byte}
use Rattle.serde_json.proofs.OnLiterals.{serde_json_on_literals}
use Rattle.hex.specs.Hex.{encode_with}
use Rattle.edges.specs.Date.{date_of, day_text, time_text, digits as date_digits, civil_date, from_year, from_month}
use Rattle.cluster_types.specs.Verdicts.{engine_lost_text}
use Rattle.cluster_types.specs.declared.config.Channel.TheVariants.{Hub, Task, Engine}
use Rattle.cluster_types.specs.declared.config.Scheme.TheVariants.{LeastLoad}
use Rattle.cluster_types.specs.declared.verdict.Verdict.TheVariants.{Failed, Aborted}
use Rattle.cluster_types.specs.declared.verdict.Cause.TheVariants.{ImpossibleDependency, Abort as ByAbort}
use Rattle.cluster_types.specs.declared.message.Message.{Message}
use Rattle.cluster_types.specs.declared.event.Event.TheVariants.{Submit, Reply, Join, Abort}
use Rattle.cluster_types.specs.declared.out.Out.TheVariants.{Pass, Made}
use Rattle.cluster_types.specs.declared.entry.Input.TheVariants.{Open, Up, Down, In}
use Rattle.cluster_types.specs.declared.entry.Entry.TheVariants.{Input, Hand, Settle}
use Rattle.cluster_defs.specs.Event.{event_of, is_db, is_request, is_reply, is_leave}
use Rattle.cluster_defs.specs.Points.{whole_timeouts, ends_in_name}
use Rattle.cluster_defs.specs.Submit.{read_submit}
use Rattle.cluster_defs.specs.Reply.{read_task, read_declined, read_status}
use Rattle.cluster_defs.specs.Hub.{request_of, read_content}
use Rattle.cluster_defs.specs.Header.{read_header}
use Rattle.cluster_defs.specs.Texts.{answer_id, beat_id, beat_request, outcome_id, resubmit_id, header_text, reply_type, submit_refused, empty_object, ok_content, join_content, beat_content, error_content, outcome_content, resubmit_content, abort_content, connection_content, history_content, queue_member, queue_content, settled_member, result_content}
use Rattle.cluster_defs.specs.Acceptance.{no_dependency, reserved_front}
use Rattle.cluster_types.specs.Chance.{next_word}
use Rattle.cluster_defs.specs.Histories.{Legal}
use Rattle.worked_rows.proofs.Told.{Line, line, decision, message, dep, submission, IsTold, goes_on, told_legal}

abbrev aborts_m0 : Message
aborts_m0 = message [] (codes "{\"msg_id\":\"join-e0\",\"msg_type\":\"registration_request\"}") (codes "{}") (codes "{}") (codes "{\"uuid\":\"e0\"}") []

abbrev aborts_m1 : Message
aborts_m1 = message [] (codes "{\"msg_id\":\"a\",\"msg_type\":\"execute_request\"}") (codes "{}") (codes "{\"retries\":2}") (codes "{\"code\":\"6*7\"}") []

abbrev aborts_m2 : Message
aborts_m2 = message [] (codes "{\"msg_id\":\"ask\",\"msg_type\":\"abort_request\"}") (codes "{}") (codes "{}") (codes "{\"msg_ids\":[\"a\"]}") []

abbrev aborts_m3 : Message
aborts_m3 = message [] (codes "{\"msg_id\":\"out-1\",\"session\":\"controller\",\"username\":\"controller\",\"date\":\"1970-01-01T00:00:00.000Z\",\"msg_type\":\"execute_reply\",\"version\":\"5.3\"}") (codes "{\"msg_id\":\"a\",\"msg_type\":\"execute_request\"}") (codes "{}") (codes "{\"status\":\"error\",\"ename\":\"TaskAborted\",\"evalue\":\"this task was aborted\",\"traceback\":[]}") []

abbrev aborts_m4 : Message
aborts_m4 = message [] (codes "{\"msg_id\":\"r1\",\"msg_type\":\"execute_reply\"}") (codes "{\"msg_id\":\"a\"}") (codes "{}") (codes "{\"status\":\"ok\"}") []

abbrev aborts_m5 : Message
aborts_m5 = message [] (codes "{\"msg_id\":\"b\",\"msg_type\":\"execute_request\"}") (codes "{}") (codes "{\"after\":[\"a\"]}") (codes "{\"code\":\"6*7\"}") []

abbrev aborts_m6 : Message
aborts_m6 = message [] (codes "{\"msg_id\":\"out-2\",\"session\":\"controller\",\"username\":\"controller\",\"date\":\"1970-01-01T00:00:00.000Z\",\"msg_type\":\"execute_reply\",\"version\":\"5.3\"}") (codes "{\"msg_id\":\"b\",\"msg_type\":\"execute_request\"}") (codes "{}") (codes "{\"status\":\"error\",\"ename\":\"ImpossibleDependency\",\"evalue\":\"the dependencies of this task cannot be met\",\"traceback\":[]}") []

abbrev aborts_m7 : Message
aborts_m7 = message [] (codes "{\"msg_id\":\"ask\",\"msg_type\":\"abort_request\"}") (codes "{}") (codes "{}") (codes "{\"msg_ids\":[\"zz\"]}") []

-- a running task is taken back, and what waits on it can't run; its late reply counts for nothing; another abort of it takes
-- back nothing, and one of an id that was never known is refused
abbrev pub aborts : List Line
aborts =
    line (Input (Open 0 LeastLoad 1 10)) None true []
    ∷ line (Input (Up 1 Engine 0 0 (codes "e"))) None true []
    ∷ line (Input (In 1 0 0 aborts_m0)) (Some (Join (codes "e0"))) true (Made 1 0 (codes "hub-1-2") (codes "registration_reply") (codes "{\"msg_id\":\"join-e0\",\"msg_type\":\"registration_request\"}") (codes "{\"status\":\"ok\",\"id\":0}") [] ∷ [])
    ∷ line (Input (Up 2 Task 0 0 (codes "c"))) None true []
    ∷ line (Input (In 2 0 0 aborts_m1)) (Some (Submit (submission (codes "a") (codes "execute_request") [] [] no_dependency no_dependency [] 0 2))) true []
    ∷ decision (Hand (codes "a") 0) (Pass 1 aborts_m1 ∷ [])
    ∷ line (Input (Up 4 Hub 0 0 (codes "h"))) None true []
    ∷ line (Input (In 4 0 0 aborts_m2)) (Some (Abort ((codes "a") ∷ []))) true (Made 4 0 (codes "hub-1-7") (codes "abort_reply") (codes "{\"msg_id\":\"ask\",\"msg_type\":\"abort_request\"}") (codes "{\"status\":\"ok\",\"aborted\":[\"a\"]}") [] ∷ [])
    ∷ decision (Settle (codes "a") Aborted ByAbort) (Pass 2 aborts_m3 ∷ [])
    ∷ line (Input (In 1 0 0 aborts_m4)) (Some (Reply (codes "a") (codes "r1") true false)) false []
    ∷ line (Input (In 2 0 0 aborts_m5)) (Some (Submit (submission (codes "b") (codes "execute_request") [] [] (dep ((codes "a") ∷ []) true true false) no_dependency [] 0 0))) true []
    ∷ decision (Settle (codes "b") Failed ImpossibleDependency) (Pass 2 aborts_m6 ∷ [])
    ∷ line (Input (In 4 0 0 aborts_m2)) (Some (Abort ((codes "a") ∷ []))) false (Made 4 0 (codes "hub-1-12") (codes "abort_reply") (codes "{\"msg_id\":\"ask\",\"msg_type\":\"abort_request\"}") (codes "{\"status\":\"ok\",\"aborted\":[]}") [] ∷ [])
    ∷ line (Input (In 4 0 0 aborts_m7)) (Some (Abort ((codes "zz") ∷ []))) false (Made 4 0 (codes "hub-1-13") (codes "abort_reply") (codes "{\"msg_id\":\"ask\",\"msg_type\":\"abort_request\"}") (codes "{\"status\":\"error\",\"ename\":\"UnknownIds\",\"evalue\":\"\",\"traceback\":[],\"ids\":[\"zz\"]}") [] ∷ [])
    ∷ []

pub aborts_is_told : IsTold aborts
unfolding digits escape_byte reserved_front next_word answer_id beat_id beat_request outcome_id resubmit_id header_text reply_type submit_refused empty_object ok_content join_content beat_content error_content outcome_content resubmit_content abort_content connection_content history_content queue_member queue_content settled_member result_content engine_lost_text date_of day_text time_text date_digits civil_date from_year from_month encode_with serde_json_on_literals is_utf8 chars event_of read_header is_request is_reply is_leave read_submit whole_timeouts ends_in_name is_db request_of read_content read_task read_declined read_status
aborts_is_told = record { goes = refl; reads = refl; rests = refl }

pub aborts_legal : Legal (goes_on [] aborts)
aborts_legal = told_legal aborts aborts_is_told
