-- Answers to messages: what each question about the cluster is answered, and what each request that is refused.
use Rattle.std.specs.Prelude.{ℕ, ◌+◌, nat_lt, List, [], length, map, sum, Option, Some, None, Bool, true, false, not, ◌&&◌, ◌||◌, if◌then◌else◌, filter, find, filter_map, flat_map, codes, decimal, option_map}
use Rattle.std.specs.List.{list_any}
use Rattle.std.specs.Option.{option_and_then}
use Rattle.hex.specs.Hex.{encode_lower}
use Rattle.cluster_types.specs.Verdicts.{verdict_name, cause_name}
use Rattle.cluster_types.specs.declared.config.Channel.{Channel}
use Rattle.cluster_types.specs.declared.config.Channel.TheVariants.{Hub, Task}
use Rattle.cluster_types.specs.declared.message.Message.{Message}
use Rattle.cluster_types.specs.declared.record.Record.{Record}
use Rattle.cluster_types.specs.declared.event.Query.{Query}
use Rattle.cluster_types.specs.declared.event.Query.TheVariants.{Connection, Queue, Result as ResultQuery, History, Shutdown, Db, Unknown as UnknownQuery, Bad}
use Rattle.cluster_types.specs.declared.event.Event.{Event}
use Rattle.cluster_types.specs.declared.event.Event.TheVariants.{Submit, Direct, Reply, Join, Leave, Pong, Purge, Resubmit, Abort, Ask}
use Rattle.cluster_types.specs.Limits.{body_limit, most_buffers}
use Rattle.cluster_defs.specs.Header.{message_type}
use Rattle.cluster_defs.specs.Texts.{reply_type, submit_refused, ok_content, join_content, error_content, connection_content, history_content, queue_content, result_content, resubmit_content, abort_content, EngineQueue, Settled as SettledText}
use Rattle.cluster_defs.specs.declared.acceptance.Acceptance.{Acceptance}
use Rattle.cluster_defs.specs.declared.acceptance.Acceptance.TheVariants.{Reserved, Purged, Again, NoSuchEngine, Full, Accepted as AcceptedTask}
use Rattle.cluster_defs.specs.declared.answer.Answer.{Answer}
use Rattle.cluster_defs.specs.declared.engine.Joining.{Joining}
use Rattle.cluster_defs.specs.declared.engine.Joining.TheVariants.{Repeat, AlreadyJoined, UuidInUse, UsedUp, Accepted as AcceptedEngine}
use Rattle.cluster_defs.specs.Words.{Id, is_empty, is_listed, is_number, once}
use Rattle.cluster_defs.specs.Engines.{joining, left_engine}
use Rattle.cluster_defs.specs.declared.settled.Settled.{Settled}
use Rattle.cluster_defs.specs.Tasks.{runs_at}
use Rattle.cluster_defs.specs.Facts.{Facts, is_settled, is_direct_id}
use Rattle.cluster_defs.specs.Acceptance.{acceptance}
use Rattle.cluster_defs.specs.Aborts.{Aborting, Absent, TakesBack, aborting}
use Rattle.cluster_defs.specs.Purges.{purge_list, Purging, Unknown, Inflight, Drops, purging, Resubmitting, NeverKnown, Gone, Running, NoRoom, Makes, resubmitting}
use Rattle.cluster_defs.specs.Scheduling.{is_live, rests}
use Rattle.cluster_defs.specs.Outcomes.{outcome}
use Rattle.cluster_defs.specs.FilterContents.{query_content}
use Rattle.cluster_defs.specs.TaskRecords.{records_of}

-- an answer without buffers
abbrev pub plain : List ℕ → Answer
plain content = record { content = content; buffers = [] }

-- an error answer: its name, its value, and the ids concerned
abbrev pub refusal : List ℕ → List ℕ → List Id → Answer
refusal ename evalue ids = plain (error_content ename evalue ids)

-- QUESTIONS

-- all that questions are answered off
pub record QueryView : Type 0 where
  pub live : List (ℕ × List ℕ)  -- the live engines with their uuids, ascending
  pub numbers : List ℕ  -- their numbers
  pub lives : ℕ → Bool  -- whether an engine is live
  pub waiting : List Id  -- the unsettled Submits without a current attempt, by number
  pub queue : ℕ → EngineQueue  -- what an engine has
  pub unpurged : List Id  -- the ids that aren't purged, by number
  pub absent : Id → Bool  -- whether an id was never known, or is purged
  pub settled : Id → Bool
  pub left : Id → Option SettledText  -- what a settled id left
  pub records : List Record  -- the record of each task, by number

-- the engines that are shown, ascending: all live ones, or those that are listed
abbrev pub shown : List ℕ → List ℕ → List ℕ
shown numbers targets = filter (λ n. is_empty targets || list_any (λ m. is_number m (Some n)) targets) numbers

-- refused where a listed engine isn't live, with the first such number
abbrev pub queues_by : QueryView → List ℕ → Bool → Option ℕ → Answer
queues_by v targets verbose (Some n) = refusal (codes "NoSuchEngine") (decimal n) []
queues_by v targets verbose None = plain (queue_content verbose v.waiting (map v.queue (shown v.numbers targets)))

-- what the settled ids left, in order, where that was asked
abbrev pub all_left_by : (Id → Option SettledText) → Bool → List Id → List SettledText
all_left_by left true ids = []
all_left_by left false ids = filter_map left ids

abbrev pub results_by : (Id → Bool) → List Id → List SettledText → Answer
results_by settled ids results = record {
  content = result_content (filter (λ id. not (settled id)) ids) (filter settled ids) results;
  buffers = flat_map (λ r. r.outcome.buffers) results;
}

-- refused where an id was never known, or is purged; an id that repeats counts once
abbrev pub result_by : QueryView → List Id → Bool → Answer
result_by v ids status_only =
    if not (is_empty (filter v.absent ids)) then refusal (codes "UnknownIds") [] (filter v.absent ids)
    else results_by v.settled ids (all_left_by v.left status_only (filter v.settled ids))

-- on channel task it is the metadata that doesn't read
abbrev pub bad_name : Channel → List ℕ
bad_name Task = codes "BadMetadata"
bad_name _ = codes "BadContent"

-- what a question is answered
abbrev pub answer_by : QueryView → Channel → Query → List ℕ → Answer
answer_by v channel Connection msg_type = plain (connection_content v.live)
answer_by v channel (Queue targets verbose) msg_type = queues_by v targets verbose (find (λ n. not (v.lives n)) targets)
answer_by v channel (ResultQuery ids status_only) msg_type = result_by v (once ids) status_only
answer_by v channel History msg_type = plain (history_content v.unpurged)
answer_by v channel Shutdown msg_type = plain ok_content
answer_by v channel (Db content) msg_type = plain (query_content v.records content)
answer_by v channel UnknownQuery msg_type = refusal (codes "UnknownRequest") msg_type []
answer_by v channel (Bad field) msg_type = refusal (bad_name channel) field []

-- AS A HISTORY SAYS

-- whether an id finished on an engine
abbrev pub finished_on : ℕ → Option Settled → Bool
finished_on n None = false
finished_on n (Some s) = is_number n s.engine

-- what an engine has: current attempts of Directs, what finished there and isn't purged, current attempts of Submits
abbrev pub engine_queue : Facts → ℕ → EngineQueue
engine_queue f n = record {
  number = n;
  queue = filter (λ id. runs_at n (f.task id).last && is_direct_id f id) f.known;
  completed = filter (λ id. finished_on n (f.settled id) && not (f.purged id)) f.known;
  tasks = filter (λ id. runs_at n (f.task id).last && not (is_direct_id f id)) f.known;
}

-- the unsettled Submits without a current attempt
abbrev pub unassigned : Facts → List Id
unassigned f = filter (λ id. rests f id && not (is_direct_id f id)) f.known

-- what a settled id left
abbrev pub left_as : Id → Settled → Message → SettledText
left_as id s m = record { id = id; engine = s.engine; verdict = verdict_name s.verdict; cause = cause_name s.cause; outcome = m }

abbrev pub left_by : Facts → Id → Option SettledText
left_by f id = option_and_then (λ s. option_map (left_as id s) (outcome f id)) (f.settled id)

abbrev pub view_of : Facts → QueryView
view_of f = record {
  live = map (λ e. (e.number, e.uuid)) f.engines.live;
  numbers = map (λ e. e.number) f.engines.live;
  lives = is_live f;
  waiting = unassigned f;
  queue = engine_queue f;
  unpurged = filter (λ id. not (f.purged id)) f.known;
  absent = λ id. not (is_listed id f.known) || f.purged id;
  settled = is_settled f;
  left = left_by f;
  records = records_of f;
}

abbrev pub results_of : Facts → Bool → List Id → List SettledText
results_of f = all_left_by (left_by f)

abbrev pub result_with : Facts → List Id → List SettledText → Answer
result_with f = results_by (is_settled f)

abbrev pub result_answer : Facts → List Id → Bool → Answer
result_answer f = result_by (view_of f)

abbrev pub answer_query : Facts → Channel → Query → List ℕ → Answer
answer_query f = answer_by (view_of f)

-- REQUESTS

-- what a Submit or Direct is answered: nothing where it is accepted or a repeat
abbrev pub demand_answer : Id → List ℕ → Acceptance → Option Answer
demand_answer id target Reserved = Some (refusal (codes "ReservedId") id [])
demand_answer id target Purged = Some (refusal (codes "Purged") id [])
demand_answer id target (Again repeat) = if repeat then None else Some (refusal (codes "KnownId") id [])
demand_answer id target NoSuchEngine = Some (refusal (codes "NoSuchEngine") (encode_lower target) [])
demand_answer id target Full = Some (refusal (codes "TableFull") (codes "2000000") [])
demand_answer id target AcceptedTask = None

-- what a Join is answered: the engine's number, or the refusal with the holder's
abbrev pub join_answer : ℕ → Joining → Answer
join_answer next (Repeat engine) = plain (join_content engine)
join_answer next (AlreadyJoined engine) = refusal (codes "AlreadyJoined") (decimal engine) []
join_answer next (UuidInUse engine) = refusal (codes "UuidInUse") (decimal engine) []
join_answer next UsedUp = refusal (codes "EngineIdsUsedUp") [] []
join_answer next AcceptedEngine = plain (join_content next)

abbrev pub leave_answer : Option ℕ → Answer
leave_answer None = refusal (codes "NotJoined") [] []
leave_answer (Some engine) = plain ok_content

abbrev pub purge_answer : Purging → Answer
purge_answer (Unknown ids) = refusal (codes "UnknownIds") [] ids
purge_answer (Inflight ids) = refusal (codes "Inflight") [] ids
purge_answer (Drops ids) = plain ok_content

abbrev pub resubmit_answer : Resubmitting → Answer
resubmit_answer (NeverKnown ids) = refusal (codes "UnknownIds") [] ids
resubmit_answer (Gone ids) = refusal (codes "Purged") [] ids
resubmit_answer (Running ids) = refusal (codes "Inflight") [] ids
resubmit_answer NoRoom = refusal (codes "TableFull") (codes "2000000") []
resubmit_answer (Makes copies) = plain (resubmit_content (map (λ c. (c.old, c.new)) copies))

abbrev pub abort_answer : Aborting → Answer
abort_answer (Absent ids) = refusal (codes "UnknownIds") [] ids
abort_answer (TakesBack ids) = plain (abort_content ids)

-- LIMITS

abbrev pub is_hub : Channel → Bool
is_hub Hub = true
is_hub _ = false

-- the most octets of the content and the buffers of an answer together
abbrev pub answer_limit : ℕ
answer_limit = 33000000

-- a content of more than 16,777,216 octets, content and buffers of more than 33,000,000, or more than 58 buffers
abbrev pub is_too_long : Answer → Bool
is_too_long a =
    nat_lt body_limit (length a.content) || nat_lt answer_limit (length a.content + sum (map length a.buffers)) || nat_lt most_buffers (length a.buffers)

-- on channel hub an answer past a limit, an error answer too, gives way to ReplyTooLong
abbrev pub limited : Channel → Answer → Answer
limited channel a = if is_hub channel && is_too_long a then refusal (codes "ReplyTooLong") [] [] else a

-- THE ANSWER

-- the definition Answer: a question's answer within the limits
abbrev pub answer : Facts → Channel → Query → List ℕ → Answer
answer f channel query msg_type = limited channel (answer_query f channel query msg_type)

-- what a message is answered, where it is
abbrev pub answer_event : Facts → ℕ → Channel → Message → Event → Option Answer
answer_event f conn channel m (Submit s) = demand_answer s.id m.target (acceptance f (record { direct = false; submission = s }) m)
answer_event f conn channel m (Direct s) = demand_answer s.id m.target (acceptance f (record { direct = true; submission = s }) m)
answer_event f conn channel m (Join uuid) = Some (join_answer f.engines.next (joining f.engines conn uuid))
answer_event f conn channel m Leave = Some (leave_answer (left_engine f.engines.live conn (Some Leave)))
answer_event f conn channel m (Purge all ids) = Some (limited channel (purge_answer (purging f (purge_list f all ids))))
answer_event f conn channel m (Resubmit ids) = Some (limited channel (resubmit_answer (resubmitting f (once ids))))
answer_event f conn channel m (Abort ids) = Some (limited channel (abort_answer (aborting f (once ids))))
answer_event f conn channel m (Ask query) = Some (answer f channel query (message_type m))
answer_event f conn channel m (Pong beat) = None
answer_event f conn channel m (Reply task header ok declined) = None

-- TYPES OF ANSWERS

-- on channel task it is a submission that doesn't read
abbrev pub bad_type : Channel → List ℕ → List ℕ
bad_type Task msg_type = submit_refused
bad_type _ msg_type = reply_type msg_type

abbrev pub query_type : Channel → Query → List ℕ → List ℕ
query_type channel Connection msg_type = codes "connection_reply"
query_type channel (Queue targets verbose) msg_type = codes "queue_reply"
query_type channel (ResultQuery ids status_only) msg_type = codes "result_reply"
query_type channel History msg_type = codes "history_reply"
query_type channel Shutdown msg_type = codes "shutdown_reply"
query_type channel (Db content) msg_type = codes "db_reply"
query_type channel UnknownQuery msg_type = reply_type msg_type
query_type channel (Bad field) msg_type = bad_type channel msg_type

-- the type of an answer: the request's with `_reply` for `_request`; a refused submission has a type of its own
abbrev pub answer_type : Channel → Message → Event → List ℕ
answer_type channel m (Join uuid) = codes "registration_reply"
answer_type channel m Leave = codes "unregistration_reply"
answer_type channel m (Purge all ids) = codes "purge_reply"
answer_type channel m (Resubmit ids) = codes "resubmit_reply"
answer_type channel m (Abort ids) = codes "abort_reply"
answer_type channel m (Ask query) = query_type channel query (message_type m)
answer_type channel m _ = submit_refused
