-- The answers to questions, off the records of all tasks and the live engines alone.
use Rattle.std.specs.Prelude.{ℕ, List, [], map, Option, Some, None, Bool, true, false, not, ◌&&◌, filter, find, bytes_eq, option_map}
use Rattle.std.specs.List.{list_any}
use Rattle.std.specs.Option.{is_some, option_and_then}
use Rattle.cluster_types.specs.Verdicts.{verdict_name, cause_name}
use Rattle.cluster_types.specs.declared.config.Channel.{Channel}
use Rattle.cluster_types.specs.declared.event.Query.{Query}
use Rattle.cluster_types.specs.declared.record.Record.{Record}
use Rattle.cluster_defs.specs.Texts.{EngineQueue, Settled as SettledText}
use Rattle.cluster_defs.specs.declared.answer.Answer.{Answer}
use Rattle.cluster_defs.specs.Words.{Id, is_number}
use Rattle.cluster_defs.specs.Queries.{QueryView, shown, queues_by, all_left_by, results_by, result_by, answer_by, limited}

-- the ids of the records that pass a test, by number
abbrev pub ids_where : (Record → Bool) → List Record → List Id
ids_where p records = map (λ r. r.id) (filter p records)

-- the record of an id
abbrev pub record_in : List Record → Id → Option Record
record_in records id = find (λ r. bytes_eq r.id id) records

-- THE QUEUES

-- unsettled, without a current attempt, and not direct
abbrev pub waits_in : Record → Bool
waits_in r = not (is_some r.settled) && not r.running && not r.direct

-- its current attempt is on an engine
abbrev pub runs_in : ℕ → Record → Bool
runs_in n r = r.running && is_number n r.engine

-- it finished on an engine
abbrev pub finished_in : ℕ → Record → Bool
finished_in n r = is_some r.settled && is_number n r.engine

abbrev pub queue_in : List Record → ℕ → EngineQueue
queue_in records n = record {
  number = n;
  queue = ids_where (λ r. runs_in n r && r.direct) records;
  completed = ids_where (λ r. finished_in n r && not r.purged) records;
  tasks = ids_where (λ r. runs_in n r && not r.direct) records;
}

-- the live engines that are asked for
abbrev pub asked_engines : List (ℕ × List ℕ) → List ℕ → List ℕ
asked_engines live = shown (map (λ e. e.0) live)

abbrev pub lives_in : List (ℕ × List ℕ) → ℕ → Bool
lives_in live n = list_any (λ e. is_number n (Some e.0)) live

-- RESULTS

abbrev pub gone_as : Option Record → Bool
gone_as None = true
gone_as (Some r) = r.purged

abbrev pub is_settled_record : Option Record → Bool
is_settled_record None = false
is_settled_record (Some r) = is_some r.settled

-- what a settled task left, by its record
abbrev pub left_in : Record → Option SettledText
left_in r =
    option_and_then (λ v. option_map (λ m. record { id = r.id; engine = r.engine; verdict = verdict_name v.0; cause = cause_name v.1; outcome = m }) r.outcome) r.settled

-- THE ANSWER

abbrev pub view_in : List Record → List (ℕ × List ℕ) → QueryView
view_in records live = record {
  live = live;
  numbers = map (λ e. e.0) live;
  lives = lives_in live;
  waiting = ids_where waits_in records;
  queue = queue_in records;
  unpurged = ids_where (λ r. not r.purged) records;
  absent = λ id. gone_as (record_in records id);
  settled = λ id. is_settled_record (record_in records id);
  left = λ id. option_and_then left_in (record_in records id);
  records = records;
}

abbrev pub queues_in : List Record → List (ℕ × List ℕ) → List ℕ → Bool → Option ℕ → Answer
queues_in records live = queues_by (view_in records live)

abbrev pub all_left : List Record → Bool → List Id → List SettledText
all_left records = all_left_by (λ id. option_and_then left_in (record_in records id))

abbrev pub results_in : List Record → List Id → List SettledText → Answer
results_in records = results_by (λ id. is_settled_record (record_in records id))

abbrev pub result_in : List Record → List Id → Bool → Answer
result_in records = result_by (view_in records [])

abbrev pub query_in : List Record → List (ℕ × List ℕ) → Channel → Query → List ℕ → Answer
query_in records live = answer_by (view_in records live)

-- a question's answer, by the records in order of number and the live engines with their uuids, ascending
abbrev pub answer_in : List Record → List (ℕ × List ℕ) → Channel → Query → List ℕ → Answer
answer_in records live channel query msg_type = limited channel (query_in records live channel query msg_type)
