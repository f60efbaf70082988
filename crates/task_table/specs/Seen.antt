-- What is seen of a task: all that a history says of one id.
use Rattle.std.specs.Prelude.{ℕ, suc, List, [], ◌∷◌, find, Option, Some, None, Bool, true, false, if◌then◌else◌, bytes_eq, option_map}
use Rattle.std.specs.List.{list_all}
use Rattle.std.specs.Option.{is_some, is_none}
use Rattle.cluster_types.specs.declared.message.Message.{Message}
use Rattle.cluster_types.specs.declared.record.Record.{Record}
use Rattle.cluster_defs.specs.Words.{Id}
use Rattle.cluster_defs.specs.declared.attempt.Ending.{Ending}
use Rattle.cluster_defs.specs.declared.settled.Settled.{Settled}
use Rattle.cluster_defs.specs.Tasks.{Task as TaskFacts, new_task, engine_of, runs, runs_at, handed, lost, after_end, took, withdrawn}
use Rattle.cluster_defs.specs.Requests.{Request as RequestFacts, Body as BodyFacts, is_direct}

-- WHAT IS SEEN OF A TASK

pub record Seen : Type 0 where
  pub row : Record  -- as questions are answered off it
  pub request : Option RequestFacts
  pub body : Option BodyFacts
  pub attempts : TaskFacts
  pub reply : Option Message  -- the last valid reply
  pub settled : Option Settled

-- an accepted request that was not handed out yet
abbrev pub begun : Id → ℕ → RequestFacts → BodyFacts → Seen
begun id number request body = record {
  row = record { id = id; number = number; direct = is_direct request; engine = None; running = false; settled = None; purged = false; outcome = None };
  request = Some request;
  body = Some body;
  attempts = new_task;
  reply = None;
  settled = None;
}

-- once these are its attempts
abbrev pub attempted : TaskFacts → Seen → Seen
attempted attempts t = record t { attempts = attempts; row = record t.row { engine = engine_of attempts.last; running = runs attempts.last } }

-- once it is handed to an engine
abbrev pub handed_to : ℕ → Seen → Seen
handed_to engine t = attempted (handed engine t.attempts) t

-- once an engine ended
abbrev pub ended_on : ℕ → Seen → Seen
ended_on engine t = if runs_at engine t.attempts.last then attempted (after_end (Some engine) t.attempts) t else t

-- once all engines ended, by an Open
abbrev pub lost_all : Seen → Seen
lost_all t = if runs t.attempts.last then attempted (lost t.attempts.last t.attempts) t else t

-- once a valid reply came, with this header id
abbrev pub replied_with : List ℕ → Ending → Message → Seen → Seen
replied_with header how message t = record (attempted (took header how t.attempts.last t.attempts) t) { reply = Some message }

-- once an abort took it back
abbrev pub aborted_out : Seen → Seen
aborted_out t = attempted (withdrawn t.attempts) t

-- once it is settled, with this outcome
abbrev pub settled_with : Settled → Option Message → Seen → Seen
settled_with s outcome t = record t {
  settled = Some s;
  row = record t.row { settled = Some (s.verdict, s.cause); outcome = outcome };
}

-- once it is purged
abbrev pub purged_out : Seen → Seen
purged_out t = record t { row = record t.row { purged = true; outcome = None } }

-- ONE OF THE TASKS

-- the place of an id
abbrev pub place_in : Id → List Seen → Option ℕ
place_in id [] = None
place_in id (t ∷ ts) = if bytes_eq t.row.id id then Some 0 else option_map suc (place_in id ts)

-- what is seen of an id
abbrev pub seen_in : List Seen → Id → Option Seen
seen_in ts id = find (λ t. bytes_eq t.row.id id) ts

-- the tasks, once the one of an id is changed
abbrev pub changed : Id → (Seen → Seen) → List Seen → List Seen
changed id change [] = []
changed id change (t ∷ ts) = if bytes_eq t.row.id id then change t ∷ ts else t ∷ changed id change ts

-- a change of a task that isn't settled
abbrev pub on_unsettled : (Seen → Seen) → Seen → Seen
on_unsettled change t = if is_some t.settled then t else change t

-- whether none of some tasks is settled
abbrev pub all_open : List Seen → Bool
all_open = list_all (λ t. is_none t.settled)
