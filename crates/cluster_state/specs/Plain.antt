-- The data of a cluster, as lists, and how the entries change it.
use Rattle.std.specs.Prelude.{ℕ, ⊤, ◌≤◌, max, nat_lt, ◌+◌, ◌&&◌, ◌||◌, List, [], ◌∷◌, ◌++◌, length, map, Option, Some, None, Bool, true, false, not, if◌then◌else◌, option_map}
use Rattle.std.specs.Option.{option_and_then}
use Rattle.cluster_types.specs.declared.config.Channel.{Channel}
use Rattle.cluster_types.specs.declared.config.Scheme.{Scheme}
use Rattle.cluster_types.specs.declared.message.Message.{Message}
use Rattle.cluster_types.specs.declared.event.Event.{Event}
use Rattle.cluster_types.specs.declared.event.Event.TheVariants.{Submit, Direct, Reply as ReplyEvent, Join, Leave, Pong, Purge, Resubmit, Abort, Ask}
use Rattle.cluster_types.specs.declared.entry.Input.TheVariants.{Open, Up, Down, In, Beat, Time}
use Rattle.cluster_types.specs.declared.entry.Entry.{Entry}
use Rattle.cluster_types.specs.declared.entry.Entry.TheVariants.{Input, Hand, Settle, Lose}
use Rattle.cluster_types.specs.declared.verdict.Verdict.{Verdict}
use Rattle.cluster_types.specs.declared.verdict.Cause.{Cause}
use Rattle.cluster_types.specs.declared.verdict.Cause.TheVariants.{Reply}
use Rattle.cluster_defs.specs.Inputs.{moment_of}
use Rattle.cluster_defs.specs.declared.connection.Connection.{Connection}
use Rattle.cluster_defs.specs.Words.{Id, is_listed}
use Rattle.cluster_defs.specs.Connections.{with_connection, without_connection}
use Rattle.cluster_defs.specs.Engines.{Engines, engine_on, joined, left_engine, echoed, without_left, with_engine, with_mark}
use Rattle.cluster_defs.specs.declared.attempt.Ending.{Ending}
use Rattle.cluster_defs.specs.declared.settled.Settled.{Settled}
use Rattle.cluster_defs.specs.Tasks.{ending, counts, Task, settled_as, new_task}
use Rattle.cluster_defs.specs.Requests.{Request, Body, body_of, parts_of}
use Rattle.cluster_defs.specs.Facts.{Facts, is_settled, is_direct_id}
use Rattle.cluster_types.specs.Limits.{last_moment}
use Rattle.cluster_defs.specs.Acceptance.{Demand, accepted, request_made}
use Rattle.cluster_defs.specs.Aborts.{aborted_by}
use Rattle.cluster_defs.specs.Purges.{Copy, purged_by, copied_by, resubmitted}
use Rattle.cluster_defs.specs.Steps.{changes, moved}
use Rattle.cluster_types.specs.Chance.{next_word}
use Rattle.cluster_defs.specs.Outcomes.{made_outcome}
use Rattle.cluster_defs.specs.TaskRecords.{record_of}
use Rattle.task_table.specs.Seen.{Seen, begun as begun_task, handed_to, ended_on, lost_all, replied_with, aborted_out, settled_with, purged_out, seen_in, changed, on_unsettled}

pub record Plain : Type 0 where
  pub begun : Bool
  pub opens : ℕ
  pub scheme : Scheme
  pub hwm : ℕ
  pub misses : ℕ
  pub now : ℕ
  pub moment : ℕ
  pub word : ℕ
  pub beats : ℕ
  pub connections : List Connection
  pub engines : Engines
  pub by_use : List ℕ
  pub tasks : List Seen

-- OF A HISTORY

-- all that a history says of an id
abbrev pub look : Facts → Id → Seen
look f id = record {
  row = record_of f id;
  request = f.request_of id;
  body = f.body_of id;
  attempts = f.task id;
  reply = f.reply_of id;
  settled = f.settled id;
}

-- of all known ids, by number
abbrev pub tasks_of : Facts → List Seen
tasks_of f = map (look f) f.known

abbrev pub plain_of : Facts → Plain
plain_of f = record {
  begun = f.begun;
  opens = f.opens;
  scheme = f.scheme;
  hwm = f.hwm;
  misses = f.misses;
  now = f.now;
  moment = f.moment;
  word = f.word;
  beats = f.beats;
  connections = f.connections;
  engines = f.engines;
  by_use = f.by_use;
  tasks = tasks_of f;
}

-- THE FACTS THAT DATA TELL

-- what data tell of an id that isn't there is what a history tells of one that isn't known
abbrev pub facts_in : Plain → Facts
facts_in p = record {
  begun = p.begun;
  opens = p.opens;
  scheme = p.scheme;
  hwm = p.hwm;
  misses = p.misses;
  now = p.now;
  moment = p.moment;
  word = p.word;
  beats = p.beats;
  connections = p.connections;
  engines = p.engines;
  by_use = p.by_use;
  known = map (λ t. t.row.id) p.tasks;
  request_of = λ id. option_and_then (λ t. t.request) (seen_in p.tasks id);
  body_of = λ id. option_and_then (λ t. t.body) (seen_in p.tasks id);
  task = λ id. attempts_or (seen_in p.tasks id);
  reply_of = λ id. option_and_then (λ t. t.reply) (seen_in p.tasks id);
  settled = λ id. option_and_then (λ t. t.settled) (seen_in p.tasks id);
  purged = λ id. purged_or (seen_in p.tasks id);
}
  where
    attempts_or : Option Seen → Task
    attempts_or None = new_task
    attempts_or (Some t) = t.attempts

    purged_or : Option Seen → Bool
    purged_or None = false
    purged_or (Some t) = t.row.purged

-- CHANGES

-- an Open
abbrev pub opened : ℕ → Scheme → ℕ → ℕ → Plain → Plain
opened moment scheme hwm misses p = record p {
  begun = true;
  opens = p.opens + 1;
  scheme = scheme;
  hwm = hwm;
  misses = misses;
  now = max p.now moment;
  moment = moment;
  word = 0;
  beats = 0;
  connections = [];
  engines = record { live = []; next = p.engines.next };
  tasks = map (on_unsettled lost_all) p.tasks;
}

-- the moment and the word of an input
abbrev pub input_at : ℕ → ℕ → Plain → Plain
input_at moment word p = record p { moment = moment; word = word }

-- an Up
abbrev pub came_up : ℕ → Channel → List ℕ → Plain → Plain
came_up conn channel identity p = record p { connections = with_connection conn channel identity p.connections }

abbrev pub tasks_ended : Option ℕ → List Seen → List Seen
tasks_ended None ts = ts
tasks_ended (Some engine) ts = map (on_unsettled (ended_on engine)) ts

-- an engine's end, where there is one
abbrev pub engine_ended : Option ℕ → Plain → Plain
engine_ended end p = record p { engines = without_left end p.engines; tasks = tasks_ended end p.tasks }

-- a Down
abbrev pub went_down : ℕ → Plain → Plain
went_down conn p = record p { connections = without_connection conn p.connections }

-- a Beat, and a Time
abbrev pub beaten : Plain → Plain
beaten p = record p { beats = p.beats + 1 }

abbrev pub passed : ℕ → Plain → Plain
passed moment p = record p { now = max p.now moment }

-- a Hand, of a direct request or another
abbrev pub handed_out : Id → ℕ → Bool → Plain → Plain
handed_out id engine direct p = record p {
  word = next_word p.word;
  by_use = if direct then p.by_use else moved engine p.by_use;
  tasks = changed id (handed_to engine) p.tasks;
}

-- the outcome that a task gets: its last valid reply, or what the controller makes
abbrev pub outcome_for : Settled → Cause → Seen → Option Message
outcome_for s Reply t = t.reply
outcome_for s _ t = option_map (made_outcome t.row.number s) t.request

abbrev pub settled_at : Verdict → Cause → ℕ → Seen → Seen
settled_at verdict cause moment t =
    settled_with (settled_as verdict cause moment t.attempts) (outcome_for (settled_as verdict cause moment t.attempts) cause t) t

-- a Settle
abbrev pub settled_out : Id → Verdict → Cause → Plain → Plain
settled_out id verdict cause p = record p { tasks = changed id (settled_at verdict cause p.moment) p.tasks }

-- a Join, where it is accepted
abbrev pub joined_by : ℕ → Option (List ℕ) → Plain → Plain
joined_by conn None p = p
joined_by conn (Some uuid) p = record p { engines = with_engine conn p.beats (Some uuid) p.engines; by_use = moved p.engines.next p.by_use }

-- an echo of a beat, where it raises a mark
abbrev pub echoed_by : ℕ → Option ℕ → Plain → Plain
echoed_by conn beat p = record p { engines = with_mark conn beat p.engines }

-- a reply, where it is valid
abbrev pub replied_by : Bool → Id → List ℕ → Ending → Message → Plain → Plain
replied_by false id header how message p = p
replied_by true id header how message p = record p { tasks = changed id (replied_with header how message) p.tasks }

-- a request, where it is accepted, with what it says
abbrev pub accepted_by : Option Demand → (Demand → Request) → Body → Plain → Plain
accepted_by None request body p = p
accepted_by (Some d) request body p = record p { tasks = p.tasks ++ begun_task d.submission.id (length p.tasks + 1) (request d) body ∷ [] }

-- the tasks, once some ids are dropped
abbrev pub purged_tasks : List Id → List Seen → List Seen
purged_tasks [] ts = ts
purged_tasks (id ∷ ids) ts = purged_tasks ids (changed id purged_out ts)

abbrev pub dropped_by : Option (List Id) → Plain → Plain
dropped_by None p = p
dropped_by (Some ids) p = record p { tasks = purged_tasks ids p.tasks }

-- the tasks, once some ids are taken back
abbrev pub aborted_tasks : List Id → List Seen → List Seen
aborted_tasks [] ts = ts
aborted_tasks (id ∷ ids) ts = aborted_tasks ids (changed id aborted_out ts)

-- an abort, which takes these ids back
abbrev pub withdrawn_by : List Id → Plain → Plain
withdrawn_by ids p = record p { tasks = aborted_tasks ids p.tasks }

-- a copy of a task, under a number of its own
abbrev pub copy_of : (Id → Request → Request) → ℕ → Id → Option Seen → List Seen
copy_of again number new None = []
copy_of again number new (Some t) = copy_with (again new) number new t.request t.body
  where
    copy_with : (Request → Request) → ℕ → Id → Option Request → Option Body → List Seen
    copy_with again number new (Some request) (Some body) = begun_task new number (again request) body ∷ []
    copy_with again number new _ _ = []

-- the copies that a Resubmit makes of some tasks, from a number on, with the requests changed so
abbrev pub copies_in : (Id → Request → Request) → ℕ → List Copy → List Seen → List Seen
copies_in again number [] ts = []
copies_in again number (c ∷ copies) ts = copy_of again number c.new (seen_in ts c.old) ++ copies_in again (number + 1) copies ts

abbrev pub copied_out : (Id → Request → Request) → Option (List Copy) → Plain → Plain
copied_out again None p = p
copied_out again (Some copies) p = record p { tasks = p.tasks ++ copies_in again (length p.tasks + 1) copies p.tasks }

-- a message with this meaning, where these facts stand
abbrev pub told : Facts → ℕ → ℕ → Message → Event → Plain → Plain
told f conn moment m (Submit s) p = accepted_by (accepted f m (Some (Submit s))) (request_made f conn moment m) (body_of m) p
told f conn moment m (Direct s) p = accepted_by (accepted f m (Some (Direct s))) (request_made f conn moment m) (body_of m) p
told f conn moment m (ReplyEvent name header ok declined) p =
    replied_by (counts f.engines.live conn header (f.task name)) name header (ending (is_direct_id f name) ok declined) (parts_of m) p
told f conn moment m (Join uuid) p = joined_by conn (joined f.engines conn (Some (Join uuid))) p
told f conn moment m Leave p = engine_ended (left_engine f.engines.live conn (Some Leave)) p
told f conn moment m (Pong beat) p = echoed_by conn (echoed f.engines.live conn f.beats (Some (Pong beat))) p
told f conn moment m (Purge all ids) p = dropped_by (purged_by f (Some (Purge all ids))) p
told f conn moment m (Resubmit ids) p = copied_out (resubmitted f moment) (copied_by f (Some (Resubmit ids))) p
told f conn moment m (Abort ids) p = withdrawn_by (aborted_by f (Some (Abort ids))) p
told f conn moment m (Ask query) p = p

-- the moment and the word of a message, where it is kept
abbrev pub noted : Bool → ℕ → ℕ → Plain → Plain
noted false moment word p = p
noted true moment word p = input_at moment word p

-- an entry with this meaning, where these facts stand
abbrev pub plain_after : Facts → Entry → Option Event → Plain → Plain
plain_after f (Input (Open moment scheme hwm misses)) event p = opened moment scheme hwm misses p
plain_after f (Input (Up conn channel moment word identity)) event p = came_up conn channel identity (input_at moment word p)
plain_after f (Input (Down conn moment word)) event p = engine_ended (option_map (λ e. e.number) (engine_on p.engines.live conn)) (went_down conn (input_at moment word p))
plain_after f (Input (In conn moment word message)) None p = p
plain_after f (Input (In conn moment word message)) (Some event) p = noted (changes f conn message (Some event)) moment word (told f conn moment message event p)
plain_after f (Input (Beat moment word)) event p = beaten (passed moment (input_at moment word p))
plain_after f (Input (Time moment word)) event p = passed moment (input_at moment word p)
plain_after f (Hand id engine) event p = handed_out id engine (is_direct_id f id) p
plain_after f (Settle id verdict cause) event p = settled_out id verdict cause p
plain_after f (Lose engine) event p = engine_ended (Some engine) p

-- the moment of an entry, where it has one, is before the year 10000
abbrev pub InTime : Entry → Type 0
InTime (Input input) = moment_of input ≤ last_moment
InTime _ = ⊤
