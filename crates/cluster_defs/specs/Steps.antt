-- How one entry more changes what is read off a history: one small step for each fact.
use Rattle.std.specs.Prelude.{ℕ, max, ◌+◌, ◌==◌, List, [], ◌∷◌, ◌++◌, Option, Some, None, Bool, true, false, not, ◌&&◌, ◌||◌, if◌then◌else◌, filter, bytes_eq, option_map}
use Rattle.std.specs.Option.{is_some}
use Rattle.cluster_types.specs.declared.config.Scheme.{Scheme}
use Rattle.cluster_types.specs.declared.message.Message.{Message}
use Rattle.cluster_types.specs.declared.event.Event.{Event}
use Rattle.cluster_types.specs.declared.event.Event.TheVariants.{Reply}
use Rattle.cluster_types.specs.declared.entry.Input.TheVariants.{Open, Up, Down, In, Beat, Time}
use Rattle.cluster_types.specs.declared.entry.Entry.{Entry}
use Rattle.cluster_types.specs.declared.entry.Entry.TheVariants.{Input, Hand, Settle, Lose}
use Rattle.cluster_types.specs.Chance.{next_word}
use Rattle.cluster_defs.specs.Inputs.{moment_of, word_of}
use Rattle.cluster_defs.specs.declared.connection.Connection.{Connection}
use Rattle.cluster_defs.specs.declared.engine.Engine.{Engine}
use Rattle.cluster_defs.specs.Words.{Id, is_empty, or_else}
use Rattle.cluster_defs.specs.Connections.{with_connection, without_connection}
use Rattle.cluster_defs.specs.Engines.{Engines, engine_on, joined, with_engine, left_engine, without_left, echoed, with_mark}
use Rattle.cluster_defs.specs.declared.settled.Settled.{Settled}
use Rattle.cluster_defs.specs.Tasks.{Task, lost, handed, counts, after_reply, after_end, after_abort, settled_as}
use Rattle.cluster_defs.specs.Requests.{Request, Body, parts_of}
use Rattle.cluster_defs.specs.Facts.{Facts, event_in, is_direct_id}
use Rattle.cluster_defs.specs.Acceptance.{accepted, accepted_id, request_from, body_from}
use Rattle.cluster_defs.specs.Aborts.{aborted_by}
use Rattle.cluster_defs.specs.Purges.{purged_by, drops, copied_by, copied_ids, request_copied, body_copied}

-- whether a reply is valid: it counts for the task that it names
abbrev pub is_valid_reply : Facts → ℕ → Option Event → Bool
is_valid_reply f conn (Some (Reply name header ok declined)) = counts f.engines.live conn header (f.task name)
is_valid_reply f conn _ = false

-- whether what a message asks for changes anything: it is then kept
abbrev pub changes : Facts → ℕ → Message → Option Event → Bool
changes f conn message event =
    is_some (accepted f message event) || is_some (joined f.engines conn event) || is_some (left_engine f.engines.live conn event)
    || is_some (echoed f.engines.live conn f.beats event) || is_some (purged_by f event) || is_some (copied_by f event)
    || not (is_empty (aborted_by f event)) || is_valid_reply f conn event

-- CLOCK AND WORDS

abbrev pub begun_after : Entry → Bool → Bool
begun_after (Input (Open moment scheme hwm misses)) old = true
begun_after _ old = old

abbrev pub opens_after : Entry → ℕ → ℕ
opens_after (Input (Open moment scheme hwm misses)) old = old + 1
opens_after _ old = old

abbrev pub scheme_after : Entry → Scheme → Scheme
scheme_after (Input (Open moment scheme hwm misses)) old = scheme
scheme_after _ old = old

abbrev pub hwm_after : Entry → ℕ → ℕ
hwm_after (Input (Open moment scheme hwm misses)) old = hwm
hwm_after _ old = old

abbrev pub misses_after : Entry → ℕ → ℕ
misses_after (Input (Open moment scheme hwm misses)) old = misses
misses_after _ old = old

-- the greatest moment of the Opens, Beats and Times
abbrev pub now_after : Entry → ℕ → ℕ
now_after (Input (Open moment scheme hwm misses)) old = max old moment
now_after (Input (Beat moment word)) old = max old moment
now_after (Input (Time moment word)) old = max old moment
now_after _ old = old

-- the moment of the last input; a message that isn't kept leaves it, since nothing is decided before the next input
abbrev pub moment_after : Facts → Entry → Option Event → ℕ
moment_after f (Input (In conn moment word message)) event = if changes f conn message event then moment else f.moment
moment_after f (Input input) event = moment_of input
moment_after f _ event = f.moment

-- the word of the first Hand after an input is the input's, each further one the next; after an Open it is 0
abbrev pub word_after : Facts → Entry → Option Event → ℕ
word_after f (Input (In conn moment word message)) event = if changes f conn message event then word else f.word
word_after f (Input input) event = word_of input
word_after f (Hand id engine) event = next_word f.word
word_after f _ event = f.word

-- beats are numbered from 1 in each opening
abbrev pub beats_after : Entry → ℕ → ℕ
beats_after (Input (Open moment scheme hwm misses)) beats = 0
beats_after (Input (Beat moment word)) beats = beats + 1
beats_after _ beats = beats

-- CONNECTIONS AND ENGINES

abbrev pub connections_after : Entry → List Connection → List Connection
connections_after (Input (Open moment scheme hwm misses)) live = []
connections_after (Input (Up conn channel moment word identity)) live = with_connection conn channel identity live
connections_after (Input (Down conn moment word)) live = without_connection conn live
connections_after _ live = live

-- the engine that an entry ends: by its connection's Down, its Leave or its Lose
abbrev pub engine_end : List Engine → Entry → Option Event → Option ℕ
engine_end live (Input (Down conn moment word)) event = option_map (λ e. e.number) (engine_on live conn)
engine_end live (Input (In conn moment word message)) event = left_engine live conn event
engine_end live (Lose engine) event = Some engine
engine_end live _ event = None

-- a message may make an engine, end one, or raise its mark
abbrev pub engines_in : Facts → ℕ → Option Event → Engines
engines_in f conn event =
    with_mark conn (echoed f.engines.live conn f.beats event) (without_left (left_engine f.engines.live conn event) (with_engine conn f.beats (joined f.engines conn event) f.engines))

abbrev pub engines_after : Facts → Entry → Option Event → Engines
engines_after f (Input (Open moment scheme hwm misses)) event = record { live = []; next = f.engines.next }
engines_after f (Input (In conn moment word message)) event = engines_in f conn event
engines_after f e event = without_left (engine_end f.engines.live e event) f.engines

-- a use puts an engine to the end of the order
abbrev pub moved : ℕ → List ℕ → List ℕ
moved n numbers = filter (λ m. not (m == n)) numbers ++ n ∷ []

abbrev pub with_joined : ℕ → Option (List ℕ) → List ℕ → List ℕ
with_joined n None numbers = numbers
with_joined n (Some uuid) numbers = moved n numbers

-- an engine is used by its Join, and by each Hand of a Submit to it
abbrev pub use_after : Facts → Entry → Option Event → List ℕ
use_after f (Hand id engine) event = if is_direct_id f id then f.by_use else moved engine f.by_use
use_after f (Input (In conn moment word message)) event = with_joined f.engines.next (joined f.engines conn event) f.by_use
use_after f _ event = f.by_use

-- KNOWN IDS

-- an accepted request, and each id that a Resubmit makes, gets the next number
abbrev pub known_after : Facts → Entry → Option Event → List Id
known_after f (Input (In conn moment word message)) event = f.known ++ accepted_id (accepted f message event) ++ copied_ids (copied_by f event)
known_after f _ event = f.known

-- an id keeps the request that it was accepted with
abbrev pub request_after : Facts → Entry → Option Event → Id → Option Request
request_after f (Input (In conn moment word message)) event id =
    or_else (f.request_of id) (or_else (request_from f conn moment message id (accepted f message event)) (request_copied f moment id (copied_by f event)))
request_after f _ event id = f.request_of id

abbrev pub body_after : Facts → Entry → Option Event → Id → Option Body
body_after f (Input (In conn moment word message)) event id =
    or_else (f.body_of id) (or_else (body_from message id (accepted f message event)) (body_copied f id (copied_by f event)))
body_after f _ event id = f.body_of id

-- TASKS

-- an attempt begins with a Hand, and ends by a valid reply, its engine's end, an Abort or an Open
abbrev pub task_after : Facts → Entry → Option Event → Id → Task → Task
task_after f (Hand name engine) event id t = if bytes_eq name id then handed engine t else t
task_after f (Input (Open moment scheme hwm misses)) event id t = lost t.last t
task_after f (Input (In conn moment word message)) event id t =
    after_abort (aborted_by f event) id (after_end (left_engine f.engines.live conn event) (after_reply f.engines.live conn id (is_direct_id f id) event t))
task_after f e event id t = after_end (engine_end f.engines.live e event) t

abbrev pub reply_from : Facts → ℕ → Message → Id → Option Event → Option Message → Option Message
reply_from f conn message id (Some (Reply name header ok declined)) old =
    if bytes_eq name id && counts f.engines.live conn header (f.task id) then Some (parts_of message) else old
reply_from f conn message id _ old = old

-- the last valid reply for an id
abbrev pub reply_after : Facts → Entry → Option Event → Id → Option Message
reply_after f (Input (In conn moment word message)) event id = reply_from f conn message id event (f.reply_of id)
reply_after f _ event id = f.reply_of id

-- an id keeps its first Settle, with the engine of its last attempt and the moment of the last input
abbrev pub settled_after : Facts → Entry → Id → Option Settled
settled_after f (Settle name verdict cause) id =
    or_else (f.settled id) (if bytes_eq name id then Some (settled_as verdict cause f.moment (f.task id)) else None)
settled_after f _ id = f.settled id

abbrev pub purged_after : Facts → Entry → Option Event → Id → Bool
purged_after f (Input (In conn moment word message)) event id = f.purged id || drops id (purged_by f event)
purged_after f _ event id = f.purged id

-- THE STEP

-- the facts after one entry more, whose event is this one
abbrev pub step : Facts → Entry → Option Event → Facts
step f e event = record {
  begun = begun_after e f.begun;
  opens = opens_after e f.opens;
  scheme = scheme_after e f.scheme;
  hwm = hwm_after e f.hwm;
  misses = misses_after e f.misses;
  now = now_after e f.now;
  moment = moment_after f e event;
  word = word_after f e event;
  beats = beats_after e f.beats;
  connections = connections_after e f.connections;
  engines = engines_after f e event;
  by_use = use_after f e event;
  known = known_after f e event;
  request_of = λ id. request_after f e event id;
  body_of = λ id. body_after f e event id;
  task = λ id. task_after f e event id (f.task id);
  reply_of = λ id. reply_after f e event id;
  settled = λ id. settled_after f e id;
  purged = λ id. purged_after f e event id;
}

abbrev pub next : Facts → Entry → Facts
next f e = step f e (event_in f e)
