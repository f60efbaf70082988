-- What each entry sends.
use Rattle.std.specs.Prelude.{ℕ, ◌+◌, ◌==◌, List, [], ◌∷◌, ◌++◌, length, map, Option, Some, None, true, false, if◌then◌else◌, filter, nat_lt}
use Rattle.std.specs.Option.{option_and_then}
use Rattle.cluster_types.specs.declared.message.Message.{Message}
use Rattle.cluster_types.specs.declared.event.Event.{Event}
use Rattle.cluster_types.specs.declared.event.Event.TheVariants.{Submit, Direct}
use Rattle.cluster_types.specs.declared.out.Out.{Out}
use Rattle.cluster_types.specs.declared.out.Out.TheVariants.{Pass, Made}
use Rattle.cluster_types.specs.declared.entry.Input.TheVariants.{Open, In, Beat}
use Rattle.cluster_types.specs.declared.entry.Entry.{Entry}
use Rattle.cluster_types.specs.declared.entry.Entry.TheVariants.{Input, Hand, Settle}
use Rattle.cluster_defs.specs.Texts.{answer_id, beat_id, beat_request, beat_content, empty_object}
use Rattle.cluster_defs.specs.declared.acceptance.Acceptance.{Acceptance}
use Rattle.cluster_defs.specs.declared.acceptance.Acceptance.TheVariants.{Again}
use Rattle.cluster_defs.specs.declared.answer.Answer.{Answer}
use Rattle.cluster_defs.specs.declared.connection.Connection.{Connection}
use Rattle.cluster_defs.specs.declared.engine.Engine.{Engine}
use Rattle.cluster_defs.specs.Words.{Id}
use Rattle.cluster_defs.specs.Connections.{connection_on, reached}
use Rattle.cluster_defs.specs.Engines.{conn_in}
use Rattle.cluster_defs.specs.Requests.{Request}
use Rattle.cluster_defs.specs.Facts.{Facts, event_in}
use Rattle.cluster_defs.specs.Acceptance.{acceptance}
use Rattle.cluster_defs.specs.Steps.{step}
use Rattle.cluster_defs.specs.Histories.{History, facts, place}
use Rattle.cluster_defs.specs.Outcomes.{hand_out, outcome}
use Rattle.cluster_defs.specs.Queries.{answer_event, answer_type}

-- a message that is passed on to a connection, where both are there
abbrev pub pass_to : Option ℕ → Option Message → List Out
pass_to (Some conn) (Some message) = Pass conn message ∷ []
pass_to _ _ = []

-- the live connection of the owner of a task with the highest number
abbrev pub owner_conn : Facts → Option Request → Option ℕ
owner_conn f None = None
owner_conn f (Some r) = option_and_then (reached f.connections) r.owner

-- a Beat, of this number, to a live engine
abbrev pub beat_out : ℕ → ℕ → ℕ → ℕ → Engine → Out
beat_out opens at moment beat e = Made e.conn moment (beat_id opens at e.number) beat_request empty_object (beat_content beat) []

-- an answer, to the connection of the message
abbrev pub answer_out : ℕ → ℕ → ℕ → ℕ → List ℕ → List ℕ → Option Answer → List Out
answer_out opens at conn moment msg_type parent None = []
answer_out opens at conn moment msg_type parent (Some a) = Made conn moment (answer_id opens at) msg_type parent a.content a.buffers ∷ []

-- a repeat of a settled id sends its outcome to the asking connection; of an unsettled one nothing
abbrev pub repeat_out : Facts → ℕ → Id → Acceptance → List Out
repeat_out f conn id (Again repeat) = if repeat then pass_to (Some conn) (outcome f id) else []
repeat_out f conn id _ = []

abbrev pub repeated : Facts → ℕ → Message → Event → List Out
repeated f conn m (Submit s) = repeat_out f conn s.id (acceptance f (record { direct = false; submission = s }) m)
repeated f conn m (Direct s) = repeat_out f conn s.id (acceptance f (record { direct = true; submission = s }) m)
repeated f conn m _ = []

-- what a message sends: its answer, or the outcome that it asks for again
abbrev pub message_outs : ℕ → Facts → ℕ → ℕ → Message → Option Connection → Option Event → List Out
message_outs at f conn moment m (Some c) (Some event) =
    answer_out f.opens at conn moment (answer_type c.channel m event) m.header (answer_event f conn c.channel m event) ++ repeated f conn m event
message_outs at f conn moment m _ _ = []

-- what an entry at a place sends, after the facts before it: a Hand the request, a Settle the outcome, a Beat one to each
-- live engine in order of number, a message its answer; nothing else sends
abbrev pub outs_as : ℕ → Facts → Entry → Option Event → List Out
outs_as at f (Hand id engine) event = pass_to (conn_in engine f.engines.live) (hand_out f id)
outs_as at f (Settle id verdict cause) event = pass_to (owner_conn f (f.request_of id)) (outcome (step f (Settle id verdict cause) None) id)
outs_as at f (Input (Beat moment word)) event = map (beat_out f.opens at moment (f.beats + 1)) f.engines.live
outs_as at f (Input (In conn moment word message)) event = message_outs at f conn moment message (connection_on f.connections conn) event
outs_as at f _ event = []

-- what the newest entry of a history sends
abbrev pub outs : History → List Out
outs [] = []
outs (e ∷ older) = outs_as (place (e ∷ older)) (facts older) e (event_in (facts older) e)

abbrev pub conn_of : Out → ℕ
conn_of (Pass conn message) = conn
conn_of (Made conn moment msg_id msg_type parent content buffers) = conn

abbrev pub outs_on : ℕ → List Out → List Out
outs_on conn = filter (λ o. conn_of o == conn)

-- the outs to a connection of all entries after the last Open, in order
abbrev pub outs_to : History → ℕ → List Out
outs_to [] conn = []
outs_to (Input (Open moment scheme hwm misses) ∷ older) conn = []
outs_to (e ∷ older) conn = outs_to older conn ++ outs_on conn (outs (e ∷ older))

-- what the entries from a place on send, in order; a place is the number of entries before
abbrev pub outs_from : ℕ → History → List Out
outs_from at [] = []
outs_from at (e ∷ older) = if nat_lt (length older) at then [] else outs_from at older ++ outs (e ∷ older)
