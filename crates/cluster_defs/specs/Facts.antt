-- All that is read off a history, as one record.
use Rattle.std.specs.Prelude.{ℕ, List, [], Option, Some, None, Bool, false, Result, Ok, Err}
use Rattle.std.specs.Option.{is_some, option_and_then}
use Rattle.cluster_types.specs.declared.config.Channel.{Channel}
use Rattle.cluster_types.specs.declared.config.Scheme.{Scheme}
use Rattle.cluster_types.specs.declared.config.Scheme.TheVariants.{LeastLoad}
use Rattle.cluster_types.specs.declared.message.Message.{Message}
use Rattle.cluster_types.specs.declared.event.Event.{Event}
use Rattle.cluster_types.specs.declared.event.Reason.{Reason}
use Rattle.cluster_types.specs.declared.entry.Entry.{Entry}
use Rattle.cluster_types.specs.declared.entry.Entry.TheVariants.{Input}
use Rattle.cluster_types.specs.declared.entry.Input.TheVariants.{In}
use Rattle.cluster_defs.specs.Event.{event_of}
use Rattle.cluster_defs.specs.declared.connection.Connection.{Connection}
use Rattle.cluster_defs.specs.Words.{Id}
use Rattle.cluster_defs.specs.Connections.{channel_on}
use Rattle.cluster_defs.specs.Engines.{Engines}
use Rattle.cluster_defs.specs.declared.settled.Settled.{Settled}
use Rattle.cluster_defs.specs.Tasks.{Task, new_task}
use Rattle.cluster_defs.specs.Requests.{Request, Body, is_direct}

pub record Facts : Type 0 where
  pub begun : Bool  -- an Open stands
  pub opens : ℕ  -- how many Opens
  pub scheme : Scheme  -- scheme, hwm and misses of the last Open
  pub hwm : ℕ
  pub misses : ℕ
  pub now : ℕ  -- the greatest moment of the Opens, Beats and Times
  pub moment : ℕ  -- the moment of the last input
  pub word : ℕ  -- the word that the next Hand draws by
  pub beats : ℕ  -- how many Beats since the last Open
  pub connections : List Connection  -- the live ones, in the order in which they came up
  pub engines : Engines
  pub by_use : List ℕ  -- the engines in ascending order of last use
  pub known : List Id  -- the known ids by number, from 1
  pub request_of : Id → Option Request
  pub body_of : Id → Option Body
  pub task : Id → Task
  pub reply_of : Id → Option Message  -- the last valid reply
  pub settled : Id → Option Settled
  pub purged : Id → Bool

-- before the first entry
abbrev pub nothing_yet : Facts
nothing_yet = record {
  begun = false;
  opens = 0;
  scheme = LeastLoad;
  hwm = 0;
  misses = 0;
  now = 0;
  moment = 0;
  word = 0;
  beats = 0;
  connections = [];
  engines = record { live = []; next = 0 };
  by_use = [];
  known = [];
  request_of = λ id. None;
  body_of = λ id. None;
  task = λ id. new_task;
  reply_of = λ id. None;
  settled = λ id. None;
  purged = λ id. false;
}

-- what a message means on a channel, where it isn't junk
abbrev pub meaning : Message → Channel → Option Event
meaning message channel = not_junk (event_of channel message)
  where
    not_junk : Result Event Reason → Option Event
    not_junk (Ok event) = Some event
    not_junk (Err reason) = None

-- what a message on a connection means, by the channel that its Up gave
abbrev pub event_on : Facts → ℕ → Message → Option Event
event_on f conn message = option_and_then (meaning message) (channel_on f.connections conn)

-- the event of an entry: an In on a live connection has one where it isn't junk
abbrev pub event_in : Facts → Entry → Option Event
event_in f (Input (In conn moment word message)) = event_on f conn message
event_in f _ = None

abbrev pub is_settled : Facts → Id → Bool
is_settled f id = is_some (f.settled id)

-- whether an id is that of a direct request
abbrev pub is_direct_id : Facts → Id → Bool
is_direct_id f id = direct_as (f.request_of id)
  where
    direct_as : Option Request → Bool
    direct_as None = false
    direct_as (Some r) = is_direct r
