-- Messages that were read.
use Rattle.std.specs.Prelude.{◌≡◌, ℕ, List, Option, Some, option_map, Result, Ok, Err}
use Rattle.cluster_types.specs.declared.config.Channel.{Channel}
use Rattle.cluster_types.specs.declared.message.Message.{Message}
use Rattle.cluster_types.specs.declared.event.Event.{Event}
use Rattle.cluster_types.specs.declared.event.Reason.{Reason}
use Rattle.cluster_intake.specs.declared.understood.Understood.{Understood}
use Rattle.cluster_defs.specs.Event.{event_of}
use Rattle.cluster_defs.specs.Header.{message_type}
use Rattle.cluster_defs.specs.Connections.{channel_on}
use Rattle.cluster_defs.specs.Histories.{History, facts}

-- what was read of a message, and its type, or another one where it means nothing
abbrev pub event_read : Result Understood Reason → Result Event Reason
event_read (Ok u) = Ok u.event
event_read (Err reason) = Err reason

abbrev pub type_read : Result Understood Reason → List ℕ → List ℕ
type_read (Ok u) other = u.msg_type
type_read (Err reason) other = other

-- what was read is what a message means on a channel, and its type
abbrev pub IsMeaning : Channel → Message → Result Understood Reason → Type 0
IsMeaning channel message meaning = (event_read meaning ≡ event_of channel message) × (type_read meaning (message_type message) ≡ message_type message)

-- what a message on a connection means, none where the connection isn't live
abbrev pub heard : History → ℕ → Message → Option (Result Event Reason)
heard history conn message = option_map (λ channel. event_of channel message) (channel_on (facts history).connections conn)

-- it means something
pub record IsHeard (history : History) (conn : ℕ) (message : Message) : Type 0 where
  pub event : Event
  pub is : heard history conn message ≡ Some (Ok event)
