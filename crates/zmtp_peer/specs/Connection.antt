-- A connection that is in traffic (RFC 23): a greeting, a handshake, and messages, over the frames that its octets stand for.
use Rattle.std.specs.Prelude.{◌≡◌, ℕ, ◌+◌, ◌<◌, ◌≤◌, Bool, List, [], ◌∷◌, ◌++◌, length, Option, Some, None, true, false}
use Rattle.std.specs.Option.{unwrap_or}
use Rattle.zmtp_frames.specs.declared.frame.Frame.{Frame}
use Rattle.zmtp_frames.specs.declared.command.Props.{Props}
use Rattle.zmtp_frames.specs.declared.command.Command.TheVariants.{Ready}
use Rattle.zmtp_frames.specs.Stream.{start, reading_after, frames}
use Rattle.zmtp_frames.specs.Grammar.{AreFrames}
use Rattle.zmtp_frames.specs.Greeting.{greeting_fault}
use Rattle.zmtp_frames.specs.Command.{command_of}
use Rattle.zmtp_frames.specs.Written.{own_ready}
use Rattle.zmtp_peer.specs.declared.phase.Phase.TheVariants.{Traffic}
use Rattle.cluster_types.specs.Limits.{message_limit, most_frames}
use Rattle.zmtp_peer.specs.PeerStream.{Talk, parts_after, message_of, listed, is_served}
use Rattle.zmtp_peer.specs.Message.{body_octets}

-- the messages that frames are, behind the bodies of one that isn't whole: frames with MORE, then one without;
-- commands are passed over
abbrev pub grouped : List (List ℕ) → List Frame → List (List (List ℕ))
grouped parts [] = []
grouped parts (f ∷ fs) = listed (message_of parts f) ++ grouped (parts_after Traffic parts (Some f)) fs

-- the bodies of the message that isn't whole behind these frames
abbrev pub ungrouped : List (List ℕ) → List Frame → List (List ℕ)
ungrouped parts [] = parts
ungrouped parts (f ∷ fs) = ungrouped (parts_after Traffic parts (Some f)) fs

-- the octets so far, what is known of them, and what they gave: octets to send, identity and messages
pub record IsConnection (octets : List ℕ) (t : Talk) (send : List ℕ) (identity : Option (List ℕ)) (messages : List (List (List ℕ))) : Type 0 where
  pub greeting : List ℕ
  pub rest : List ℕ
  pub octets-are : octets ≡ greeting ++ rest
  pub whole : length greeting ≡ 64
  pub fine : greeting_fault greeting ≡ None
  pub first : Frame
  pub others : List Frame
  pub frames-are : frames (start 64) rest ≡ first ∷ others
  pub is-command : first.command ≡ true
  pub props : Props
  pub is-ready : command_of first.body ≡ Some (Ready props)
  pub served : is_served props.socket_type ≡ true
  pub sends : send ≡ own_ready
  pub identity-is : identity ≡ Some (unwrap_or props.identity [])
  pub messages-are : messages ≡ grouped [] others
  pub parts-are : t.parts ≡ ungrouped [] others
  pub reader-is : t.reader ≡ reading_after (start 64) rest

-- a frame that may stand behind the bodies of a message that isn't whole: a command behind none, and else one within the limits
abbrev pub FollowsAs : Bool → List (List ℕ) → List ℕ → Type 0
FollowsAs true parts body = parts ≡ []
FollowsAs false parts body = (length parts < most_frames) × (body_octets parts + length body ≤ message_limit)

abbrev pub MayFollow : List (List ℕ) → List Frame → Type 0
MayFollow parts [] = Unit {0}
MayFollow parts (f ∷ fs) = FollowsAs f.command parts f.body × MayFollow (parts_after Traffic parts (Some f)) fs

-- octets that have no fault, by the grammar alone: a greeting, a READY, and frames of messages within the limits
pub record IsFaultless (octets : List ℕ) : Type 0 where
  pub greeting : List ℕ
  pub rest : List ℕ
  pub octets-are : octets ≡ greeting ++ rest
  pub whole : length greeting ≡ 64
  pub fine : greeting_fault greeting ≡ None
  pub first : Frame
  pub others : List Frame
  pub frames-are : AreFrames 64 rest (first ∷ others)
  pub is-command : first.command ≡ true
  pub props : Props
  pub is-ready : command_of first.body ≡ Some (Ready props)
  pub served : is_served props.socket_type ≡ true
  pub allowed : MayFollow [] others
