-- What an engine writes to the controller whose stream it reads.
use Rattle.std.specs.Prelude.{◌≡◌, ℕ, ◌≤◌, List, [], ◌∷◌, ◌++◌, Option, Some, None}
use Rattle.cluster_types.specs.Limits.{last_moment}
use Rattle.cluster_types.specs.declared.message.Message.{Message}
use Rattle.edges.specs.Streams.{Took, Added, AddedFront}
use Rattle.engine_core.specs.Answer.{registration, Answers}
use Rattle.engine_core.specs.State.{Standing}
use Rattle.jupyter_parts.specs.Signed.{signed_frames, read_parts}
use Rattle.link_messages.specs.Message.{signed}
use Rattle.zmtp_peer.specs.declared.fault.PeerFault.{PeerFault}
use Rattle.zmtp_peer.specs.Message.{message_written}
use Rattle.zmtp_peer.specs.PeerStream.{Talk, sent, identity, messages, peer_stream}

-- THE ANSWERS

-- the octets of a message without identity frames, signed under a key
abbrev pub octets_of : List ℕ → Message → List ℕ
octets_of key m = message_written (signed_frames key m.header m.parent m.metadata m.content m.buffers)

abbrev pub reply_octets : List ℕ → Option Message → List ℕ
reply_octets key None = []
reply_octets key (Some reply) = octets_of key reply

-- what is written for frames: the signed answer to a signed message, of some moment; nothing where they aren't signed
abbrev pub HearsAs : List ℕ → Standing → Option Message → List ℕ → Standing → Type 0
HearsAs key before (Some message) octets after =
    (moment : ℕ) × (reply : Option Message) × (moment ≤ last_moment) × Answers before message moment reply after × (octets ≡ reply_octets key reply)
HearsAs key before None octets after = (octets ≡ []) × (after ≡ before)

abbrev pub Hears : List ℕ → Standing → List (List ℕ) → List ℕ → Standing → Type 0
Hears key before frames octets after = HearsAs key before (signed (read_parts key frames)) octets after

-- what is written for the frames of messages, one after another
abbrev pub HearAll : List ℕ → Standing → List (List (List ℕ)) → List ℕ → Standing → Type 0
HearAll key before [] octets after = (octets ≡ []) × (after ≡ before)
HearAll key before (frames ∷ more) octets after =
    (mid : Standing) × (first rest : List ℕ) × Hears key before frames first mid × HearAll key mid more rest after × (octets ≡ first ++ rest)

-- THE SESSION

-- the registration of an engine, of some moment
abbrev pub IsJoin : List ℕ → List ℕ → List ℕ → Type 0
IsJoin key uuid octets = (moment : ℕ) × (moment ≤ last_moment) × (octets ≡ octets_of key (registration uuid moment))

-- it is written once the handshake is done, when the other side has an identity
abbrev pub Opens : List ℕ → List ℕ → Option (List ℕ) → List ℕ → Type 0
Opens key uuid None octets = octets ≡ []
Opens key uuid (Some identity) octets = IsJoin key uuid octets

-- What is written for the octets of a stream of which these messages were heard: greeting and READY, the registration, and
-- the answers in order.
pub record Writes (key : List ℕ) (before : Standing) (octets : List ℕ) (heard : List (List (List ℕ))) (written : List ℕ) (after : Standing) : Type 0 where
  pub opening : List ℕ
  pub answers : List ℕ
  pub opens : Opens key before.uuid (peer_stream octets).identity opening
  pub hears : HearAll key before heard answers after
  pub is : written ≡ (peer_stream octets).send ++ opening ++ answers

-- octets were read, and all that is due for them was written; their stream has this fault, or none
pub record IsWhole (key : List ℕ) (before : Standing) (left rest old new : Option (List ℕ)) (after : Standing) (fault : Option PeerFault) : Type 0 where
  pub octets : List ℕ
  pub written : List ℕ
  pub took : Took octets left rest
  pub writes : Writes key before octets (peer_stream octets).messages written after
  pub added : Added written old new
  pub fault_is : (peer_stream octets).fault ≡ fault

-- octets were read, and a front was written of what is due for the first messages of their stream
pub record IsFront (key : List ℕ) (before : Standing) (left rest old new : Option (List ℕ)) : Type 0 where
  pub octets : List ℕ
  pub heard : List (List (List ℕ))
  pub unheard : List (List (List ℕ))
  pub written : List ℕ
  pub after : Standing
  pub took : Took octets left rest
  pub messages : (peer_stream octets).messages ≡ heard ++ unheard
  pub writes : Writes key before octets heard written after
  pub added : AddedFront written old new

-- THE PARTS OF A SESSION, for the code's own contracts

-- the answers to messages were written
abbrev pub WroteAll : List ℕ → Standing → List (List (List ℕ)) → (old new : Option (List ℕ)) → Standing → Type 0
WroteAll key before heard old new after = (octets : List ℕ) × HearAll key before heard octets after × Added octets old new

-- a front was written of the answers to the first of them
pub record WroteSome (key : List ℕ) (before : Standing) (messages : List (List (List ℕ))) (old new : Option (List ℕ)) : Type 0 where
  pub heard : List (List (List ℕ))
  pub unheard : List (List (List ℕ))
  pub octets : List ℕ
  pub after : Standing
  pub parts : messages ≡ heard ++ unheard
  pub hears : HearAll key before heard octets after
  pub added : AddedFront octets old new

-- all that is due for a piece was written
pub record WrotePiece (key : List ℕ) (before : Standing) (t : Talk) (piece : List ℕ) (old new : Option (List ℕ)) (after : Standing) : Type 0 where
  pub opening : List ℕ
  pub answers : List ℕ
  pub opens : Opens key before.uuid (identity t piece) opening
  pub hears : HearAll key before (messages t piece) answers after
  pub added : Added (sent t piece ++ opening ++ answers) old new

-- a front was written of what is due for the first messages of a piece
pub record WroteOfPiece (key : List ℕ) (before : Standing) (t : Talk) (piece : List ℕ) (old new : Option (List ℕ)) : Type 0 where
  pub opening : List ℕ
  pub heard : List (List (List ℕ))
  pub unheard : List (List (List ℕ))
  pub answers : List ℕ
  pub after : Standing
  pub opens : Opens key before.uuid (identity t piece) opening
  pub parts : messages t piece ≡ heard ++ unheard
  pub hears : HearAll key before heard answers after
  pub added : AddedFront (sent t piece ++ opening ++ answers) old new
