-- The limits of what a peer's stream gives, and of what is known between two octets.
use Rattle.std.specs.Prelude.{◌≡◌, ℕ, ◌+◌, ◌<◌, ◌≤◌, List, [], length, None}
use Rattle.cluster_types.specs.Limits.{most_frames, message_limit}
use Rattle.zmtp_frames.specs.declared.frame.Stage.{Stage}
use Rattle.zmtp_frames.specs.declared.frame.Stage.TheVariants.{Between, Sizing, Filling, Ended}
use Rattle.zmtp_frames.specs.Stream.{begun_at}
use Rattle.zmtp_peer.specs.declared.phase.Phase.TheVariants.{Traffic}
use Rattle.zmtp_peer.specs.Message.{body_octets}
use Rattle.zmtp_peer.specs.PeerStream.{Talk, begun_fault}

-- a message of 1 to 64 frames, whose bodies have at most 33,554,432 octets together
pub record IsShortMessage (frames : List (List ℕ)) : Type 0 where
  pub some : 0 < length frames
  pub number : length frames ≤ most_frames
  pub octets : body_octets frames ≤ message_limit

abbrev pub IsShortIdentity : List ℕ → Type 0
IsShortIdentity identity = length identity ≤ 255

-- the octets of a body that came and those still to come are as many as its size says
abbrev pub IsCounted : Stage → List ℕ → Type 0
IsCounted Between body = body ≡ []
IsCounted (Sizing head left size) body = body ≡ []
IsCounted (Filling head size left) body = (0 < left) × (length body + left ≡ size)
IsCounted (Ended fault begun) body = Unit {0}

-- the bodies of the message that isn't whole are within its limits, and in traffic so is the frame that isn't whole
pub record IsSound (t : Talk) : Type 0 where
  pub number : length t.parts ≤ most_frames
  pub octets : body_octets t.parts ≤ message_limit
  pub counted : IsCounted t.reader.stage t.reader.body
  pub allowed : t.phase ≡ Traffic → begun_fault Traffic t.parts (begun_at t.reader.stage) ≡ None
