-- What a handshake reads and writes.
use Rattle.std.specs.Prelude.{◌≡◌, ℕ, List, ◌++◌, Option, Some, None, All}
use Rattle.edges.specs.Streams.{AddedFront, Took, Added}
use Rattle.zmtp_peer.specs.declared.fault.PeerFault.{PeerFault}
use Rattle.zmtp_peer.specs.Limits.{IsShortMessage, IsShortIdentity}
use Rattle.zmtp_peer.specs.PeerStream.{Talk, begins, talked, identity, messages, peer_stream}

-- octets were read whose stream gives an identity and these messages, and all was written that it calls for
pub record IsGreeted (talk : Talk) (identity : List ℕ) (early : List (List (List ℕ))) (left rest old new : Option (List ℕ)) : Type 0 where
  pub octets : List ℕ
  pub took : Took octets left rest
  pub talk_is : talk ≡ talked begins octets
  pub identity_is : (peer_stream octets).identity ≡ Some identity
  pub messages : (peer_stream octets).messages ≡ early
  pub added : Added (peer_stream octets).send old new

-- octets were read whose stream gives no identity and has this fault, or none, and all was written that it calls for
pub record IsRefused (fault : Option PeerFault) (left rest old new : Option (List ℕ)) : Type 0 where
  pub octets : List ℕ
  pub took : Took octets left rest
  pub nobody : (peer_stream octets).identity ≡ None
  pub fault_is : (peer_stream octets).fault ≡ fault
  pub added : Added (peer_stream octets).send old new

-- octets were read, and a front was written of what their stream calls for
pub record IsGreetedInPart (left rest old new : Option (List ℕ)) : Type 0 where
  pub octets : List ℕ
  pub took : Took octets left rest
  pub added : AddedFront (peer_stream octets).send old new

-- a piece gives this identity and these messages, which are within the limits
pub record IsHandshake (talk : Talk) (piece : List ℕ) (name : List ℕ) (early : List (List (List ℕ))) : Type 0 where
  pub identity_is : identity talk piece ≡ Some name
  pub messages_are : messages talk piece ≡ early
  pub short_name : IsShortIdentity name
  pub short : All IsShortMessage early
