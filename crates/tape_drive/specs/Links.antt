-- The connections that are up on a tape.
use Rattle.std.specs.Prelude.{ℕ, ◌==◌, List, [], ◌∷◌, ◌++◌, Option, Some, None, option_map, All, IfSome, Bool, false, not, filter, find, is_none, if◌then◌else◌}
use Rattle.std.specs.Option.{is_some}
use Rattle.cluster_types.specs.declared.config.Channel.{Channel}
use Rattle.tape.specs.declared.record.TapeKind.{TapeKind}
use Rattle.tape.specs.declared.record.TapeKind.TheVariants.{Up, Piece, Down}
use Rattle.zmtp_peer.specs.declared.phase.PeerFed.{PeerFed}
use Rattle.zmtp_peer.specs.Limits.{IsShortMessage, IsShortIdentity}
use Rattle.zmtp_peer.specs.PeerStream.{Talk, begins, talked, sent, identity, messages, fault_of}

-- a connection from its Up to its Down: a bare one has no talk, of one that speaks ZMTP it is what its octets so far
-- tell
pub record Link : Type 0 where
  pub conn : ℕ
  pub channel : Channel
  pub talk : Option Talk

-- the link of a number
abbrev pub link_on : List Link → ℕ → Option Link
link_on links conn = find (λ l. l.conn == conn) links

abbrev pub is_bare : Option Link → Bool
is_bare None = false
is_bare (Some l) = is_none l.talk

abbrev pub is_zmtp : Option Link → Bool
is_zmtp None = false
is_zmtp (Some l) = is_some l.talk

-- a link that comes up: nothing came on it
abbrev pub new_link : ℕ → Channel → Bool → Link
new_link conn channel bare = record { conn = conn; channel = channel; talk = if bare then None else Some begins }

-- a link on which octets came
abbrev pub heard : List ℕ → Link → Link
heard octets l = record { conn = l.conn; channel = l.channel; talk = option_map (λ t. talked t octets) l.talk }

-- octets came on the link of a number
abbrev pub heard_on : ℕ → List ℕ → List Link → List Link
heard_on conn octets [] = []
heard_on conn octets (l ∷ links) = if l.conn == conn then heard octets l ∷ links else l ∷ heard_on conn octets links

-- what octets give behind a talk: octets to send, the identity, the messages, and the first fault
abbrev pub given : Talk → List ℕ → PeerFed
given t octets = record { send = sent t octets; ready = identity t octets; messages = messages t octets; fault = fault_of (talked t octets).phase }

-- what octets on a link that speaks ZMTP give, with its channel
abbrev pub given_on : List ℕ → Option Link → Option (Channel × PeerFed)
given_on octets None = None
given_on octets (Some l) = option_map (λ t. (l.channel, given t octets)) l.talk

-- the links while a record is served: an Up adds one, at the end, and a Piece is heard
abbrev pub links_at : List Link → TapeKind → List Link
links_at links (Up conn channel bare identity) = links ++ new_link conn channel bare ∷ []
links_at links (Piece conn octets) = heard_on conn octets links
links_at links _ = links

-- the links behind a record: a Down takes one off
abbrev pub links_left : List Link → TapeKind → List Link
links_left links (Down conn) = filter (λ l. not (l.conn == conn)) links
links_left links _ = links

-- what octets gave is within the limits of a stream
pub record IsShort (fed : PeerFed) : Type 0 where
  pub messages : All IsShortMessage fed.messages
  pub ready : IfSome fed.ready IsShortIdentity

abbrev pub IsShortGiven : Option (Channel × PeerFed) → Type 0
IsShortGiven given = IfSome given (λ g. IsShort g.1)
