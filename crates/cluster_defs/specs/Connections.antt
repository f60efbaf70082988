-- Connections: live from their Up until their Down or an Open.
use Rattle.std.specs.Prelude.{ℕ, max, ◌==◌, List, [], ◌∷◌, ◌++◌, map, Option, Some, None, Bool, true, false, not, ◌&&◌, filter, find, fold, bytes_eq, option_map}
use Rattle.cluster_types.specs.declared.config.Channel.{Channel}
use Rattle.cluster_types.specs.declared.config.Channel.TheVariants.{Hub, Task, Mux, Engine}
use Rattle.cluster_defs.specs.declared.connection.Connection.{Connection}
use Rattle.cluster_defs.specs.declared.connection.Owner.{Owner}

abbrev pub same_channel : Channel → Channel → Bool
same_channel Hub Hub = true
same_channel Task Task = true
same_channel Mux Mux = true
same_channel Engine Engine = true
same_channel _ _ = false

-- the live connection of a number
abbrev pub connection_on : List Connection → ℕ → Option Connection
connection_on live conn = find (λ c. c.number == conn) live

abbrev pub channel_on : List Connection → ℕ → Option Channel
channel_on live conn = option_map (λ c. c.channel) (connection_on live conn)

-- who speaks on a connection: its channel and its identity
abbrev pub peer_of : Connection → Owner
peer_of c = record { channel = c.channel; identity = c.identity }

abbrev pub peer_on : List Connection → ℕ → Option Owner
peer_on live conn = option_map peer_of (connection_on live conn)

-- the live connections after an Up and after a Down
abbrev pub with_connection : ℕ → Channel → List ℕ → List Connection → List Connection
with_connection conn channel identity live = live ++ record { number = conn; channel = channel; identity = identity } ∷ []

abbrev pub without_connection : ℕ → List Connection → List Connection
without_connection conn live = filter (λ c. not (c.number == conn)) live

abbrev pub is_of_peer : Owner → Connection → Bool
is_of_peer peer c = same_channel c.channel peer.channel && bytes_eq c.identity peer.identity

-- the greatest of some numbers
abbrev pub highest : List ℕ → Option ℕ
highest [] = None
highest (n ∷ ns) = Some (fold max n ns)

-- the live connection of a peer, of several the one with the highest number
abbrev pub reached : List Connection → Owner → Option ℕ
reached live peer = highest (map (λ c. c.number) (filter (is_of_peer peer) live))
