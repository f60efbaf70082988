-- Fields as they are written.
use Rattle.std.specs.Prelude.{ℕ, List, ◌∷◌, ◌++◌, length}
use Rattle.std.specs.Int.{w32, w64, to_be_bytes}
use Rattle.cluster_types.specs.declared.config.Channel.{Channel}
use Rattle.cluster_types.specs.declared.config.Channel.TheVariants.{Hub, Task, Mux, Engine}

-- a number in eight octets, the highest first
unfoldable pub be64 : ℕ → List ℕ
be64 n = to_be_bytes w64 n

-- a number in four octets, the highest first
unfoldable pub be32 : ℕ → List ℕ
be32 n = to_be_bytes w32 n

-- at most 255 octets behind their length
abbrev pub str8 : List ℕ → List ℕ
str8 text = length text ∷ text

-- octets behind their length, which is below 2 ^ 32
abbrev pub blob : List ℕ → List ℕ
blob octets = be32 (length octets) ++ octets

-- the code of a channel
abbrev pub channel_code : Channel → ℕ
channel_code Hub = 0
channel_code Task = 1
channel_code Mux = 2
channel_code Engine = 3
