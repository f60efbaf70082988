-- The text of a history: a line for each entry. A line is the word of the entry's kind, its fields, each behind one
-- space, and a line feed.
use Rattle.std.specs.Prelude.{ℕ, List, [], ◌∷◌, ◌++◌, map, codes, decimal}
use Rattle.std.specs.List.{flat_map}
use Rattle.hex.specs.Hex.{encode_lower}
use Rattle.cluster_types.specs.declared.config.Channel.{Channel}
use Rattle.cluster_types.specs.declared.config.Channel.TheVariants as channels
use Rattle.cluster_types.specs.declared.config.Scheme.{Scheme}
use Rattle.cluster_types.specs.declared.config.Scheme.TheVariants as schemes
use Rattle.cluster_types.specs.declared.message.Message.{Message}
use Rattle.cluster_types.specs.declared.entry.Input.TheVariants.{Open, Up, Down, In, Beat, Time}
use Rattle.cluster_types.specs.declared.entry.Entry.{Entry}
use Rattle.cluster_types.specs.declared.entry.Entry.TheVariants.{Input, Hand, Settle, Lose}
use Rattle.cluster_types.specs.Verdicts.{verdict_name, cause_name}

abbrev pub channel_name : Channel → List ℕ
channel_name channels.Hub = codes "hub"
channel_name channels.Task = codes "task"
channel_name channels.Mux = codes "mux"
channel_name channels.Engine = codes "engine"

abbrev pub scheme_name : Scheme → List ℕ
scheme_name schemes.Lru = codes "lru"
scheme_name schemes.LeastLoad = codes "leastload"
scheme_name schemes.PlainRandom = codes "plainrandom"
scheme_name schemes.TwoBin = codes "twobin"

-- octets, each in two hexadecimal digits in lower case, and a dash where there are none
abbrev pub hexadecimal : List ℕ → List ℕ
hexadecimal [] = codes "-"
hexadecimal (octet ∷ octets) = encode_lower (octet ∷ octets)

-- a field behind the space that parts it from what stands before
abbrev pub field : List ℕ → List ℕ
field text = codes " " ++ text

-- a message: its target, its four parts, and each buffer
abbrev pub message_fields : Message → List (List ℕ)
message_fields m =
    hexadecimal m.target ∷ hexadecimal m.header ∷ hexadecimal m.parent ∷ hexadecimal m.metadata ∷ hexadecimal m.content
    ∷ map hexadecimal m.buffers

-- what the line of an entry begins with
abbrev pub kind_word : Entry → List ℕ
kind_word (Input (Open moment scheme hwm misses)) = codes "open"
kind_word (Input (Up conn channel moment word identity)) = codes "up"
kind_word (Input (Down conn moment word)) = codes "down"
kind_word (Input (In conn moment word message)) = codes "in"
kind_word (Input (Beat moment word)) = codes "beat"
kind_word (Input (Time moment word)) = codes "time"
kind_word (Hand id engine) = codes "hand"
kind_word (Settle id verdict cause) = codes "settle"
kind_word (Lose engine) = codes "lose"

-- and the fields behind it
abbrev pub fields : Entry → List (List ℕ)
fields (Input (Open moment scheme hwm misses)) = decimal moment ∷ scheme_name scheme ∷ decimal hwm ∷ decimal misses ∷ []
fields (Input (Up conn channel moment word identity)) =
    decimal conn ∷ channel_name channel ∷ decimal moment ∷ decimal word ∷ hexadecimal identity ∷ []
fields (Input (Down conn moment word)) = decimal conn ∷ decimal moment ∷ decimal word ∷ []
fields (Input (In conn moment word message)) = decimal conn ∷ decimal moment ∷ decimal word ∷ message_fields message
fields (Input (Beat moment word)) = decimal moment ∷ decimal word ∷ []
fields (Input (Time moment word)) = decimal moment ∷ decimal word ∷ []
fields (Hand id engine) = hexadecimal id ∷ decimal engine ∷ []
fields (Settle id verdict cause) = hexadecimal id ∷ verdict_name verdict ∷ cause_name cause ∷ []
fields (Lose engine) = decimal engine ∷ []

-- the line of an entry
abbrev pub line : Entry → List ℕ
line e = kind_word e ++ flat_map field (fields e) ++ codes "\n"

-- the text of entries, in their order
abbrev pub text : List Entry → List ℕ
text entries = flat_map line entries
