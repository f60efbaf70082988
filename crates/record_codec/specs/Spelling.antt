-- The one spelling of an entry, its record. Numbers are big-endian.
use Rattle.std.specs.Prelude.{◌≡◌, ℕ, ◌+◌, ◌^◌, ◌<◌, ◌≤◌, true, List, [], ◌∷◌, ◌++◌, length, All}
use Rattle.std.specs.List.{flat_map}
use Rattle.std.specs.Str.{is_utf8}
use Rattle.cluster_types.specs.declared.config.Scheme.{Scheme}
use Rattle.cluster_types.specs.declared.config.Scheme.TheVariants as schemes
use Rattle.cluster_types.specs.declared.verdict.Verdict.{Verdict}
use Rattle.cluster_types.specs.declared.verdict.Verdict.TheVariants as verdicts
use Rattle.cluster_types.specs.declared.verdict.Cause.{Cause}
use Rattle.cluster_types.specs.declared.verdict.Cause.TheVariants as causes
use Rattle.cluster_types.specs.declared.message.Message.{Message}
use Rattle.cluster_types.specs.declared.entry.Input.TheVariants.{Open, Up, Down, In, Beat, Time}
use Rattle.cluster_types.specs.declared.entry.Entry.{Entry}
use Rattle.cluster_types.specs.declared.entry.Entry.TheVariants.{Input, Hand, Settle, Lose}
use Rattle.cluster_types.specs.Limits.{last_moment, most_buffers}
use Rattle.edges.specs.Spelling.{be32, be64, str8, blob, channel_code}

abbrev pub scheme_code : Scheme → ℕ
scheme_code schemes.Lru = 0
scheme_code schemes.LeastLoad = 1
scheme_code schemes.PlainRandom = 2
scheme_code schemes.TwoBin = 3

abbrev pub verdict_code : Verdict → ℕ
verdict_code verdicts.Completed = 1
verdict_code verdicts.Failed = 2
verdict_code verdicts.Aborted = 3

abbrev pub cause_code : Cause → ℕ
cause_code causes.Reply = 0
cause_code causes.EngineError = 1
cause_code causes.ImpossibleDependency = 2
cause_code causes.InvalidDependency = 3
cause_code causes.TaskTimeout = 4
cause_code causes.Abort = 5

-- buffers, each behind its length
abbrev pub blobs : List (List ℕ) → List ℕ
blobs buffers = flat_map blob buffers

-- a message: its target, its four parts, and its buffers behind their number
unfoldable pub message_spelling : Message → List ℕ
message_spelling m =
    str8 m.target ++ blob m.header ++ blob m.parent ++ blob m.metadata ++ blob m.content ++ length m.buffers ∷ blobs m.buffers

-- the record of an entry: its kind, and then its fields
abbrev pub spelling : Entry → List ℕ
spelling (Input (Open moment scheme hwm misses)) = 1 ∷ be64 moment ++ scheme_code scheme ∷ be32 hwm ++ be32 misses
spelling (Input (Up conn channel moment word identity)) = 2 ∷ be32 conn ++ channel_code channel ∷ be64 moment ++ be64 word ++ str8 identity
spelling (Input (Down conn moment word)) = 3 ∷ be32 conn ++ be64 moment ++ be64 word
spelling (Input (In conn moment word message)) = 4 ∷ be32 conn ++ be64 moment ++ be64 word ++ message_spelling message
spelling (Input (Beat moment word)) = 5 ∷ be64 moment ++ be64 word
spelling (Input (Time moment word)) = 6 ∷ be64 moment ++ be64 word
spelling (Hand id engine) = 7 ∷ str8 id ++ be32 engine
spelling (Settle id verdict cause) = 8 ∷ str8 id ++ verdict_code verdict ∷ cause_code cause ∷ []
spelling (Lose engine) = 9 ∷ be32 engine

-- the last moment, in milliseconds since 1970: the end of the year 9999
abbrev pub IsMoment : ℕ → Type 0
IsMoment moment = moment ≤ last_moment

-- 1 to 255 octets
abbrev pub IsName : List ℕ → Type 0
IsName text = (0 < length text) × (length text < 256)

-- a message whose fields' lengths can be written
pub record IsShort (m : Message) : Type 0 where
  pub target : length m.target < 256
  pub header : length m.header < 2 ^ 32
  pub parent : length m.parent < 2 ^ 32
  pub metadata : length m.metadata < 2 ^ 32
  pub content : length m.content < 2 ^ 32
  pub number : length m.buffers ≤ most_buffers
  pub buffers : All (λ buffer. length buffer < 2 ^ 32) m.buffers

-- an entry whose values are within their limits
abbrev pub IsWithinLimits : Entry → Type 0
IsWithinLimits (Input (Open moment scheme hwm misses)) = IsMoment moment
IsWithinLimits (Input (Up conn channel moment word identity)) = IsMoment moment × IsName identity
IsWithinLimits (Input (Down conn moment word)) = IsMoment moment
IsWithinLimits (Input (In conn moment word message)) = IsMoment moment × IsShort message
IsWithinLimits (Input (Beat moment word)) = IsMoment moment
IsWithinLimits (Input (Time moment word)) = IsMoment moment
IsWithinLimits (Hand id engine) = IsName id
IsWithinLimits (Settle id verdict cause) = IsName id
IsWithinLimits (Lose engine) = Unit {0}

-- numbers within the width of their fields, and ids in UTF-8, as the types of an entry have them
abbrev pub IsTyped : Entry → Type 0
IsTyped (Input (Open moment scheme hwm misses)) = (hwm < 2 ^ 32) × (misses < 2 ^ 32)
IsTyped (Input (Up conn channel moment word identity)) = (conn < 2 ^ 32) × (word < 2 ^ 64)
IsTyped (Input (Down conn moment word)) = (conn < 2 ^ 32) × (word < 2 ^ 64)
IsTyped (Input (In conn moment word message)) = (conn < 2 ^ 32) × (word < 2 ^ 64)
IsTyped (Input (Beat moment word)) = word < 2 ^ 64
IsTyped (Input (Time moment word)) = word < 2 ^ 64
IsTyped (Hand id engine) = (is_utf8 id ≡ true) × (engine < 2 ^ 32)
IsTyped (Settle id verdict cause) = is_utf8 id ≡ true
IsTyped (Lose engine) = engine < 2 ^ 32

-- an entry that has a record
abbrev pub HasRecord : Entry → Type 0
HasRecord e = IsWithinLimits e × IsTyped e

-- the record of the entry stands at this place of the octets, and ends before that one
pub record RecordStands (octets : List ℕ) (at : ℕ) (e : Entry) (next : ℕ) : Type 0 where
  pub front : List ℕ
  pub rest : List ℕ
  pub parts : octets ≡ front ++ spelling e ++ rest
  pub begins : length front ≡ at
  pub ends : at + length (spelling e) ≡ next
  pub has : HasRecord e
