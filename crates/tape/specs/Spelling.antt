-- The one spelling of a record of a tape.
use Rattle.std.specs.Prelude.{ℕ, ◌^◌, ◌<◌, ◌≤◌, List, [], ◌∷◌, ◌++◌, length, Bool, true, false, All}
use Rattle.std.specs.List.{flat_map}
use Rattle.edges.specs.Spelling.{be32, be64, str8, blob, channel_code}
use Rattle.tape.specs.declared.record.TapeRecord.{TapeRecord}
use Rattle.tape.specs.declared.record.TapeKind.{TapeKind}
use Rattle.tape.specs.declared.record.TapeKind.TheVariants.{Up, Piece, Down, Beat, Time, Message}
use Rattle.cluster_types.specs.Limits.{last_moment, most_frames}

abbrev pub form_code : Bool → ℕ
form_code false = 0
form_code true = 1

abbrev pub kind_code : TapeKind → ℕ
kind_code (Up conn channel bare identity) = 1
kind_code (Piece conn octets) = 2
kind_code (Down conn) = 3
kind_code Beat = 4
kind_code Time = 5
kind_code (Message conn frames) = 6

-- what stands behind the heading
abbrev pub kind_text : TapeKind → List ℕ
kind_text (Up conn channel bare identity) = be32 conn ++ channel_code channel ∷ form_code bare ∷ str8 identity
kind_text (Piece conn octets) = be32 conn ++ blob octets
kind_text (Down conn) = be32 conn
kind_text Beat = []
kind_text Time = []
kind_text (Message conn frames) = be32 conn ++ length frames ∷ flat_map blob frames

-- kind, moment, word, and what the kind has
abbrev pub spelled : TapeRecord → List ℕ
spelled r = kind_code r.kind ∷ be64 r.moment ++ be64 r.word ++ kind_text r.kind

-- records one after another
abbrev pub all_spelled : List TapeRecord → List ℕ
all_spelled = flat_map spelled

abbrev pub FitsBlob : List ℕ → Type 0
FitsBlob octets = length octets < 2 ^ 32

abbrev pub KindFits : TapeKind → Type 0
KindFits (Up conn channel bare identity) = (conn < 2 ^ 32) × (length identity < 256)
KindFits (Piece conn octets) = (conn < 2 ^ 32) × FitsBlob octets
KindFits (Down conn) = conn < 2 ^ 32
KindFits Beat = Unit {0}
KindFits Time = Unit {0}
KindFits (Message conn frames) = (conn < 2 ^ 32) × (0 < length frames) × (length frames ≤ most_frames) × All FitsBlob frames

-- what has a spelling
pub record Fits (r : TapeRecord) : Type 0 where
  pub moment : r.moment ≤ last_moment
  pub word : r.word < 2 ^ 64
  pub kind : KindFits r.kind
