-- Lengths of fields, and of whole records.
use Rattle.std.proofs.Common.{◌≡◌, ℕ, ◌+◌, ◌*◌, ◌^◌, ◌<◌, ◌≤◌, List, [], ◌∷◌, ◌++◌, All, length, refl, length-append, rules, arith}
use Rattle.std.proofs.lemmas.List.Elements.{All-head, All-tail}
use Rattle.cluster_types.specs.declared.message.Message.{Message}
use Rattle.cluster_types.specs.declared.entry.Input.TheVariants.{Open, Up, Down, In, Beat, Time}
use Rattle.cluster_types.specs.declared.entry.Entry.{Entry}
use Rattle.cluster_types.specs.declared.entry.Entry.TheVariants.{Input, Hand, Settle, Lose}
use Rattle.edges.specs.Spelling.{be32, be64, str8, blob}
use Rattle.record_codec.specs.Spelling.{spelling, blobs, message_spelling, IsShort, IsWithinLimits}
use Rattle.edges.proofs.Widths.{be64_width}

pub length-be32 : (n : ℕ) → length (be32 n) ≡ 4
unfolding be32
length-be32 n = refl

pub ruleset lengths = (length-append, length-be32, be64_width)

pub length-blob : (octets : List ℕ) → length (blob octets) ≡ 4 + length octets
length-blob octets = omega (arith, length-append (be32 (length octets)) octets, length-be32 (length octets))

length-blobs : (buffers : List (List ℕ)) → All (λ buffer. length buffer < 2 ^ 32) buffers → length (blobs buffers) ≤ length buffers * (2 ^ 32 + 4)
length-blobs [] each = omega arith
length-blobs (b ∷ bs) each =
    let head : length b < 2 ^ 32 = All-head (λ buffer. length buffer < 2 ^ 32) b bs each in
    let rest = length-blobs bs (All-tail (λ buffer. length buffer < 2 ^ 32) b bs each) in
    omega (arith, head, rest, length-append (blob b) (blobs bs), length-blob b)

-- parts one after another
length-parts : (a b c d e f : List ℕ) → length (a ++ b ++ c ++ d ++ e ++ f) ≡ length a + length b + length c + length d + length e + length f
length-parts a b c d e f = search (lengths, arith)

length-message : (m : Message) → IsShort m → length (message_spelling m) < 2 ^ 62
unfolding message_spelling
length-message m short = omega (
  arith,
  short.target,
  short.header,
  short.parent,
  short.metadata,
  short.content,
  short.number,
  length-blobs m.buffers short.buffers,
  length-parts (str8 m.target) (blob m.header) (blob m.parent) (blob m.metadata) (blob m.content) (length m.buffers ∷ blobs m.buffers),
  length-blob m.header,
  length-blob m.parent,
  length-blob m.metadata,
  length-blob m.content,
)

-- fields of fixed sizes, and octets behind them
length-field : (n : ℕ) (rest : List ℕ) → length (be32 n ++ rest) ≡ 4 + length rest
length-field n rest = omega (arith, length-append (be32 n) rest, length-be32 n)

length-long : (n : ℕ) (rest : List ℕ) → length (be64 n ++ rest) ≡ 8 + length rest
length-long n rest = omega (arith, length-append (be64 n) rest, be64_width n)

-- the record of an entry within the limits is no longer than a number of 64 bits tells
pub within : (e : Entry) → IsWithinLimits e → length (spelling e) < 2 ^ 64
within (Input (Open moment scheme hwm misses)) w = search (lengths, arith)
within (Input (Up conn channel moment word identity)) w = let name = w.1.1 in search (lengths, arith)
within (Input (Down conn moment word)) w = search (lengths, arith)
within (Input (In conn moment word message)) w = let short = length-message message w.1 in search (lengths, arith)
within (Input (Beat moment word)) w = search (lengths, arith)
within (Input (Time moment word)) w = search (lengths, arith)
within (Hand id engine) w = let name = w.1 in search (lengths, arith)
within (Settle id verdict cause) w = let name = w.1 in search (lengths, arith)
within (Lose engine) w = search (lengths, arith)
