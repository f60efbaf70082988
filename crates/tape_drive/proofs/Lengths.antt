-- How many octets records are spelled in.
use Rattle.std.proofs.Common.{◌≡◌, ℕ, ◌+◌, List, [], ◌∷◌, ◌++◌, length, refl, ap, ◌∙◌, arith}
use Rattle.std.specs.List.{flat_map}
use Rattle.std.proofs.lemmas.List.{length-append}
use Rattle.std.proofs.lemmas.List.Sums.{sum_by-cons}
use Rattle.edges.specs.Spelling.{be32, be64, blob, channel_code, str8}
use Rattle.tape.specs.declared.record.TapeRecord.{TapeRecord}
use Rattle.tape.specs.declared.record.TapeKind.{TapeKind}
use Rattle.tape.specs.declared.record.TapeKind.TheVariants.{Up, Piece, Down, Beat, Time, Message}
use Rattle.tape.specs.Spelling.{spelled, kind_text, kind_code, form_code}
use Rattle.tape_drive.specs.Sizes.{frame_size, frames_size, kind_size}
use Rattle.record_codec.proofs.Lengths.{length-be32, length-blob}
use Rattle.edges.proofs.Widths.{be64_width}

behind : (n m : ℕ) (rest : List ℕ) → length rest ≡ m → length (be32 n ++ rest) ≡ 4 + m
behind n m rest is = length-append (be32 n) rest ∙ (ap (λ k. k + length rest) (length-be32 n) ∙ ap (λ k. 4 + k) is)

blobs_length : (frames : List (List ℕ)) → length (flat_map blob frames) ≡ frames_size frames
blobs_length [] = refl
blobs_length (f ∷ frames) =
    let both : length (flat_map blob (f ∷ frames)) ≡ length (blob f) + length (flat_map blob frames) = length-append (blob f) (flat_map blob frames) in
    let sum : frames_size (f ∷ frames) ≡ frame_size f + frames_size frames = sum_by-cons frame_size f frames in
    let one = length-blob f in
    let more = blobs_length frames in
    omega (arith, both, sum, one, more)

three : (a b : ℕ) (identity : List ℕ) → length (a ∷ b ∷ str8 identity) ≡ 3 + length identity
three a b identity = omega arith

counted : (a : ℕ) (xs : List ℕ) (n : ℕ) → length xs ≡ n → length (a ∷ xs) ≡ 1 + n
counted a xs n is = omega (arith, is)

text_length : (kind : TapeKind) → length (kind_text kind) ≡ kind_size kind
text_length (Up conn channel bare identity) =
    let e : length (kind_text (Up conn channel bare identity)) ≡ 4 + (3 + length identity) =
    behind conn (3 + length identity) (channel_code channel ∷ form_code bare ∷ str8 identity) (three (channel_code channel) (form_code bare) identity) in
    e ∙ (omega arith)
text_length (Piece conn octets) =
    let e : length (kind_text (Piece conn octets)) ≡ 4 + (4 + length octets) = behind conn (4 + length octets) (blob octets) (length-blob octets) in
    e ∙ (omega arith)
text_length (Down conn) = length-be32 conn
text_length Beat = refl
text_length Time = refl
text_length (Message conn frames) =
    let e : length (kind_text (Message conn frames)) ≡ 4 + (1 + frames_size frames) =
    behind conn (1 + frames_size frames) (length frames ∷ flat_map blob frames) (counted (length frames) (flat_map blob frames) (frames_size frames) (blobs_length frames)) in
    e ∙ (omega arith)

sized : (kind : ℕ) (a b text : List ℕ) (n : ℕ) → length a ≡ 8 → length b ≡ 8 → length text ≡ n → length (kind ∷ a ++ b ++ text) ≡ n + 17
sized kind a b text n x y z = let e = length-append (a ++ b) text in let f = length-append a b in omega (arith, e, f, x, y, z)

pub spelled_length : (r : TapeRecord) → length (spelled r) ≡ kind_size r.kind + 17
spelled_length r = sized (kind_code r.kind) (be64 r.moment) (be64 r.word) (kind_text r.kind) (kind_size r.kind) (be64_width r.moment) (be64_width r.word) (text_length r.kind)
