-- A record of a tape is read as this record, whatever follows it.
use Rattle.std.proofs.Common.{◌≡◌, ℕ, suc, ◌^◌, ◌<◌, ◌≤◌, Bool, true, false, List, [], ◌∷◌, ◌++◌, length, Ok, All, refl, ap, ◌∙◌, append_assoc, arith}
use Rattle.std.specs.Prelude.{nat_lt, ◌==◌, ◌||◌}
use Rattle.std.specs.List.{flat_map}
use Rattle.std.proofs.lemmas.Bool.{le-ltb}
use Rattle.std.proofs.lemmas.Bool.Decides.{nat_tests}
use Rattle.cluster_types.specs.declared.config.Channel.{Channel}
use Rattle.cluster_types.specs.Limits.{last_moment, most_frames}
use Rattle.edges.specs.Spelling.{be32, be64, str8, blob, channel_code}
use Rattle.edges.proofs.Again.{number32, number64, str8_again, blob_again, channel_again}
use Rattle.tape.specs.declared.record.TapeRecord.{TapeRecord}
use Rattle.tape.specs.declared.record.TapeKind.{TapeKind}
use Rattle.tape.specs.declared.record.TapeKind.TheVariants.{Up, Piece, Down, Beat, Time, Message}
use Rattle.tape.specs.Reading.{up_at, piece_at, down_at, frames_at, message_at, kind_at, record_at}
use Rattle.tape.specs.Spelling.{form_code, kind_code, kind_text, spelled, FitsBlob, KindFits, Fits}

up_again : (conn : ℕ) (channel : Channel) (bare : Bool) (identity rest : List ℕ) → conn < 2 ^ 32 →
    up_at ((be32 conn ++ channel_code channel ∷ form_code bare ∷ str8 identity) ++ rest) ≡ Ok (Up conn channel bare identity, rest)
unfolding up_at
up_again conn channel true identity rest small =
    ap up_at (append_assoc (be32 conn) (channel_code channel ∷ 1 ∷ str8 identity) rest)
    ∙ rw (number32 conn (channel_code channel ∷ 1 ∷ (str8 identity ++ rest)) small, channel_again channel (1 ∷ (str8 identity ++ rest)), str8_again identity rest) refl
up_again conn channel false identity rest small =
    ap up_at (append_assoc (be32 conn) (channel_code channel ∷ 0 ∷ str8 identity) rest)
    ∙ rw (number32 conn (channel_code channel ∷ 0 ∷ (str8 identity ++ rest)) small, channel_again channel (0 ∷ (str8 identity ++ rest)), str8_again identity rest) refl

piece_again : (conn : ℕ) (octets rest : List ℕ) → conn < 2 ^ 32 → length octets < 2 ^ 32 → piece_at ((be32 conn ++ blob octets) ++ rest) ≡ Ok (Piece conn octets, rest)
unfolding piece_at
piece_again conn octets rest small short =
    ap piece_at (append_assoc (be32 conn) (blob octets) rest) ∙ rw (number32 conn (blob octets ++ rest) small, blob_again octets rest short) refl

down_again : (conn : ℕ) (rest : List ℕ) → conn < 2 ^ 32 → down_at (be32 conn ++ rest) ≡ Ok (Down conn, rest)
unfolding down_at
down_again conn rest small = rw (number32 conn rest small) refl

frames_again : (frames : List (List ℕ)) (rest : List ℕ) → All FitsBlob frames → frames_at (length frames) (flat_map blob frames ++ rest) ≡ Ok (frames, rest)
frames_again [] rest each = refl
frames_again (frame ∷ frames) rest each =
    ap (frames_at (suc (length frames))) (append_assoc (blob frame) (flat_map blob frames) rest)
    ∙ rw (blob_again frame (flat_map blob frames ++ rest) (each 0 frame (omega arith)), frames_again frames rest (λ k d lt. each (suc k) d (omega arith))) refl

is_count : (n : ℕ) → 0 < n → n ≤ most_frames → ((n == 0) || nat_lt most_frames n) ≡ false
is_count n some few = grind (arith, nat_tests)

message_again : (conn : ℕ) (frames : List (List ℕ)) (rest : List ℕ) → conn < 2 ^ 32 → 0 < length frames → length frames ≤ most_frames → All FitsBlob frames →
    message_at ((be32 conn ++ length frames ∷ flat_map blob frames) ++ rest) ≡ Ok (Message conn frames, rest)
unfolding message_at
message_again conn frames rest small some few each =
    ap message_at (append_assoc (be32 conn) (length frames ∷ flat_map blob frames) rest)
    ∙ rw (number32 conn (length frames ∷ (flat_map blob frames ++ rest)) small, is_count (length frames) some few, frames_again frames rest each) refl

kind_again : (kind : TapeKind) (rest : List ℕ) → KindFits kind → kind_at (kind_code kind) (kind_text kind ++ rest) ≡ Ok (kind, rest)
kind_again (Up conn channel bare identity) rest fits = up_again conn channel bare identity rest fits.0
kind_again (Piece conn octets) rest fits = piece_again conn octets rest fits.0 fits.1
kind_again (Down conn) rest fits = down_again conn rest fits
kind_again Beat rest fits = refl
kind_again Time rest fits = refl
kind_again (Message conn frames) rest fits = message_again conn frames rest fits.0 fits.1 fits.2 fits.3

pub record_again : (r : TapeRecord) (rest : List ℕ) → Fits r → record_at (spelled r ++ rest) ≡ Ok (r, rest)
unfolding record_at
record_again r rest fits =
    let text : List ℕ = kind_text r.kind ++ rest in
    let moment = fits.moment in
    let same : (be64 r.moment ++ be64 r.word ++ kind_text r.kind) ++ rest ≡ be64 r.moment ++ (be64 r.word ++ text) = simp append_assoc in
    ap (λ (xs : List ℕ). record_at (kind_code r.kind ∷ xs)) same
    ∙ rw (number64 r.moment (be64 r.word ++ text) (omega (arith, moment)), le-ltb last_moment r.moment moment, number64 r.word text fits.word, kind_again r.kind rest fits.kind) refl
