-- Reading a record of a tape at the front of octets, from left to right.
use Rattle.std.specs.Prelude.{ℕ, zero, suc, List, [], ◌∷◌, Ok, Err, nat_lt, ◌==◌, ◌||◌, if◌then◌else◌}
use Rattle.std.specs.Int.{w32, w64}
use Rattle.cluster_types.specs.Limits.{last_moment, most_frames}
use Rattle.edges.specs.declared.stop.Stop.TheVariants.{Bad}
use Rattle.edges.specs.Reading.{Read, ◌>>=◌, octet_at, number_at, str8_at, blob_at, channel_at}
use Rattle.tape.specs.declared.record.TapeRecord.{TapeRecord}
use Rattle.tape.specs.declared.record.TapeKind.{TapeKind}
use Rattle.tape.specs.declared.record.TapeKind.TheVariants.{Up, Piece, Down, Beat, Time, Message}

unfoldable pub up_at : List ℕ → Read TapeKind
up_at octets = do
  conn ← number_at w32 octets
  channel ← channel_at conn.1
  form ← octet_at channel.1
  if nat_lt 1 form.0 then Err Bad else do
    identity ← str8_at form.1
    Ok (Up conn.0 channel.0 (form.0 == 1) identity.0, identity.1)

unfoldable pub piece_at : List ℕ → Read TapeKind
piece_at octets = do
  conn ← number_at w32 octets
  piece ← blob_at conn.1
  Ok (Piece conn.0 piece.0, piece.1)

unfoldable pub down_at : List ℕ → Read TapeKind
down_at octets = do
  conn ← number_at w32 octets
  Ok (Down conn.0, conn.1)

-- so many frames
abbrev pub frames_at : ℕ → List ℕ → Read (List (List ℕ))
frames_at zero octets = Ok ([], octets)
frames_at (suc n) octets = do
  body ← blob_at octets
  more ← frames_at n body.1
  Ok (body.0 ∷ more.0, more.1)

-- 1 to 64 frames behind their number
unfoldable pub message_at : List ℕ → Read TapeKind
message_at octets = do
  conn ← number_at w32 octets
  count ← octet_at conn.1
  if (count.0 == 0) || nat_lt most_frames count.0 then Err Bad else do
    frames ← frames_at count.0 count.1
    Ok (Message conn.0 frames.0, frames.1)

abbrev pub kind_at : ℕ → List ℕ → Read TapeKind
kind_at kind octets =
    if kind == 1 then up_at octets
    else if kind == 2 then piece_at octets
    else if kind == 3 then down_at octets
    else if kind == 4 then Ok (Beat, octets)
    else if kind == 5 then Ok (Time, octets)
    else if kind == 6 then message_at octets
    else Err Bad

-- a record: its kind, its moment, its word, and what its kind has
unfoldable pub record_at : List ℕ → Read TapeRecord
record_at octets = do
  kind ← octet_at octets
  moment ← number_at w64 kind.1
  if nat_lt last_moment moment.0 then Err Bad else do
    word ← number_at w64 moment.1
    told ← kind_at kind.0 word.1
    Ok (record { moment = moment.0; word = word.0; kind = told.0 }, told.1)
