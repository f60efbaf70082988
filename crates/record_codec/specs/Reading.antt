-- Reading the record at the front of octets, from left to right.
use Rattle.std.specs.Prelude.{ℕ, zero, suc, List, [], ◌∷◌, length, Ok, Err, nat_lt, ◌==◌, if◌then◌else◌}
use Rattle.std.specs.Str.{is_utf8}
use Rattle.std.specs.Int.{w32, w64}
use Rattle.cluster_types.specs.declared.config.Scheme.{Scheme}
use Rattle.cluster_types.specs.declared.config.Scheme.TheVariants as schemes
use Rattle.cluster_types.specs.declared.verdict.Verdict.{Verdict}
use Rattle.cluster_types.specs.declared.verdict.Verdict.TheVariants as verdicts
use Rattle.cluster_types.specs.declared.verdict.Cause.{Cause}
use Rattle.cluster_types.specs.declared.verdict.Cause.TheVariants as causes
use Rattle.cluster_types.specs.declared.message.Message.{Message}
use Rattle.cluster_types.specs.declared.entry.Input.TheVariants.{Open, Up, Down, In, Beat, Time}
use Rattle.cluster_types.specs.declared.entry.Entry.{Entry}
use Rattle.cluster_types.specs.declared.entry.Entry.TheVariants.{Input, Hand, Settle, Lose}
use Rattle.cluster_types.specs.Limits.{last_moment}
use Rattle.edges.specs.declared.stop.Stop.TheVariants.{Bad}
use Rattle.edges.specs.Reading.{Read, ◌>>=◌, octet_at, number_at, str8_at, blob_at, channel_at}

-- a moment up to the last one
unfoldable pub moment_at : List ℕ → Read ℕ
moment_at octets = do
  n ← number_at w64 octets
  if nat_lt last_moment n.0 then Err Bad else Ok (n.0, n.1)

-- 1 to 255 octets behind their length
unfoldable pub name_at : List ℕ → Read (List ℕ)
name_at octets = do
  text ← str8_at octets
  if length text.0 == 0 then Err Bad else Ok (text.0, text.1)

-- a name in UTF-8
unfoldable pub id_at : List ℕ → Read (List ℕ)
id_at octets = do
  name ← name_at octets
  if is_utf8 name.0 then Ok (name.0, name.1) else Err Bad

unfoldable pub scheme_at : List ℕ → Read Scheme
scheme_at octets = do
  code ← octet_at octets
  if code.0 == 0 then Ok (schemes.Lru, code.1)
      else if code.0 == 1 then Ok (schemes.LeastLoad, code.1)
      else if code.0 == 2 then Ok (schemes.PlainRandom, code.1)
      else if code.0 == 3 then Ok (schemes.TwoBin, code.1)
      else Err Bad

unfoldable pub verdict_at : List ℕ → Read Verdict
verdict_at octets = do
  code ← octet_at octets
  if code.0 == 1 then Ok (verdicts.Completed, code.1)
      else if code.0 == 2 then Ok (verdicts.Failed, code.1)
      else if code.0 == 3 then Ok (verdicts.Aborted, code.1)
      else Err Bad

unfoldable pub cause_at : List ℕ → Read Cause
cause_at octets = do
  code ← octet_at octets
  if code.0 == 0 then Ok (causes.Reply, code.1)
      else if code.0 == 1 then Ok (causes.EngineError, code.1)
      else if code.0 == 2 then Ok (causes.ImpossibleDependency, code.1)
      else if code.0 == 3 then Ok (causes.InvalidDependency, code.1)
      else if code.0 == 4 then Ok (causes.TaskTimeout, code.1)
      else if code.0 == 5 then Ok (causes.Abort, code.1)
      else Err Bad

-- so many blobs
unfoldable pub blobs_at : ℕ → List ℕ → Read (List (List ℕ))
blobs_at zero octets = Ok ([], octets)
blobs_at (suc n) octets = do
  first ← blob_at octets
  others ← blobs_at n first.1
  Ok (first.0 ∷ others.0, others.1)

-- at most 58 blobs behind their number
unfoldable pub buffers_at : List ℕ → Read (List (List ℕ))
buffers_at octets = do
  number ← octet_at octets
  if nat_lt 58 number.0 then Err Bad else blobs_at number.0 number.1

unfoldable pub message_at : List ℕ → Read Message
message_at octets = do
  target ← str8_at octets
  header ← blob_at target.1
  parent ← blob_at header.1
  metadata ← blob_at parent.1
  content ← blob_at metadata.1
  buffers ← buffers_at content.1
  Ok (record { target = target.0; header = header.0; parent = parent.0; metadata = metadata.0; content = content.0; buffers = buffers.0 }, buffers.1)

unfoldable pub open_at : List ℕ → Read Entry
open_at octets = do
  moment ← moment_at octets
  scheme ← scheme_at moment.1
  hwm ← number_at w32 scheme.1
  misses ← number_at w32 hwm.1
  Ok (Input (Open moment.0 scheme.0 hwm.0 misses.0), misses.1)

unfoldable pub up_at : List ℕ → Read Entry
up_at octets = do
  conn ← number_at w32 octets
  channel ← channel_at conn.1
  moment ← moment_at channel.1
  word ← number_at w64 moment.1
  identity ← name_at word.1
  Ok (Input (Up conn.0 channel.0 moment.0 word.0 identity.0), identity.1)

unfoldable pub down_at : List ℕ → Read Entry
down_at octets = do
  conn ← number_at w32 octets
  moment ← moment_at conn.1
  word ← number_at w64 moment.1
  Ok (Input (Down conn.0 moment.0 word.0), word.1)

unfoldable pub in_at : List ℕ → Read Entry
in_at octets = do
  conn ← number_at w32 octets
  moment ← moment_at conn.1
  word ← number_at w64 moment.1
  message ← message_at word.1
  Ok (Input (In conn.0 moment.0 word.0 message.0), message.1)

unfoldable pub beat_at : List ℕ → Read Entry
beat_at octets = do
  moment ← moment_at octets
  word ← number_at w64 moment.1
  Ok (Input (Beat moment.0 word.0), word.1)

unfoldable pub time_at : List ℕ → Read Entry
time_at octets = do
  moment ← moment_at octets
  word ← number_at w64 moment.1
  Ok (Input (Time moment.0 word.0), word.1)

unfoldable pub hand_at : List ℕ → Read Entry
hand_at octets = do
  id ← id_at octets
  engine ← number_at w32 id.1
  Ok (Hand id.0 engine.0, engine.1)

unfoldable pub settle_at : List ℕ → Read Entry
settle_at octets = do
  id ← id_at octets
  verdict ← verdict_at id.1
  cause ← cause_at verdict.1
  Ok (Settle id.0 verdict.0 cause.0, cause.1)

unfoldable pub lose_at : List ℕ → Read Entry
lose_at octets = do
  engine ← number_at w32 octets
  Ok (Lose engine.0, engine.1)

abbrev pub kind_at : ℕ → List ℕ → Read Entry
kind_at kind octets =
    if kind == 1 then open_at octets
    else if kind == 2 then up_at octets
    else if kind == 3 then down_at octets
    else if kind == 4 then in_at octets
    else if kind == 5 then beat_at octets
    else if kind == 6 then time_at octets
    else if kind == 7 then hand_at octets
    else if kind == 8 then settle_at octets
    else if kind == 9 then lose_at octets
    else Err Bad

-- the entry whose record stands at the front, and the octets after it
unfoldable pub entry_at : List ℕ → Read Entry
entry_at octets = do
  kind ← octet_at octets
  kind_at kind.0 kind.1
