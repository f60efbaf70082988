-- How many octets records are spelled in.
use Rattle.std.specs.Prelude.{ℕ, ◌+◌, List, length, sum_by}
use Rattle.tape.specs.declared.record.TapeKind.{TapeKind}
use Rattle.tape.specs.declared.record.TapeKind.TheVariants.{Up, Piece, Down, Beat, Time, Message}

abbrev pub frame_size : List ℕ → ℕ
frame_size body = length body + 4

abbrev pub frames_size : List (List ℕ) → ℕ
frames_size frames = sum_by frame_size frames

-- behind the heading of 17 octets
abbrev pub kind_size : TapeKind → ℕ
kind_size (Up conn channel bare identity) = length identity + 7
kind_size (Piece conn octets) = length octets + 8
kind_size (Down conn) = 4
kind_size Beat = 0
kind_size Time = 0
kind_size (Message conn frames) = frames_size frames + 5
