-- The rules that the records of a tape keep.
use Rattle.std.specs.Prelude.{ℕ, ◌+◌, ◌==◌, ◌&&◌, ◌||◌, Bool, true, List, length, nat_lt, nat_le, sum_by, Option, Some, None, if◌then◌else◌}
use Rattle.std.specs.Option.{is_some}
use Rattle.std.specs.List.{list_all}
use Rattle.tape.specs.declared.record.TapeRecord.{TapeRecord}
use Rattle.tape.specs.declared.record.TapeKind.{TapeKind}
use Rattle.tape.specs.declared.record.TapeKind.TheVariants.{Up, Piece, Down, Beat, Time, Message}
use Rattle.cluster_types.specs.Limits.{last_moment, body_limit, message_limit, tape_limit}
use Rattle.tape.specs.Spelling.{spelled}
use Rattle.tape_drive.specs.Links.{Link, link_on, is_bare, is_zmtp}

-- a connection comes up with a number above those of all earlier ones, while fewer than 1,024 are up
abbrev pub may_come_up : List Link → ℕ → ℕ → Bool
may_come_up links least conn = nat_le least conn && nat_lt (length links) 1024

-- a connection that speaks ZMTP gives its identity in its stream alone
abbrev pub may_be_called : Bool → List ℕ → Bool
may_be_called bare identity = bare || length identity == 0

-- a piece has 1 to 1,048,576 octets
abbrev pub is_piece : List ℕ → Bool
is_piece octets = nat_lt 0 (length octets) && nat_le (length octets) 1048576

-- a message has bodies of at most 16,777,216 octets, and of at most 33,554,432 together
abbrev pub is_in_limits : List (List ℕ) → Bool
is_in_limits frames = list_all (λ body. nat_le (length body) body_limit) frames && nat_le (sum_by length frames) message_limit

-- `least` is the least number that a connection may still have
abbrev pub kind_follows : List Link → ℕ → TapeKind → Bool
kind_follows links least (Up conn channel bare identity) = may_come_up links least conn && may_be_called bare identity
kind_follows links least (Piece conn octets) = is_zmtp (link_on links conn) && is_piece octets
kind_follows links least (Message conn frames) = is_bare (link_on links conn) && is_in_limits frames
kind_follows links least (Down conn) = is_some (link_on links conn)
kind_follows links least Beat = true
kind_follows links least Time = true

-- whether a record may stand behind those before it
abbrev pub follows : List Link → ℕ → TapeRecord → Bool
follows links least r = nat_le r.moment last_moment && kind_follows links least r.kind

abbrev pub least_after : ℕ → TapeKind → ℕ
least_after least (Up conn channel bare identity) = conn + 1
least_after least _ = least

-- the place of the fault of a record at a place: its own where it breaks a rule, and 4,294,967,296 where it ends past that
abbrev pub stop_of : List Link → ℕ → ℕ → TapeRecord → Option ℕ
stop_of links least at r =
    if follows links least r then if nat_le (at + length (spelled r)) tape_limit then None else Some tape_limit
    else Some at
