-- Messages (RFC 23, Framing): frames with MORE, then one without.
use Rattle.std.specs.Prelude.{ℕ, ◌+◌, List, [], ◌∷◌, ◌++◌, length, true, false}
use Rattle.zmtp_frames.specs.Written.{written}

-- the octets of one message
abbrev pub message_written : List (List ℕ) → List ℕ
message_written [] = []
message_written (body ∷ []) = written false body
message_written (body ∷ next ∷ bodies) = written true body ++ message_written (next ∷ bodies)

-- how many octets bodies have together
abbrev pub body_octets : List (List ℕ) → ℕ
body_octets [] = 0
body_octets (body ∷ bodies) = length body + body_octets bodies
