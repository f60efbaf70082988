use Rattle.std.proofs.Common.{◌≡◌, ◌-◌, List, ℕ}
use Rattle.tape.specs.Reading.{frames_at}
use Rattle.tape.proofs.Loops.{with_front}
use Rattle.tape.proofs.reading.pass_frames.Given as goal

-- the frames that were passed over and what is left give what all octets give
abbrev pub invariant-loop-turn : goal.invariant-loop-turn
invariant-loop-turn l = (front : List (List ℕ)) × (with_front front (frames_at (l.count - l._turn) l.rest) ≡ frames_at l.count l.octets)
