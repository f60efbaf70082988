use Rattle.std.proofs.Common.{◌≡◌, ◌-◌}
use Rattle.tape.specs.Reading.{frames_at}
use Rattle.tape.proofs.Loops.{with_front}
use Rattle.tape.proofs.reading.frames.Given as goal

-- the frames so far and what is left give what all octets give
abbrev pub invariant-loop-turn : goal.invariant-loop-turn
invariant-loop-turn l = with_front l.frames (frames_at (l.count - l._turn) l.rest) ≡ frames_at l.count l.octets
