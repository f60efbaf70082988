use Rattle.std.proofs.Common.{◌≡◌, ◌++◌, ◌-◌, ◌≤◌, length, drop, All}
use Rattle.tape.specs.Spelling.{Fits}
use Rattle.tape.specs.Tape.{tape_after, records}
use Rattle.tape.proofs.reader.TapeReader.feed.Given as goal

-- what is left of the piece gives what the whole piece gives
abbrev pub invariant-loop-at : goal.invariant-loop-at
invariant-loop-at l = record {
  within : l.at ≤ length l.piece;
  after : tape_after l.self (drop l.at l.piece) ≡ tape_after l.fn.self l.piece;
  records : l.list ++ records l.self (drop l.at l.piece) ≡ records l.fn.self l.piece;
  fits : All Fits l.list;
}

abbrev pub decreases-loop-at : goal.decreases-loop-at
decreases-loop-at l = length l.piece - l.at
