use Rattle.std.proofs.Common.{◌≡◌, ◌++◌, drop, List, ℕ}
use Rattle.zmtp_frames.specs.Stream.{reading_after, frames, first_body}
use Rattle.zmtp_frames.proofs.reader.FrameReader.octets.Given as goal

-- what is left of the piece gives what the whole piece gives, and the body that began before is not lost
abbrev pub invariant-loop-x : goal.invariant-loop-x
invariant-loop-x l = record {
  after : reading_after l.self (drop l.x-index l.piece) ≡ reading_after l.fn.self l.piece;
  frames : l.whole.items ++ frames l.self (drop l.x-index l.piece) ≡ frames l.fn.self l.piece;
  kept : (rest : List ℕ) × (first_body l.whole.items l.self.body ≡ l.fn.self.body ++ rest);
}
