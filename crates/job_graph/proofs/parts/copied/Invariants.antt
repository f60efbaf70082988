use Rattle.std.proofs.Common.{◌≡◌, take}
use Rattle.std.specs.Prelude.{map}
use Rattle.job_graph.proofs.parts.copied.Given as goal

abbrev pub invariant-loop-piece : goal.invariant-loop-piece
invariant-loop-piece l = l.texts ≡ map (λ piece. piece.now) (take l.piece-index l.pieces)
