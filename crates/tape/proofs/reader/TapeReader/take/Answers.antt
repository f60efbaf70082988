use Rattle.std.proofs.Common.{length, take, ap, ◌∙◌, sym}
use Rattle.tape.specs.Tape.{Tape}
use Rattle.tape.proofs.Chunk.{stays_all, stays_none}
use Rattle.tape.proofs.reader.TapeReader.take.Goals as goal

pub returns-then-self-clause-after : goal.returns-then-self-clause-after
returns-then-self-clause-after c = stays_all c.args.self.now (take (length c.args.piece.now) c.args.piece.now) (ap (λ (t : Tape). t.ended) (sym c.self.view_is) ∙ c.if-self.true)

pub returns-then-self-clause-records : goal.returns-then-self-clause-records
returns-then-self-clause-records c = stays_none c.args.self.now (take (length c.args.piece.now) c.args.piece.now) c.args.list.now (ap (λ (t : Tape). t.ended) (sym c.self.view_is) ∙ c.if-self.true)
