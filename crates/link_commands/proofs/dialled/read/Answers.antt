use Rattle.std.proofs.Common.{sym, ◌∙◌, refl, inl, inr}
use Rattle.link_commands.proofs.dialled.read.Goals as goal

pub returns-in-Bytes-clause-within : goal.returns-in-Bytes-clause-within
returns-in-Bytes-clause-within g c = c.in-Bytes.ensures.reads.1

pub returns-in-Bytes-clause-ok : goal.returns-in-Bytes-clause-ok
returns-in-Bytes-clause-ok g c = c.in-Bytes.ensures.reads.2

pub returns-in-End-clause-ended : goal.returns-in-End-clause-ended
returns-in-End-clause-ended g c = λ _ octets is. c.in-End.ensures.reads.0 octets (sym c.in-End.ensures.reads.1 ∙ is)

pub returns-in-End-clause-still : goal.returns-in-End-clause-still
returns-in-End-clause-still g c = c.in-End.ensures.reads.1

pub returns-in-End-clause-ends : goal.returns-in-End-clause-ends
returns-in-End-clause-ends g c = inl refl

pub returns-in-Failed-clause-still : goal.returns-in-Failed-clause-still
returns-in-Failed-clause-still g c = c.in-Failed.ensures.reads

pub returns-in-Failed-clause-ends : goal.returns-in-Failed-clause-ends
returns-in-Failed-clause-ends g c = inr refl
