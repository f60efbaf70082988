use Rattle.std.proofs.Common.{sym}
use Rattle.jupyter_parts.proofs.Places.{rest_from, front_to, inner_from}
use Rattle.jupyter_parts.proofs.read.part.Goals as goal

pub returns-clause-first : goal.returns-clause-first
returns-clause-first c = rest_from c.args.frames.now c.args.place c.in-Some.frame.now (sym c.in-Some.ensures)

pub returns-clause-front : goal.returns-clause-front
returns-clause-front c = front_to c.args.frames.now c.args.place c.in-Some.frame.now (sym c.in-Some.ensures)

pub returns-clause-within : goal.returns-clause-within
returns-clause-within c = inner_from c.args.frames.now c.args.place c.in-Some.frame.now (sym c.in-Some.ensures)
