use Rattle.std.proofs.Common.{arith}
use Rattle.arith_syntax.proofs.Scans.{Taken, taken}
use Rattle.arith_syntax.proofs.parser.read_one.Goals as goal

taken_here : (c : goal.In_ok-take_at) → Taken c.args.text.now c.args.at c.in_ok-token.count c.args.reader.now c.take_at.new.reader
taken_here c = taken c.args.text.now c.args.at c.in_ok-token.token c.in_ok-token.count c.args.reader.now c.take_at.new.reader c.requires c.if-is_blank.ensures c.in_ok-token.ensures c.in_ok-take_at.ensures

pub overflow_add-result-2 : goal.overflow_add-result-2
overflow_add-result-2 c = let t = taken_here c in omega (arith, t.within)

pub returns-clause-next : goal.returns-clause-next
returns-clause-next c = let t = taken_here c in (omega (arith, t.forward), t.within)

pub returns-clause-ok : goal.returns-clause-ok
returns-clause-ok c = (taken_here c).same
