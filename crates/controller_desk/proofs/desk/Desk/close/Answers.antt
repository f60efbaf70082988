use Rattle.std.proofs.Common.{sym}
use Rattle.controller_desk.proofs.desk.Desk.close.Goals as goal

pub returns-in-Some-clause-log : goal.returns-in-Some-clause-log
returns-in-Some-clause-log g c = let t = c.in-Some.ensures.log in record {
  last = c.in-Some.locked;
  store_is = sym c.into_inner.ensures;
  log = t.0;
  newest = t.1;
  later = t.2;
  chain = t.3;
}
