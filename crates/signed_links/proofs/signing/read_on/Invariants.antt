use Rattle.std.proofs.Common.{◌≡◌, ◌≤◌, None}
use Rattle.signed_links.specs.Signing.{IsReadUnsigned}
use Rattle.signed_links.proofs.signing.read_on.Given as goal

-- no message that came is signed, and the stream has no fault
abbrev pub invariant-loop : goal.invariant-loop
invariant-loop g l = record {
  unsigned : IsReadUnsigned l.key l.fn.greeted.early l.fn.greeted.peer.talk l.peer.talk None (g.S.Source.left l.fn.reader) (g.S.Source.left l.reader);
  identity : l.identity ≡ l.fn.greeted.identity;
  reads : g.S.Source.faults l.fn.reader ≤ g.S.Source.faults l.reader;
}
