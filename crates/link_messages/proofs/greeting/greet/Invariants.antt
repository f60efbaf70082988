use Rattle.std.proofs.Common.{◌≡◌, ◌≤◌, None}
use Rattle.zmtp_peer.specs.PeerStream.{fault_of}
use Rattle.link_messages.proofs.Shaking.{Shaking}
use Rattle.link_messages.proofs.greeting.greet.Given as goal

-- all that came was answered; it gave no identity, and has no fault
abbrev pub invariant-loop : goal.invariant-loop
invariant-loop g l = record {
  shaking : Shaking (g.S.Source.left l.fn.reader) (g.S.Source.left l.reader) (g.K.Sink.written l.fn.writer) (g.K.Sink.written l.writer) l.peer.talk;
  faultless : fault_of l.peer.talk.phase ≡ None;
  reads : g.S.Source.faults l.fn.reader ≤ g.S.Source.faults l.reader;
  writes : g.K.Sink.faults l.fn.writer ≤ g.K.Sink.faults l.writer;
}
