use Rattle.std.proofs.Common.{◌≡◌, ◌≤◌, None}
use Rattle.link_commands.proofs.AskingGoing.{Going}
use Rattle.link_commands.proofs.asking.ask_under.Given as goal
use Rattle.zmtp_peer.specs.PeerStream.{fault_of}

-- no answer came, all that is due was written, and the stream has no fault yet
abbrev pub invariant-loop : goal.invariant-loop
invariant-loop g l = record {
  going : Going l.key l.request (g.S.Source.left l.fn.reader) (g.S.Source.left l.reader) (g.K.Sink.written l.fn.writer) (g.K.Sink.written l.writer) l.peer.talk;
  faultless : fault_of l.peer.talk.phase ≡ None;
  reads : g.S.Source.faults l.fn.reader ≤ g.S.Source.faults l.reader;
  writes : g.K.Sink.faults l.fn.writer ≤ g.K.Sink.faults l.writer;
}
