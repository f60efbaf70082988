use Rattle.std.proofs.Common.{◌≡◌, ◌≤◌, None}
use Rattle.engine_core.specs.State.{standing}
use Rattle.zmtp_peer.specs.PeerStream.{fault_of}
use Rattle.link_commands.proofs.WorkingGoing.{Going}
use Rattle.link_commands.proofs.working.serve_engine.Given as goal

-- all that came was answered, and the stream has no fault yet
abbrev pub invariant-loop : goal.invariant-loop
invariant-loop g l = record {
  going : Going l.key (standing l.fn.engine) (g.S.Source.left l.fn.reader) (g.S.Source.left l.reader) (g.K.Sink.written l.fn.writer) (g.K.Sink.written l.writer) (standing l.engine) l.peer.talk;
  faultless : fault_of l.peer.talk.phase ≡ None;
  reads : g.S.Source.faults l.fn.reader ≤ g.S.Source.faults l.reader;
  writes : g.K.Sink.faults l.fn.writer ≤ g.K.Sink.faults l.writer;
}
