use Rattle.std.proofs.Common.{◌≡◌, ◌≤◌, [], None}
use Rattle.history_lock.specs.Names.{known, room_of, lock_id, IsIdle}
use Rattle.zmtp_peer.specs.PeerStream.{fault_of}
use Rattle.session_threads.specs.Reading.{Heard}
use Rattle.session_threads.proofs.reading.read_on.Given as goal

-- all that came was entered, and the stream has no fault yet
abbrev pub invariant-loop : goal.invariant-loop
invariant-loop g l = record {
  idle : IsIdle (lock_id l.context.desk.now.lock) l.pass;
  room : room_of l.pass ≡ room_of l.fn.pass;
  heard : Heard l.context.key.now l.connection.number [] l.fn.peer.talk l.peer.talk (g.S.Source.left l.fn.reader) (g.S.Source.left l.reader) (known l.fn.pass) (known l.pass);
  faultless : fault_of l.peer.talk.phase ≡ None;
  reads : g.S.Source.faults l.fn.reader ≤ g.S.Source.faults l.reader;
}
