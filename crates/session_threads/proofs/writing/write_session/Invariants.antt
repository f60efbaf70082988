use Rattle.std.proofs.Common.{◌≡◌, ◌≤◌}
use Rattle.history_lock.specs.Names.{known, room_of, lock_id, IsIdle}
use Rattle.session_threads.proofs.Sending.{Sent}
use Rattle.session_threads.proofs.writing.write_session.Given as goal

-- all that was taken was written
abbrev pub invariant-loop : goal.invariant-loop
invariant-loop g l = record {
  idle : IsIdle (lock_id l.context.desk.now.lock) l.pass;
  room : room_of l.pass ≡ room_of l.fn.pass;
  sent : Sent l.context.key.now l.conn (known l.fn.pass) (known l.pass) (g.K.Sink.written l.fn.writer) (g.K.Sink.written l.writer);
  writes : g.K.Sink.faults l.fn.writer ≤ g.K.Sink.faults l.writer;
}
