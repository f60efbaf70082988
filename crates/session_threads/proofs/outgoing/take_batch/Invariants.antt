use Rattle.std.proofs.Common.{◌≡◌, ◌<◌}
use Rattle.history_lock.specs.Names.{known, room_of, lock_id, IsIdle}
use Rattle.controller_desk.specs.Contents.{Rests}
use Rattle.session_threads.specs.Writing.{Took}
use Rattle.session_threads.proofs.outgoing.take_batch.Given as goal

abbrev pub invariant-loop-outs : goal.invariant-loop-outs
invariant-loop-outs g l = record {
  idle : IsIdle (lock_id l.context.desk.now.lock) l.pass;
  room : room_of l.pass ≡ room_of l.fn.pass;
  took : Took l.context.key.now l.conn l.octets.items (known l.fn.pass) (known l.pass);
  rested : 0 < l.outs → Rests (known l.pass).seen;
}
