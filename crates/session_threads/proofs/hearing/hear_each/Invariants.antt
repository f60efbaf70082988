use Rattle.std.proofs.Common.{◌≡◌, [], take}
use Rattle.history_lock.specs.Names.{known, room_of, lock_id, IsIdle}
use Rattle.session_threads.specs.Reading.{Entered}
use Rattle.session_threads.proofs.hearing.hear_each.Given as goal

abbrev pub invariant-loop-frames : goal.invariant-loop-frames
invariant-loop-frames g l = record {
  idle : IsIdle (lock_id l.context.desk.now.lock) l.pass;
  room : room_of l.pass ≡ room_of l.initial.pass;
  entered : Entered l.context.key.now l.connection.number (take l.frames-index l.messages) [] (known l.initial.pass) (known l.pass);
}
