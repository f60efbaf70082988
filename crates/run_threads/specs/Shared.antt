-- What the threads of a run share.
use Rattle.std.specs.Arc.{arc_value}
use Rattle.std.specs.declared.sync.Arc.{Arc}
use Rattle.disk_model.specs.declared.disk.Disk.{Ghosts as OfDisk}
use Rattle.history_lock.specs.Names.{LockId, lock_id}
use Rattle.run_threads.specs.declared.shared.RunShared.{RunShared}

-- the lock of the book that threads share
abbrev pub lock_of : {D G R Z : Type 0} {disk : OfDisk D} → Arc (RunShared D G R disk) Z → LockId
lock_of shared = lock_id (arc_value shared).book.lock
