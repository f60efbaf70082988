use Rattle.std.specs.Arc.{arc_value}
use Rattle.history_lock.specs.Names.{lock_id, known}
use Rattle.controller_threads.proofs.serving.serve.Given as goal

-- the lock of the desk at hand, and what its pass has seen
abbrev pub ghosts-serve_named : goal.ghosts-serve_named
ghosts-serve_named g a = record { lock = lock_id (arc_value a.serving.desk).lock; start = (known a.pass).seen }
