use Rattle.controller_threads.proofs.serving.serve_named.Goals as goal

pub returns-in-Ok-serve : goal.returns-in-Ok-serve
returns-in-Ok-serve g c = c.ended.ensures _ _

pub returns-in-Err : goal.returns-in-Err
returns-in-Err g c = c.stopped.ensures _ _ c.in-Err.ensures.cause
