use Rattle.controller_threads.proofs.caller.Caller.stopped.Goals as goal

pub returns-in-Halted : goal.returns-in-Halted
returns-in-Halted g c = λ before now cause. c.halted.ensures before now
