use Rattle.controller_threads.proofs.caller.Caller.serve.Goals as goal

pub returns-in-Err-clause-cause : goal.returns-in-Err-clause-cause
returns-in-Err-clause-cause g c = c.in-Err.ensures.err _ _ _
