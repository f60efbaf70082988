use Rattle.controller_threads.proofs.caller.Caller.serve_links.Goals as goal

pub returns-in-Err-clause-cause : goal.returns-in-Err-clause-cause
returns-in-Err-clause-cause g c = c.in-Err.ensures _ _
