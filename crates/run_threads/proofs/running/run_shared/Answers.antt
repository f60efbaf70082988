use Rattle.history_lock.specs.Names.{known}
use Rattle.run_threads.proofs.Gathering.{none_answered}
use Rattle.run_threads.proofs.running.run_shared.Goals as goal

pub returns-in-Err-start_workers-clause-cause : goal.returns-in-Err-start_workers-clause-cause
returns-in-Err-start_workers-clause-cause g c = c.in-Err-start_workers.ensures.cause (g.K.Sink.faults c.args.output.now) (g.K.Sink.faults c.args.output.now)

pub serve-requires-clause-answered : goal.serve-requires-clause-answered
serve-requires-clause-answered g c =
    none_answered (known c.submit.new.pass).seen.list c.args.submitted.now.awaited.gathered c.args.submitted.now.awaited.total c.requires.begun
