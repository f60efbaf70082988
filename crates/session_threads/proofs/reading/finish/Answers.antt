use Rattle.session_threads.proofs.Finishing.{keeps_itself, down_none}
use Rattle.session_threads.proofs.reading.finish.Goals as goal

pub returns-in-Closed-clause-down : goal.returns-in-Closed-clause-down
returns-in-Closed-clause-down g c = down_none _ _

pub returns-in-Closed-clause-keeps : goal.returns-in-Closed-clause-keeps
returns-in-Closed-clause-keeps g c = keeps_itself c.args.end
