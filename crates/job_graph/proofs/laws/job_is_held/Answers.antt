use Rattle.job_graph.proofs.Held.{job_held}
use Rattle.job_graph.proofs.laws.job_is_held.Goals as goal

pub returns : goal.returns
returns c = job_held
