use Rattle.client_core.proofs.Outcomes.{noted_here}
use Rattle.client_core.proofs.laws.noted_where_watched.Goals as goal

pub returns : goal.returns
returns c = noted_here
