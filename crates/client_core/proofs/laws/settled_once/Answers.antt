use Rattle.client_core.proofs.Once.{settled_once}
use Rattle.client_core.proofs.laws.settled_once.Goals as goal

pub returns : goal.returns
returns c = settled_once
