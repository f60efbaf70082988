use Rattle.cluster_laws.proofs.Impossible.{impossible_for_good}
use Rattle.cluster_laws.proofs.laws.impossible_stays.Goals as goal

pub returns : goal.returns
returns c = impossible_for_good
