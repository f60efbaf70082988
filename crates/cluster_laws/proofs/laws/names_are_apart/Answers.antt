use Rattle.cluster_laws.proofs.Apart.{known_once, known_stays, live_ascend}
use Rattle.cluster_laws.proofs.laws.names_are_apart.Goals as goal

pub returns : goal.returns
returns c = record { known = known_once; stays = known_stays; engines = live_ascend }
