use Rattle.cluster_laws.proofs.Held.{hands_send, settled_answered}
use Rattle.cluster_laws.proofs.laws.nothing_is_missing.Goals as goal

pub returns : goal.returns
returns c = record { sends = hands_send; answered = settled_answered }
