use Rattle.cluster_laws.proofs.Life.{life_legal, life_belongs}
use Rattle.cluster_laws.proofs.Outcome.{answered_alike}
use Rattle.cluster_laws.proofs.laws.sent_belongs.Goals as goal

pub returns : goal.returns
returns c = record { legal = life_legal; sent = life_belongs; alike = answered_alike }
