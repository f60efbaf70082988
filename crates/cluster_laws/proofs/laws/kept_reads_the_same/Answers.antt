use Rattle.cluster_laws.proofs.Kept.{kept_legal, kept_own, kept_facts}
use Rattle.cluster_laws.proofs.Order.{kept_order}
use Rattle.cluster_laws.proofs.laws.kept_reads_the_same.Goals as goal

pub returns : goal.returns
returns c = record { legal = kept_legal; own = kept_own; same = kept_facts; order = kept_order }
