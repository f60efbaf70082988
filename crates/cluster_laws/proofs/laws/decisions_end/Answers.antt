use Rattle.cluster_defs.specs.Histories.{facts}
use Rattle.cluster_defs.proofs.Falls.{due_falls}
use Rattle.cluster_defs.proofs.Decide.{decide_all_more, decide_all_none}
use Rattle.cluster_laws.proofs.laws.decisions_end.Goals as goal

pub returns : goal.returns
returns c = record { falls = λ h d is. due_falls (facts h) d is; more = decide_all_more; none = decide_all_none }
