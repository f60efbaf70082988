use Rattle.cluster_laws.proofs.Clock.{beats_are_counted, now_is_greatest}
use Rattle.cluster_laws.proofs.Marks.{mark_is_greatest}
use Rattle.cluster_laws.proofs.Spent.{spent_is_counted, excluded_declined}
use Rattle.cluster_laws.proofs.facts.facts_are_counted.Goals as goal

pub returns : goal.returns
returns c = record { beats = beats_are_counted; now = now_is_greatest; mark = mark_is_greatest; spent = spent_is_counted; excluded = excluded_declined }
