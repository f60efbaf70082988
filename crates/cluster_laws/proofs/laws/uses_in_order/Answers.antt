use Rattle.cluster_laws.proofs.ByUse.{by_use_ascends, live_used}
use Rattle.cluster_laws.proofs.Word.{drawn_word, settled_moment}
use Rattle.cluster_laws.proofs.laws.uses_in_order.Goals as goal

pub returns : goal.returns
returns c = record { ascends = by_use_ascends; live = live_used; word = drawn_word; moment = settled_moment }
