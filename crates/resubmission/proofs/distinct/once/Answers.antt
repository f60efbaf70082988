use Rattle.std.proofs.Common.{◌∙◌}
use Rattle.resubmission.proofs.Onces.{same_once}
use Rattle.resubmission.proofs.distinct.once.Goals as goal

pub returns : goal.returns
returns c = c.in_ok-once.ensures ∙ same_once c.args.ids.now
