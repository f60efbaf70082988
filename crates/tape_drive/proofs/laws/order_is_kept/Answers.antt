use Rattle.tape_drive.proofs.Ordered.{kept_on}
use Rattle.tape_drive.proofs.laws.order_is_kept.Goals as goal

pub returns : goal.returns
returns c = kept_on
