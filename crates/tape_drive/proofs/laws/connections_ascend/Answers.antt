use Rattle.tape_drive.proofs.Ordered.{ascends}
use Rattle.tape_drive.proofs.laws.connections_ascend.Goals as goal

pub returns : goal.returns
returns c = ascends
