use Rattle.tape_drive.proofs.Lawful.{unsigned}
use Rattle.tape_drive.proofs.laws.unsigned_is_no_input.Goals as goal

pub returns : goal.returns
returns c = unsigned
