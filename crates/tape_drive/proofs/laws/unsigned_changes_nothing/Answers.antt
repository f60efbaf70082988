use Rattle.tape_drive.proofs.Lawful.{unsigned_record}
use Rattle.tape_drive.proofs.laws.unsigned_changes_nothing.Goals as goal

pub returns : goal.returns
returns c = unsigned_record
