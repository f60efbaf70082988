use Rattle.database_text.proofs.Found.{stands}
use Rattle.database_text.proofs.laws.stands.Goals as goal

pub returns : goal.returns
returns c = stands
