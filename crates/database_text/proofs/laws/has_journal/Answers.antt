use Rattle.database_text.proofs.Found.{has_journal}
use Rattle.database_text.proofs.laws.has_journal.Goals as goal

pub returns : goal.returns
returns c = has_journal
