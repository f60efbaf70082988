use Rattle.record_codec.proofs.Again.{one_spelling}
use Rattle.record_codec.proofs.laws.one_spelling.Goals as goal

pub returns : goal.returns
returns c = one_spelling
