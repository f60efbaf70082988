use Rattle.record_codec.proofs.Again.{entry_again}
use Rattle.record_codec.proofs.laws.read_again.Goals as goal

pub returns : goal.returns
returns c = entry_again
