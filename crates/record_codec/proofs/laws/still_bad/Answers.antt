use Rattle.record_codec.proofs.Extends.{entries}
use Rattle.record_codec.proofs.laws.still_bad.Goals as goal

pub returns : goal.returns
returns c = entries.bad
