use Rattle.engine_core.proofs.Ascending.{names_ascend}
use Rattle.engine_core.proofs.laws.names_ascend.Goals as goal

pub returns : goal.returns
returns c = names_ascend
