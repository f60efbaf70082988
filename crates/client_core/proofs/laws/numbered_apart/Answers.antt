use Rattle.client_core.proofs.Numbers.{numbered_apart}
use Rattle.client_core.proofs.laws.numbered_apart.Goals as goal

pub returns : goal.returns
returns c = numbered_apart
