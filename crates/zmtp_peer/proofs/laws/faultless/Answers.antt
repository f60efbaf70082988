use Rattle.zmtp_peer.proofs.Faultless.{faultless}
use Rattle.zmtp_peer.proofs.laws.faultless.Goals as goal

pub returns : goal.returns
returns c = faultless
