use Rattle.zmtp_peer.proofs.Connected.{connected}
use Rattle.zmtp_peer.proofs.laws.in_traffic.Goals as goal

pub returns : goal.returns
returns c = connected
