use Rattle.zmtp_peer.specs.PeerStream.{begins}
use Rattle.zmtp_peer.proofs.Sound.{begins_sound, messages_short, identity_short}
use Rattle.zmtp_peer.proofs.laws.within_limits.Goals as goal

pub returns-clause-messages : goal.returns-clause-messages
returns-clause-messages c = λ octets. messages_short begins octets begins_sound

pub returns-clause-identity : goal.returns-clause-identity
returns-clause-identity c = λ octets. identity_short begins octets begins_sound
