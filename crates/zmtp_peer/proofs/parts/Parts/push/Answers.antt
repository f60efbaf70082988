use Rattle.std.proofs.Common.{◌∙◌}
use Rattle.zmtp_peer.proofs.Messages.{counted}
use Rattle.zmtp_peer.proofs.parts.Parts.push.Goals as goal

pub invariant_of-self-2 : goal.invariant_of-self-2
invariant_of-self-2 c = rw c.in_ok-push.ensures.ok (c.saturating_add-self-inside.ensures ∙ counted c.self.inside.frames c.args.body.now c.self.inside.octets 18446744073709551615 c.self.invariant)
