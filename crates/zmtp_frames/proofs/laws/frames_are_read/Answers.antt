use Rattle.zmtp_frames.proofs.Whole.{are_read}
use Rattle.zmtp_frames.proofs.laws.frames_are_read.Goals as goal

pub returns : goal.returns
returns c = λ place octets list s. let g = are_read place octets list s in (g.given, g.state)
