use Rattle.zmtp_frames.proofs.Spelled.{written_frame}
use Rattle.zmtp_frames.proofs.laws.written_stands.Goals as goal

pub returns : goal.returns
returns c = written_frame
