use Rattle.zmtp_frames.proofs.Properties.{read_again}
use Rattle.zmtp_frames.proofs.laws.metadata_is_read.Goals as goal

pub returns : goal.returns
returns c = read_again
