use Rattle.zmtp_frames.proofs.Properties.{read_stands}
use Rattle.zmtp_frames.proofs.laws.metadata_stands.Goals as goal

pub returns : goal.returns
returns c = read_stands
