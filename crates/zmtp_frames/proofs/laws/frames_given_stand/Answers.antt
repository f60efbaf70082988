use Rattle.zmtp_frames.proofs.Given.{all_read}
use Rattle.zmtp_frames.proofs.laws.frames_given_stand.Goals as goal

pub returns : goal.returns
returns c = all_read
