use Rattle.zmtp_frames.proofs.Pieces.{after_append, frames_append}
use Rattle.zmtp_frames.proofs.laws.any_pieces.Goals as goal

pub returns : goal.returns
returns c = λ r xs ys. (after_append r xs ys, frames_append r xs ys)
