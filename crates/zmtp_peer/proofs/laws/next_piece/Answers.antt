use Rattle.zmtp_peer.proofs.Pieces.{piece_more}
use Rattle.zmtp_peer.proofs.laws.next_piece.Goals as goal

pub returns : goal.returns
returns c = piece_more
