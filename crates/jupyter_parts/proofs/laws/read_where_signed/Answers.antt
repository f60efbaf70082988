use Rattle.jupyter_parts.proofs.Forms.{read_if_signed, signed_if_read}
use Rattle.jupyter_parts.proofs.laws.read_where_signed.Goals as goal

pub returns : goal.returns
returns c key frames message = (read_if_signed key frames message, signed_if_read key frames message)
