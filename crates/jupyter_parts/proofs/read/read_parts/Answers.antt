use Rattle.std.proofs.Common.{◌≡◌, ℕ, List, Result, Ok, Err, IfOk, rules}
use Rattle.cluster_types.specs.declared.message.Message.{Message}
use Rattle.jupyter_parts.specs.declared.fault.PartsError.{PartsError}
use Rattle.jupyter_parts.specs.Signed.{read_parts, IsSigned}
use Rattle.jupyter_parts.proofs.Forms.{signed_if_read}
use Rattle.jupyter_parts.proofs.read.read_parts.Goals as goal

signed_where_read : (key : List ℕ) (frames : List (List ℕ)) (read : Result Message PartsError) → IfOk read (λ m. read_parts key frames ≡ Ok m) → IfOk read (λ m. IsSigned key frames m)
signed_where_read key frames (Ok m) is = signed_if_read key frames m is
signed_where_read key frames (Err e) is = is

pub returns-clause-signed : goal.returns-clause-signed
returns-clause-signed c =
    signed_where_read c.args.key.now c.args.frames.now c.message_from.result (search rules)
