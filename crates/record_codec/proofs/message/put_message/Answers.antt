use Rattle.std.proofs.Common.{arith}
use Rattle.edges.proofs.Joins.{joins}
use Rattle.edges.proofs.Keeping.{keeps_front, keeps_on_err}
use Rattle.record_codec.proofs.message.put_message.Goals as goal

pub returns-clause-kept : goal.returns-clause-kept
returns-clause-kept c = keeps_on_err _ _ c.push.new.self.items _ (grind (arith, joins, keeps_front)) c.put_buffers.ensures.kept
