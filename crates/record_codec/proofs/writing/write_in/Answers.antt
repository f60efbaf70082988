use Rattle.std.proofs.Common.{arith}
use Rattle.edges.proofs.Joins.{joins}
use Rattle.edges.proofs.Keeping.{keeps_front, keeps_on_err}
use Rattle.record_codec.proofs.writing.write_in.Goals as goal

pub returns-clause-kept : goal.returns-clause-kept
returns-clause-kept c = keeps_on_err _ _ c.put_number64-2.new.into.items _ (grind (arith, joins, keeps_front)) c.put_message.ensures.kept
