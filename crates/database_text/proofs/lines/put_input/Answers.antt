use Rattle.std.proofs.Common.{arith}
use Rattle.edges.proofs.Joins.{joins}
use Rattle.edges.proofs.Keeping.{keeps_front, keeps_on_err}
use Rattle.database_text.proofs.lines.put_input.Goals as goal

pub returns-in_ok-put_moment-in-In-clause-kept : goal.returns-in_ok-put_moment-in-In-clause-kept
returns-in_ok-put_moment-in-In-clause-kept c = keeps_on_err _ _ c.put_moment-in-In.new.into.items _ (grind (arith, joins, keeps_front)) c.put_message.ensures.kept
