use Rattle.std.proofs.Common.{sym, ◌∙◌, arith}
use Rattle.jupyter_header.proofs.Short.{too_long, short_enough}
use Rattle.jupyter_header.proofs.submit.short_list.Goals as goal

pub returns-then-values-gt-MOST_IDS : goal.returns-then-values-gt-MOST_IDS
returns-then-values-gt-MOST_IDS c = sym (too_long c.args.values.now (omega arith))

pub returns : goal.returns
returns c = c.in_ok-ids.ensures ∙ sym (short_enough c.args.values.now (omega arith))
