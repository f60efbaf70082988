use Rattle.std.proofs.Common.{sym, ◌∙◌, arith}
use Rattle.db_query.proofs.Shorts.{too_long, short_enough}
use Rattle.db_query.proofs.reading.short_list.Goals as goal

pub returns-then-values-gt-MOST_CHOICES : goal.returns-then-values-gt-MOST_CHOICES
returns-then-values-gt-MOST_CHOICES c = sym (too_long c.args.values.now (omega arith))

pub returns : goal.returns
returns c = c.in_ok-scalars.ensures ∙ sym (short_enough c.args.values.now (omega arith))
