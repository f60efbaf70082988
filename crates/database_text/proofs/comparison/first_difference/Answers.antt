use Rattle.std.proofs.Common.{sym, ◌∙◌, arith, min, length, ◌≤◌}
use Rattle.database_text.proofs.Differences.{first_ended}
use Rattle.database_text.proofs.comparison.first_difference.Goals as goal

pub returns : goal.returns
returns c =
    let end : min (length c.args.xs.now) (length c.args.ys.now) ≤ c.loop-place.place = omega arith in
    sym (first_ended c.loop-place.place c.loop-place.place c.args.xs.now c.args.ys.now end) ∙ c.loop-place.invariant
