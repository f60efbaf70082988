use Rattle.std.proofs.Common.{sym, arith, ◌-◌, ◌≤◌}
use Rattle.engine_registry.proofs.Least.{none_missing}
use Rattle.engine_registry.proofs.beats.first_missing.Goals as goal

pub returns-then-saturating_sub-from : goal.returns-then-saturating_sub-from
returns-then-saturating_sub-from c =
    let near : c.args.beats - c.args.least ≤ c.args.misses = omega (arith, c.if-saturating_sub-from.true, c.saturating_sub.ensures, c.from.ensures) in
    sym (none_missing c.args.live.now c.args.misses c.args.beats c.args.least c.requires near)
