use Rattle.std.proofs.Common.{length, refl}
use Rattle.std.proofs.Math.Facts.{to_z-of_z}
use Rattle.quick_commands.proofs.Counts.{summed}
use Rattle.quick_commands.proofs.summing.summed_up.Goals as goal

pub returns : goal.returns
returns c =
    summed c.args.tasks c.from.result c.count_of.result c.count_of-2.result c.count_of-3.result (length c.args.entries.now) c.args.entries.now c.args.sum _ c.from.ensures c.count_of.ensures c.count_of-2.ensures c.count_of-3.ensures refl
    (to_z-of_z c.ranges.sum)
