use Rattle.std.proofs.Common.{length, arith}
use Rattle.array_maps.proofs.Blocked.{block_within}
use Rattle.array_maps.proofs.codes.scatter_code.Goals as goal

pub settings-requires : goal.settings-requires
settings-requires c =
    let start = c.block-start.ensures.start in
    let count = c.block-start.ensures.length in
    let within = block_within (length c.args.values.now) c.args.parts c.args.part c.requires in
    omega (arith, start, count, within)
