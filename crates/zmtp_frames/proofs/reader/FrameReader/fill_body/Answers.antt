use Rattle.std.proofs.Common.{◌≤◌, ◌<◌, ◌-◌, ◌^◌, length, arith}
use Rattle.zmtp_frames.proofs.Filled.{filled_by, stage_of}
use Rattle.zmtp_frames.proofs.reader.FrameReader.fill_body.Goals as goal

pub returns-clause-after : goal.returns-clause-after
returns-clause-after c =
    let r = c.args.self.now in
    let n = c.min-taken.result in
    let some : n ≤ length c.args.piece.now = omega (arith, c.min-taken.ensures) in
    let less : n < c.args.left = omega (arith, c.min-taken.ensures, c.requires.sound) in
    let fits : c.self.inside.place ≤ 2 ^ 64 - 1 = omega (arith, c.self.ranges) in
    filled_by r c.args.piece.now n c.self.inside.place c.args.head c.args.size c.args.left c.self.inside.body.items c.extend_from_slice.new.self.items c.saturating_add-self-inside.result
    (stage_of r c.self.inside.place c.self.inside.stage c.self.inside.body.items c.args.head c.args.size c.args.left c.self.view_is c.requires.stage)
    fits some less c.saturating_add-self-inside.ensures c.in_ok-extend_from_slice.ensures.items
