use Rattle.cluster_store.proofs.Images.{weakened}
use Rattle.quick_commands.specs.Following.{MayHaveMore, MayLeaveFollowed}
use Rattle.quick_commands.proofs.Followed.{list_to_end, may_leave}
use Rattle.quick_commands.proofs.following.follow.Goals as goal

pub returns-in-Ok-clause-ended : goal.returns-in-Ok-clause-ended
returns-in-Ok-clause-ended g c =
    list_to_end g.D.Disk.tells (g.D.Disk.content c.args.disk) (g.S.Source.left c.args.input.now) (g.S.Source.left c.read_primary.new.input) (g.D.Disk.image c.args.disk) (g.D.Disk.image c.follow_list.result.1) c.in-Ok.primary c.follow_list.result.0
    c.in-Ok.ensures.list c.in-Ok.ensures.end c.follow_list.ensures.ended

pub returns-in-Ok-clause-any_moment : goal.returns-in-Ok-clause-any_moment
returns-in-Ok-clause-any_moment g c = λ tells octets told.
    weakened g.D.Disk.moment g.D.Disk.image_since c.args.disk c.follow_list.result.1 (MayHaveMore (g.D.Disk.content c.args.disk) c.in-Ok.primary (g.D.Disk.image c.args.disk)) (MayLeaveFollowed (g.D.Disk.content c.args.disk) octets (g.D.Disk.image c.args.disk))
    (c.follow_list.ensures.any_moment tells) (may_leave (g.D.Disk.content c.args.disk) octets c.in-Ok.primary (g.D.Disk.image c.args.disk) (c.in-Ok.ensures.list octets told))
