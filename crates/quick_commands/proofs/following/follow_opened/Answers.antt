use Rattle.std.proofs.Common.{sym, subst}
use Rattle.disk_model.specs.Crashes.{LeavesOnly}
use Rattle.quick_commands.specs.Following.{IsLonger}
use Rattle.quick_commands.proofs.Followed.{followed_moments}
use Rattle.quick_commands.proofs.following.follow_opened.Goals as goal

pub returns-clause-any_moment : goal.returns-clause-any_moment
returns-clause-any_moment g c = λ tells.
    subst (λ (d : g.row.D.Denot). LeavesOnly g.D.Disk.moment g.D.Disk.image_since c.args.standby.disk d (IsLonger c.args.standby.list c.args.primary.now)) (sym c.close.ensures)
    (followed_moments g.D.Disk.content g.D.Disk.image g.D.Disk.moment g.D.Disk.image_since g.met.D.Disk.only_now c.args.standby c.follow.new.self c.args.primary.now (c.requires.durable tells) (c.requires.stands tells) c.follow.result c.follow.ensures.followed
    c.follow.ensures.refused c.follow.ensures.unchanged (c.follow.ensures.any_moment tells c.requires.works))
