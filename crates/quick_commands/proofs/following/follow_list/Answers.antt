use Rattle.std.proofs.Common.{◌≡◌, sym, subst, inl}
use Rattle.cluster_store.proofs.Images.{chained}
use Rattle.command_words.specs.declared.ending.Ending.{Ending}
use Rattle.task_journal.specs.Settled.{Unharmed}
use Rattle.quick_commands.specs.Written.{ending_of_refusal}
use Rattle.quick_commands.specs.Following.{IsLonger, MayHaveMore, ListEnds}
use Rattle.quick_commands.proofs.Followed.{may_have, opened_ends, refused_ends}
use Rattle.quick_commands.proofs.following.follow_list.Goals as goal

pub returns-in-Ok-clause-ended : goal.returns-in-Ok-clause-ended
returns-in-Ok-clause-ended g c =
    opened_ends g.D.Disk.tells (g.D.Disk.content c.args.disk) c.in-Ok.standby.list c.args.primary.now (g.D.Disk.image c.args.disk) (g.D.Disk.image c.follow_opened.result.1) c.follow_opened.result.0 c.in-Ok.ensures.list
    (λ tells x now. let leaves = c.follow_opened.ensures.any_moment tells in leaves.each x (g.met.D.Disk.counts_now c.follow_opened.result.1 (g.D.Disk.moment c.in-Ok.standby.disk) x leaves.later now)) c.follow_opened.ensures.ended

pub returns-in-Ok-clause-any_moment : goal.returns-in-Ok-clause-any_moment
returns-in-Ok-clause-any_moment g c = λ tells.
    chained g.D.Disk.moment g.D.Disk.image_since g.met.D.Disk.widens c.args.disk c.in-Ok.standby.disk c.follow_opened.result.1 (Unharmed (g.D.Disk.image c.args.disk) (g.D.Disk.content c.args.disk)) (IsLonger c.in-Ok.standby.list c.args.primary.now)
    (MayHaveMore (g.D.Disk.content c.args.disk) c.args.primary.now (g.D.Disk.image c.args.disk)) (c.in-Ok.ensures.any_moment tells) (c.follow_opened.ensures.any_moment tells) (λ x is. inl is)
    (λ x is. may_have (g.D.Disk.content c.args.disk) c.in-Ok.standby.list c.args.primary.now (g.D.Disk.image c.args.disk) x (c.in-Ok.ensures.list tells) is)

pub returns-in-Err-clause-ended : goal.returns-in-Err-clause-ended
returns-in-Err-clause-ended g c =
    let end : c.ending_of_refusal.result ≡ ending_of_refusal c.in-Err.field-0.why = cc in
    subst (λ (e : Ending). ListEnds g.D.Disk.tells (g.D.Disk.content c.args.disk) c.args.primary.now (g.D.Disk.image c.args.disk) (g.D.Disk.image c.in-Err.field-0.disk) e) (sym end)
    (refused_ends g.D.Disk.tells (g.D.Disk.content c.args.disk) c.args.primary.now (g.D.Disk.image c.args.disk) (g.D.Disk.image c.in-Err.field-0.disk) c.in-Err.field-0.why c.in-Err.ensures.refused c.in-Err.ensures.spared c.in-Err.ensures.untouched)
