use Rattle.std.proofs.Common.{rules, ℕ, List, subst}
use Rattle.cluster_store.specs.Openings.{WhyNot}
use Rattle.quick_commands.proofs.Begins.{begins, worked, stopped}
use Rattle.quick_commands.proofs.Empty.{never_damaged}
use Rattle.quick_commands.proofs.work.work_over.Goals as goal

pub returns-in-Ok-begin-clause-worked : goal.returns-in-Ok-begin-clause-worked
returns-in-Ok-begin-clause-worked g c =
    worked g.D.Disk.tells c.args.seed c.args.tasks (g.D.Disk.image c.sum_up.result.1) _ c.sum_up.result.0
    (begins g.D.Disk.tells (g.D.Disk.content c.args.disk) c.args.seed c.args.tasks c.work_config.result c.in-Ok-begin.drive.stand.history _ c.requires.empty c.work_config.ensures c.in-Ok-begin.ensures.history (search rules))
    c.sum_up.ensures.worked

pub returns-in-Ok-begin-clause-full : goal.returns-in-Ok-begin-clause-full
returns-in-Ok-begin-clause-full g c = λ size is.
    stopped g.D.Disk.tells c.args.seed c.args.tasks _ _ size
    (begins g.D.Disk.tells (g.D.Disk.content c.args.disk) c.args.seed c.args.tasks c.work_config.result c.in-Ok-begin.drive.stand.history _ c.requires.empty c.work_config.ensures c.in-Ok-begin.ensures.history (search rules))
    (search rules) (c.sum_up.ensures.full size is)

pub returns-in-Err-clause-only : goal.returns-in-Err-clause-only
returns-in-Err-clause-only g c = λ tells place is.
    let e = c.error_of.ensures in
    never_damaged c.in-Err.field-0.why place (subst (λ (o : List ℕ). WhyNot o c.in-Err.field-0.why) (c.requires.empty tells) (c.in-Err.ensures.refused tells)) cc
