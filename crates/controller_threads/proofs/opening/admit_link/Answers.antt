use Rattle.std.proofs.Common.{◌∙◌, Err, ap, subst}
use Rattle.history_lock.specs.Names.{LockId, known, IsIdle}
use Rattle.controller_threads.proofs.Seeing.{extends_of, since_later}
use Rattle.controller_threads.proofs.Admitting.{admit_cause, all_idle, all_since, opens_later, refused_later, since_from}
use Rattle.controller_threads.proofs.opening.admit_link.Goals as goal

pub admit-admitted-requires-clause-kept : goal.admit-admitted-requires-clause-kept
admit-admitted-requires-clause-kept g c = all_idle _ g.N.Naming.lock g.N.Naming.start c.args.pool.now.kept.items c.context-context.ensures c.requires.kept

pub returns-in-Ok-clause-since : goal.returns-in-Ok-clause-since
returns-in-Ok-clause-since g c =
    since_later _ g.N.Naming.lock g.N.Naming.start c.args.pool.now.pass c.admit-admitted.new.pool.pass c.context-context.ensures c.requires.since c.admit-admitted.ensures.idle
    (opens_later g.T.Disk.Disk.faults (known c.args.pool.now.pass) (known c.admit-admitted.new.pool.pass) _ _ _ c.in-Ok.ensures.opened)

pub returns-in-Ok-clause-kept : goal.returns-in-Ok-clause-kept
returns-in-Ok-clause-kept g c =
    all_since _ g.N.Naming.lock g.N.Naming.start c.args.pool.now.kept.items (known c.args.pool.now.pass).seen c.admit-admitted.new.pool.kept.items c.context-context.ensures c.requires.kept c.requires.since.1 c.admit-admitted.ensures.kept c.admit-admitted.ensures.from

pub returns-in-Err-clause-since : goal.returns-in-Err-clause-since
returns-in-Err-clause-since g c =
    since_later _ g.N.Naming.lock g.N.Naming.start c.args.pool.now.pass c.admit-admitted.new.pool.pass c.context-context.ensures c.requires.since c.admit-admitted.ensures.idle
    (refused_later g.T.Disk.Disk.faults (known c.args.pool.now.pass) (known c.admit-admitted.new.pool.pass) c.args.channel c.args.identity.now c.in-Err.end (λ is. (c.admit-admitted.ensures.unchanged (c.in-Err.is ∙ ap Err is)).0) (λ e is. c.admit-admitted.ensures.act e (c.in-Err.is ∙ ap Err is)))

pub returns-in-Err-clause-kept : goal.returns-in-Err-clause-kept
returns-in-Err-clause-kept g c =
    all_since _ g.N.Naming.lock g.N.Naming.start c.args.pool.now.kept.items (known c.args.pool.now.pass).seen c.admit-admitted.new.pool.kept.items c.context-context.ensures c.requires.kept c.requires.since.1 c.admit-admitted.ensures.kept c.admit-admitted.ensures.from

pub returns-in-Err-clause-cause : goal.returns-in-Err-clause-cause
returns-in-Err-clause-cause g c =
    admit_cause g.T.Disk.Disk.faults g.N.Naming.start (known c.args.pool.now.pass) (known c.admit-admitted.new.pool.pass) c.args.channel c.args.identity.now c.in-Err.end
    (extends_of g.N.Naming.start (known c.args.pool.now.pass).seen c.requires.since.1) (λ e is. c.admit-admitted.ensures.act e (c.in-Err.is ∙ ap Err is))

pub new-requires : goal.new-requires
new-requires g c =
    since_from g.N.Naming.lock g.N.Naming.start c.args.pool.now.kept.items (known c.args.pool.now.pass).seen _ c.requires.kept c.requires.since.1
    (subst (λ (l : LockId). IsIdle l c.in-Ok.field-0.passes.reading) c.context-context.ensures c.in-Ok.ensures.ok.0) c.in-Ok.ensures.given.0

pub new-requires-in-Ok : goal.new-requires-in-Ok
new-requires-in-Ok g c =
    since_from g.N.Naming.lock g.N.Naming.start c.args.pool.now.kept.items (known c.args.pool.now.pass).seen _ c.requires.kept c.requires.since.1
    (subst (λ (l : LockId). IsIdle l c.in-Ok.field-0.passes.writing) c.context-context.ensures c.in-Ok.ensures.ok.1) c.in-Ok.ensures.given.1
