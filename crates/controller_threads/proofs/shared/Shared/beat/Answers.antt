use Rattle.cluster_types.specs.declared.entry.Input.TheVariants.{Beat}
use Rattle.history_lock.specs.Names.{known}
use Rattle.controller_desk.proofs.Seen.{turn_later}
use Rattle.controller_threads.proofs.Halting.{tried_cause}
use Rattle.controller_threads.proofs.Seeing.{named, extends_of, since_later}
use Rattle.controller_threads.proofs.shared.Shared.beat.Goals as goal

pub returns-clause-since : goal.returns-clause-since
returns-clause-since g c =
    let t = c.beat-tried.ensures.turn in
    since_later _ g.N.Naming.lock g.N.Naming.start c.args.pass.now c.beat-tried.new.pass (named c.deref.ensures c.args.self.now.named) c.requires.since c.beat-tried.ensures.back.0
    (turn_later g.T.Disk.Disk.faults (known c.args.pass.now) (known c.beat-tried.new.pass) t.0 t.1 t.2)

pub returns-clause-cause : goal.returns-clause-cause
returns-clause-cause g c =
    let t = c.beat-tried.ensures.turn in
    c.halt_of.ensures g.N.Naming.start (known c.beat-tried.new.pass).seen
    (tried_cause g.T.Disk.Disk.faults g.N.Naming.start (known c.args.pass.now) (known c.beat-tried.new.pass) t.0 t.1 (Beat t.3.0 t.3.1) c.beat-tried.result
    (extends_of g.N.Naming.start (known c.args.pass.now).seen c.requires.since.1) t.2 t.3.2)
