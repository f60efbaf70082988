use Rattle.history_lock.specs.Names.{known}
use Rattle.history_lock.proofs.Growing.{extends_on}
use Rattle.controller_desk.proofs.Seen.{turn_later}
use Rattle.controller_threads.proofs.Seeing.{named, since_later, rested_later}
use Rattle.controller_threads.proofs.shared.Shared.flush_last.Goals as goal

pub returns-clause-rested : goal.returns-clause-rested
returns-clause-rested g c =
    let t = c.flush.ensures.turn in
    let u = c.trim.ensures.turn in
    let since = since_later _ g.N.Naming.lock g.N.Naming.start c.args.pass.now c.flush.new.pass (named c.deref.ensures c.args.self.now.named) c.requires.since c.flush.ensures.back.0
    (turn_later g.T.Disk.Disk.faults (known c.args.pass.now) (known c.flush.new.pass) t.0 t.1 t.2) in
    rested_later _ g.N.Naming.lock g.N.Naming.start c.flush.new.pass c.trim.new.pass (named c.deref-2.ensures c.args.self.now.named) since c.trim.ensures.back.0
    (turn_later g.T.Disk.Disk.faults (known c.flush.new.pass) (known c.trim.new.pass) u.0 u.1 u.2) c.trim.ensures.back.2

pub returns-clause-later : goal.returns-clause-later
returns-clause-later g c =
    let t = c.flush.ensures.turn in
    let u = c.trim.ensures.turn in
    extends_on (known c.args.pass.now).seen (known c.flush.new.pass).seen (known c.trim.new.pass).seen
    (turn_later g.T.Disk.Disk.faults (known c.args.pass.now) (known c.flush.new.pass) t.0 t.1 t.2)
    (turn_later g.T.Disk.Disk.faults (known c.flush.new.pass) (known c.trim.new.pass) u.0 u.1 u.2)
