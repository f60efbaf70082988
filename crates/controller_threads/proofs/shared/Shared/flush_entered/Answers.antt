use Rattle.std.proofs.Common.{sym, ◌∙◌}
use Rattle.history_lock.specs.Names.{known}
use Rattle.controller_desk.proofs.Seen.{turn_later}
use Rattle.controller_threads.proofs.Halting.{flush_cause, still_stopping}
use Rattle.controller_threads.proofs.Seeing.{named, extends_of, since_later}
use Rattle.controller_threads.proofs.shared.Shared.flush_entered.Goals as goal

pub returns-clause-since : goal.returns-clause-since
returns-clause-since g c =
    let t = c.flush-flushed.ensures.turn in
    let on = since_later _ g.N.Naming.lock g.N.Naming.start c.args.pass.now c.stopping-is_stopping.new.pass (named c.deref.ensures c.args.self.now.named) c.requires.since c.stopping-is_stopping.ensures.back.0 c.stopping-is_stopping.ensures.later in
    since_later _ g.N.Naming.lock g.N.Naming.start c.stopping-is_stopping.new.pass c.flush-flushed.new.pass (named c.deref-2.ensures c.args.self.now.named) on c.flush-flushed.ensures.back.0
    (turn_later g.T.Disk.Disk.faults (known c.stopping-is_stopping.new.pass) (known c.flush-flushed.new.pass) t.0 t.1 t.2)

pub returns-clause-cause : goal.returns-clause-cause
returns-clause-cause g c =
    let t = c.flush-flushed.ensures.turn in
    let on = since_later _ g.N.Naming.lock g.N.Naming.start c.args.pass.now c.stopping-is_stopping.new.pass (named c.deref.ensures c.args.self.now.named) c.requires.since c.stopping-is_stopping.ensures.back.0 c.stopping-is_stopping.ensures.later in
    c.halt_after.ensures g.N.Naming.start (known c.flush-flushed.new.pass).seen
    (λ is. flush_cause g.T.Disk.Disk.faults g.N.Naming.start (known c.stopping-is_stopping.new.pass) (known c.flush-flushed.new.pass) t.0 t.1 c.flush-flushed.result
    (extends_of g.N.Naming.start (known c.stopping-is_stopping.new.pass).seen on.1) t.2 t.3 is)
    (λ is. still_stopping (known c.stopping-is_stopping.new.pass).seen (known c.flush-flushed.new.pass).seen
    (turn_later g.T.Disk.Disk.faults (known c.stopping-is_stopping.new.pass) (known c.flush-flushed.new.pass) t.0 t.1 t.2) (sym c.stopping-is_stopping.ensures.stops ∙ is))
