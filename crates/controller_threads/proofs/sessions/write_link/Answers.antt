use Rattle.history_lock.specs.Names.{known}
use Rattle.session_threads.proofs.Taking.{take_extends}
use Rattle.controller_threads.proofs.Seeing.{since_later}
use Rattle.controller_threads.proofs.sessions.write_link.Goals as goal

pub returns : goal.returns
returns g c =
    let took = c.write_session.ensures.front in
    record {
      since = since_later _ g.N.Naming.lock g.N.Naming.start c.args.pass.now c.write_session.new.pass c.context-context.ensures c.requires.since c.write_session.ensures.idle
          (take_extends c.args.conn (known c.args.pass.now).seen (known c.write_session.new.pass).seen took.outs took.took.takes);
    }
