use Rattle.controller_threads.proofs.Seeing.{since_later}
use Rattle.controller_threads.proofs.sessions.read_link.Goals as goal

pub returns-clause-since : goal.returns-clause-since
returns-clause-since g c =
    since_later _ g.N.Naming.lock g.N.Naming.start c.args.pass.now c.read_session.new.pass c.context-context.ensures c.requires.since c.read_session.ensures.idle c.read_session.ensures.front.entered.adds.later
