use Rattle.controller_threads.proofs.Seeing.{named, since_later}
use Rattle.controller_threads.proofs.shared.Shared.keep_news.Goals as goal

pub returns-clause-since : goal.returns-clause-since
returns-clause-since g c =
    since_later _ g.N.Naming.lock g.N.Naming.start c.args.pass.now c.keep_news.new.pass (named c.deref.ensures c.args.self.now.named) c.requires.since c.keep_news.ensures.back.0 c.keep_news.ensures.later
