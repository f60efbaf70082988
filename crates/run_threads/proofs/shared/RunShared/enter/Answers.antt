use Rattle.history_lock.specs.Names.{known}
use Rattle.history_lock.proofs.Growing.{extends_on}
use Rattle.run_threads.proofs.shared.RunShared.enter.Goals as goal

pub returns-in_err-flush-clause-later : goal.returns-in_err-flush-clause-later
returns-in_err-flush-clause-later g c = extends_on (known c.args.pass.now).seen (known c.act.new.pass).seen (known c.flush.new.pass).seen c.act.ensures.later c.flush.ensures.later

pub returns-clause-later : goal.returns-clause-later
returns-clause-later g c =
    let flushed = extends_on (known c.args.pass.now).seen (known c.act.new.pass).seen (known c.flush.new.pass).seen c.act.ensures.later c.flush.ensures.later in
    extends_on (known c.args.pass.now).seen (known c.flush.new.pass).seen (known c.wake_news.new.pass).seen flushed c.wake_news.ensures.later
