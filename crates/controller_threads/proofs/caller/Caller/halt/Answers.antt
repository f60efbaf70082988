use Rattle.history_lock.specs.Names.{known}
use Rattle.controller_threads.proofs.Halting.{halt_later}
use Rattle.controller_threads.proofs.caller.Caller.halt.Goals as goal

pub returns : goal.returns
returns g c =
    halt_later c.args.halted.halt g.N.Naming.start (known c.args.halted.pass).seen (known c.join.new.pass).seen c.args.halted.cause c.join.ensures.later
