use Rattle.std.proofs.Common.{subst}
use Rattle.history_lock.specs.Names.{known}
use Rattle.controller_threads.specs.declared.halt.Halt.{Halt}
use Rattle.controller_threads.specs.Halts.{HaltCause}
use Rattle.controller_threads.proofs.Halting.{halt_later}
use Rattle.controller_threads.proofs.caller.Caller.halted.Goals as goal

pub returns-in-Stopping : goal.returns-in-Stopping
returns-in-Stopping g c =
    let on = halt_later c.args.halt g.N.Naming.start (known c.args.self.pass).seen (known c.flush_last.new.pass).seen c.requires c.flush_last.ensures.later in
    λ before now. (c.flush_last.ensures.rested, subst (λ (h : Halt). HaltCause h g.N.Naming.start (known c.flush_last.new.pass).seen) c.in-Stopping.is on)

pub returns-in-DiskFault : goal.returns-in-DiskFault
returns-in-DiskFault g c =
    let on = halt_later c.args.halt g.N.Naming.start (known c.args.self.pass).seen (known c.flush_last.new.pass).seen c.requires c.flush_last.ensures.later in
    λ before now. (c.flush_last.ensures.rested, subst (λ (h : Halt). HaltCause h g.N.Naming.start (known c.flush_last.new.pass).seen) c.in-DiskFault.is on)

pub returns : goal.returns
returns g c =
    let on = halt_later c.args.halt g.N.Naming.start (known c.args.self.pass).seen (known c.flush_last.new.pass).seen c.requires c.flush_last.ensures.later in
    λ before now. (c.flush_last.ensures.rested, subst (λ (h : Halt). HaltCause h g.N.Naming.start (known c.flush_last.new.pass).seen) c.in-HistoryFull.is on)
