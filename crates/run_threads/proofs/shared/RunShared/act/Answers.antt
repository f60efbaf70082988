use Rattle.history_lock.specs.Names.{known}
use Rattle.controller_desk.proofs.Seen.{turn_later}
use Rattle.run_threads.proofs.shared.RunShared.act.Goals as goal

pub returns-in-Ok-act-clause-later : goal.returns-in-Ok-act-clause-later
returns-in-Ok-act-clause-later g c = let t = c.act.ensures.turn in turn_later g.D.Disk.faults (known c.args.pass.now) (known c.act.new.pass) t.0 t.1 t.2

pub returns-in-Err-clause-later : goal.returns-in-Err-clause-later
returns-in-Err-clause-later g c = let t = c.act.ensures.turn in turn_later g.D.Disk.faults (known c.args.pass.now) (known c.act.new.pass) t.0 t.1 t.2
