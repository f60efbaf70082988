use Rattle.history_lock.specs.Names.{known}
use Rattle.controller_desk.proofs.Seen.{turn_later}
use Rattle.run_threads.proofs.Gathering.{are_later}
use Rattle.run_threads.proofs.shared.RunShared.take_one.Goals as goal

pub returns-clause-answered : goal.returns-clause-answered
returns-clause-answered g c =
    let t = c.take_out-taken.ensures.turn in
    let later = turn_later g.D.Disk.faults (known c.args.pass.now) (known c.take_out-taken.new.pass) t.0 t.1 t.2 in
    c.hear_taken.ensures.gathered (known c.take_out-taken.new.pass).seen.list
    (are_later (known c.args.pass.now).seen (known c.take_out-taken.new.pass).seen c.args.awaited.now.gathered later c.requires.answered) c.take_out-taken.ensures.passed
