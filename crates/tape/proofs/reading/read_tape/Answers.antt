use Rattle.tape.proofs.Places.{none_past}
use Rattle.tape.proofs.reading.read_tape.Goals as goal

pub returns-then-at-octets-clause-bad : goal.returns-then-at-octets-clause-bad
returns-then-at-octets-clause-bad c = λ _. none_past c.args.octets.now c.args.at c.if-at-octets.true
