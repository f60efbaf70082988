use Rattle.quick_commands.proofs.replay.put.Goals as goal
use Rattle.database_text.proofs.Fronts.{front_take}

pub returns-in-Err-clause-front : goal.returns-in-Err-clause-front
returns-in-Err-clause-front g c = front_take c.args.octets.now c.in-Err.ensures.err.0 (g.K.Sink.written c.args.output.now) (g.K.Sink.written c.write_all.new.sink) c.in-Err.ensures.err.2
