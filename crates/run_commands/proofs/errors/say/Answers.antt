use Rattle.std.proofs.Common.{inr}
use Rattle.database_text.proofs.Fronts.{front_take}
use Rattle.run_commands.proofs.errors.say.Goals as goal

pub returns-in-Err : goal.returns-in-Err
returns-in-Err g c =
    inr (front_take c.args.text.now c.in-Err.ensures.err.0 (g.E.Sink.written c.args.errors.now) (g.E.Sink.written c.write_all.new.sink) c.in-Err.ensures.err.2, c.in-Err.ensures.cause)
