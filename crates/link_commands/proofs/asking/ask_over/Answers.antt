use Rattle.link_commands.proofs.AskingGoing.{front_nothing}
use Rattle.link_commands.proofs.asking.ask_over.Goals as goal

pub returns-in_err-id-clause-front : goal.returns-in_err-id-clause-front
returns-in_err-id-clause-front g c = front_nothing c.args.key.now c.args.request.now (g.S.Source.left c.args.reader.now) (g.K.Sink.written c.args.writer.now)
