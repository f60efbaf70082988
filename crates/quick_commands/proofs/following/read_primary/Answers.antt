use Rattle.quick_commands.proofs.Followed.{input_refused}
use Rattle.quick_commands.proofs.following.read_primary.Goals as goal

pub returns-in-Ok-clause-refused : goal.returns-in-Ok-clause-refused
returns-in-Ok-clause-refused g c =
    input_refused c.list_in.result c.in-Ok.octets.items (g.S.Source.left c.args.input.now) (g.S.Source.left c.read_input.new.input) c.in-Ok.ensures.took c.in-Ok.ensures.end c.list_in.ensures.refused
