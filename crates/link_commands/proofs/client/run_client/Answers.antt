use Rattle.link_commands.proofs.Ends.{empty_is_plain, empty_is_short}
use Rattle.link_commands.proofs.client.run_client.Goals as goal

pub ask_over-requires-clause-short : goal.ask_over-requires-clause-short
ask_over-requires-clause-short g c = empty_is_short _ c.in-Ok.ensures.target

pub ask_over-requires-clause-plain : goal.ask_over-requires-clause-plain
ask_over-requires-clause-plain g c = empty_is_plain _ c.in-Ok.ensures.target
