use Rattle.std.proofs.Common.{None, refl, inr}
use Rattle.link_commands.specs.declared.client.ClientEnd.TheVariants.{OutOfMemory}
use Rattle.standing_commands.proofs.links.ask.Goals as goal

pub returns-in_default : goal.returns-in_default
returns-in_default g c = (OutOfMemory, None, (inr (refl, refl), refl), c.client_shown.ensures)
