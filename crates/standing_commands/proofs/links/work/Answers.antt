use Rattle.std.proofs.Common.{refl, inr}
use Rattle.link_commands.specs.declared.engine.EngineEnd.TheVariants.{OutOfMemory}
use Rattle.standing_commands.proofs.links.work.Goals as goal

pub returns-in_default : goal.returns-in_default
returns-in_default g c = (OutOfMemory, inr (refl, refl), c.engine_shown.ensures)
