use Rattle.quick_commands.proofs.Rows.{first_draw, second_draw}
use Rattle.quick_commands.proofs.work_laws.first_draws.Goals as goal

pub returns-clause-first : goal.returns-clause-first
returns-clause-first c = first_draw

pub returns-clause-second : goal.returns-clause-second
returns-clause-second c = second_draw
