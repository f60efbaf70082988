use Rattle.std.proofs.Common.{refl}
use Rattle.standing_commands.proofs.standing.obey.Goals as goal

pub returns-in-Serve : goal.returns-in-Serve
returns-in-Serve g c = rw c.in-Serve.is (refl, (refl, refl), c.serve_cluster.ensures)
