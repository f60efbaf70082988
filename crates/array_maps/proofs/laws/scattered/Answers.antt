use Rattle.array_maps.proofs.Scattering.{scattered_sets}
use Rattle.array_maps.proofs.laws.scattered.Goals as goal

pub returns : goal.returns
returns c = scattered_sets
