use Rattle.array_maps.proofs.Blocked.{blocks_list}
use Rattle.array_maps.proofs.laws.blocks_joined.Goals as goal

pub returns : goal.returns
returns g c = blocks_list
