use Rattle.array_maps.proofs.Running.{name_from, name_to}
use Rattle.array_maps.proofs.laws.names_tested.Goals as goal

pub returns-clause-sound : goal.returns-clause-sound
returns-clause-sound c = name_from

pub returns-clause-complete : goal.returns-clause-complete
returns-clause-complete c = name_to
