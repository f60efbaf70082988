use Rattle.array_maps.specs.Codes.{map_codes}
use Rattle.array_maps.proofs.Fronts.{IsFront}
use Rattle.array_maps.proofs.codes.map_codes.Given as goal

abbrev pub invariant-loop-place : goal.invariant-loop-place
invariant-loop-place l = IsFront (map_codes l.body l.values) l.codes l.place
