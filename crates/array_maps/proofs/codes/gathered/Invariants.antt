use Rattle.array_maps.specs.Codes.{gather_codes}
use Rattle.array_maps.proofs.Fronts.{IsFront}
use Rattle.array_maps.proofs.codes.gathered.Given as goal

abbrev pub invariant-loop-place : goal.invariant-loop-place
invariant-loop-place l = IsFront (gather_codes l.name l.n) l.codes l.place
