use Rattle.array_maps.specs.Codes.{scatter_codes}
use Rattle.array_maps.proofs.Fronts.{IsFront}
use Rattle.array_maps.proofs.codes.scattered.Given as goal

abbrev pub invariant-loop-part : goal.invariant-loop-part
invariant-loop-part l = IsFront (scatter_codes l.name l.values l.parts) l.codes l.part
