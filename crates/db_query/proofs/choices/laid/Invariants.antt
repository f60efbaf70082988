use Rattle.std.proofs.Common.{take}
use Rattle.db_query.specs.Laid.{AreLaid}
use Rattle.db_query.proofs.choices.laid.Given as goal

abbrev pub invariant-loop-scalar : goal.invariant-loop-scalar
invariant-loop-scalar l = AreLaid (take l.scalar-index l.scalars) l.choices
