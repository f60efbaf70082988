use Rattle.std.proofs.Common.{take}
use Rattle.arith_eval.specs.Names.{value_in}
use Rattle.engine_core.specs.Evaluation.{GiveAll}
use Rattle.engine_core.proofs.evaluation.evaluate_all.Given as goal

abbrev pub invariant-loop-expression : goal.invariant-loop-expression
invariant-loop-expression l = GiveAll (take l.expression-index l.expressions) (value_in l.fn.names) l.shown (value_in l.names)
