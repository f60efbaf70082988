use Rattle.std.proofs.Common.{◌≤◌, drop}
use Rattle.arith_eval.specs.Names.{value_in}
use Rattle.arith_eval.specs.Value.{value_of_program}
use Rattle.arith_eval.proofs.Plays.{Played}
use Rattle.arith_eval.proofs.run.run.Given as goal

abbrev pub invariant-loop-instruction : goal.invariant-loop-instruction
invariant-loop-instruction l = record {
  skip : l.machine.skip ≤ l.instruction-index;
  played : Played (value_of_program l.program (value_in l.fn.names)) (value_in l.fn.names) (drop l.instruction-index l.instruction-items) l.machine (value_in l.names);
}
