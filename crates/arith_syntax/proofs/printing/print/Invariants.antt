use Rattle.std.proofs.Common.{◌≡◌, take, flat_map}
use Rattle.std.specs.Prelude.{string_bytes}
use Rattle.arith_syntax.specs.Printing.{instruction_text}
use Rattle.arith_syntax.proofs.printing.print.Given as goal

abbrev pub invariant-loop-instruction : goal.invariant-loop-instruction
invariant-loop-instruction l = string_bytes l.text ≡ flat_map instruction_text (take l.instruction-index l.instruction-items)
