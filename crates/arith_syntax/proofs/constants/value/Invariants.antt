use Rattle.std.proofs.Common.{◌≡◌, ◌^◌, take, min}
use Rattle.arith_syntax.specs.Lexical.{value_after}
use Rattle.arith_syntax.proofs.constants.value.Given as goal

abbrev pub invariant-loop-c : goal.invariant-loop-c
invariant-loop-c l = l.value ≡ min (value_after l.base 0 (take l.c-index l.digits)) (2 ^ 63)
