use Rattle.std.proofs.Common.{◌≡◌, ◌≤◌, ◌-◌, length, drop}
use Rattle.arith_syntax.specs.Lexical.{scan}
use Rattle.arith_syntax.specs.Reading.{run, nothing_read}
use Rattle.arith_syntax.proofs.parser.read.Given as goal

abbrev pub invariant-loop-at : goal.invariant-loop-at
invariant-loop-at l = record {
  within : l.at ≤ length l.text;
  same : run nothing_read (scan 0 0 l.text) ≡ run l.reader (scan 0 l.at (drop l.at l.text));
}

abbrev pub decreases-loop-at : goal.decreases-loop-at
decreases-loop-at l = length l.text - l.at
