use Rattle.std.proofs.Common.{◌≡◌, ◌≤◌, ◌+◌, ◌-◌, length, drop}
use Rattle.std.specs.List.{prefix_len}
use Rattle.arith_syntax.specs.Tree.{is_word}
use Rattle.arith_syntax.proofs.scanner.run_length.Given as goal

abbrev pub invariant-loop-count : goal.invariant-loop-count
invariant-loop-count l = (l.count ≤ length l.octets) × (prefix_len is_word l.octets ≡ l.count + prefix_len is_word (drop l.count l.octets))

abbrev pub decreases-loop-count : goal.decreases-loop-count
decreases-loop-count l = length l.octets - l.count
