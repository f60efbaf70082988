use Rattle.std.proofs.Common.{◌≤◌, ◌-◌, ◌^◌, vec_len}
use Rattle.edges.specs.Streams.{Took}
use Rattle.quick_commands.proofs.following.read_input.Given as goal

abbrev pub invariant-loop-piece : goal.invariant-loop-piece
invariant-loop-piece g l = record {
  took : Took l.octets.items (g.S.Source.left l.initial.input) (g.S.Source.left l.input);
  later : g.S.Source.faults l.initial.input ≤ g.S.Source.faults l.input;
}

-- each turn adds an octet, and a Vec has fewer than 2^64
abbrev pub decreases-loop-piece : goal.decreases-loop-piece
decreases-loop-piece g l = 2 ^ 64 - vec_len l.octets
