use Rattle.std.proofs.Common.{◌≡◌, ◌++◌, length, All}
use Rattle.tape.specs.Spelling.{all_spelled, Fits}
use Rattle.quick_commands.specs.Generated.{generated}
use Rattle.quick_commands.proofs.generator.generate.Given as goal

abbrev pub invariant-loop-octets : goal.invariant-loop-octets
invariant-loop-octets l = record {
  written : l.octets.items ++ all_spelled l.generator ≡ all_spelled (generated l.fn.seed l.fn.tasks);
  fit : All Fits l.generator;
}

abbrev pub decreases-loop-octets : goal.decreases-loop-octets
decreases-loop-octets l = length l.generator
