use Rattle.std.proofs.Common.{◌≡◌, take}
use Rattle.std.specs.Prelude.{count_by}
use Rattle.quick_commands.specs.Summaries.{is_of}
use Rattle.quick_commands.proofs.summing.count_of.Given as goal

abbrev pub invariant-loop-entry : goal.invariant-loop-entry
invariant-loop-entry l = l.count ≡ count_by (is_of l.kind) (take l.entry-index l.entries)
