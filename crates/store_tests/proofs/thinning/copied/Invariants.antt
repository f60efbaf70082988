use Rattle.std.proofs.Common.{◌≡◌, take}
use Rattle.store_tests.proofs.thinning.copied.Given as goal

abbrev pub invariant-loop-entry : goal.invariant-loop-entry
invariant-loop-entry l = l.copied ≡ take l.entry-index l.list
