use Rattle.std.proofs.Common.{◌≡◌, take}
use Rattle.database_text.specs.Lines.{text}
use Rattle.command_tests.proofs.histories.place_of_difference.Given as goal

abbrev pub invariant-loop-entry : goal.invariant-loop-entry
invariant-loop-entry l = l.comparison ≡ record { input = l.octets; printed = text (take l.entry-index l.entries) }
