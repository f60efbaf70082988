use Rattle.std.proofs.Common.{◌≡◌, ◌++◌, take}
use Rattle.journal_standby.proofs.lists.push_all.Given as goal

abbrev pub invariant-loop-entry : goal.invariant-loop-entry
invariant-loop-entry l = l.list ≡ l.initial.list ++ take l.entry-index l.more
