use Rattle.std.proofs.Common.{reverse, take}
use Rattle.cluster_state.specs.Stands.{plain}
use Rattle.database_text.proofs.Passing.{IsPassed}
use Rattle.database_text.proofs.pass.pass_over.Given as goal

abbrev pub invariant-loop-entry : goal.invariant-loop-entry
invariant-loop-entry l = IsPassed (reverse (take l.entry-index l.entries)) (plain l.state) l.notes.items
