use Rattle.std.proofs.Common.{◌≡◌, ◌++◌, option_map}
use Rattle.serde_json.specs.View.{members_view}
use Rattle.engine_core.specs.Request.{expressions_of}
use Rattle.engine_core.proofs.reading.expressions_of.Given as goal

abbrev pub invariant-loop-name : goal.invariant-loop-name
invariant-loop-name l = expressions_of (members_view l.members.entries) ≡ option_map (λ rest. l.expressions ++ rest) (expressions_of (members_view l.name-iterator))
