use Rattle.std.proofs.Common.{◌≡◌, take}
use Rattle.cluster_defs.specs.FilterWords.{once}
use Rattle.db_query.proofs.fields.once.Given as goal

abbrev pub invariant-loop-field : goal.invariant-loop-field
invariant-loop-field l = l.found ≡ once (take l.field-index l.fields)
