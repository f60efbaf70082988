use Rattle.std.proofs.Common.{◌≡◌, ◌||◌, take, bytes_eq}
use Rattle.std.specs.List.{list_any}
use Rattle.cluster_defs.specs.Words.{Id}
use Rattle.database_text.specs.Going.{holds}
use Rattle.database_text.proofs.going.hold_each.Given as goal

-- the ids up to here are held
abbrev pub invariant-loop-id : goal.invariant-loop-id
invariant-loop-id l = (q : Id) → holds l.held q ≡ (holds l.fn.held q || list_any (λ id. bytes_eq id.now q) (take l.id-index l.ids))
