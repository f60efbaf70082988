use Rattle.std.proofs.Common.{◌≡◌, ◌&&◌, not, take, bytes_eq}
use Rattle.std.specs.List.{list_any}
use Rattle.cluster_defs.specs.Words.{Id}
use Rattle.database_text.specs.Going.{gone_by}
use Rattle.database_text.proofs.going.Going.olds_of.Given as goal

-- the old ids of those copies up to here that stay
abbrev pub invariant-loop-copy : goal.invariant-loop-copy
invariant-loop-copy l = (q : Id) → list_any (λ id. bytes_eq id.now q) l.olds.items ≡ list_any (λ c. bytes_eq c.old q && not (gone_by l.self c.new)) (take l.copy-index l.copies)
