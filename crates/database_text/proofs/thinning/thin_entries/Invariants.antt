use Rattle.std.proofs.Common.{◌≡◌, take, reverse}
use Rattle.database_text.specs.Going.{purged_by, gone_by}
use Rattle.database_text.specs.Thinning.{thin_noted}
use Rattle.database_text.proofs.thinning.thin_entries.Given as goal

-- the entries up to here are thin
abbrev pub invariant-loop-place : goal.invariant-loop-place
invariant-loop-place l = reverse l.thin.items ≡ thin_noted (gone_by l.going) (purged_by l.going) (reverse (take l.place l.notes)) (reverse (take l.place l.entries))
