use Rattle.std.proofs.Common.{◌≡◌, ◌+◌, ◌++◌, drop}
use Rattle.cluster_defs.specs.Purges.{copies_from}
use Rattle.database_text.proofs.notes.copies_behind.Given as goal

-- the copies so far, and those of the ids to come
abbrev pub invariant-loop-old : goal.invariant-loop-old
invariant-loop-old l = l.copies ++ copies_from l.number (drop l.old-index l.ids) ≡ copies_from (l.last + 1) l.ids
