use Rattle.std.proofs.Common.{◌≡◌, length, drop, reverse}
use Rattle.database_text.specs.Going.{purged_in, purged_by, gone_by}
use Rattle.database_text.specs.Thinning.{gone_through}
use Rattle.database_text.proofs.going.going_after.Given as goal

-- the copies of the newest notes are looked at
abbrev pub invariant-loop-note : goal.invariant-loop-note
invariant-loop-note l = record {
  purged : purged_by l.going ≡ purged_in l.state;
  gone : gone_through (gone_by l.going) (drop (length l.yielded) (reverse l.notes)) ≡ gone_through (purged_in l.state) (reverse l.notes);
}
