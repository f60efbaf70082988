-- The records of what is kept.
use Rattle.std.proofs.Common.{ℕ, ◌≤◌, [], length, Bool, true, false, arith}
use Rattle.std.proofs.lemmas.List.{length-append}
use Rattle.cluster_types.specs.declared.entry.Entry.{Entry}
use Rattle.cluster_core.specs.Steps.{kept_one}
use Rattle.record_codec.specs.Spelling.{spelling}
use Rattle.record_codec.specs.Records.{spellings}

-- of an entry that is kept or isn't, there is at most its record
pub one_size : (b : Bool) (e : Entry) → length (spellings (kept_one b e)) ≤ length (spelling e)
one_size true e = let all = length-append (spelling e) [] in omega (arith, all)
one_size false e = omega arith
