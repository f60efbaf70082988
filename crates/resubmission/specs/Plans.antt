-- What `plan` answers of what a Resubmit comes to.
use Rattle.std.specs.Prelude.{ℕ, List, Option, Some, None}
use Rattle.cluster_defs.specs.Purges.{Copy, Resubmitting, NeverKnown, Gone, Running, NoRoom, Makes}
use Rattle.resubmission.specs.declared.plan.Renaming.{Renaming}
use Rattle.resubmission.specs.declared.plan.ResubmitRefusal.{ResubmitRefusal}
use Rattle.resubmission.specs.declared.plan.ResubmitRefusal.TheVariants.{Unknown, Purged, Inflight, TableFull}

-- an old id with the new one that gets its request
abbrev pub copy_of : Renaming → Copy
copy_of r = record { old = r.old; new = r.new }

-- the refusal, where there is one
abbrev pub refusal_of : Resubmitting → Option ResubmitRefusal
refusal_of (NeverKnown ids) = Some (Unknown ids)
refusal_of (Gone ids) = Some (Purged ids)
refusal_of (Running ids) = Some (Inflight ids)
refusal_of NoRoom = Some TableFull
refusal_of (Makes copies) = None

-- the two ids, as a reply has them
abbrev pub pair_of : Renaming → List ℕ × List ℕ
pair_of r = (r.old, r.new)
