-- Which tasks an Abort takes back.
use Rattle.std.specs.Prelude.{List, [], Option, Some, Bool, not, ◌||◌, if◌then◌else◌, filter}
use Rattle.cluster_types.specs.declared.event.Event.{Event}
use Rattle.cluster_types.specs.declared.event.Event.TheVariants.{Abort}
use Rattle.cluster_defs.specs.Words.{Id, is_empty, is_listed, once}
use Rattle.cluster_defs.specs.Facts.{Facts, is_settled}

-- what an Abort comes to: refused whole, with the ids that were never known or are purged, or the unsettled ones of its ids
pub data Aborting : Type 0 where
  Absent : List Id → Aborting
  TakesBack : List Id → Aborting

-- by which ids are absent, that is never known or purged, and which are settled
abbrev pub aborting_by : (Id → Bool) → (Id → Bool) → List Id → Aborting
aborting_by absent settled ids =
    if not (is_empty (filter absent ids)) then Absent (filter absent ids) else TakesBack (filter (λ id. not (settled id)) ids)

abbrev pub aborting : Facts → List Id → Aborting
aborting f = aborting_by (λ id. not (is_listed id f.known) || f.purged id) (is_settled f)

abbrev pub taken_back : Aborting → List Id
taken_back (TakesBack ids) = ids
taken_back (Absent ids) = []

-- the ids that an Abort takes back, where it is accepted; an id that repeats counts once
abbrev pub aborted_by : Facts → Option Event → List Id
aborted_by f (Some (Abort ids)) = taken_back (aborting f (once ids))
aborted_by f _ = []
