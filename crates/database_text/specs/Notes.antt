-- What the entries of a history do that bears on what a purge lets go.
use Rattle.std.specs.Prelude.{ℕ, ◌+◌, List, [], ◌∷◌, length, Option, Some, Bool, true}
use Rattle.cluster_types.specs.declared.event.Event.{Event}
use Rattle.cluster_types.specs.declared.event.Event.TheVariants.{Submit, Direct, Reply, Resubmit}
use Rattle.cluster_types.specs.declared.entry.Entry.{Entry}
use Rattle.cluster_defs.specs.Words.{once}
use Rattle.cluster_defs.specs.Facts.{Facts, event_in}
use Rattle.cluster_defs.specs.Purges.{copies_from}
use Rattle.cluster_defs.specs.Scheduling.{is_kept}
use Rattle.cluster_defs.specs.Histories.{History, facts}
use Rattle.database_text.specs.declared.notes.Note.{Note}
use Rattle.database_text.specs.declared.notes.Note.TheVariants.{Nothing, Accepts, Answers, Makes}

-- where so many ids are known, and an entry with this event is kept or not: an accepted request has its id, a valid reply
-- that of its task, and a resubmission makes copies under the next numbers
abbrev pub note_as : ℕ → Bool → Option Event → Note
note_as known true (Some (Submit s)) = Accepts s.id
note_as known true (Some (Direct s)) = Accepts s.id
note_as known true (Some (Reply task header ok declined)) = Answers task ok
note_as known true (Some (Resubmit ids)) = Makes (copies_from (known + 1) (once ids))
note_as known kept event = Nothing

abbrev pub note_of : Facts → Entry → Note
note_of f e = note_as (length f.known) (is_kept f e) (event_in f e)

-- those of all entries, the newest first
abbrev pub notes_of : History → List Note
notes_of [] = []
notes_of (e ∷ older) = note_of (facts older) e ∷ notes_of older
