-- What a client knows: its session, and the ids that it used.
use Rattle.std.specs.Global.{Global}
use Rattle.std.specs.Prelude.{ℕ, Bool, false, true, List, length, filter, map, String, string_bytes, Option, Some, None, is_some, bytes_eq, option_map, option_and_then, if◌then◌else◌}
use Rattle.std.specs.Ordering.{nat_cmp}
use Rattle.std.specs.Cmp.Lexicographic.{slice_cmp}
use Rattle.std.specs.Map.{lookup, set_value}
use Rattle.std.specs.BTreeMap.{insert_entry}
use Rattle.std.specs.Option.{option_map_or}
use Rattle.client_core.specs.declared.answered.Answered.{Answered}
use Rattle.client_core.specs.declared.noted.Noted.{Noted}
use Rattle.client_core.specs.declared.stand.Stand.{Stand}
use Rattle.client_core.specs.declared.stand.Stand.TheVariants.{Unsettled, Settled}
use Rattle.client_core.specs.declared.task.Task.{Task}
use Rattle.client_core.specs.declared.task.Task.TheVariants.{Open as TaskOpen, Settled as TaskSettled}
use Rattle.client_core.specs.Noting.{note_of}

-- ids in the order of their octets, each with how its task stands
abbrev pub Used : Type 0
Used = List (List ℕ × Stand)

pub record Known : Type 0 where
  pub session : List ℕ
  pub used : Used

-- how the task of an id stands, where the id was used
abbrev pub stand_in : Used → List ℕ → Option Stand
stand_in used id = lookup (bytes_eq id) used

abbrev pub is_used : Used → List ℕ → Bool
is_used used id = is_some (stand_in used id)

abbrev pub is_settled : Stand → Bool
is_settled (Unsettled watched) = false
is_settled (Settled kept) = true

abbrev pub is_unsettled : Stand → Bool
is_unsettled (Unsettled watched) = true
is_unsettled (Settled kept) = false

abbrev pub has_watcher : Stand → Bool
has_watcher (Unsettled watched) = watched
has_watcher (Settled kept) = false

-- whether the task of an id is settled, where the id was used
abbrev pub settled_in : Used → List ℕ → Option Bool
settled_in used id = option_map is_settled (stand_in used id)

-- whether an id was used and its task isn't settled
abbrev pub is_outstanding : Used → List ℕ → Bool
is_outstanding used id = option_map_or is_unsettled (stand_in used id) false

-- whether a watcher is kept for the task of an id
abbrev pub is_watched : Used → List ℕ → Bool
is_watched used id = option_map_or has_watcher (stand_in used id) false

abbrev pub note_in : Stand → Option Noted
note_in (Unsettled watched) = None
note_in (Settled kept) = kept

-- the note of a task that was watched when it settled
abbrev pub noted : Used → List ℕ → Option Noted
noted used id = option_and_then note_in (stand_in used id)

-- with one id more, whose task isn't settled and has no watcher
abbrev pub with_id : Used → List ℕ → Used
with_id used id = insert_entry (slice_cmp nat_cmp) used id (Unsettled false)

-- with the task of an id that stands so
abbrev pub with_stand : Used → List ℕ → Stand → Used
with_stand used id stand = set_value (bytes_eq id) used stand

-- with the task of an id settled, which is noted if it was watched
abbrev pub after_outcome : Used → List ℕ → Answered → Bool → Used
after_outcome used id answer ok = with_stand used id (Settled (if is_watched used id then Some (note_of answer ok) else None))

-- how many ids have a task that isn't settled
abbrev pub unsettled : Used → ℕ
unsettled used = length (filter (λ u. is_unsettled u.1) used)

-- how a task in the code stands, whatever its watcher is
abbrev pub stand_of : {W : Type 0} → Task W → Stand
stand_of (TaskOpen watcher) = Unsettled (is_some watcher)
stand_of (TaskSettled kept) = Settled kept

-- the entries of a map, by the octets of their ids
abbrev pub used_in : {W : Type 0} → List (String Global × Task W) → Used
used_in entries = map (λ e. (string_bytes e.0, stand_of e.1)) entries
