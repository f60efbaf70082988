-- How many Submits run on each engine.
use Rattle.std.specs.Prelude.{◌≡◌, ◌<◌, ⊤, ℕ, List, slice_get, Option, Some, None, Bool, not, ◌&&◌, if◌then◌else◌, count_by}
use Rattle.std.specs.Option.{is_some, option_and_then}
use Rattle.std.specs.Global.{Vec}
use Rattle.place_sets.specs.Sets.{holds_at}
use Rattle.place_sets.specs.Counts.{count_of, greatest}
use Rattle.cluster_defs.specs.declared.attempt.Attempt.{Attempt}
use Rattle.cluster_defs.specs.declared.attempt.Attempt.TheVariants.{Running}
use Rattle.cluster_defs.specs.Tasks.{runs_at}
use Rattle.cluster_defs.specs.Facts.{is_direct_id}
use Rattle.task_table.specs.Seen.{Seen}
use Rattle.task_table.specs.Standing.{alone}

-- whether a task is a Submit that runs on an engine
abbrev pub loads : ℕ → Seen → Bool
loads n t = not (is_some t.settled) && (runs_at n t.attempts.last && not (is_direct_id (alone t) t.row.id))

abbrev pub load_in : List Seen → ℕ → ℕ
load_in ts n = count_by (loads n) ts

-- the engine of a current attempt
abbrev pub running_on : Attempt → Option ℕ
running_on (Running n) = Some n
running_on _ = None

-- the engine that a Submit runs on, where it isn't settled
abbrev pub loaded : Seen → Option ℕ
loaded t = if not (is_some t.settled) && not (is_direct_id (alone t) t.row.id) then running_on t.attempts.last else None

-- of the task at a place
abbrev pub loaded_at : List Seen → ℕ → Option ℕ
loaded_at ts place = option_and_then loaded (slice_get ts place)

-- the counts tell the load of each engine
abbrev pub Counts : List Seen → List ℕ → Type 0
Counts ts counts = (n : ℕ) → count_of counts n ≡ load_in ts n

-- they do, where there are any
abbrev pub Counted : List Seen → Option (Vec ℕ) → Type 0
Counted ts None = ⊤
Counted ts (Some counts) = Counts ts counts.items

-- how many of some places load an engine
abbrev pub load_among : List Seen → List ℕ → ℕ → ℕ
load_among ts places n = count_by (holds_at (loads n) ts) places

-- the counts tell how many of some places load each engine; there are none only where 32 bits don't tell that of one
abbrev pub Tallied : List Seen → List ℕ → Option (Vec ℕ) → Type 0
Tallied ts places None = (n : ℕ) × (greatest < load_among ts places n)
Tallied ts places (Some counts) = (n : ℕ) → count_of counts.items n ≡ load_among ts places n

-- the counts tell the load of each engine; there are none only where 32 bits don't tell that of one
abbrev pub CountedAnew : List Seen → Option (Vec ℕ) → Type 0
CountedAnew ts None = (n : ℕ) × (greatest < load_in ts n)
CountedAnew ts (Some counts) = Counts ts counts.items
