-- What is due, read off the table of all tasks.
use Rattle.std.specs.Prelude.{ℕ, List, map, slice_get, Option, None, Bool, ◌||◌, if◌then◌else◌, filter, find, option_map}
use Rattle.std.specs.List.{list_any}
use Rattle.std.specs.Option.{is_some, option_and_then}
use Rattle.cluster_types.specs.declared.config.Scheme.{Scheme}
use Rattle.cluster_types.specs.declared.verdict.Verdict.TheVariants.{Failed}
use Rattle.cluster_types.specs.declared.verdict.Cause.{Cause}
use Rattle.cluster_types.specs.declared.entry.Entry.{Entry}
use Rattle.cluster_types.specs.declared.entry.Entry.TheVariants.{Settle}
use Rattle.cluster_defs.specs.declared.engine.Engine.{Engine}
use Rattle.cluster_defs.specs.Words.{or_else}
use Rattle.cluster_defs.specs.Engines.{lists_number}
use Rattle.cluster_defs.specs.Facts.{Facts, nothing_yet}
use Rattle.cluster_defs.specs.Scheduling.{lose_due, verdict, settle_as, rests, failing_as, ready_for, hand_to, leaves_room, pick}
use Rattle.task_table.specs.Seen.{Seen}
pub use Rattle.task_table.specs.Standing.{alone, final_at, direct_at}
pub use Rattle.task_table.specs.Waiting.{settled_in, ready_as, ready}
pub use Rattle.task_table.specs.Fitting.{among, takes_as, takes, fits, hopeless, late}
pub use Rattle.task_table.specs.Loading.{loads, load_in}
use Rattle.cluster_state.specs.Plain.{Plain}
use Rattle.due_decisions.specs.declared.rooms.Room.{Room}

-- (a) LOSE

abbrev pub beating : List Engine → ℕ → ℕ → Facts
beating live misses beats = record nothing_yet { misses = misses; beats = beats; engines = record { live = live; next = 0 } }

-- (b) SETTLE A FINAL TASK

abbrev pub settle_of : Seen → Option Entry
settle_of t = settle_as t.row.id (verdict (alone t) t.row.id)

abbrev pub settle_in : List Seen → Option Entry
settle_in ts = option_and_then settle_of (find final_at ts)

-- (c) FAIL A TASK

abbrev pub failing_in : List Seen → List Engine → ℕ → Seen → Option Cause
failing_in ts live now t = if rests (alone t) t.row.id then failing_as (among ts live now t.attempts) t.row.id t.request else None

abbrev pub fail_of : List Seen → List Engine → ℕ → Seen → Option Entry
fail_of ts live now t = option_map (λ cause. Settle t.row.id Failed cause) (failing_in ts live now t)

abbrev pub fail_in : List Seen → List Engine → ℕ → Option Entry
fail_in ts live now = option_and_then (fail_of ts live now) (find (λ t. is_some (failing_in ts live now t)) ts)

-- (d) HAND A DIRECT REQUEST

abbrev pub direct_of : Seen → Option Entry
direct_of t = hand_to t.row.id (ready_for (alone t) t.row.id)

abbrev pub direct_in : List Seen → Option Entry
direct_in ts = option_and_then direct_of (find direct_at ts)

-- (e) HAND A SUBMIT

-- the live engines with room, in ascending order of last use
abbrev pub rooms_in : List Seen → List Engine → ℕ → List ℕ → List Room
rooms_in ts live hwm by_use =
    filter (λ r. leaves_room hwm r.load) (map (λ n. record { engine = n; load = load_in ts n }) (filter (λ n. lists_number n live) by_use))

abbrev pub rooms_for : List Seen → List Room → Seen → List Room
rooms_for ts rooms t = filter (λ r. fits ts t r.engine) rooms

-- the engine that is picked of some
abbrev pub picked : Scheme → ℕ → List Room → Option ℕ
picked scheme word rooms = option_map (λ r. r.engine) (slice_get rooms (pick scheme (map (λ r. r.load) rooms) word))

abbrev pub hand_of : List Seen → List Room → Scheme → ℕ → Seen → Option Entry
hand_of ts rooms scheme word t = hand_to t.row.id (picked scheme word (rooms_for ts rooms t))

abbrev pub hand_in : List Seen → List Room → Scheme → ℕ → Option Entry
hand_in ts rooms scheme word = option_and_then (hand_of ts rooms scheme word) (find (λ t. list_any (λ r. fits ts t r.engine) rooms) ts)

-- ALL, IN THEIR ORDER

abbrev pub hand_then : Plain → Option Entry
hand_then p = hand_in p.tasks (rooms_in p.tasks p.engines.live p.hwm p.by_use) p.scheme p.word

abbrev pub direct_then : Plain → Option Entry
direct_then p = or_else (direct_in p.tasks) (hand_then p)

abbrev pub fail_then : Plain → Option Entry
fail_then p = or_else (fail_in p.tasks p.engines.live p.now) (direct_then p)

abbrev pub settle_then : Plain → Option Entry
settle_then p = or_else (settle_in p.tasks) (fail_then p)

abbrev pub due_in : Plain → Option Entry
due_in p = or_else (lose_due (beating p.engines.live p.misses p.beats)) (settle_then p)
