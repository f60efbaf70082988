-- Tasks that wait for others: how these were settled, and where those are that list an id.
use Rattle.std.specs.Prelude.{◌≡◌, ℕ, nat_le, List, [], ◌++◌, Option, Some, None, Bool, true, false, not, ◌&&◌, ◌||◌, slice_get}
use Rattle.std.specs.Ordering.{nat_cmp}
use Rattle.std.specs.List.{list_any}
use Rattle.std.specs.BTreeMap.{is_at}
use Rattle.std.specs.Option.{is_none, option_and_then}
use Rattle.place_sets.specs.Sets.{holds_at, places_where}
use Rattle.task_graph.specs.Listing.{Waits, is_waiting, lists, TakenOut, SameWaits}
use Rattle.cluster_defs.specs.Words.{Id, is_listed}
use Rattle.cluster_defs.specs.declared.settled.Settled.{Settled}
use Rattle.cluster_defs.specs.Tasks.{Task}
use Rattle.cluster_defs.specs.Dependencies.{met}
use Rattle.cluster_defs.specs.Requests.{Request, is_direct}
use Rattle.cluster_defs.specs.Scheduling.{rests}
use Rattle.task_table.specs.Seen.{Seen, seen_in}
use Rattle.task_table.specs.Standing.{alone}

-- how the ids of a table were settled
abbrev pub settled_in : List Seen → Id → Option Settled
settled_in ts id = option_and_then (λ t. t.settled) (seen_in ts id)

-- a Submit that waits, with attempts left and what it waits for met
abbrev pub ready_as : (Id → Option Settled) → Task → Option Request → Bool
ready_as settled a None = false
ready_as settled a (Some r) = not (is_direct r) && nat_le a.spent r.retries && met r.after settled

abbrev pub ready : List Seen → Seen → Bool
ready ts t = rests (alone t) t.row.id && ready_as (settled_in ts) t.attempts t.request

-- the ids on which it hangs whether and where a task runs
abbrev pub awaits_as : Id → Option Request → Bool
awaits_as id None = false
awaits_as id (Some r) = is_listed id r.after.ids || is_listed id r.follow.ids

abbrev pub awaits : Id → Seen → Bool
awaits id t = awaits_as id t.request

-- a list of places has a place
abbrev pub is_among : ℕ → List ℕ → Bool
is_among i places = list_any (is_at (nat_cmp i)) places

-- whether a task isn't settled, and lists an id
abbrev pub waits_on : Id → Seen → Bool
waits_on id t = is_none t.settled && awaits id t

-- the places of the tasks that wait on an id, ascending
abbrev pub waiting_on : Id → List Seen → List ℕ
waiting_on id ts = places_where (waits_on id) ts

-- some places have all tasks that wait on an id, and maybe more
abbrev pub Awaited : Id → List Seen → List ℕ → Type 0
Awaited id ts places = (i : ℕ) → holds_at (waits_on id) ts i ≡ true → is_among i places ≡ true

-- each id has the places of the tasks that wait on it, and no others
abbrev pub Indexed : List Seen → Waits → Type 0
Indexed ts waits = (id : Id) (i : ℕ) → is_waiting waits id i ≡ holds_at (waits_on id) ts i

-- the ids that a task lists: those of `after`, then those of `follow`
abbrev pub ids_of : Option Request → List Id
ids_of None = []
ids_of (Some r) = r.after.ids ++ r.follow.ids

-- the task at a place is taken out of all ids that it lists
abbrev pub LeftFor : ℕ → Waits → Waits → Option Seen → Type 0
LeftFor place old new None = SameWaits old new
LeftFor place old new (Some t) = TakenOut (lists (ids_of t.request)) place old new

abbrev pub LeftAt : List Seen → ℕ → Waits → Waits → Type 0
LeftAt ts place old new = LeftFor place old new (slice_get ts place)
