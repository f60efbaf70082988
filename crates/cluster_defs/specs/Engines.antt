-- Engines: live from an accepted Join until their Leave, their connection's Down, their Lose or an Open.
use Rattle.std.specs.Prelude.{ℕ, nat_lt, nat_le, ◌+◌, ◌-◌, ◌==◌, List, [], ◌∷◌, ◌++◌, map, Option, Some, None, Bool, true, false, not, ◌&&◌, if◌then◌else◌, filter, find, bytes_eq, option_map}
use Rattle.std.specs.List.{list_any}
use Rattle.cluster_types.specs.declared.event.Event.{Event}
use Rattle.cluster_types.specs.declared.event.Event.TheVariants.{Join, Leave, Pong}
use Rattle.cluster_types.specs.Limits.{most_engines}
use Rattle.cluster_defs.specs.declared.engine.Engine.{Engine}
use Rattle.cluster_defs.specs.declared.engine.Joining.{Joining}
use Rattle.cluster_defs.specs.declared.engine.Joining.TheVariants.{Repeat, AlreadyJoined, UuidInUse, UsedUp, Accepted}

-- the live engines in ascending order of number, and the number that the next one gets, from 0 over the whole database
pub record Engines : Type 0 where
  pub live : List Engine
  pub next : ℕ

-- the live engine on a connection, with a uuid, and of a number
abbrev pub engine_on : List Engine → ℕ → Option Engine
engine_on live conn = find (λ e. e.conn == conn) live

abbrev pub engine_named : List Engine → List ℕ → Option Engine
engine_named live uuid = find (λ e. bytes_eq e.uuid uuid) live

abbrev pub engine_numbered : List Engine → ℕ → Option Engine
engine_numbered live number = find (λ e. e.number == number) live

-- the connection of an engine that is live
abbrev pub conn_in : ℕ → List Engine → Option ℕ
conn_in number live = option_map (λ e. e.conn) (engine_numbered live number)

abbrev pub lists_number : ℕ → List Engine → Bool
lists_number number = list_any (λ e. e.number == number)

-- JOINING

-- on a connection that has a live engine: the same uuid again is a repeat
abbrev pub joining_again : List ℕ → Engine → Joining
joining_again uuid e = if bytes_eq e.uuid uuid then Repeat e.number else AlreadyJoined e.number

-- on another connection, where the uuid has that live engine, or none
abbrev pub joining_new : ℕ → Option Engine → Joining
joining_new next (Some holder) = UuidInUse holder.number
joining_new next None = if next == most_engines then UsedUp else Accepted

abbrev pub joining_at : Engines → List ℕ → Option Engine → Joining
joining_at engines uuid (Some e) = joining_again uuid e
joining_at engines uuid None = joining_new engines.next (engine_named engines.live uuid)

-- what a Join on a connection comes to, by the order of its refusals
abbrev pub joining : Engines → ℕ → List ℕ → Joining
joining engines conn uuid = joining_at engines uuid (engine_on engines.live conn)

abbrev pub is_joined : Joining → Bool
is_joined Accepted = true
is_joined _ = false

-- the uuid of a Join that is accepted
abbrev pub joined : Engines → ℕ → Option Event → Option (List ℕ)
joined engines conn (Some (Join uuid)) = if is_joined (joining engines conn uuid) then Some uuid else None
joined engines conn _ = None

abbrev pub with_engine : ℕ → ℕ → Option (List ℕ) → Engines → Engines
with_engine conn beats None engines = engines
with_engine conn beats (Some uuid) engines =
    record { live = engines.live ++ record { number = engines.next; conn = conn; uuid = uuid; mark = beats } ∷ []; next = engines.next + 1 }

-- ENDS

-- the engine that a Leave ends: the live one on its connection
abbrev pub left_engine : List Engine → ℕ → Option Event → Option ℕ
left_engine live conn (Some Leave) = option_map (λ e. e.number) (engine_on live conn)
left_engine live conn _ = None

abbrev pub without_number : ℕ → Engines → Engines
without_number number engines = record engines { live = filter (λ e. not (e.number == number)) engines.live }

abbrev pub without_left : Option ℕ → Engines → Engines
without_left None engines = engines
without_left (Some number) engines = without_number number engines

-- BEATS

-- whether an echo of a beat raises an engine's mark: it comes on the engine's connection, and is above the mark
abbrev pub raises : ℕ → ℕ → Engine → Bool
raises conn beat e = e.conn == conn && nat_lt e.mark beat

-- the beat of an echo that does something: the beat was made, and raises a mark
abbrev pub echoed : List Engine → ℕ → ℕ → Option Event → Option ℕ
echoed live conn beats (Some (Pong beat)) = if nat_le beat beats && list_any (raises conn beat) live then Some beat else None
echoed live conn beats _ = None

abbrev pub marked : ℕ → ℕ → Engine → Engine
marked conn beat e = if raises conn beat e then record e { mark = beat } else e

abbrev pub with_mark : ℕ → Option ℕ → Engines → Engines
with_mark conn None engines = engines
with_mark conn (Some beat) engines = record engines { live = map (marked conn beat) engines.live }

-- how many beats an engine has missed, of so many that were made
abbrev pub missed : ℕ → Engine → ℕ
missed beats e = beats - e.mark
