-- What the facts of a history are, said over the whole list.
use Rattle.std.specs.Prelude.{◌≡◌, ◌≤◌, ℕ, ◌==◌, nat_le, List, [], ◌∷◌, ◌++◌, length, Option, Some, None, Bool, true, false, ◌&&◌, ◌||◌, if◌then◌else◌, filter, filter_map, bytes_eq}
use Rattle.std.specs.List.{list_any, AllByRecursion}
use Rattle.cluster_types.specs.declared.event.Event.{Event}
use Rattle.cluster_types.specs.declared.event.Event.TheVariants.{Reply, Pong}
use Rattle.cluster_types.specs.declared.entry.Input.TheVariants.{Open, Beat, Time, In}
use Rattle.cluster_types.specs.declared.entry.Entry.{Entry}
use Rattle.cluster_types.specs.declared.entry.Entry.TheVariants.{Input}
use Rattle.cluster_defs.specs.Words.{Id}
use Rattle.cluster_defs.specs.Engines.{joined}
use Rattle.cluster_defs.specs.declared.attempt.Ending.{Ending}
use Rattle.cluster_defs.specs.declared.attempt.Ending.TheVariants.{Badly, Declines}
use Rattle.cluster_defs.specs.Tasks.{ending, runs, runs_at, counts}
use Rattle.cluster_defs.specs.Facts.{Facts, event_in, is_direct_id}
use Rattle.cluster_defs.specs.Steps.{engine_end}
use Rattle.cluster_defs.specs.Histories.{History, facts}
use Rattle.cluster_defs.specs.Lives.{is_open}
use Rattle.cluster_defs.specs.Uses.{joins_as}

-- a history and all that it begins with, but for the empty one
abbrev pub beginnings : History → List History
beginnings [] = []
beginnings (e ∷ older) = (e ∷ older) ∷ beginnings older

-- THE CLOCK

abbrev pub since_open : History → History
since_open [] = []
since_open (e ∷ older) = if is_open e then [] else e ∷ since_open older

abbrev pub is_beat : Entry → Bool
is_beat (Input (Beat moment word)) = true
is_beat _ = false

-- beats are numbered from 1 in each opening
abbrev pub BeatsAreCounted : Type 0
BeatsAreCounted = (history : History) → (facts history).beats ≡ length (filter is_beat (since_open history))

-- the moments that tell the time: those of the Opens, Beats and Times
abbrev pub told_moment : Entry → Option ℕ
told_moment (Input (Open moment scheme hwm misses)) = Some moment
told_moment (Input (Beat moment word)) = Some moment
told_moment (Input (Time moment word)) = Some moment
told_moment _ = None

-- a number is one of some, and none of them is greater
pub record IsGreatest (n : ℕ) (numbers : List ℕ) : Type 0 where
  pub none_greater : AllByRecursion (λ m. m ≤ n) numbers
  pub is_one : list_any (λ m. m == n) numbers ≡ true

-- the greatest of them, and 0 before the first
abbrev pub NowIsGreatest : Type 0
NowIsGreatest = (history : History) → IsGreatest (facts history).now (0 ∷ filter_map told_moment history)

-- ENGINES

-- whether the newest entry is the accepted Join that gets a number
abbrev pub is_join : ℕ → Facts → Entry → Option Event → Bool
is_join number f (Input (In conn moment word message)) event = joins_as f.engines.next (joined f.engines conn event) number
is_join number f e event = false

-- the beat of an echo on a connection, where this beat was made
abbrev pub echo_on : ℕ → Facts → Entry → Option Event → List ℕ
echo_on conn f (Input (In on moment word message)) (Some (Pong beat)) = if conn == on && nat_le beat f.beats then beat ∷ [] else []
echo_on conn f e event = []

-- the beats that an engine with a number and a connection is credited with: the last one made before its Join, and those
-- that it echoed since
abbrev pub credited : ℕ → ℕ → History → List ℕ
credited number conn [] = []
credited number conn (e ∷ older) =
    if is_join number (facts older) e (event_in (facts older) e) then (facts older).beats ∷ []
    else echo_on conn (facts older) e (event_in (facts older) e) ++ credited number conn older

-- the mark of each live engine is the greatest of them
abbrev pub MarkIsGreatest : Type 0
MarkIsGreatest = (history : History) → AllByRecursion (λ e. IsGreatest e.mark (credited e.number e.conn history)) (facts history).engines.live

-- ATTEMPTS

abbrev pub is_badly : Ending → Bool
is_badly Badly = true
is_badly _ = false

abbrev pub is_decline : Ending → Bool
is_decline Declines = true
is_decline _ = false

-- whether a reply is valid for an id and ends its attempt in a way
abbrev pub replies : (Ending → Bool) → Facts → Entry → Option Event → Id → Bool
replies way f (Input (In conn moment word message)) (Some (Reply name header ok declined)) id =
    (bytes_eq name id && counts f.engines.live conn header (f.task id)) && way (ending (is_direct_id f id) ok declined)
replies way f e event id = false

-- whether an entry ends the engine of an id's current attempt
abbrev pub ends_at : Facts → Option ℕ → Id → Bool
ends_at f None id = false
ends_at f (Some n) id = runs_at n (f.task id).last

-- whether an entry ends the current attempt of an id by an error reply, by its engine's end or by an Open
abbrev pub spends_in : Facts → Entry → Option Event → Id → Bool
spends_in f e event id = (replies is_badly f e event id || ends_at f (engine_end f.engines.live e event) id) || (is_open e && runs (f.task id).last)

-- of a history, its newest entry
abbrev pub spends : Id → History → Bool
spends id [] = false
spends id (e ∷ older) = spends_in (facts older) e (event_in (facts older) e) id

-- what a task has spent are the entries that ended an attempt so
abbrev pub SpentIsCounted : Type 0
SpentIsCounted = (history : History) (id : Id) → ((facts history).task id).spent ≡ length (filter (spends id) (beginnings history))

-- whether the newest entry is a reply by which an engine declines a task
abbrev pub declines : Id → ℕ → History → Bool
declines id n [] = false
declines id n (e ∷ older) = replies is_decline (facts older) e (event_in (facts older) e) id && runs_at n ((facts older).task id).last

-- the engines that are excluded are those that declined
abbrev pub ExcludedDeclined : Type 0
ExcludedDeclined =
    (history : History) (id : Id) (n : ℕ) → list_any (λ m. m == n) ((facts history).task id).excluded ≡ list_any (declines id n) (beginnings history)
