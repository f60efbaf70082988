-- The sets of places that are kept beside the tasks.
use Rattle.std.specs.Prelude.{◌≡◌, ◌⊎◌, ⊤, ℕ, nat_le, List, Option, Some, None, Bool, true, false, not, slice_get}
use Rattle.place_sets.specs.Sets.{has, holds_at, Covers, Grows}
use Rattle.place_sets.specs.Lanes.{LaneList, in_lane, LanesGrow}
use Rattle.cluster_defs.specs.declared.engine.Engine.{Engine}
use Rattle.cluster_defs.specs.Engines.{lists_number}
use Rattle.task_table.specs.declared.marks.Marks.{Marks}
use Rattle.task_table.specs.Seen.{Seen}
use Rattle.task_table.specs.Standing.{final_at, direct_at, runs_open}
use Rattle.task_table.specs.Waiting.{is_among}
use Rattle.task_table.specs.Fitting.{fits, hopeless, late}

-- some lane whose number passes has a place
abbrev pub InSome : (ℕ → Bool) → LaneList → ℕ → Type 0
InSome looks lanes i = (n : ℕ) × (looks n ≡ true) × (in_lane lanes n i ≡ true)

-- each set has all places of the tasks that it is for, and maybe more
pub record Marked (ts : List Seen) (m : Marks) : Type 0 where
  pub finals : Covers final_at ts m.finals
  pub directs : Covers direct_at ts m.directs
  pub running : Covers runs_open ts m.running
  -- what may run on an engine is in the set, or in the engine's lane
  pub free : (n i : ℕ) → holds_at (λ t. fits ts t n) ts i ≡ true → (has m.free i ≡ true) ⊎ (in_lane m.lanes n i ≡ true)
  -- what can't run for good, whatever engines are live, is in the set, or in the lane of one that isn't
  pub hopeless : (live : List Engine) (i : ℕ) → holds_at (hopeless ts live) ts i ≡ true → (has m.doubtful i ≡ true) ⊎ InSome (λ n. not (lists_number n live)) m.watches i
  -- what is past its timeout, at whatever moment, is in the set, or in the lane of a moment up to it
  pub late : (now i : ℕ) → holds_at (late now) ts i ≡ true → (has m.doubtful i ≡ true) ⊎ InSome (λ n. nat_le n now) m.deadlines i

-- the sets that hang on how other tasks were settled have a place
pub record Woken (place : ℕ) (m : Marks) : Type 0 where
  pub free : has m.free place ≡ true
  pub doubtful : has m.doubtful place ≡ true

-- each set has a place
pub record HasAt (place : ℕ) (m : Marks) : Type 0 where
  pub finals : has m.finals place ≡ true
  pub directs : has m.directs place ≡ true
  pub running : has m.running place ≡ true
  pub woken : Woken place m

-- each set has all that it had
pub record AllGrow (old new : Marks) : Type 0 where
  pub finals : Grows old.finals new.finals
  pub directs : Grows old.directs new.directs
  pub running : Grows old.running new.running
  pub free : Grows old.free new.free
  pub doubtful : Grows old.doubtful new.doubtful
  pub lanes : LanesGrow old.lanes new.lanes
  pub watches : LanesGrow old.watches new.watches
  pub deadlines : LanesGrow old.deadlines new.deadlines

-- each set has some places
abbrev pub HasAll : List ℕ → Marks → Type 0
HasAll places m = (i : ℕ) → is_among i places ≡ true → HasAt i m

-- the sets that hang on how other tasks were settled have some places
abbrev pub AllWoken : List ℕ → Marks → Type 0
AllWoken places m = (i : ℕ) → is_among i places ≡ true → Woken i m

-- the tasks are as they were but at some places
abbrev pub Aside : List ℕ → List Seen → List Seen → Type 0
Aside places old new = (i : ℕ) → is_among i places ≡ false → slice_get new i ≡ slice_get old i

-- THE LANES OF ONE TASK

-- the lanes have all that they had, but a place in lanes where its task doesn't fit
abbrev pub StaysWhereFit : List Seen → Seen → ℕ → LaneList → LaneList → Type 0
StaysWhereFit ts t place old new = (n i : ℕ) → (i ≡ place → fits ts t n ≡ true) → in_lane old n i ≡ true → in_lane new n i ≡ true

-- the lanes have all that they had of other places
abbrev pub OthersStay : ℕ → LaneList → LaneList → Type 0
OthersStay place old new = (n i : ℕ) → (i ≡ place → ⊥) → in_lane old n i ≡ true → in_lane new n i ≡ true

-- the lane of each engine where a task fits has its place
abbrev pub IsLaned : List Seen → Seen → ℕ → LaneList → Type 0
IsLaned ts t place lanes = (n : ℕ) → fits ts t n ≡ true → in_lane lanes n place ≡ true

-- the same of some engines alone
abbrev pub IsLanedOn : List ℕ → List Seen → Seen → ℕ → LaneList → Type 0
IsLanedOn engines ts t place lanes = (n : ℕ) → is_among n engines ≡ true → fits ts t n ≡ true → in_lane lanes n place ≡ true

-- where a task can't run for good, the lane of an engine that isn't live has its place
abbrev pub IsWatched : List Seen → Seen → ℕ → LaneList → Type 0
IsWatched ts t place lanes = (live : List Engine) → hopeless ts live t ≡ true → InSome (λ n. not (lists_number n live)) lanes place

-- where a task is past its timeout, the lane of a moment up to the present one has its place
abbrev pub IsTimed : Seen → ℕ → LaneList → Type 0
IsTimed t place lanes = (now : ℕ) → late now t ≡ true → InSome (λ n. nat_le n now) lanes place

-- what is so of the lanes and the task at a place, before and after a change of the lanes: others stay, and the place is
-- where it should be if that was told
abbrev pub LanedFor : List Seen → ℕ → LaneList → LaneList → Bool → Option Seen → Type 0
LanedFor ts place old new told None = OthersStay place old new
LanedFor ts place old new told (Some t) = (told ≡ true → IsLaned ts t place new) × StaysWhereFit ts t place old new

abbrev pub LanedAt : List Seen → ℕ → LaneList → LaneList → Bool → Type 0
LanedAt ts place old new told = LanedFor ts place old new told (slice_get ts place)

abbrev pub WatchedFor : List Seen → ℕ → LaneList → Option Seen → Type 0
WatchedFor ts place new None = ⊤
WatchedFor ts place new (Some t) = IsWatched ts t place new

abbrev pub WatchedAt : List Seen → ℕ → LaneList → LaneList → Bool → Type 0
WatchedAt ts place old new told = (told ≡ true → WatchedFor ts place new (slice_get ts place)) × OthersStay place old new

abbrev pub TimedFor : ℕ → LaneList → Option Seen → Type 0
TimedFor place new None = ⊤
TimedFor place new (Some t) = IsTimed t place new

abbrev pub TimedAt : List Seen → ℕ → LaneList → LaneList → Bool → Type 0
TimedAt ts place old new told = (told ≡ true → TimedFor place new (slice_get ts place)) × OthersStay place old new
