-- How many tasks there are of some classes, each at a number of its own.
use Rattle.std.specs.Prelude.{◌≡◌, ⊤, ℕ, ◌+◌, List, slice_get, Option, Some, None, not, ◌&&◌, if◌then◌else◌, count_by}
use Rattle.std.specs.Option.{is_some, option_and_then}
use Rattle.std.specs.Global.{Vec}
use Rattle.place_sets.specs.Sets.{holds_at}
use Rattle.place_sets.specs.Counts.{count_of, hits, Moved}
use Rattle.cluster_types.specs.declared.record.Record.{Record}
use Rattle.cluster_defs.specs.RecordAnswers.{waits_in}
use Rattle.task_table.specs.declared.tallies.Classes.{Classes}
use Rattle.task_table.specs.declared.tallies.Tallies.{Tallies}
use Rattle.task_table.specs.Seen.{Seen}
use Rattle.task_table.specs.Loading.{loaded, Counted}

-- WHERE A TASK IS COUNTED

-- the engine that a Direct runs on
abbrev pub direct_on : Record → Option ℕ
direct_on r = if r.running && r.direct then r.engine else None

-- the engine that a task finished on, where it isn't purged
abbrev pub finished_on : Record → Option ℕ
finished_on r = if is_some r.settled && not r.purged then r.engine else None

-- number 0, where a Submit waits without an engine
abbrev pub waiting_at : Record → Option ℕ
waiting_at r = if waits_in r then Some 0 else None

abbrev pub direct_class : Seen → Option ℕ
direct_class t = direct_on t.row

abbrev pub finished_class : Seen → Option ℕ
finished_class t = finished_on t.row

abbrev pub waiting_class : Seen → Option ℕ
waiting_class t = waiting_at t.row

abbrev pub classes : Seen → Classes
classes t = record { loads = loaded t; directs = direct_class t; finished = finished_class t; unassigned = waiting_class t }

abbrev pub no_classes : Classes
no_classes = record { loads = None; directs = None; finished = None; unassigned = None }

-- of the task at a place
abbrev pub class_at : (Seen → Option ℕ) → List Seen → ℕ → Option ℕ
class_at class ts place = option_and_then class (slice_get ts place)

abbrev pub classes_at : List Seen → ℕ → Classes
classes_at ts place = record {
  loads = class_at loaded ts place;
  directs = class_at direct_class ts place;
  finished = class_at finished_class ts place;
  unassigned = class_at waiting_class ts place;
}

-- HOW MANY ARE COUNTED

-- how many tasks a class counts at a number
abbrev pub tally_in : (Seen → Option ℕ) → List Seen → ℕ → ℕ
tally_in class ts n = count_by (λ t. hits (class t) n) ts

-- how many of those at some places
abbrev pub tally_at : (Seen → Option ℕ) → List Seen → List ℕ → ℕ → ℕ
tally_at class ts places n = count_by (holds_at (λ t. hits (class t) n) ts) places

-- the counts tell those of a class, where there are any
abbrev pub Told : (Seen → Option ℕ) → List Seen → Option (Vec ℕ) → Type 0
Told class ts None = ⊤
Told class ts (Some counts) = (n : ℕ) → count_of counts.items n ≡ tally_in class ts n

-- each tells those of its class
pub record AllTold (ts : List Seen) (tallies : Tallies) : Type 0 where
  pub loads : Counted ts tallies.loads
  pub directs : Told direct_class ts tallies.directs
  pub finished : Told finished_class ts tallies.finished
  pub unassigned : Told waiting_class ts tallies.unassigned

abbrev pub no_tallies : Tallies
no_tallies = record { loads = None; directs = None; finished = None; unassigned = None }

-- CHANGES

-- a task that was counted at some numbers is counted at others
pub record Followed (old : Tallies) (before after : Classes) (new : Tallies) : Type 0 where
  pub loads : Moved old.loads before.loads after.loads new.loads
  pub directs : Moved old.directs before.directs after.directs new.directs
  pub finished : Moved old.finished before.finished after.finished new.finished
  pub unassigned : Moved old.unassigned before.unassigned after.unassigned new.unassigned

-- those at some places aren't counted any more, where there are counts
abbrev pub Less : (Seen → Option ℕ) → List Seen → List ℕ → Option (Vec ℕ) → Option (Vec ℕ) → Type 0
Less class ts places None new = new ≡ None
Less class ts places (Some old) None = ⊤
Less class ts places (Some old) (Some new) = (n : ℕ) → count_of new.items n + tally_at class ts places n ≡ count_of old.items n

-- those at some places are counted too, where there are counts
abbrev pub More : (Seen → Option ℕ) → List Seen → List ℕ → Option (Vec ℕ) → Option (Vec ℕ) → Type 0
More class ts places None new = new ≡ None
More class ts places (Some old) None = ⊤
More class ts places (Some old) (Some new) = (n : ℕ) → count_of new.items n ≡ count_of old.items n + tally_at class ts places n

pub record AllLess (ts : List Seen) (places : List ℕ) (old new : Tallies) : Type 0 where
  pub loads : Less loaded ts places old.loads new.loads
  pub directs : Less direct_class ts places old.directs new.directs
  pub finished : Less finished_class ts places old.finished new.finished
  pub unassigned : Less waiting_class ts places old.unassigned new.unassigned

pub record AllMore (ts : List Seen) (places : List ℕ) (old new : Tallies) : Type 0 where
  pub loads : More loaded ts places old.loads new.loads
  pub directs : More direct_class ts places old.directs new.directs
  pub finished : More finished_class ts places old.finished new.finished
  pub unassigned : More waiting_class ts places old.unassigned new.unassigned
