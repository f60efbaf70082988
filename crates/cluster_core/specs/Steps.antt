-- One step of a core: an input, and all decisions that are then due.
use Rattle.std.specs.Prelude.{◌≡◌, ◌≤◌, ◌+◌, ℕ, suc, ⊤, nat_lt, Bool, true, false, ◌||◌, List, [], ◌∷◌, ◌++◌, length, reverse, Option, Some, None, Result, Ok, Err, if◌then◌else◌}
use Rattle.cluster_types.specs.declared.event.Event.{Event}
use Rattle.cluster_types.specs.declared.event.Reason.{Reason}
use Rattle.cluster_types.specs.declared.entry.Entry.{Entry}
use Rattle.cluster_types.specs.declared.entry.Entry.TheVariants.{Input}
use Rattle.cluster_types.specs.declared.entry.Input.TheVariants.{Open}
use Rattle.cluster_types.specs.declared.entry.Input.{Input as InputType}
use Rattle.cluster_types.specs.declared.out.Out.{Out}
use Rattle.cluster_defs.specs.Scheduling.{due, is_kept}
use Rattle.cluster_defs.specs.Histories.{History, facts, Legal, place, asks_shutdown, is_stopping, decide_all}
use Rattle.cluster_defs.specs.Outs.{outs_from}
use Rattle.cluster_state.specs.Plain.{Plain, plain_of, InTime}
use Rattle.cluster_core.specs.declared.size.HistorySize.{HistorySize}
use Rattle.cluster_core.specs.Size.{size_since}

-- what contracts see of a core: its history, the newest entry first, for how many entries it has room, and how much may
-- come after an Open
pub record CoreView : Type 0 where
  pub history : History
  pub spare : ℕ
  pub limits : HistorySize

-- what a plan has worked out: an input and the decisions after it, in order, what they send, the entries that are
-- kept, the data after them, the place of the newest of them, and whether a shutdown was asked
pub record PlanView : Type 0 where
  pub input : InputType
  pub decisions : List Entry
  pub outs : List Out
  pub kept : List Entry
  pub plain : Plain
  pub place : ℕ
  pub stops : Bool

-- the history after a plan's input and decisions
abbrev pub planned : History → PlanView → History
planned old p = reverse p.decisions ++ Input p.input ∷ old

-- all moments are before the year 10000
abbrev pub AllInTime : History → Type 0
AllInTime [] = ⊤
AllInTime (e ∷ older) = InTime e × AllInTime older

abbrev pub kept_one : Bool → Entry → List Entry
kept_one true e = e ∷ []
kept_one false e = []

-- the kept ones of the entries from a place on, in order
abbrev pub kept_from : ℕ → History → List Entry
kept_from at [] = []
kept_from at (e ∷ older) = if nat_lt (length older) at then [] else kept_from at older ++ kept_one (is_kept (facts older) e) e

-- a legal history in time, with the data that are read off it
pub record IsReadOff (history : History) (p : Plain) (at : ℕ) : Type 0 where
  pub legal : Legal history
  pub time : AllInTime history
  pub data_are : p ≡ plain_of (facts history)
  pub place_is : at ≡ place history

-- a legal history in time after which no decision is due, with what a core has counted of it
pub record IsCounted (history : History) (live : ℕ) (stops : Bool) (size : HistorySize) : Type 0 where
  pub legal : Legal history
  pub rests : due (facts history) ≡ None
  pub time : AllInTime history
  pub live_is : live ≡ length (facts history).connections
  pub stops_is : stops ≡ is_stopping history
  pub size_is : size ≡ size_since history

-- outs, kept entries and data are those of the input and the decisions so far
pub record IsGrown (old : History) (p : PlanView) : Type 0 where
  pub stands : IsReadOff (planned old p) p.plain p.place
  pub outs_are : p.outs ≡ outs_from (length old) (planned old p)
  pub kept_are : p.kept ≡ kept_from (length old) (planned old p)
  pub stops_is : p.stops ≡ is_stopping (planned old p)

-- a plan that has grown, and after which no decision is due where it keeps nothing
pub record RestsUnkept (old : History) (p : PlanView) : Type 0 where
  pub grown : IsGrown old p
  pub rests : p.kept ≡ [] → due (facts (planned old p)) ≡ None

-- a plan for a core: its decisions are all that are due after its input, and the core has room for them
pub record IsPlan (core : CoreView) (p : PlanView) : Type 0 where
  pub grown : IsGrown core.history p
  pub all : planned core.history p ≡ decide_all (Input p.input ∷ core.history)
  pub room : length p.decisions + 1 ≤ core.spare

-- an event, where a message isn't junk
abbrev pub understood : Result Event Reason → Option Event
understood (Ok event) = Some event
understood (Err reason) = None

-- whether a shutdown was asked since the last Open, after an input
abbrev pub stops_after : Bool → InputType → Option Event → Bool
stops_after was (Open moment scheme hwm misses) event = false
stops_after was input event = asks_shutdown event || was

-- the place of an entry behind one at a place
abbrev pub entry_place : Entry → ℕ → ℕ
entry_place (Input (Open moment scheme hwm misses)) at = 0
entry_place _ at = suc at
