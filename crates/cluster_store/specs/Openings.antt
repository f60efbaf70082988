-- Which lists of entries a store goes on from.
use Rattle.std.specs.Prelude.{◌≡◌, ◌<◌, ℕ, suc, ◌⊎◌, List, [], ◌∷◌, ◌++◌, length, take, reverse, slice_get, Some, None, Ok, Err}
use Rattle.cluster_types.specs.declared.config.Config.{Config}
use Rattle.cluster_types.specs.declared.entry.Input.TheVariants.{Open}
use Rattle.cluster_types.specs.declared.entry.Entry.{Entry}
use Rattle.cluster_types.specs.declared.entry.Entry.TheVariants.{Input}
use Rattle.cluster_defs.specs.Scheduling.{due}
use Rattle.cluster_defs.specs.Histories.{History, facts, Legal, kept, decide_all}
use Rattle.task_journal.specs.declared.fault.OpenFault.{OpenFault}
use Rattle.task_journal.specs.declared.fault.OpenFault.TheVariants.{NotAJournal, Damaged, DiskFault, OutOfMemory}
use Rattle.task_journal.specs.declared.found.Found.{Found}
use Rattle.disk_model.specs.Crashes.{NoMore}
use Rattle.task_journal.specs.Journal.{journal, last_of, StandsFor, IsSame}

-- entries in order that may stand behind a history: it is then legal, and all of it is kept
pub record MayStand (before : History) (list : List Entry) : Type 0 where
  pub legal : Legal (reverse list ++ before)
  pub all_kept : kept (reverse list ++ before) ≡ reverse list ++ before

-- no decision is due after them
abbrev pub Rests : History → List Entry → Type 0
Rests before list = due (facts (reverse list ++ before)) ≡ None

-- a list that a store goes on from
abbrev pub IsFit : List Entry → Type 0
IsFit list = MayStand [] list × Rests [] list

-- the first entry, counted from 0, that may not stand behind those before it
pub record IsFirstBad (before : History) (list : List Entry) (n : ℕ) : Type 0 where
  pub within : n < length list
  pub front : MayStand before (take n list)
  pub not : MayStand before (take (suc n) list) → ⊥

-- all may stand, and a decision is due
pub record IsCut (before : History) (list : List Entry) : Type 0 where
  pub all : MayStand before list
  pub not : Rests before list → ⊥

-- the place where a list is refused: that of the record of the first bad entry, or that of the first closed gate where the
-- list is cut
abbrev pub IsRefusedAt : Found → ℕ → Type 0
IsRefusedAt found place =
    ((n : ℕ) × IsFirstBad [] found.entries n × (slice_get found.places n ≡ Some place))
    ⊎ (IsCut [] found.entries × (last_of found.places ≡ Some place))

-- why a store isn't opened over a disk: it holds no journal, or a damaged one, or one whose list is refused
abbrev pub WhyNot : List ℕ → OpenFault → Type 0
WhyNot octets (NotAJournal place) = journal octets ≡ Err (NotAJournal place)
WhyNot octets (Damaged place) = (journal octets ≡ Err (Damaged place)) ⊎ ((found : Found) × (journal octets ≡ Ok found) × IsRefusedAt found place)
WhyNot octets DiskFault = Unit {0}
WhyNot octets OutOfMemory = Unit {0}

-- the history goes on with an Open and the decisions that are then due
abbrev pub opened : Config → ℕ → History → History
opened config moment history = decide_all (Input (Open moment config.scheme config.hwm config.misses) ∷ history)

-- the history goes on from a list that is fit, for which the disk stands where it tells
pub record IsOpened (tells : Type 0) (octets : List ℕ) (config : Config) (moment : ℕ) (history : History) : Type 0 where
  pub list : List Entry
  pub stands : tells → StandsFor octets list
  pub fit : IsFit list
  pub is : history ≡ opened config moment (reverse list)

-- a disk stands for a list that is fit with what is kept of the Open and its decisions behind it
pub record HasOpen (octets : List ℕ) (config : Config) (moment : ℕ) (content : List ℕ) : Type 0 where
  pub history : History
  pub from : IsOpened (Unit {0}) octets config moment history
  pub stands : StandsFor content (reverse (kept history))

-- at a refusal a crash leaves what it might have left before, or always what stands for the same entries, or for these with
-- what is kept of the Open
abbrev pub Exits : (List ℕ → Type 0) → List ℕ → Config → ℕ → (List ℕ → Type 0) → Type 0
Exits old octets config moment new = NoMore old new ⊎ ((c : List ℕ) → new c → IsSame c octets ⊎ HasOpen octets config moment c)
