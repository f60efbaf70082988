-- What is made of a list whose steps are made again.
use Rattle.std.specs.Prelude.{◌≡◌, ◌<◌, ◌≤◌, ℕ, List, [], ◌++◌, length, take, reverse}
use Rattle.cluster_types.specs.declared.entry.Entry.{Entry}
use Rattle.cluster_types.specs.declared.entry.Entry.TheVariants.{Input}
use Rattle.cluster_defs.specs.Histories.{History}
use Rattle.task_journal.specs.declared.fault.OpenFault.{OpenFault}
use Rattle.task_journal.specs.declared.fault.OpenFault.TheVariants.{NotAJournal, Damaged, DiskFault, OutOfMemory}
use Rattle.task_journal.specs.declared.found.Found.{Found}
use Rattle.cluster_store.specs.declared.remaking.Remade.{Remade}
use Rattle.cluster_store.specs.declared.remaking.Remade.TheVariants.{Made, Bad, Cut}
use Rattle.cluster_store.specs.Openings.{MayStand, Rests, IsFirstBad, IsCut, IsFit, IsRefusedAt}

abbrev pub IsDecision : Entry → Type 0
IsDecision (Input input) = ⊥
IsDecision _ = Unit {0}

-- a step of so many entries that a list begins with is made
pub record IsRemade (old new : History) (list : List Entry) (n : ℕ) : Type 0 where
  pub some : 0 < n
  pub within : n ≤ length list
  pub history : new ≡ reverse (take n list) ++ old
  pub stands : MayStand old (take n list)
  pub rests : Rests old (take n list)

-- what is made of the first step of a list
abbrev pub StepRemakes : History → History → List Entry → Remade → Type 0
StepRemakes old new list (Made n) = IsRemade old new list n
StepRemakes old new list (Bad n) = IsFirstBad old list n
StepRemakes old new list Cut = IsCut old list

-- what is made of a whole list
abbrev pub Remakes : History → List Entry → Remade → Type 0
Remakes new list (Made n) = IsFit list × (new ≡ reverse list)
Remakes new list (Bad n) = IsFirstBad [] list n
Remakes new list Cut = IsCut [] list

-- why a list is refused
abbrev pub Refuses : Found → OpenFault → Type 0
Refuses found (NotAJournal place) = ⊥
Refuses found (Damaged place) = IsRefusedAt found place
Refuses found DiskFault = ⊥
Refuses found OutOfMemory = Unit {0}
