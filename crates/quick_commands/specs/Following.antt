-- How a disk follows a journal that comes in.
use Rattle.std.specs.Prelude.{◌≡◌, ◌<◌, ◌≤◌, ◌⊎◌, ℕ, List, [], ◌++◌, length, Option}
use Rattle.cluster_types.specs.declared.entry.Entry.{Entry}
use Rattle.command_words.specs.declared.ending.Ending.{Ending}
use Rattle.command_words.specs.declared.ending.Ending.TheVariants.{Done, ReadFault, DiskFault, Damaged, OutOfMemory, StandbyDiffers, PrimaryRefused}
use Rattle.database_text.specs.Texts.{IsDamaged, Told}
use Rattle.disk_model.specs.Crashes.{NoMore}
use Rattle.edges.specs.Streams.{IsAtEnd}
use Rattle.journal_standby.specs.Standbys.{BeginsWith, DivergesAt}
use Rattle.journal_standby.specs.Steps.{EndsStep}
use Rattle.journal_standby.specs.declared.fault.FollowFault.{FollowFault}
use Rattle.journal_standby.specs.declared.fault.FollowFault.TheVariants.{Diverged, Reopen}
use Rattle.journal_standby.specs.declared.fault.FollowFault.TheVariants as follows
use Rattle.task_journal.specs.Journal.{StandsFor}
use Rattle.task_journal.specs.Settled.{Unharmed}

-- the most octets of an input that is followed
abbrev pub most_input : ℕ
most_input = 2147483648

-- an input is the journal of a list, and isn't too long
pub record IsPrimary (octets : List ℕ) (primary : List Entry) : Type 0 where
  pub stands : StandsFor octets primary
  pub short : length octets ≤ most_input

-- an input is refused at a place: it holds no journal, or a damaged one, or it is too long
abbrev pub IsRefusedAt : List ℕ → ℕ → Type 0
IsRefusedAt octets place = IsDamaged octets place ⊎ ((most_input < length octets) × (place ≡ most_input))

-- a disk stands for the list that it stood for with more of the primary's list behind it, which ends with a step
pub record HasMore (content : List ℕ) (primary : List Entry) (c : List ℕ) : Type 0 where
  pub list : List Entry
  pub stood : StandsFor content list
  pub more : List Entry
  pub ends : EndsStep primary (list ++ more)
  pub stands : StandsFor c (list ++ more)

-- what a crash at any moment may leave: what it might have left before, or what stands for the same entries, or for these with
-- more of the primary's list
abbrev pub MayHaveMore : List ℕ → List Entry → (List ℕ → Type 0) → List ℕ → Type 0
MayHaveMore content primary old c = Unharmed old content c ⊎ HasMore content primary c

-- a list was followed to the primary's, for which all that a crash leaves stands
pub record IsFollowed (content : List ℕ) (primary : List Entry) (new : List ℕ → Type 0) : Type 0 where
  pub list : List Entry
  pub stood : StandsFor content list
  pub begins : BeginsWith primary list
  pub keeps : (c : List ℕ) → new c → StandsFor c primary

-- a list isn't a front of the primary's, first at a place; all that a crash leaves stands for it
pub record HasDiverged (content : List ℕ) (primary : List Entry) (new : List ℕ → Type 0) (place : ℕ) : Type 0 where
  pub list : List Entry
  pub stood : StandsFor content list
  pub differs : DivergesAt list primary place
  pub keeps : (c : List ℕ) → new c → StandsFor c list

-- how it ends once the disk is opened, whose list is this one
abbrev pub OpenedEnds : (tells : Type 0) → (list primary : List Entry) → (new : List ℕ → Type 0) → Ending → Type 0
OpenedEnds tells list primary new Done = BeginsWith primary list × (tells → (c : List ℕ) → new c → StandsFor c primary)
OpenedEnds tells list primary new (StandbyDiffers place) = DivergesAt list primary place × (tells → (c : List ℕ) → new c → StandsFor c list)
OpenedEnds tells list primary new DiskFault = Unit {0}
OpenedEnds tells list primary new OutOfMemory = Unit {0}
OpenedEnds tells list primary new _ = ⊥

-- what a crash leaves of a disk that stands for a list: a list that begins with it, and is it or ends with a step of the primary's
pub record IsLonger (list primary : List Entry) (c : List ℕ) : Type 0 where
  pub more : List Entry
  pub ends : (more ≡ []) ⊎ EndsStep primary (list ++ more)
  pub stands : StandsFor c (list ++ more)

-- how it ends where a primary's list is followed
abbrev pub ListEnds : (tells : Type 0) → List ℕ → List Entry → (old new : List ℕ → Type 0) → Ending → Type 0
ListEnds tells content primary old new Done = tells → IsFollowed content primary new
ListEnds tells content primary old new (StandbyDiffers place) = tells → HasDiverged content primary new place
ListEnds tells content primary old new (Damaged place) = NoMore old new × (tells → IsDamaged content place)
ListEnds tells content primary old new DiskFault = tells → (c : List ℕ) → new c → MayHaveMore content primary old c
ListEnds tells content primary old new OutOfMemory = tells → (c : List ℕ) → new c → MayHaveMore content primary old c
ListEnds tells content primary old new _ = ⊥

-- how it ends where an input is followed that is the journal of a list
abbrev pub OfPrimary : (tells : Type 0) → List ℕ → Option (List ℕ) → (old new : List ℕ → Type 0) → Ending → Type 0
OfPrimary tells content left old new end = Told left (λ octets. (primary : List Entry) × IsPrimary octets primary × ListEnds tells content primary old new end)

-- how it ends where an input has no list to be followed
abbrev pub InputEnds : Option (List ℕ) → Ending → Type 0
InputEnds left ReadFault = Unit {0}
InputEnds left OutOfMemory = Unit {0}
InputEnds left (PrimaryRefused place) = Told left (λ octets. IsRefusedAt octets place)
InputEnds left _ = ⊥

-- how a follow ends: the input is read first, and then the disk
abbrev pub FollowEnds : (tells : Type 0) → List ℕ → (left rest : Option (List ℕ)) → (old new : List ℕ → Type 0) → Ending → Type 0
FollowEnds tells content left rest old new ReadFault = NoMore old new
FollowEnds tells content left rest old new (PrimaryRefused place) = NoMore old new × Told left (λ octets. IsRefusedAt octets place)
FollowEnds tells content left rest old new OutOfMemory = NoMore old new ⊎ OfPrimary tells content left old new OutOfMemory
FollowEnds tells content left rest old new Done = IsAtEnd rest × OfPrimary tells content left old new Done
FollowEnds tells content left rest old new (StandbyDiffers place) = OfPrimary tells content left old new (StandbyDiffers place)
FollowEnds tells content left rest old new (Damaged place) = OfPrimary tells content left old new (Damaged place)
FollowEnds tells content left rest old new DiskFault = OfPrimary tells content left old new DiskFault
FollowEnds tells content left rest old new _ = ⊥

-- how it ends where a list isn't followed
abbrev pub end_of : FollowFault → Ending
end_of (Diverged place) = StandbyDiffers place
end_of Reopen = DiskFault
end_of follows.DiskFault = DiskFault
end_of follows.OutOfMemory = OutOfMemory

-- what a crash at any moment of a follow may leave
abbrev pub MayLeaveFollowed : List ℕ → List ℕ → (List ℕ → Type 0) → List ℕ → Type 0
MayLeaveFollowed content octets old c = Unharmed old content c ⊎ ((primary : List Entry) × IsPrimary octets primary × HasMore content primary c)
