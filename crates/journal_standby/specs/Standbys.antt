-- What contracts see of a standby, and what following a primary comes to.
use Rattle.std.specs.Prelude.{◌≡◌, ◌<◌, ◌+◌, ℕ, Bool, true, false, List, ◌++◌, length, take, drop, slice_get, Option, Some, None, All}
use Rattle.cluster_types.specs.declared.entry.Entry.{Entry}
use Rattle.record_codec.specs.Spelling.{IsWithinLimits}
use Rattle.task_journal.specs.Journal.{StandsFor}
use Rattle.journal_standby.specs.declared.fault.FollowFault.{FollowFault}
use Rattle.journal_standby.specs.declared.fault.FollowFault.TheVariants.{Diverged, Reopen, DiskFault, OutOfMemory}
use Rattle.journal_standby.specs.Batches.{joined}

-- the disk, whether a call of it failed, and the list that it stands for
pub record StandbyView (D : Type 0) : Type 0 where
  pub disk : D
  pub failed : Bool
  pub list : List Entry

-- whatever a crash leaves stands for a list that begins with this one
abbrev pub KeepsList : (List ℕ → Type 0) → List Entry → Type 0
KeepsList image list = (c : List ℕ) → image c → (more : List Entry) × StandsFor c (list ++ more)

-- A list is held by a disk: its entries are within the limits of records, whatever a crash leaves begins with it, and the disk
-- stands for it where no call of it has failed.
pub record IsHeld (tells : Type 0) (content : List ℕ) (image : List ℕ → Type 0) (failed : Bool) (list : List Entry) : Type 0 where
  pub each : All IsWithinLimits list
  pub keeps : tells → KeepsList image list
  pub stands : tells → failed ≡ false → StandsFor content list

-- a list begins with these entries
pub record BeginsWith (list front : List Entry) : Type 0 where
  pub more : List Entry
  pub parts : list ≡ front ++ more

-- the first place at which a list isn't the primary's: another entry stands there, or the primary's list ends
pub record DivergesAt (list primary : List Entry) (place : ℕ) : Type 0 where
  pub same : take place list ≡ take place primary
  pub within : place < length list
  pub differ : slice_get list place ≡ slice_get primary place → ⊥

-- where a list is no front of the primary's, if it isn't
abbrev pub IsDivergence : List Entry → List Entry → Option ℕ → Type 0
IsDivergence list primary None = BeginsWith primary list
IsDivergence list primary (Some place) = DivergesAt list primary place

-- what the primary's list has behind a list of its front
abbrev pub lacking : List Entry → List Entry → List Entry
lacking list primary = drop (length list) primary

-- a disk stands for a list with the first of these batches behind it, so many
pub record HasFirst (list : List Entry) (batches : List (List Entry)) (octets : List ℕ) : Type 0 where
  pub count : ℕ
  pub stands : StandsFor octets (list ++ joined (take count batches))

-- a standby has the primary's list, which began with its own; so many entries were added
pub record HasFollowed {D : Type 0} (old new : StandbyView D) (primary : List Entry) (added : ℕ) : Type 0 where
  pub begins : BeginsWith primary old.list
  pub list : new.list ≡ primary
  pub count : length old.list + added ≡ length primary
  pub worked : old.failed ≡ false
  pub works : new.failed ≡ false

-- why a list isn't followed: the standby's is no front of it, or else a call of its disk failed, earlier or now
abbrev pub WhyNotFollowed : Bool → List Entry → List Entry → FollowFault → Type 0
WhyNotFollowed failed list primary (Diverged place) = DivergesAt list primary place
WhyNotFollowed failed list primary Reopen = BeginsWith primary list × (failed ≡ true)
WhyNotFollowed failed list primary DiskFault = BeginsWith primary list × (failed ≡ false)
WhyNotFollowed failed list primary OutOfMemory = Unit {0}
