-- What a replay over a database leaves: what it wrote, and what a crash may leave of the disk.
use Rattle.std.specs.Prelude.{◌≡◌, ◌⊎◌, ℕ, List, ◌++◌, reverse, Option, Some, None}
use Rattle.cluster_types.specs.declared.config.Config.{Config}
use Rattle.cluster_types.specs.declared.entry.Entry.{Entry}
use Rattle.cluster_defs.specs.Histories.{History}
use Rattle.command_words.specs.declared.command.ReplayOptions.{ReplayOptions}
use Rattle.command_words.specs.declared.ending.Ending.{Ending}
use Rattle.command_words.specs.declared.ending.Ending.TheVariants.{Done, Usage, BadTape, Damaged, HistoryFull, Different, StandbyDiffers, PrimaryRefused}
use Rattle.edges.specs.Streams.{Added, IsAtEnd, AddedFront}
use Rattle.cluster_core.specs.declared.size.HistorySize.{HistorySize}
use Rattle.cluster_store.specs.Openings.{IsFit, HasOpen, WhyNot}
use Rattle.cluster_store.specs.Stores.{written}
use Rattle.disk_model.specs.Crashes.{NoMore}
use Rattle.task_journal.specs.declared.fault.OpenFault.TheVariants as faults
use Rattle.task_journal.specs.Journal.{StandsFor, IsSame}
use Rattle.task_journal.specs.Settled.{Unharmed, Spared}
use Rattle.tape.specs.declared.record.TapeRecord.{TapeRecord}
use Rattle.tape.specs.Spelling.{all_spelled}
use Rattle.tape.specs.Tape.{blank, records}
use Rattle.tape_drive.specs.declared.drive.TapeStop.{TapeStop}
use Rattle.tape_drive.specs.declared.drive.TapeStop.TheVariants as stops
use Rattle.tape_drive.specs.Drive.{Stand, start, stand_at, outputs, drive_stand, drive_output, drive_stop}
use Rattle.tape_drive.specs.Served.{Comes, HoldsSome}
use Rattle.database_text.specs.Texts.{Told}

abbrev pub limits_of : ReplayOptions → HistorySize
limits_of options = record { entries = options.entries; bytes = options.bytes }

-- how a database is opened
abbrev pub config_of : ReplayOptions → Config
config_of options = record { scheme = options.scheme; hwm = options.hwm; misses = options.misses; entries = options.entries; bytes = options.bytes }

-- where a tape begins: behind a list that is fit, which is that of the disk where the disk tells
pub record IsOver (tells : Type 0) (content : List ℕ) (options : ReplayOptions) (s : Stand) : Type 0 where
  pub list : List Entry
  pub stands : tells → StandsFor content list
  pub fit : IsFit list
  pub is : s ≡ start (reverse list) (limits_of options) options.scheme options.hwm options.misses

-- The first records of a tape are served whole, and what was written is a front of what they send; the history is one that
-- the records behind them come to.
pub record IsServed (key : List ℕ) (s : Stand) (list : List TapeRecord) (before now : Option (List ℕ)) (history : History) : Type 0 where
  pub front : List TapeRecord
  pub rest : List TapeRecord
  pub parts : list ≡ front ++ rest
  pub wrote : AddedFront (all_spelled (outputs key s front)) before now
  pub comes : Comes key (stand_at key s front) rest history

-- all was served up to this stop, or to the end where there is none: what it sends was written, and a crash leaves what is
-- kept of its history
pub record IsReplayed (tells : Type 0) (key : List ℕ) (s : Stand) (octets : List ℕ) (before now : Option (List ℕ)) (image : List ℕ → Type 0) (stop : Option TapeStop) : Type 0 where
  pub added : Added (drive_output key s octets) before now
  pub stop_is : drive_stop key s octets ≡ stop
  pub keeps : tells → (c : List ℕ) → image c → StandsFor c (written (drive_stand key s octets).history)

-- the replay was cut off: a front of what it sends was written, and a crash leaves what is kept of a history in which all is
-- that what was written tells of
pub record IsCutOff (tells : Type 0) (key : List ℕ) (s : Stand) (octets : List ℕ) (before now : Option (List ℕ)) (image : List ℕ → Type 0) : Type 0 where
  pub front : AddedFront (drive_output key s octets) before now
  pub keeps : tells → (c : List ℕ) → image c → HoldsSome (IsServed key s (records blank octets) before now) c

-- the database wasn't opened: nothing was written, and a crash leaves what it might have left before, or always what stands
-- for the same entries, or for these with what is kept of the Open
pub record IsUnopened (tells : Type 0) (content : List ℕ) (options : ReplayOptions) (before now : Option (List ℕ)) (old new : List ℕ → Type 0) : Type 0 where
  pub silent : now ≡ before
  pub keeps : tells → NoMore old new ⊎ ((c : List ℕ) → new c → IsSame c content ⊎ HasOpen content (config_of options) 0 c)

-- why a database is refused with a place: what it holds is no journal, or a damaged one, or one whose list isn't that of a
-- cluster
abbrev pub IsDamagedAt : List ℕ → ℕ → Type 0
IsDamagedAt content place = WhyNot content (faults.NotAJournal place) ⊎ WhyNot content (faults.Damaged place)

-- the database is refused: nothing was written, and a crash leaves what it might have left before, or always what stands for
-- the same entries
pub record IsUnfit (tells : Type 0) (content : List ℕ) (before now : Option (List ℕ)) (old new : List ℕ → Type 0) (place : ℕ) : Type 0 where
  pub silent : now ≡ before
  pub damaged : tells → IsDamagedAt content place
  pub spared : tells → Spared old content new

-- a fact of a stand that a tape begins with
abbrev pub From : (tells : Type 0) → List ℕ → ReplayOptions → (Stand → Type 0) → Type 0
From tells content options P = (s : Stand) × IsOver tells content options s × P s

-- how a replay ends
abbrev pub ReplayEnds : (tells : Type 0) → List ℕ → ReplayOptions → (left rest before now : Option (List ℕ)) → (old new : List ℕ → Type 0) → Ending → Type 0
ReplayEnds tells content options left rest before now old new Done =
    From tells content options (λ s. Told left (λ octets. IsReplayed tells options.key s octets before now new None)) × IsAtEnd rest
ReplayEnds tells content options left rest before now old new (BadTape place) =
    From tells content options (λ s. Told left (λ octets. IsReplayed tells options.key s octets before now new (Some (stops.BadTape place))))
ReplayEnds tells content options left rest before now old new (HistoryFull entries bytes) =
    From tells content options (λ s. Told left (λ octets. IsReplayed tells options.key s octets before now new (Some (stops.HistoryFull (record { entries = entries; bytes = bytes })))))
ReplayEnds tells content options left rest before now old new (Damaged place) = IsUnfit tells content before now old new place
ReplayEnds tells content options left rest before now old new Usage = ⊥
ReplayEnds tells content options left rest before now old new (Different place) = ⊥
ReplayEnds tells content options left rest before now old new (StandbyDiffers place) = ⊥
ReplayEnds tells content options left rest before now old new (PrimaryRefused place) = ⊥
ReplayEnds tells content options left rest before now old new _ =
    IsUnopened tells content options before now old new
    ⊎ From tells content options (λ s. Told left (λ octets. IsCutOff tells options.key s octets before now new))

-- what a crash at any moment of a replay may leave: what it might have left before, what stands for the same entries, or for
-- these with what is kept of the Open, or of a history that the tape comes to
abbrev pub MayLeave : List ℕ → ReplayOptions → List ℕ → (List ℕ → Type 0) → List ℕ → Type 0
MayLeave content options octets old c =
    Unharmed old content c ⊎ HasOpen content (config_of options) 0 c
    ⊎ From (Unit {0}) content options (λ s. HoldsSome (Comes options.key s (records blank octets)) c)
