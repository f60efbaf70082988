-- How the commands end that are about a cluster at its ports.
use Rattle.std.specs.Prelude.{◌≡◌, ◌≤◌, ◌⊎◌, ℕ, List, true, Option, IfSome}
use Rattle.std.specs.declared.sync.Arc.{Arc}
use Rattle.cluster_types.specs.Limits.{most_entries}
use Rattle.command_words.specs.declared.command.ReplayOptions.{ReplayOptions}
use Rattle.command_words.specs.declared.ending.Ending.TheVariants as plain
use Rattle.command_words.specs.declared.ending.StandingEnding.{StandingEnding}
use Rattle.command_words.specs.declared.ending.StandingEnding.TheVariants.{Plain}
use Rattle.command_words.specs.declared.standing.StandingCommand.{StandingCommand}
use Rattle.command_words.specs.declared.standing.StandingCommand.TheVariants.{Serve, Engine, Client}
use Rattle.command_words.specs.Lines.{standing_line, standing_status}
use Rattle.command_words.specs.Standing.{standing_reading}
use Rattle.controller_desk.specs.declared.desk.Desk.{Desk}
use Rattle.disk_model.specs.declared.disk.Disk.{Ghosts as OfDisk}
use Rattle.edges.specs.declared.sink.Sink.{Ghosts as OfSink}
use Rattle.engine_core.specs.State.{is_uuid}
use Rattle.history_lock.specs.declared.known.Content.{Content}
use Rattle.history_lock.specs.Names.{LockId}
use Rattle.link_commands.specs.Links.{Dials, IsUndialled, Prints}
use Rattle.quick_commands.specs.Written.{Said}
use Rattle.standing_commands.specs.declared.shown.Shown.{Shown}
use Rattle.standing_commands.specs.declared.shown.Shown.TheVariants.{Disk}
use Rattle.standing_commands.specs.Links.{WorksAs, AsksAs}
use Rattle.standing_commands.specs.Serving.{IsBegun, IsUnopened, EndsOver, lock_of, no_memory}
use Rattle.thread_edges.specs.declared.clock.Clock.{Ghosts as OfClock}
use Rattle.thread_edges.specs.declared.links.Listener.{Ghosts as OfListener}
use Rattle.thread_edges.specs.Starts.{Starting}
use Rattle.thread_edges.specs.declared.words.Words.{Ghosts as OfWords}

-- the options and the uuid of a command are within their limits
abbrev pub IsInRange : StandingCommand → Type 0
IsInRange (Serve host port database options) = options.entries ≤ most_entries
IsInRange (Engine host port uuid key) = is_uuid uuid ≡ true
IsInRange (Client host port action key) = Unit {0}

-- what a controller serves on: what its disk and its desk tell, the disk, the links that still come to a port and how often it
-- failed, and how often no thread was started, before a call and after it
pub record Serves (D K P A B : Type 0) : Type 1 where
  pub tells : Type 0
  pub content : D → List ℕ
  pub image : D → List ℕ → Type 0
  pub disk_faults : D → ℕ
  pub lock : K → LockId
  pub links : P → Option (List (A × B))
  pub port_faults : P → ℕ
  pub disk : D
  pub before : ℕ
  pub now : ℕ

-- the same of a disk and ports, over a desk that threads share
abbrev pub serves : {D P A B C W Z : Type 0} {clock : OfClock C} {words : OfWords W} (disks : OfDisk D) → OfListener P A B → D → (old new : Starting) → Serves D (Arc (Desk D C W disks clock words) Z) P A B
serves disks ports disk old new = record {
  tells = disks.tells;
  content = disks.content;
  image = disks.image;
  disk_faults = disks.faults;
  lock = lock_of;
  links = ports.links;
  port_faults = ports.faults;
  disk = disk;
  before = old.faults;
  now = new.faults;
}

-- HOW A COMMAND ENDS

module _ {P I O D K T A B : Type 0} where
  -- how a controller ends: there was no memory, or no database was opened, or it served over a desk that has begun so
  abbrev pub ServeEnds : Serves D K P A B → ReplayOptions → StandingEnding × Shown P I O D K T → Type 0
  ServeEnds on options result =
      (result ≡ no_memory)
      ⊎ IsUnopened on.tells on.content on.image on.disk_faults on.disk options result
      ⊎ ((start : Content) × IsBegun on.tells (on.content on.disk) (on.disk_faults on.disk) options start × EndsOver on.lock on.links on.port_faults start on.before on.now result)

  -- How a command ends. A controller and an engine write nothing to the output, and a controller dials nothing.
  abbrev pub By : Serves D K P A B → Dials I O → (coming : Option (List ℕ)) → Prints → StandingCommand → StandingEnding × Shown P I O D K T → Type 0
  By on links coming output (Serve host port database options) result =
      (output.now ≡ output.before) × IsUndialled links × ServeEnds on options result
  By on links coming output (Engine host port uuid key) result =
      (output.now ≡ output.before) × (on.now ≡ on.before) × WorksAs links key uuid result
  By on links coming output (Client host port action key) result =
      (on.now ≡ on.before) × AsksAs links key action coming output result

-- words without a reading are told so, and the disk is handed back, unless there was no memory
abbrev pub Unread : {P I O D K T : Type 0} → D → StandingEnding × Shown P I O D K T → Type 0
Unread disk result = (result ≡ (Plain plain.Usage, Disk disk)) ⊎ (result ≡ no_memory)

-- a status is that of an end of which this holds, and the line of this end was written
abbrev pub IsTold : {E : Type 0} → OfSink E → (old new : E) → (status : ℕ) → (StandingEnding → Type 0) → Type 0
IsTold errors old new status Holds =
    (e : StandingEnding) × (status ≡ standing_status e) × Said (standing_line e) (errors.written old) (errors.written new) (errors.faults old) (errors.faults new) × Holds e

-- where words have a reading, their command ended so, with what shows it, and this was told
abbrev pub EndsAs : {E S : Type 0} → OfSink E → (old new : E) → (words : List (List ℕ)) → ℕ × S → (StandingCommand → StandingEnding × S → Type 0) → Type 0
EndsAs errors old new words result Ends = IfSome (standing_reading words) (λ c. IsTold errors old new result.0 (λ e. Ends c (e, result.1)))
