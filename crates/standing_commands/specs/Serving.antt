-- How a controller ends that serves over a database, and what shows it.
use Rattle.std.specs.Prelude.{◌≡◌, ◌≤◌, ℕ, List, Option, Some, None}
use Rattle.std.specs.Arc.{arc_value}
use Rattle.std.specs.declared.sync.Arc.{Arc}
use Rattle.cluster_store.specs.Openings.{IsOpened, Exits, WhyNot}
use Rattle.cluster_types.specs.Causes.{Rose}
use Rattle.command_words.specs.declared.command.ReplayOptions.{ReplayOptions}
use Rattle.command_words.specs.declared.ending.Ending.TheVariants as plain
use Rattle.command_words.specs.declared.ending.StandingEnding.{StandingEnding}
use Rattle.command_words.specs.declared.ending.StandingEnding.TheVariants as endings
use Rattle.controller_desk.specs.declared.desk.Desk.{Desk}
use Rattle.disk_model.specs.declared.disk.Disk.{Ghosts as OfDisk}
use Rattle.thread_edges.specs.declared.clock.Clock.{Ghosts as OfClock}
use Rattle.thread_edges.specs.declared.words.Words.{Ghosts as OfWords}
use Rattle.controller_desk.specs.Contents.{faults_seen}
use Rattle.controller_threads.specs.Ends.{EndCause}
use Rattle.controller_threads.specs.declared.end.ServeEnd.{ServeEnd}
use Rattle.controller_threads.specs.declared.end.ServeEnd.TheVariants as serves
use Rattle.history_lock.specs.declared.known.Content.{Content}
use Rattle.history_lock.specs.Names.{LockId, lock_id}
use Rattle.quick_commands.specs.Replays.{config_of}
use Rattle.quick_commands.specs.Written.{ending_of_refusal}
use Rattle.controller_desk.specs.Contents.{fulls_seen, limits_seen}
use Rattle.standing_commands.specs.declared.shown.Shown.{Shown}
use Rattle.standing_commands.specs.declared.shown.Shown.TheVariants.{Nothing, Disk, Port, Seen}
use Rattle.task_journal.specs.Settled.{Spared, OnRefusal}
use Rattle.task_journal.specs.declared.fault.OpenFault.{OpenFault}
use Rattle.task_journal.specs.declared.fault.OpenFault.TheVariants as refusals

-- the lock of a desk that threads share
abbrev pub lock_of : {D C W Z : Type 0} {disk : OfDisk D} {clock : OfClock C} {words : OfWords W} → Arc (Desk D C W disk clock words) Z → LockId
lock_of desk = lock_id (arc_value desk).lock

-- how the program ends where a controller over a desk has ended so, and what shows it
abbrev pub shown_end : {P I O D K T : Type 0} → K → ServeEnd P T → StandingEnding × Shown P I O D K T
shown_end desk (serves.Ended ports pass) = (endings.Plain plain.Done, Seen desk pass (Some ports))
shown_end desk (serves.Stopped pass) = (endings.Plain plain.Done, Seen desk pass None)
shown_end desk (serves.DiskFault pass) = (endings.Plain plain.DiskFault, Seen desk pass None)
shown_end desk (serves.HistoryFull entries bytes pass) = (endings.Plain (plain.HistoryFull entries bytes), Seen desk pass None)
shown_end desk (serves.ListenerFault channel port) = (endings.ListenerFault, Port channel port)
shown_end desk serves.SpawnFault = (endings.NoWorker, Nothing)
shown_end desk serves.OutOfMemory = (endings.Plain plain.OutOfMemory, Nothing)

-- What the desk stands for when a controller begins: the list of the disk, and behind it an Open with these options and the
-- decisions that are then due; the limits of the options; no step was refused, and the disk has no fewer faults than it had.
pub record IsBegun (tells : Type 0) (content : List ℕ) (faults : ℕ) (options : ReplayOptions) (start : Content) : Type 0 where
  pub moment : ℕ
  pub opened : IsOpened tells content (config_of options) moment start.list
  pub limits : limits_seen start ≡ record { entries = options.entries; bytes = options.bytes }
  pub fulls : fulls_seen start ≡ 0
  pub later : faults ≤ faults_seen start

-- want of memory, which nothing shows
abbrev pub no_memory : {P I O D K T : Type 0} → StandingEnding × Shown P I O D K T
no_memory = (endings.Plain plain.OutOfMemory, Nothing)

module _ {P I O D K T : Type 0} where
  -- no database was opened: the disk is handed back, and shows why; a crash leaves of it what opening may leave
  pub record IsUnopened (tells : Type 0) (content : D → List ℕ) (image : D → List ℕ → Type 0) (faults : D → ℕ) (disk : D) (options : ReplayOptions) (result : StandingEnding × Shown P I O D K T) : Type 0 where
    pub left : D
    pub why : OpenFault
    pub moment : ℕ
    pub is : result ≡ (endings.Plain (ending_of_refusal why), Disk left)
    pub refused : tells → WhyNot (content disk) why
    pub spared : tells → OnRefusal why (Spared (image disk) (content disk) (image left))
    pub exits : tells → Exits (image disk) (content disk) (config_of options) moment (image left)
    pub cause : why ≡ refusals.DiskFault → Rose (faults disk) (faults left)

module _ {P I O D K T A B : Type 0} where
  -- a controller served over a desk, which stood for this when it began, until an end with its cause, which is shown
  pub record EndsOver (lock : K → LockId) (links : P → Option (List (A × B))) (faults : P → ℕ) (start : Content) (before now : ℕ) (result : StandingEnding × Shown P I O D K T) : Type 0 where
    pub desk : K
    pub end : ServeEnd P T
    pub cause : EndCause (lock desk) start links faults before now end
    pub is : result ≡ shown_end desk end
