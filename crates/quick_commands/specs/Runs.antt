-- A replay as a run over its file, and what a crash leaves of it.
use Rattle.std.specs.Prelude.{◌≡◌, List, ◌++◌, ℕ, reverse, Option}
use Rattle.cluster_defs.specs.Histories.{History}
use Rattle.cluster_store.specs.Openings.{HasOpen}
use Rattle.cluster_store.specs.Stores.{written}
use Rattle.command_words.specs.declared.command.ReplayOptions.{ReplayOptions}
use Rattle.edges.specs.Streams.{AddedFront, Added}
use Rattle.tape_drive.specs.Runs.{TapeRun, begun}
use Rattle.task_journal.specs.Journal.{StandsFor}
use Rattle.tape.specs.Spelling.{all_spelled}
use Rattle.tape.specs.Tape.{blank, records}
use Rattle.tape_drive.specs.Drive.{Stand, start, stand_at, outputs, drive_stand, drive_output}
use Rattle.tape_drive.specs.Served.{Comes, HoldsSome}
use Rattle.quick_commands.specs.Replays.{IsOver, IsServed, limits_of, config_of}

-- Behind what the file held, the tape was opened so and its first records were served; what was written is a front of what
-- they send, and a crash left what is kept of a history that the records behind them come to.
pub record IsRun (content : List ℕ) (options : ReplayOptions) (octets : List ℕ) (before now : Option (List ℕ)) (left : List ℕ) : Type 0 where
  pub old : History
  pub run : TapeRun
  pub at : History
  pub held : StandsFor content (reverse old)
  pub key : run.key ≡ options.key
  pub opened : begun old run ≡ start old (limits_of options) options.scheme options.hwm options.misses
  pub tape : records blank octets ≡ run.front ++ run.rest
  pub wrote : AddedFront (all_spelled (outputs run.key (begun old run) run.front)) before now
  pub comes : Comes run.key (stand_at run.key (begun old run) run.front) run.rest at
  pub leaves : StandsFor left (written at)

-- a replay that served its tape to a stop or to the end: all was written, and a crash left what is kept of its history
abbrev pub ReplayedIsRun : Type 0
ReplayedIsRun =
    (content octets left : List ℕ) (options : ReplayOptions) (s : Stand) (before now : Option (List ℕ)) →
    IsOver (Unit {0}) content options s → Added (drive_output options.key s octets) before now → StandsFor left (written (drive_stand options.key s octets).history) →
    IsRun content options octets before now left

-- a replay that was cut off
abbrev pub CutOffIsRun : Type 0
CutOffIsRun =
    (content octets left : List ℕ) (options : ReplayOptions) (s : Stand) (before now : Option (List ℕ)) →
    IsOver (Unit {0}) content options s → HoldsSome (IsServed options.key s (records blank octets) before now) left → IsRun content options octets before now left

-- what a crash at any moment of a replay may leave of the history that its tape comes to
abbrev pub MomentIsRun : Type 0
MomentIsRun =
    (content octets left : List ℕ) (options : ReplayOptions) (s : Stand) (before : Option (List ℕ)) →
    IsOver (Unit {0}) content options s → HoldsSome (Comes options.key s (records blank octets)) left → IsRun content options octets before before left

-- a replay of which a crash left no more than the Open and what was due behind it, as it may where the database wasn't opened
abbrev pub OpenedIsRun : Type 0
OpenedIsRun =
    (content octets left : List ℕ) (options : ReplayOptions) (before : Option (List ℕ)) →
    HasOpen content (config_of options) 0 left → IsRun content options octets before before left
