-- Runs over one file, with a crash at any moment of each, as one life.
use Rattle.std.specs.Prelude.{◌≡◌, ◌⊎◌, ℕ, List, [], ◌∷◌, ◌++◌, reverse, true}
use Rattle.cluster_types.specs.declared.config.Scheme.{Scheme}
use Rattle.cluster_types.specs.declared.entry.Entry.{Entry}
use Rattle.cluster_types.specs.declared.out.Out.{Out}
use Rattle.cluster_defs.specs.Histories.{History, Legal, kept}
use Rattle.cluster_defs.specs.Lives.{Move, Life, Sending, Belongs, world}
use Rattle.cluster_core.specs.declared.size.HistorySize.{HistorySize}
use Rattle.cluster_store.specs.Stores.{written}
use Rattle.task_journal.specs.Journal.{StandsFor}
use Rattle.tape.specs.declared.record.TapeRecord.{TapeRecord}
use Rattle.tape_drive.specs.Drive.{Stand, start, stand_at}
use Rattle.tape_drive.specs.Served.{Comes}
use Rattle.tape_drive.specs.Sent.{tape_outs, outs_of}

-- a run over a file: how the file was opened, the records of its tape whose outs were sent, and those behind them
pub record TapeRun : Type 0 where
  pub key : List ℕ
  pub limits : HistorySize
  pub scheme : Scheme
  pub hwm : ℕ
  pub misses : ℕ
  pub front : List TapeRecord
  pub rest : List TapeRecord

-- where its tape begins, behind what the file held
abbrev pub begun : History → TapeRun → Stand
begun history run = start history run.limits run.scheme run.hwm run.misses

-- what a crash at any moment of a run may leave of its history: what is kept of whole steps, with all steps whose outs were
-- sent
abbrev pub MayLeave : History → TapeRun → History → Type 0
MayLeave old run history = (at : History) × Comes run.key (stand_at run.key (begun old run) run.front) run.rest at × (history ≡ kept at)

-- runs over one file that was empty, the newest first: what a crash left of the history, and all outs that they sent
abbrev pub Ran : List TapeRun → History → List Out → Type 0
Ran [] history sent = (history ≡ []) × (sent ≡ [])
Ran (run ∷ runs) history sent =
    (old : History) × (before : List Out) × Ran runs old before × MayLeave old run history × (sent ≡ before ++ tape_outs run.key (begun old run) run.front)

-- a life at its beginning or after a crash: an Open may come next
abbrev pub HasEnded : List Move → Type 0
HasEnded moves = (moves ≡ []) ⊎ ((world moves).down ≡ true)

-- a life that came to a history, and sent these outs, one after another, and no others
pub record IsLifeOf (history : History) (sent : List Out) : Type 0 where
  pub moves : List Move
  pub life : Life moves
  pub ended : HasEnded moves
  pub history_is : (world moves).history ≡ history
  pub sent_is : outs_of (world moves).sent ≡ sent

-- all runs over one file are one life
abbrev pub RunsAreLife : Type 0
RunsAreLife = (runs : List TapeRun) (history : History) (sent : List Out) → Ran runs history sent → IsLifeOf history sent

-- outs that belong to a legal history
pub record IsOneHistory (history : History) (sent : List Out) : Type 0 where
  pub legal : Legal history
  pub sendings : List Sending
  pub belong : Belongs history sendings
  pub outs_are : outs_of sendings ≡ sent

-- so all that they ever sent belongs to one legal history
abbrev pub RunsBelong : Type 0
RunsBelong = (runs : List TapeRun) (history : History) (sent : List Out) → Ran runs history sent → IsOneHistory history sent

-- a file that stands for what is kept of a history is opened over that
abbrev pub LeftIsNext : Type 0
LeftIsNext = (octets : List ℕ) (list : List Entry) (at : History) → StandsFor octets (written at) → StandsFor octets list → reverse list ≡ kept at
