-- How generated work goes on: the tape comes record by record, and before each next record the engines answer all that they
-- are sent, first in, first out.
use Rattle.std.specs.Prelude.{◌≡◌, ℕ, ◌-◌, ℤ, pos, List, [], ◌∷◌, ◌++◌, length, map, Bool, Option, Some, None, slice_get, slice_set}
use Rattle.cluster_types.specs.declared.message.Message.{Message}
use Rattle.cluster_types.specs.declared.entry.Input.{Input as InputType}
use Rattle.cluster_types.specs.declared.entry.Input.TheVariants.{In}
use Rattle.cluster_types.specs.declared.out.Out.{Out}
use Rattle.cluster_defs.specs.Histories.{History}
use Rattle.cluster_defs.specs.Outs.{conn_of}
use Rattle.cluster_core.specs.declared.size.HistorySize.{HistorySize}
use Rattle.engine_core.specs.Answer.{Answers}
use Rattle.engine_core.specs.State.{State, new_engine, standing}
use Rattle.quick_commands.specs.Generated.{work_key, engine_uuid, generated}
use Rattle.tape.specs.declared.record.TapeRecord.{TapeRecord}
use Rattle.tape_drive.specs.Bare.{read_of}
use Rattle.tape_drive.specs.Inputs.{inputs_of}
use Rattle.tape_drive.specs.Sends.{by_connection}
use Rattle.tape_drive.specs.Steps.{stepped, step_outs, overfull}
use Rattle.quick_commands.specs.Results.{IsAdded}

-- where the work has come to: the history; the engines on the connections 1 to 4; the inputs that come next; the outs that
-- nobody took yet; the records that are still to come; and the sum of the results that the client was sent, which wraps
pub record Work : Type 0 where
  pub history : History
  pub engines : List State
  pub inputs : List InputType
  pub outs : List Out
  pub tape : List TapeRecord
  pub sum : ℤ

-- nothing was asked of the engines
abbrev pub first_engines : List State
first_engines = map (λ conn. new_engine (engine_uuid conn)) (1 ∷ 2 ∷ 3 ∷ 4 ∷ [])

-- nothing of the tape came
abbrev pub begun : History → ℕ → ℕ → Work
begun history seed tasks = record {
  history = history;
  engines = first_engines;
  inputs = [];
  outs = [];
  tape = generated seed tasks;
  sum = pos 0;
}

-- a run over a disk: where its work has come to, how much may come after the Open, the disk, and whether a call of it failed
pub record RunView (D : Type 0) : Type 0 where
  pub work : Work
  pub limits : HistorySize
  pub disk : D
  pub failed : Bool

-- ---- one move

-- an input is served, and its outs wait, by connection, behind those before it
abbrev pub served : Work → InputType → List InputType → Work
served w input inputs = record w {
  history = stepped w.history input;
  inputs = inputs;
  outs = w.outs ++ by_connection (step_outs w.history input);
}

-- an engine answers a message that reads at the moment 0
abbrev pub AnswersIf : Option Message → State → Option Message → State → Type 0
AnswersIf None before reply after = (reply ≡ None) × (after ≡ before)
AnswersIf (Some message) before reply after = Answers (standing before) message 0 reply (standing after)

abbrev pub AnswersAt : ℕ → Option State → Option Message → List State → Option Message → List State → Type 0
AnswersAt place None message engines reply later = (reply ≡ None) × (later ≡ engines)
AnswersAt place (Some before) message engines reply later =
    (after : State) × AnswersIf message before reply after × (later ≡ slice_set engines place after)

-- the engine on the connection of an out answers it, and where there is none nobody does
abbrev pub IsAnswered : Out → List State → Option Message → List State → Type 0
IsAnswered out engines reply later =
    AnswersAt (conn_of out - 1) (slice_get engines (conn_of out - 1)) (read_of work_key out) engines reply later

-- an answer comes on the engine's connection
abbrev pub answer_in : ℕ → Option Message → List InputType
answer_in conn None = []
answer_in conn (Some reply) = In conn 0 0 reply ∷ []

-- an out is taken
pub record Takes (w : Work) (out : Out) (outs : List Out) (next : Work) : Type 0 where
  pub reply : Option Message
  pub engines : List State
  pub sum : ℤ
  pub answered : IsAnswered out w.engines reply engines
  pub added : IsAdded out w.sum sum
  pub is : next ≡ record w { engines = engines; inputs = answer_in (conn_of out) reply; outs = outs; sum = sum }

-- an input that comes next is served, or else the first out is taken, or else the next record of the tape comes
abbrev pub MovesAs : Work → List InputType → List Out → List TapeRecord → Work → Type 0
MovesAs w (input ∷ inputs) outs tape next = next ≡ served w input inputs
MovesAs w [] (out ∷ outs) tape next = Takes w out outs next
MovesAs w [] [] (r ∷ tape) next = next ≡ record w { inputs = inputs_of work_key [] r; tape = tape }
MovesAs w [] [] [] next = ⊥

abbrev pub Moves : Work → Work → Type 0
Moves w next = MovesAs w w.inputs w.outs w.tape next

-- ---- a run

-- moves one after another; the path has where each began, the last one first
abbrev pub Leads : Work → List Work → Work → Type 0
Leads start [] w = w ≡ start
Leads start (before ∷ path) w = Leads start path before × Moves before w

pub record IsReached (start w : Work) : Type 0 where
  pub path : List Work
  pub leads : Leads start path w

-- the same by so many moves
pub record IsReachedBy (moves : ℕ) (start w : Work) : Type 0 where
  pub path : List Work
  pub count : length path ≡ moves
  pub leads : Leads start path w

-- nothing is left to do
pub record IsDone (w : Work) : Type 0 where
  pub inputs : w.inputs ≡ []
  pub outs : w.outs ≡ []
  pub tape : w.tape ≡ []

-- the step of the input that comes next would pass a limit
abbrev pub IsFullAs : HistorySize → History → List InputType → HistorySize → Type 0
IsFullAs limits history [] size = ⊥
IsFullAs limits history (input ∷ inputs) size = overfull limits history input ≡ Some size

abbrev pub IsFull : HistorySize → Work → HistorySize → Type 0
IsFull limits w size = IsFullAs limits w.history w.inputs size

-- a run that began so is held up: the next step of where it came to would pass a limit
pub record IsHeld (start : Work) (limits : HistorySize) (size : HistorySize) : Type 0 where
  pub work : Work
  pub reached : IsReached start work
  pub full : IsFull limits work size
