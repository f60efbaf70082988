-- What codes have answered, as a history has it, and what was printed of it.
use Rattle.std.specs.Prelude.{◌≡◌, ℕ, ◌+◌, List, length, Option, Some, slice_get}
use Rattle.edges.specs.Streams.{Added}
use Rattle.cluster_types.specs.declared.message.Message.{Message}
use Rattle.cluster_defs.specs.Histories.{History}
use Rattle.client_core.specs.declared.answered.Answered.{Answered}
use Rattle.client_core.specs.Answers.{answered}
use Rattle.client_core.specs.Numbers.{numbered_id}
use Rattle.client_core.specs.Taking.{task_in}
use Rattle.array_maps.specs.Gathering.{Gathering, answer_at}
use Rattle.run_book.specs.Kept.{WasPassed, client_conn}
use Rattle.run_lines.specs.declared.labels.Labels.{Labels}
use Rattle.run_lines.specs.Lines.{lines_from}

-- the code with a number answered this: a message about its task, which was passed on to the client, says so
pub record IsAnswered (history : History) (number : ℕ) (answer : Answered) : Type 0 where
  pub message : Message
  pub passed : WasPassed history client_conn message
  pub about : task_in message.parent ≡ Some (numbered_id number)
  pub is : answer ≡ answered message.content

-- each answer that was gathered is one
abbrev pub AreAnswered : History → Gathering → Type 0
AreAnswered history g = (k : ℕ) (answer : Answered) → answer_at g k ≡ Some answer → IsAnswered history (g.first + k) answer

-- the lines of the first codes were printed, so many, and each code has answered what its line says
pub record ArePrinted (labels : Labels) (history : History) (count : ℕ) (before now : Option (List ℕ)) : Type 0 where
  pub answers : List Answered
  pub all : length answers ≡ count
  pub each : (k : ℕ) (answer : Answered) → slice_get answers k ≡ Some answer → IsAnswered history k answer
  pub added : Added (lines_from labels 0 answers) before now
