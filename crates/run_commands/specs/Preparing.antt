-- What a command submits, and what is awaited of it.
use Rattle.std.specs.Prelude.{◌≡◌, ℕ, List, map, length, Option, Some, None, Result, Ok, Err}
use Rattle.array_maps.specs.Gathering.{awaited}
use Rattle.cluster_defs.specs.Histories.{History}
use Rattle.job_graph.specs.declared.task.JobTask.{JobTask}
use Rattle.job_graph.specs.declared.error.JobError.{JobError}
use Rattle.job_graph.specs.declared.error.JobError.TheVariants.{BadLine, DuplicateName, UnknownName, Empty, TooMany, OutOfMemory}
use Rattle.job_graph.specs.Jobs.{job_of}
use Rattle.run_lines.specs.declared.labels.Labels.{Labels}
use Rattle.run_lines.specs.declared.labels.Labels.TheVariants.{Codes, Tasks}
use Rattle.run_threads.specs.Answering.{ArePrinted}
use Rattle.run_threads.specs.declared.caller.Awaited.{Awaited}
use Rattle.run_words.specs.declared.command.RunCommand.{RunCommand}
use Rattle.run_words.specs.declared.command.RunCommand.TheVariants.{Run, Map, Job}

-- so many codes are awaited, whose lines have these labels, and none has answered
pub record AwaitsAs {W : Type 0} (labels : Labels) (total : ℕ) (a : Awaited W) : Type 0 where
  pub labels_are : a.labels ≡ labels
  pub total_is : a.total ≡ total
  pub none_yet : a.gathered ≡ awaited 0 total

-- the names of the tasks of a job stand ahead of what they come to
abbrev pub job_labels : List JobTask → Labels
job_labels job = Tasks (map (λ task. task.name) job)

abbrev pub AwaitsJob : {W : Type 0} → Result (List JobTask) JobError → Awaited W → Type 0
AwaitsJob (Ok job) a = AwaitsAs (job_labels job) (length job) a
AwaitsJob (Err error) a = ⊥

-- what a command awaits: its codes, one for each of its values, or the tasks of its job
abbrev pub Awaits : {W : Type 0} → RunCommand → Awaited W → Type 0
Awaits (Run engines codes) a = AwaitsAs Codes (length codes) a
Awaits (Map engines body values) a = AwaitsAs Codes (length values) a
Awaits (Job engines text) a = AwaitsJob (job_of text) a

-- the line that a fault is told at: that of the fault, and 0 where it is none of a line
abbrev pub line_of_fault : JobError → Option ℕ
line_of_fault (BadLine line) = Some line
line_of_fault (DuplicateName line) = Some line
line_of_fault (UnknownName line) = Some line
line_of_fault Empty = Some 0
line_of_fault TooMany = Some 0
line_of_fault OutOfMemory = None

abbrev pub FaultAt : Result (List JobTask) JobError → ℕ → Type 0
FaultAt (Ok job) line = ⊥
FaultAt (Err error) line = line_of_fault error ≡ Some line

-- the text of a command is no job, and this line is told
abbrev pub IsBadAt : RunCommand → ℕ → Type 0
IsBadAt (Run engines codes) line = ⊥
IsBadAt (Map engines body values) line = ⊥
IsBadAt (Job engines text) line = FaultAt (job_of text) line

-- WHAT IS PRINTED

-- the lines of the tasks of a job
abbrev pub PrintsJob : Result (List JobTask) JobError → History → (before now : Option (List ℕ)) → Type 0
PrintsJob (Ok job) history before now = ArePrinted (job_labels job) history (length job) before now
PrintsJob (Err error) history before now = ⊥

-- the lines of a command were printed, in order: each says what its code or its task has answered in a history
abbrev pub Prints : RunCommand → History → (before now : Option (List ℕ)) → Type 0
Prints (Run engines codes) history before now = ArePrinted Codes history (length codes) before now
Prints (Map engines body values) history before now = ArePrinted Codes history (length values) before now
Prints (Job engines text) history before now = PrintsJob (job_of text) history before now
