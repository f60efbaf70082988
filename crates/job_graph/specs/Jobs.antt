-- The job that a text of lines stands for, or its first fault.
use Rattle.std.specs.Prelude.{◌≡◌, ℕ, ◌+◌, ◌==◌, nat_le, Bool, not, ◌&&◌, if◌then◌else◌, List, [], ◌∷◌, ◌++◌, length, Option, Some, None, Result, Ok, Err, bytes_eq}
use Rattle.std.specs.List.{list_all, list_any, filter_map, slice_split}
use Rattle.cluster_defs.specs.Words.{or_else}
use Rattle.job_graph.specs.declared.task.JobTask.{JobTask}
use Rattle.job_graph.specs.declared.error.JobError.{JobError}
use Rattle.job_graph.specs.declared.error.JobError.TheVariants.{BadLine, DuplicateName, UnknownName, Empty, TooMany}
use Rattle.job_graph.specs.Lines.{line_task}

-- FAULTS

-- whether one of the earlier tasks has a name
abbrev pub is_taken : List ℕ → List JobTask → Bool
is_taken name earlier = list_any (λ task. bytes_eq task.name name) earlier

-- whether each listed name belongs to an earlier task
abbrev pub are_known : List (List ℕ) → List JobTask → Bool
are_known names earlier = list_all (λ name. is_taken name earlier) names

-- the fault of a task at a line with this number
abbrev pub task_fault : ℕ → List JobTask → JobTask → Option JobError
task_fault number earlier task =
    if is_taken task.name earlier then Some (DuplicateName number)
    else if not (are_known task.after earlier && are_known task.follow earlier) then Some (UnknownName number)
    else None

abbrev pub line_fault : ℕ → List JobTask → Option JobTask → Option JobError
line_fault number earlier None = Some (BadLine number)
line_fault number earlier (Some task) = task_fault number earlier task

-- the fault of a line with this number behind earlier tasks; an empty line has none
abbrev pub fault_of : ℕ → List JobTask → List ℕ → Option JobError
fault_of number earlier line = if length line == 0 then None else line_fault number earlier (line_task line)

-- THE JOB

-- the tasks of the lines that have one, in order
abbrev pub tasks_in : List (List ℕ) → List JobTask
tasks_in lines = filter_map line_task lines

-- the fault of the first line that has one, of lines that stand behind others
abbrev pub first_fault : List (List ℕ) → List (List ℕ) → Option JobError
first_fault before [] = None
first_fault before (line ∷ lines) = or_else (fault_of (length before + 1) (tasks_in before) line) (first_fault (before ++ line ∷ []) lines)

-- at least one task, and at most 4,096
abbrev pub counted : List JobTask → Result (List JobTask) JobError
counted [] = Err Empty
counted (task ∷ tasks) = if nat_le (length (task ∷ tasks)) 4096 then Ok (task ∷ tasks) else Err TooMany

abbrev pub unless : Option JobError → Result (List JobTask) JobError → Result (List JobTask) JobError
unless (Some fault) job = Err fault
unless None job = job

-- the faults of lines come first
abbrev pub job_in : List (List ℕ) → Result (List JobTask) JobError
job_in lines = unless (first_fault [] lines) (counted (tasks_in lines))

-- the job that a text stands for: a line feed alone ends a line
abbrev pub job_of : List ℕ → Result (List JobTask) JobError
job_of text = job_in (slice_split (λ c. c == 10) text)

-- the tasks of some text
abbrev pub IsJob : List JobTask → Type 0
IsJob tasks = (text : List ℕ) × (job_of text ≡ Ok tasks)
