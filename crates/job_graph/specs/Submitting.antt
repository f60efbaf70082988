-- Jobs that are submitted.
use Rattle.std.specs.Prelude.{List, [], ◌∷◌, ℕ, map, Option}
use Rattle.std.specs.List.{filter_map}
use Rattle.cluster_types.specs.declared.message.Message.{Message}
use Rattle.cluster_defs.specs.Words.{Id}
use Rattle.cluster_defs.specs.Histories.{History, Legal}
use Rattle.client_core.specs.declared.submissions.Submission.{Submission}
use Rattle.client_core.specs.Metadata.{dependent_meta}
use Rattle.job_graph.specs.declared.task.JobTask.{JobTask}
use Rattle.job_graph.specs.Held.{id_named, AcceptedWith, JobHeld}

-- a task as it is submitted, by the ids that names have
abbrev pub job_submission : (List ℕ → Option Id) → JobTask → Submission
job_submission named task =
    record { code = task.code; meta = dependent_meta (filter_map named task.after) (filter_map named task.follow) task.retries }

-- the tasks of a job as they are submitted, where they have these ids, in order
abbrev pub job_submissions : List JobTask → List Id → List Submission
job_submissions job ids = map (job_submission (id_named job ids)) job

-- a history accepted ids, each with its message
abbrev pub AreAccepted : History → List Id → List Message → Type 0
AreAccepted history [] messages = Unit {0}
AreAccepted history (id ∷ ids) [] = ⊥
AreAccepted history (id ∷ ids) (message ∷ messages) = AcceptedWith history id message × AreAccepted history ids messages

-- every legal history that accepted the ids with these messages holds the job
abbrev pub IsHeldWith : List JobTask → List Id → List Message → Type 0
IsHeldWith job ids messages = (history : History) → Legal history → AreAccepted history ids messages → JobHeld job ids history
