-- When a history holds a job.
use Rattle.std.specs.Prelude.{◌≡◌, ℕ, List, [], ◌∷◌, ◌++◌, Option, Some, None, Ok, Bool, true, false, if◌then◌else◌, bytes_eq}
use Rattle.std.specs.List.{list_all, filter_map}
use Rattle.cluster_types.specs.declared.message.Message.{Message}
use Rattle.cluster_types.specs.declared.config.Channel.TheVariants.{Task}
use Rattle.cluster_types.specs.declared.entry.Input.TheVariants.{In}
use Rattle.cluster_types.specs.declared.entry.Entry.{Entry}
use Rattle.cluster_types.specs.declared.entry.Entry.TheVariants.{Input, Hand}
use Rattle.cluster_types.specs.Verdicts.{completed}
use Rattle.cluster_defs.specs.declared.content.SubmitMeta.{SubmitMeta}
use Rattle.cluster_defs.specs.declared.settled.Settled.{Settled}
use Rattle.cluster_defs.specs.Words.{Id}
use Rattle.cluster_defs.specs.Submit.{read_submit, plain_dependency}
use Rattle.cluster_defs.specs.Connections.{channel_on}
use Rattle.cluster_defs.specs.Dependencies.{on_engine}
use Rattle.cluster_defs.specs.Acceptance.{Demand, accepted}
use Rattle.cluster_defs.specs.Facts.{Facts, event_on}
use Rattle.cluster_defs.specs.Histories.{History, facts, Legal}
use Rattle.job_graph.specs.declared.task.JobTask.{JobTask}

-- THE IDS OF A JOB

-- a task under its id, with the ids of the tasks that it waits for, and of those that it follows
pub record Dependent : Type 0 where
  pub id : Id
  pub after : List Id
  pub follow : List Id

-- the id of the task that has a name, where the tasks have these ids, in order
abbrev pub id_named : List JobTask → List Id → List ℕ → Option Id
id_named (task ∷ tasks) (id ∷ ids) name = if bytes_eq task.name name then Some id else id_named tasks ids name
id_named _ _ name = None

abbrev pub dependent : (List ℕ → Option Id) → JobTask → Id → Dependent
dependent named task id = record { id = id; after = filter_map named task.after; follow = filter_map named task.follow }

abbrev pub dependents_by : (List ℕ → Option Id) → List JobTask → List Id → List Dependent
dependents_by named (task ∷ tasks) (id ∷ ids) = dependent named task id ∷ dependents_by named tasks ids
dependents_by named _ _ = []

-- the tasks of a job under their ids: what a task lists are the ids of the named tasks
abbrev pub dependents : List JobTask → List Id → List Dependent
dependents job ids = dependents_by (id_named job ids) job ids

-- HELD

abbrev pub is_completed : Option Settled → Bool
is_completed None = false
is_completed (Some s) = completed s.verdict

-- a Hand of a task to an engine, where all that it waits for has completed, and all that it follows has on this engine
pub record HandHeld (f : Facts) (task : Dependent) (engine : ℕ) : Type 0 where
  pub waited : list_all (λ id. is_completed (f.settled id)) task.after ≡ true
  pub followed : list_all (λ id. is_completed (on_engine engine (f.settled id))) task.follow ≡ true

-- each Hand of a task stands after Settles as completed of all that it waits for, and goes to the engine on which all
-- that it follows completed
abbrev pub TaskHeld : Dependent → History → Type 0
TaskHeld task [] = Unit {0}
TaskHeld task (Hand id engine ∷ older) = (id ≡ task.id → HandHeld (facts older) task engine) × TaskHeld task older
TaskHeld task (_ ∷ older) = TaskHeld task older

abbrev pub AllHeld : List Dependent → History → Type 0
AllHeld [] history = Unit {0}
AllHeld (task ∷ tasks) history = TaskHeld task history × AllHeld tasks history

-- a history holds a job whose tasks have these ids, in order
abbrev pub JobHeld : List JobTask → List Id → History → Type 0
JobHeld job ids history = AllHeld (dependents job ids) history

-- ACCEPTED

-- a message carries what a task waits for and follows, with the flags that are meant where none are written
pub record Carries (message : Message) (task : Dependent) : Type 0 where
  pub meta : SubmitMeta
  pub reads : read_submit message.metadata ≡ Ok meta
  pub waits : meta.after ≡ plain_dependency task.after
  pub follows : meta.follow ≡ plain_dependency task.follow

-- a history accepted an id with a message, which came on a connection for tasks
pub record AcceptedWith (history : History) (id : Id) (message : Message) : Type 0 where
  pub older : History
  pub later : List Entry
  pub conn : ℕ
  pub moment : ℕ
  pub word : ℕ
  pub demand : Demand
  pub stands : history ≡ later ++ Input (In conn moment word message) ∷ older
  pub channel : channel_on (facts older).connections conn ≡ Some Task
  pub accepts : accepted (facts older) message (event_on (facts older) conn message) ≡ Some demand
  pub names : demand.submission.id ≡ id

-- each task's id was accepted with its message
abbrev pub AllAccepted : History → List Dependent → List Message → Type 0
AllAccepted history [] messages = Unit {0}
AllAccepted history (task ∷ tasks) [] = ⊥
AllAccepted history (task ∷ tasks) (message ∷ messages) =
    AcceptedWith history task.id message × Carries message task × AllAccepted history tasks messages

-- THE LAW

-- every legal history that accepted the ids of a job with messages that carry its dependencies holds the job
abbrev pub JobIsHeld : Type 0
JobIsHeld =
    (history : History) (job : List JobTask) (ids : List Id) (messages : List Message) → Legal history →
    AllAccepted history (dependents job ids) messages → JobHeld job ids history
