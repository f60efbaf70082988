-- What messages are to a client.
use Rattle.std.specs.Prelude.{ℕ, Bool, true, false, List, [], ◌∷◌, length, filter, Option, Some, None, bytes_eq, if◌then◌else◌, option_map}
use Rattle.std.specs.Result.{result_ok}
use Rattle.cluster_types.specs.declared.message.Message.{Message}
use Rattle.cluster_defs.specs.Header.{read_header}
use Rattle.cluster_defs.specs.Reply.{read_task, read_status}
use Rattle.cluster_defs.specs.Texts.{submit_refused}
use Rattle.client_core.specs.declared.took.Took.{Took}
use Rattle.client_core.specs.declared.took.Took.TheVariants.{Settled, Other, Stranger}
use Rattle.client_core.specs.Answers.{answered}
use Rattle.client_core.specs.Clients.{Known, Used, settled_in, after_outcome}

-- the outcome of a task, by the status in its content
abbrev pub settled_by : List ℕ → Option Bool → Took
settled_by id None = Other
settled_by id (Some ok) = Settled id ok

-- a message of a type about the task of an id, by whether the task is settled, where the id was used
abbrev pub took_for : List ℕ → List ℕ → List ℕ → Option Bool → Took
took_for content msg_type id None = Stranger
took_for content msg_type id (Some true) = Other
took_for content msg_type id (Some false) =
    if bytes_eq msg_type submit_refused then Other else settled_by id (result_ok (read_status content))

-- by the type in the header and the id in the parent header, where each reads
abbrev pub took_under : Used → List ℕ → Option (List ℕ) → Option (List ℕ) → Took
took_under used content None task = Stranger
took_under used content (Some msg_type) None = Stranger
took_under used content (Some msg_type) (Some id) = took_for content msg_type id (settled_in used id)

-- the type that a header names, where it reads
unfoldable pub type_in : List ℕ → Option (List ℕ)
type_in header = option_map (λ h. h.msg_type) (result_ok (read_header header))

-- the task that a parent header names, where it reads
unfoldable pub task_in : List ℕ → Option (List ℕ)
task_in parent = result_ok (read_task parent)

-- what a message is to a client that used these ids
unfoldable pub took : Used → Message → Took
took used message = took_under used message.content (type_in message.header) (task_in message.parent)

-- an outcome settles its task, and what the message answers is noted where the task is watched
abbrev pub used_after : Used → Message → Took → Used
used_after used message (Settled id ok) = after_outcome used id (answered message.content) ok
used_after used message Other = used
used_after used message Stranger = used

abbrev pub after_taking : Known → Message → Took → Known
after_taking client message t = record client { used = used_after client.used message t }

-- what messages are to a client that takes one after another
abbrev pub took_all : Used → List Message → List Took
took_all used [] = []
took_all used (message ∷ messages) = took used message ∷ took_all (used_after used message (took used message)) messages

abbrev pub settles : List ℕ → Took → Bool
settles id (Settled settled ok) = bytes_eq settled id
settles id Other = false
settles id Stranger = false

-- how often an id is settled by messages that are taken one after another
abbrev pub times_settled : List ℕ → Used → List Message → ℕ
times_settled id used messages = length (filter (settles id) (took_all used messages))
