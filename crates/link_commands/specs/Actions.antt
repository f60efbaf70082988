-- What the program's client asks of a controller.
use Rattle.std.specs.Prelude.{◌≡◌, ℕ, ◌≤◌, List, [], ◌∷◌, ◌++◌, Option, codes}
use Rattle.client_core.specs.Identifier.{client_id}
use Rattle.client_core.specs.Messages.{Request, task_request, hub_request, message_under}
use Rattle.client_core.specs.Metadata.{plain_meta}
use Rattle.cluster_types.specs.Limits.{last_moment}
use Rattle.cluster_types.specs.declared.message.Message.{Message}
use Rattle.command_words.specs.declared.standing.Action.{Action}
use Rattle.command_words.specs.declared.standing.Action.TheVariants.{Run, Result, Purge, Resubmit, Abort, Queue, History, Shutdown}
use Rattle.cluster_defs.specs.Texts.{texts_list, empty_object}
use Rattle.edges.specs.Spelling.{be64}
use Rattle.thread_edges.specs.Series.{Draws}

-- the session of the program's client
unfoldable pub session : List ℕ
session = codes "client"

-- a content that names one task
unfoldable pub about : List ℕ → List ℕ
about id = codes "{\"msg_ids\":" ++ texts_list (id ∷ []) ++ codes "}"

unfoldable pub result_request : List ℕ
result_request = codes "result_request"

unfoldable pub purge_request : List ℕ
purge_request = codes "purge_request"

unfoldable pub resubmit_request : List ℕ
resubmit_request = codes "resubmit_request"

unfoldable pub abort_request : List ℕ
abort_request = codes "abort_request"

unfoldable pub queue_request : List ℕ
queue_request = codes "queue_request"

unfoldable pub history_request : List ℕ
history_request = codes "history_request"

unfoldable pub shutdown_request : List ℕ
shutdown_request = codes "shutdown_request"

abbrev pub request_for : Action → Request
request_for (Run code) = task_request plain_meta code
request_for (Result id) = hub_request result_request (about id)
request_for (Purge id) = hub_request purge_request (about id)
request_for (Resubmit id) = hub_request resubmit_request (about id)
request_for (Abort id) = hub_request abort_request (about id)
request_for Queue = hub_request queue_request empty_object
request_for History = hub_request history_request empty_object
request_for Shutdown = hub_request shutdown_request empty_object

-- the channel on which an action is asked for: that of tasks for a program, else that of the hub
abbrev pub channel_for : Action → ℕ
channel_for (Run code) = 1
channel_for _ = 0

-- the message for an action, under the id of random octets, at a moment
abbrev pub message_for : List ℕ → ℕ → Action → Message
message_for random moment action = message_under session (client_id random) moment (request_for action)

-- two words came, and these are their octets
pub record AreDrawn (octets : List ℕ) (old new : Option (List ℕ)) : Type 0 where
  pub first : ℕ
  pub second : ℕ
  pub mid : Option (List ℕ)
  pub comes : Draws first old mid
  pub follows : Draws second mid new
  pub is : octets ≡ be64 first ++ be64 second

-- the message for an action, under two words that came, of some moment
pub record IsRequest (action : Action) (old new : Option (List ℕ)) (request : Message) : Type 0 where
  pub random : List ℕ
  pub moment : ℕ
  pub drawn : AreDrawn random old new
  pub limit : moment ≤ last_moment
  pub is : request ≡ message_for random moment action
