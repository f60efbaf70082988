-- What a message means on its channel, or why it means nothing.
use Rattle.std.specs.Prelude.{ℕ, true, false, Bool, List, [], length, nat_eq, ◌==◌, if◌then◌else◌, Option, Some, None, Result, Ok, Err, bytes_eq, codes}
use Rattle.std.specs.List.{ends_with}
use Rattle.cluster_types.specs.declared.config.Channel.{Channel}
use Rattle.cluster_types.specs.declared.config.Channel.TheVariants.{Hub, Task, Mux, Engine}
use Rattle.cluster_types.specs.declared.message.Message.{Message}
use Rattle.cluster_types.specs.declared.event.Submission.{Submission}
use Rattle.cluster_types.specs.declared.event.Event.{Event as EventType}
use Rattle.cluster_types.specs.declared.event.Event.TheVariants.{Submit, Direct, Reply, Join as JoinEvent, Leave, Pong as PongEvent, Purge as PurgeEvent, Resubmit as ResubmitEvent, Abort as AbortEvent, Ask}
use Rattle.cluster_types.specs.declared.event.Query.TheVariants.{Connection as ConnectionQuery, Queue as QueueQuery, Result as ResultQuery, History as HistoryQuery, Shutdown as ShutdownQuery, Db as DbQuery, Unknown, Bad}
use Rattle.cluster_types.specs.declared.event.Reason.{Reason}
use Rattle.cluster_types.specs.declared.event.Reason.TheVariants.{BadHeader, BadType, NoTarget, BadReply}
use Rattle.cluster_defs.specs.declared.header.Header.{Header as HeaderType}
use Rattle.cluster_defs.specs.declared.content.SubmitMeta.{SubmitMeta}
use Rattle.cluster_defs.specs.declared.content.ReplyMeta.{ReplyMeta}
use Rattle.cluster_defs.specs.declared.content.HubContent.{HubContent}
use Rattle.cluster_defs.specs.declared.content.HubContent.TheVariants.{Connection as ConnectionContent, History as HistoryContent, Shutdown as ShutdownContent, Queue as QueueContent, Result as ResultContent, Purge as PurgeContent, Resubmit as ResubmitContent, Abort as AbortContent, Join, Pong}
use Rattle.cluster_defs.specs.declared.fault.ReadError.{ReadError}
use Rattle.cluster_defs.specs.declared.fault.ReadError.TheVariants.{NotJson, NotObject, Missing, BadField, OutOfMemory}
use Rattle.cluster_defs.specs.declared.hub_request.RequestType.{RequestType}
use Rattle.cluster_defs.specs.declared.hub_request.RequestType.TheVariants.{Connection, Queue, Results, History, Shutdown, Purge, Resubmit, Abort, Registration, Beat}
use Rattle.cluster_defs.specs.Json.{Reading}
use Rattle.cluster_defs.specs.Header.{read_header}
use Rattle.cluster_defs.specs.Submit.{read_submit, plain_dependency}
use Rattle.cluster_defs.specs.Reply.{read_reply}
use Rattle.cluster_defs.specs.Hub.{request_of, read_content}

-- a msg_type that ends in `_request`
unfoldable pub is_request : List ℕ → Bool
is_request msg_type = ends_with nat_eq msg_type (codes "_request")

-- a msg_type that ends in `_reply`
unfoldable pub is_reply : List ℕ → Bool
is_reply msg_type = ends_with nat_eq msg_type (codes "_reply")

unfoldable pub is_leave : List ℕ → Bool
is_leave msg_type = bytes_eq msg_type (codes "unregistration_request")

-- the field that a fault names, or the whole part that doesn't read
abbrev pub fault_field : List ℕ → ReadError → List ℕ
fault_field part NotJson = part
fault_field part NotObject = part
fault_field part (Missing field) = field
fault_field part (BadField field) = field
fault_field part OutOfMemory = part

-- what a content asks for
abbrev pub event_of_content : HubContent → EventType
event_of_content ConnectionContent = Ask ConnectionQuery
event_of_content HistoryContent = Ask HistoryQuery
event_of_content ShutdownContent = Ask ShutdownQuery
event_of_content (QueueContent targets verbose) = Ask (QueueQuery targets verbose)
event_of_content (ResultContent ids status_only) = Ask (ResultQuery ids status_only)
event_of_content (PurgeContent all ids) = PurgeEvent all ids
event_of_content (ResubmitContent ids) = ResubmitEvent ids
event_of_content (AbortContent ids) = AbortEvent ids
event_of_content (Join uuid) = JoinEvent uuid
event_of_content (Pong beat) = PongEvent beat

-- what a content asks for, or that it is bad
abbrev pub request_event : Reading HubContent → EventType
request_event (Ok content) = event_of_content content
request_event (Err fault) = Ask (Bad (fault_field (codes "content") fault))

-- the requests that the hub knows: registrations and echoes belong to engines
abbrev pub hub_request : Option RequestType → Option RequestType
hub_request None = None
hub_request (Some Registration) = None
hub_request (Some Beat) = None
hub_request (Some Connection) = Some Connection
hub_request (Some Queue) = Some Queue
hub_request (Some Results) = Some Results
hub_request (Some History) = Some History
hub_request (Some Shutdown) = Some Shutdown
hub_request (Some Purge) = Some Purge
hub_request (Some Resubmit) = Some Resubmit
hub_request (Some Abort) = Some Abort

unfoldable pub is_db : List ℕ → Bool
is_db msg_type = bytes_eq msg_type (codes "db_request")

abbrev pub hub_event : List ℕ → Option RequestType → EventType
hub_event content None = Ask Unknown
hub_event content (Some request) = request_event (read_content request content)

-- a question to the database passes its content on as it came; that is read when it is answered
abbrev pub hub_meaning : List ℕ → List ℕ → EventType
hub_meaning msg_type content = if is_db msg_type then Ask (DbQuery content) else hub_event content (hub_request (request_of msg_type))

abbrev pub submission : HeaderType → SubmitMeta → Submission
submission header meta = record {
  id = header.msg_id;
  msg_type = header.msg_type;
  session = header.session;
  username = header.username;
  after = meta.after;
  follow = meta.follow;
  targets = meta.targets;
  timeout = meta.timeout;
  retries = meta.retries;
}

abbrev pub submitted : HeaderType → Reading SubmitMeta → EventType
submitted header (Ok meta) = Submit (submission header meta)
submitted header (Err fault) = Ask (Bad (fault_field (codes "metadata") fault))

abbrev pub task_event : HeaderType → List ℕ → Result EventType Reason
task_event header metadata = if is_request header.msg_type then Ok (submitted header (read_submit metadata)) else Err BadType

-- a request to one engine depends on nothing, and is tried once
abbrev pub direct_meta : SubmitMeta
direct_meta = record { after = plain_dependency []; follow = plain_dependency []; targets = []; timeout = 0; retries = 0 }

abbrev pub mux_event : HeaderType → List ℕ → Result EventType Reason
mux_event header target =
    if is_request header.msg_type
    then (if length target == 0 then Err NoTarget else Ok (Direct (submission header direct_meta)))
    else Err BadType

abbrev pub echo_event : Reading HubContent → Result EventType Reason
echo_event (Ok content) = Ok (event_of_content content)
echo_event (Err fault) = Err BadReply

abbrev pub replied : HeaderType → Reading ReplyMeta → Result EventType Reason
replied header (Ok meta) = Ok (Reply meta.task header.msg_id meta.ok meta.declined)
replied header (Err fault) = Err BadReply

-- a message of an engine that is neither a registration nor an echo
abbrev pub reply_event : HeaderType → Message → Result EventType Reason
reply_event header message =
    if is_leave header.msg_type then Ok Leave
    else (if is_reply header.msg_type then replied header (read_reply message.parent message.metadata message.content) else Err BadType)

abbrev pub is_registration : Option RequestType → Bool
is_registration None = false
is_registration (Some Registration) = true
is_registration (Some _) = false

abbrev pub is_echo : Option RequestType → Bool
is_echo None = false
is_echo (Some Beat) = true
is_echo (Some _) = false

abbrev pub engine_event : HeaderType → Message → Result EventType Reason
engine_event header message =
    if is_registration (request_of header.msg_type) then Ok (request_event (read_content Registration message.content))
    else (if is_echo (request_of header.msg_type) then echo_event (read_content Beat message.content) else reply_event header message)

abbrev pub event_under : Channel → Message → Reading HeaderType → Result EventType Reason
event_under channel message (Err fault) = Err BadHeader
event_under Hub message (Ok header) = Ok (hub_meaning header.msg_type message.content)
event_under Task message (Ok header) = task_event header message.metadata
event_under Mux message (Ok header) = mux_event header message.target
event_under Engine message (Ok header) = engine_event header message

-- the event of a message on a channel, or why it is junk
unfoldable pub event_of : Channel → Message → Result EventType Reason
event_of channel message = event_under channel message (read_header message.header)
