-- What an engine sends: its registration, and the answers to requests.
use Rattle.std.specs.Prelude.{◌≡◌, ℕ, ◌+◌, ◌-◌, ◌^◌, min, ℤ, Bool, not, ◌&&◌, if◌then◌else◌, List, [], map, Option, Some, None, Result, Ok, Err, bytes_eq, codes}
use Rattle.cluster_types.specs.declared.message.Message.{Message}
use Rattle.cluster_defs.specs.declared.header.Header.{Header as HeaderType}
use Rattle.cluster_defs.specs.Json.{Reading}
use Rattle.cluster_defs.specs.Header.{read_header}
use Rattle.cluster_defs.specs.Event.{is_request, fault_field}
use Rattle.cluster_defs.specs.Texts.{empty_object, reply_type}
use Rattle.arith_eval.specs.Names.{Environment}
use Rattle.engine_core.specs.declared.fault.Fault.{Fault}
use Rattle.engine_core.specs.declared.evaluation.Shown.{Shown}
use Rattle.engine_core.specs.declared.kinds.RequestKind.{RequestKind}
use Rattle.engine_core.specs.declared.kinds.RequestKind.TheVariants.{Execute, Beat, Other}
use Rattle.engine_core.specs.declared.request.ExecuteRequest.{ExecuteRequest}
use Rattle.engine_core.specs.Faults.{ename, evalue}
use Rattle.engine_core.specs.Request.{read_execute}
use Rattle.engine_core.specs.Evaluation.{Gives, GiveAll}
use Rattle.engine_core.specs.Contents.{registration_content, failed_content, executed_content}
use Rattle.engine_core.specs.Headers.{engine_header}
use Rattle.engine_core.specs.State.{Session, Standing}

-- a message without identity frames and buffers, and with the metadata `{}`
abbrev pub plain_message : List ℕ → List ℕ → List ℕ → Message
plain_message header parent content =
    record { target = []; header = header; parent = parent; metadata = empty_object; content = content; buffers = [] }

-- the registration_request of an engine
abbrev pub registration : List ℕ → ℕ → Message
registration uuid moment =
    plain_message (engine_header uuid 0 (codes "registration_request") moment) empty_object (registration_content uuid)

-- a count that stands still at the end of its type
abbrev pub risen : ℕ → ℕ
risen n = min (n + 1) (2 ^ 64 - 1)

-- the execution count after a request
abbrev pub counted : ExecuteRequest → ℕ → ℕ
counted request count = if not request.silent && request.store_history then risen count else count

-- the content that tells what the code gave, and the names that are left: only where it has a value the user expressions
-- are evaluated, after it and in the same namespace
abbrev pub Replies : Result ℤ Fault → ExecuteRequest → ℕ → Environment → List ℕ → Environment → Type 0
Replies (Ok value) request count names content after =
    (shown : List Shown) × GiveAll request.user_expressions names shown after × (content ≡ executed_content count shown value)
Replies (Err fault) request count names content after = (after ≡ names) × (content ≡ failed_content count (ename fault) (evalue fault))

-- the content of the reply to a request, and the names that are left
pub record Executes (request : ExecuteRequest) (count : ℕ) (names : Environment) (content : List ℕ) (after : Environment) : Type 0 where
  pub code : Result ℤ Fault
  pub between : Environment
  pub gives : Gives request.code names code between
  pub replies : Replies code request count between content after

-- a request that doesn't read counts for nothing
abbrev pub AnswersExecution : Reading ExecuteRequest → Session → List ℕ → Session → Type 0
AnswersExecution (Ok request) before content after =
    (after.count ≡ counted request before.count) × Executes request (counted request before.count) before.names content after.names
AnswersExecution (Err fault) before content after =
    (after ≡ before) × (content ≡ failed_content before.count (codes "BadContent") (fault_field (codes "content") fault))

-- what a type of request asks for
abbrev pub kind_of : List ℕ → RequestKind
kind_of msg_type =
    if bytes_eq msg_type (codes "execute_request") then Execute else (if bytes_eq msg_type (codes "beat_request") then Beat else Other)

-- the content of the reply to a request with a content: kind, type, content; an echo to a beat
abbrev pub AnswersContent : RequestKind → List ℕ → List ℕ → Session → List ℕ → Session → Type 0
AnswersContent Execute msg_type asked before content after = AnswersExecution (read_execute asked) before content after
AnswersContent Beat msg_type asked before content after = (after ≡ before) × (content ≡ asked)
AnswersContent Other msg_type asked before content after =
    (after ≡ before) × (content ≡ failed_content before.count (codes "NotSupported") msg_type)

-- the type of a request
abbrev pub request_in : Reading HeaderType → Option (List ℕ)
request_in (Ok header) = if is_request header.msg_type then Some header.msg_type else None
request_in (Err fault) = None

-- the reply to a message, with the number of the reply
abbrev pub reply_message : List ℕ → ℕ → List ℕ → Message → ℕ → List ℕ → Message
reply_message uuid number msg_type message moment content =
    plain_message (engine_header uuid number (reply_type msg_type) moment) message.header content

pub record Replied (msg_type : List ℕ) (before : Standing) (message : Message) (moment : ℕ) (reply : Message) (after : Standing) : Type 0 where
  pub content : List ℕ
  pub answers : AnswersContent (kind_of msg_type) msg_type message.content before.session content after.session
  pub uuid : after.uuid ≡ before.uuid
  pub replies : after.replies ≡ risen before.replies
  pub is : reply ≡ reply_message before.uuid (risen before.replies) msg_type message moment content

abbrev pub AnswersAs : Option (List ℕ) → Standing → Message → ℕ → Option Message → Standing → Type 0
AnswersAs None before message moment reply after = (reply ≡ None) × (after ≡ before)
AnswersAs (Some msg_type) before message moment None after = ⊥
AnswersAs (Some msg_type) before message moment (Some reply) after = Replied msg_type before message moment reply after

-- the answer to a message at a moment, and the engine behind it: requests alone are answered
abbrev pub Answers : Standing → Message → ℕ → Option Message → Standing → Type 0
Answers before message moment reply after = AnswersAs (request_in (read_header message.header)) before message moment reply after
