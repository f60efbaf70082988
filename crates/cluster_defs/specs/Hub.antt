-- What the content of a hub request, of a registration or of an echo says, or the first fault.
use Rattle.std.specs.Prelude.{ℕ, ◌^◌, Bool, true, false, List, [], nat_lt, if◌then◌else◌, Option, Some, None, Ok, Err, is_some, bytes_eq, codes, option_map, ⊤}
use Rattle.serde_json.specs.Data.{Data, Items, no_items, item}
use Rattle.serde_json.specs.Find.{get, as_null, as_str, as_array}
use Rattle.cluster_defs.specs.declared.hub_request.RequestType.{RequestType}
use Rattle.cluster_defs.specs.declared.hub_request.RequestType.TheVariants.{Connection, Queue, Results, History, Shutdown, Purge, Resubmit, Abort, Registration, Beat}
use Rattle.cluster_defs.specs.declared.content.HubContent.{HubContent}
use Rattle.cluster_defs.specs.declared.content.HubContent.TheVariants.{Connection as ConnectionContent, History as HistoryContent, Shutdown as ShutdownContent, Queue as QueueContent, Result as ResultContent, Purge as PurgeContent, Resubmit as ResubmitContent, Abort as AbortContent, Join, Pong}
use Rattle.cluster_defs.specs.declared.fault.ReadError.TheVariants.{Missing, BadField}
use Rattle.cluster_defs.specs.Json.{Reading, reading_then, read_object}
use Rattle.cluster_defs.specs.Fields.{or_bad, id_in, whole_in, list_in, id_from, flag_from, list_from, ids_from}

-- the request that a msg_type names
unfoldable pub request_of : List ℕ → Option RequestType
request_of msg_type =
    if bytes_eq msg_type (codes "connection_request") then Some Connection
    else (if bytes_eq msg_type (codes "queue_request") then Some Queue
    else (if bytes_eq msg_type (codes "result_request") then Some Results
    else (if bytes_eq msg_type (codes "history_request") then Some History
    else (if bytes_eq msg_type (codes "shutdown_request") then Some Shutdown
    else (if bytes_eq msg_type (codes "purge_request") then Some Purge
    else (if bytes_eq msg_type (codes "resubmit_request") then Some Resubmit
    else (if bytes_eq msg_type (codes "abort_request") then Some Abort
    else (if bytes_eq msg_type (codes "registration_request") then Some Registration
    else (if bytes_eq msg_type (codes "beat_reply") then Some Beat else None)))))))))

-- an engine's number is a whole number below 2^32
abbrev pub below_2_32 : Option ℕ → Option ℕ
below_2_32 None = None
below_2_32 (Some n) = if nat_lt n (2 ^ 32) then Some n else None

abbrev pub engine_in : Data → Option ℕ
engine_in value = below_2_32 (whole_in value)

abbrev pub queue_from : Data → Reading HubContent
queue_from value =
    reading_then (list_from engine_in (codes "targets") (get (codes "targets") value)) (λ targets.
    reading_then (flag_from (codes "verbose") false (get (codes "verbose") value)) (λ verbose.
    Ok (QueueContent targets verbose)))

abbrev pub result_from : Data → Reading HubContent
result_from value =
    reading_then (ids_from (codes "msg_ids") (get (codes "msg_ids") value)) (λ ids.
    reading_then (flag_from (codes "status_only") false (get (codes "status_only") value)) (λ status_only.
    Ok (ResultContent ids status_only)))

-- the word that asks for all settled ids
abbrev pub is_all : Option (List ℕ) → Bool
is_all None = false
is_all (Some word) = bytes_eq word (codes "all")

abbrev pub is_no_items : Items → Bool
is_no_items no_items = true
is_no_items (item value values) = false

abbrev pub lists_none : Option Items → Bool
lists_none None = false
lists_none (Some values) = is_no_items values

-- a field that may be there only to list none
abbrev pub none_listed : List ℕ → Option Data → Reading ⊤
none_listed field None = Ok tt
none_listed field (Some value) =
    if is_some (as_null value) then Ok tt
    else (if lists_none (as_array value) then Ok tt else Err (BadField field))

abbrev pub ids_or_all : Option Data → Reading (Bool × List (List ℕ))
ids_or_all None = Err (Missing (codes "msg_ids"))
ids_or_all (Some value) =
    if is_all (as_str value) then Ok (true, [])
    else reading_then (or_bad (codes "msg_ids") (list_in id_in value)) (λ ids. Ok (false, ids))

abbrev pub purge_from : Data → Reading HubContent
purge_from value =
    reading_then (ids_or_all (get (codes "msg_ids") value)) (λ asked.
    reading_then (none_listed (codes "engine_ids") (get (codes "engine_ids") value)) (λ _.
    Ok (PurgeContent asked.0 asked.1)))

abbrev pub resubmit_from : Data → Reading HubContent
resubmit_from value = reading_then (ids_from (codes "msg_ids") (get (codes "msg_ids") value)) (λ ids. Ok (ResubmitContent ids))

abbrev pub abort_from : Data → Reading HubContent
abort_from value = reading_then (ids_from (codes "msg_ids") (get (codes "msg_ids") value)) (λ ids. Ok (AbortContent ids))

abbrev pub join_from : Data → Reading HubContent
join_from value = reading_then (id_from (codes "uuid") (get (codes "uuid") value)) (λ uuid. Ok (Join uuid))

abbrev pub number_from : List ℕ → Option Data → Reading ℕ
number_from field None = Err (Missing field)
number_from field (Some value) = or_bad field (whole_in value)

abbrev pub pong_from : Data → Reading HubContent
pong_from value = reading_then (number_from (codes "beat") (get (codes "beat") value)) (λ beat. Ok (Pong beat))

-- a request that says all by its type: its content isn't read
abbrev pub unread : RequestType → Option HubContent
unread Connection = Some ConnectionContent
unread History = Some HistoryContent
unread Shutdown = Some ShutdownContent
unread _ = None

-- what the object says, of a request whose content is read
abbrev pub content_from : RequestType → Data → Reading HubContent
content_from Connection value = Ok ConnectionContent
content_from History value = Ok HistoryContent
content_from Shutdown value = Ok ShutdownContent
content_from Queue value = queue_from value
content_from Results value = result_from value
content_from Purge value = purge_from value
content_from Resubmit value = resubmit_from value
content_from Abort value = abort_from value
content_from Registration value = join_from value
content_from Beat value = pong_from value

abbrev pub read_unless : List ℕ → RequestType → Option HubContent → Reading HubContent
read_unless content request (Some known) = Ok known
read_unless content request None = reading_then (read_object content) (content_from request)

unfoldable pub read_content : RequestType → List ℕ → Reading HubContent
read_content request content = read_unless content request (unread request)

-- the reading of a content by the msg_type, where that names such a request
abbrev pub read_hub : List ℕ → List ℕ → Option (Reading HubContent)
read_hub msg_type content = option_map (λ request. read_content request content) (request_of msg_type)
