-- What an engine's reply says, or the first fault in the order parent, metadata, content.
use Rattle.std.specs.Prelude.{ℕ, Bool, true, false, List, if◌then◌else◌, ◌||◌, Option, Some, None, Ok, Err, bytes_eq, codes, option_and_then}
use Rattle.serde_json.specs.Data.{Data}
use Rattle.serde_json.specs.Find.{get, as_bool, as_str}
use Rattle.cluster_defs.specs.declared.content.ReplyMeta.{ReplyMeta}
use Rattle.cluster_defs.specs.declared.fault.ReadError.TheVariants.{Missing}
use Rattle.cluster_defs.specs.Json.{Reading, reading_then, read_object}
use Rattle.cluster_defs.specs.Fields.{or_bad, id_from}

-- the id of the task, from the header of the request
unfoldable pub read_task : List ℕ → Reading (List ℕ)
read_task parent = reading_then (read_object parent) (λ value. id_from (codes "msg_id") (get (codes "msg_id") value))

abbrev pub is_false : Option Bool → Bool
is_false None = false
is_false (Some true) = false
is_false (Some false) = true

-- whether the engine declined the task: `dependencies_met` is false
unfoldable pub read_declined : List ℕ → Reading Bool
read_declined metadata =
    reading_then (read_object metadata) (λ value. Ok (is_false (option_and_then as_bool (get (codes "dependencies_met") value))))

-- `ok`, or one of the words for an error
abbrev pub status_of : Option (List ℕ) → Option Bool
status_of None = None
status_of (Some word) =
    if bytes_eq word (codes "ok") then Some true
    else (if bytes_eq word (codes "error") || bytes_eq word (codes "abort") || bytes_eq word (codes "aborted") then Some false else None)

abbrev pub status_from : Option Data → Reading Bool
status_from None = Err (Missing (codes "status"))
status_from (Some value) = or_bad (codes "status") (status_of (as_str value))

-- whether the task ran without an error
unfoldable pub read_status : List ℕ → Reading Bool
read_status content = reading_then (read_object content) (λ value. status_from (get (codes "status") value))

abbrev pub read_reply : List ℕ → List ℕ → List ℕ → Reading ReplyMeta
read_reply parent metadata content =
    reading_then (read_task parent) (λ task.
    reading_then (read_declined metadata) (λ declined.
    reading_then (read_status content) (λ ok.
    Ok (record { task = task; ok = ok; declined = declined }))))
