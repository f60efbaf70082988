-- What the metadata of a task says, or the first fault in the order after, follow, targets, timeout, retries.
use Rattle.std.specs.Prelude.{ℕ, true, false, List, [], ◌∷◌, ◌++◌, nat_le, if◌then◌else◌, Option, Some, None, Ok, is_some, bytes_eq, codes, fold, option_and_then}
use Rattle.std.specs.List.{list_any}
use Rattle.serde_json.specs.Data.{Data, Items}
use Rattle.serde_json.specs.Events.{items_len}
use Rattle.serde_json.specs.Find.{get, as_null, as_str, as_array, as_object}
use Rattle.cluster_types.specs.declared.event.Dep.{Dep}
use Rattle.cluster_defs.specs.declared.content.SubmitMeta.{SubmitMeta}
use Rattle.cluster_defs.specs.Json.{Reading, reading_then, read_object}
use Rattle.cluster_defs.specs.Fields.{or_bad, id_in, each_of, flag_from, whole_from, list_from}
use Rattle.cluster_defs.specs.Points.{whole_timeouts}

-- the texts in order, each at its first place alone
abbrev pub with_new : List (List ℕ) → List ℕ → List (List ℕ)
with_new found id = if list_any (λ other. bytes_eq other id) found then found else found ++ id ∷ []

abbrev pub once : List (List ℕ) → List (List ℕ)
once ids = fold with_new [] ids

-- a list of at most 4,096 ids, doubles counted
abbrev pub at_most_4096 : Items → Option (List (List ℕ))
at_most_4096 values = if nat_le (items_len values) 4096 then each_of id_in values else None

abbrev pub listed_ids : Data → Option (List (List ℕ))
listed_ids value = option_and_then at_most_4096 (as_array value)

abbrev pub single : Option (List ℕ) → Option (List (List ℕ))
single None = None
single (Some id) = Some (id ∷ [])

-- the ids that a value lists: none by null, one by a text, or those of a list
abbrev pub listed_by : Data → Option (List (List ℕ))
listed_by value =
    if is_some (as_null value) then Some []
    else (if is_some (as_str value) then single (id_in value) else listed_ids value)

abbrev pub listed_from : List ℕ → Option Data → Reading (List (List ℕ))
listed_from field None = Ok []
listed_from field (Some value) = or_bad field (listed_by value)

-- a dependency on these ids, with the flags that are meant where none are written
abbrev pub plain_dependency : List (List ℕ) → Dep
plain_dependency ids = record { ids = once ids; all = true; success = true; failure = false }

-- a dependency that is written as an object. Whatever part of it is at fault, the field of the dependency is named.
abbrev pub flagged_dependency : List ℕ → Data → Reading Dep
flagged_dependency field value =
    reading_then (listed_from field (get (codes "dependencies") value)) (λ ids.
    reading_then (flag_from field true (get (codes "all") value)) (λ all.
    reading_then (flag_from field true (get (codes "success") value)) (λ success.
    reading_then (flag_from field false (get (codes "failure") value)) (λ failure.
    Ok (record { ids = once ids; all = all; success = success; failure = failure })))))

abbrev pub dependency_from : List ℕ → Option Data → Reading Dep
dependency_from field None = Ok (plain_dependency [])
dependency_from field (Some value) =
    if is_some (as_object value) then flagged_dependency field value
    else reading_then (or_bad field (listed_by value)) (λ ids. Ok (plain_dependency ids))

abbrev pub submit_from : Data → Reading SubmitMeta
submit_from value =
    reading_then (dependency_from (codes "after") (get (codes "after") value)) (λ after_ids.
    reading_then (dependency_from (codes "follow") (get (codes "follow") value)) (λ follow.
    reading_then (list_from id_in (codes "targets") (get (codes "targets") value)) (λ targets.
    reading_then (whole_from (codes "timeout") 1000000000 (get (codes "timeout") value)) (λ timeout.
    reading_then (whole_from (codes "retries") 1000 (get (codes "retries") value)) (λ retries.
    Ok (record { after = after_ids; follow = follow; targets = targets; timeout = timeout; retries = retries }))))))

-- the timeouts are read without a fraction of 0
unfoldable pub read_submit : List ℕ → Reading SubmitMeta
read_submit octets = reading_then (read_object (whole_timeouts octets)) submit_from
