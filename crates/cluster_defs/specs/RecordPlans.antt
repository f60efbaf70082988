-- What a Purge, a Resubmit and an Abort come to, off the records of all tasks alone.
use Rattle.std.specs.Prelude.{ℕ, List, length, Bool, not, ◌&&◌, filter, is_some, is_none}
use Rattle.cluster_types.specs.declared.record.Record.{Record}
use Rattle.cluster_defs.specs.Words.{Id}
use Rattle.cluster_defs.specs.Aborts.{Aborting, aborting_by}
use Rattle.cluster_defs.specs.Purges.{Purging, purge_list_by, purging_by, Resubmitting, resubmitting_known_by, resubmitting_by}
use Rattle.cluster_defs.specs.RecordAnswers.{ids_where, record_in, gone_as, is_settled_record}

-- ids never known or purged, and ids that are unsettled
abbrev pub gone_in : List Record → List Id → List Id
gone_in records = filter (λ id. gone_as (record_in records id))

abbrev pub inflight_in : List Record → List Id → List Id
inflight_in records = filter (λ id. not (is_settled_record (record_in records id)))

-- with `all` every settled id that isn't purged may go
abbrev pub purge_list_in : List Record → Bool → List Id → List Id
purge_list_in records = purge_list_by (ids_where (λ r. is_some r.settled && not r.purged) records)

abbrev pub purge_in : List Record → List Id → Purging
purge_in records = purging_by (λ id. gone_as (record_in records id)) (λ id. is_settled_record (record_in records id))

abbrev pub abort_in : List Record → List Id → Aborting
abort_in records = aborting_by (λ id. gone_as (record_in records id)) (λ id. is_settled_record (record_in records id))

-- ids never known, and ids that are known and purged
abbrev pub unknown_in : List Record → List Id → List Id
unknown_in records = filter (λ id. is_none (record_in records id))

abbrev pub purged_in : List Record → List Id → List Id
purged_in records = filter (λ id. is_some (record_in records id) && gone_as (record_in records id))

-- of ids that are known and not purged, where so many ids may be known
abbrev pub resubmit_known_in : List Record → ℕ → List Id → Resubmitting
resubmit_known_in records = resubmitting_known_by (λ id. is_settled_record (record_in records id)) (length records)

abbrev pub resubmit_in : List Record → ℕ → List Id → Resubmitting
resubmit_in records =
    resubmitting_by (λ id. is_none (record_in records id)) (λ id. is_some (record_in records id) && gone_as (record_in records id)) (λ id. is_settled_record (record_in records id)) (length records)
