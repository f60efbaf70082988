-- Which ids a Purge drops, and which tasks a Resubmit makes.
use Rattle.std.specs.Prelude.{ℕ, nat_lt, ◌+◌, List, [], ◌∷◌, length, map, Option, Some, None, Bool, true, false, not, ◌&&◌, ◌||◌, if◌then◌else◌, filter, find, bytes_eq, option_map}
use Rattle.std.specs.Option.{option_and_then}
use Rattle.cluster_types.specs.declared.event.Event.{Event}
use Rattle.cluster_types.specs.declared.event.Event.TheVariants.{Purge, Resubmit}
use Rattle.edges.specs.Date.{date_of}
use Rattle.cluster_defs.specs.Texts.{resubmit_id, resubmit_header}
use Rattle.cluster_defs.specs.Words.{Id, is_empty, is_listed, once}
use Rattle.cluster_defs.specs.Requests.{Request, Body, is_invalid, targets_of}
use Rattle.cluster_defs.specs.Facts.{Facts, is_settled}
use Rattle.cluster_types.specs.Limits.{most_ids}

-- ids that are unsettled
abbrev pub inflight : Facts → List Id → List Id
inflight f = filter (λ id. not (is_settled f id))

-- PURGE: all listed ids or none

-- ids never known, or purged
abbrev pub gone_or_unknown : Facts → List Id → List Id
gone_or_unknown f = filter (λ id. not (is_listed id f.known) || f.purged id)

-- the ids that a Purge lists: with `all` every one that may go, else each of the listed ones once
abbrev pub purge_list_by : List Id → Bool → List Id → List Id
purge_list_by may_go true ids = may_go
purge_list_by may_go false ids = once ids

-- what a Purge comes to, by the order of its refusals
pub data Purging : Type 0 where
  Unknown : List Id → Purging
  Inflight : List Id → Purging
  Drops : List Id → Purging

-- by which ids are absent, that is never known or purged, and which are settled
abbrev pub purging_by : (Id → Bool) → (Id → Bool) → List Id → Purging
purging_by absent settled ids =
    if not (is_empty (filter absent ids)) then Unknown (filter absent ids)
    else (if not (is_empty (filter (λ id. not (settled id)) ids)) then Inflight (filter (λ id. not (settled id)) ids) else Drops ids)

-- with `all` every settled id that isn't purged may go
abbrev pub purge_list : Facts → Bool → List Id → List Id
purge_list f = purge_list_by (filter (λ id. is_settled f id && not (f.purged id)) f.known)

abbrev pub purging : Facts → List Id → Purging
purging f = purging_by (λ id. not (is_listed id f.known) || f.purged id) (is_settled f)

abbrev pub dropped : Purging → Option (List Id)
dropped (Drops ids) = Some ids
dropped _ = None

-- the ids that a Purge drops, where it is accepted
abbrev pub purged_by : Facts → Option Event → Option (List Id)
purged_by f (Some (Purge all ids)) = dropped (purging f (purge_list f all ids))
purged_by f _ = None

abbrev pub drops : Id → Option (List Id) → Bool
drops id None = false
drops id (Some ids) = is_listed id ids

-- RESUBMIT: a new Submit for each listed id, or refused whole

-- a new id, with the old one whose request it gets
pub record Copy : Type 0 where
  pub old : Id
  pub new : Id

-- new ids with the numbers from one on, in the order of the old ones
abbrev pub copies_from : ℕ → List Id → List Copy
copies_from number [] = []
copies_from number (old ∷ olds) = record { old = old; new = resubmit_id number } ∷ copies_from (number + 1) olds

abbrev pub never_known : Facts → List Id → List Id
never_known f = filter (λ id. not (is_listed id f.known))

abbrev pub gone : Facts → List Id → List Id
gone f = filter (λ id. f.purged id)

-- what a Resubmit comes to, by the order of its refusals
pub data Resubmitting : Type 0 where
  NeverKnown : List Id → Resubmitting
  Gone : List Id → Resubmitting
  Running : List Id → Resubmitting
  NoRoom : Resubmitting
  Makes : List Copy → Resubmitting

-- of ids that are known and not purged, by which are settled, where so many ids are known of so many that may be
abbrev pub resubmitting_known_by : (Id → Bool) → ℕ → ℕ → List Id → Resubmitting
resubmitting_known_by settled known most ids =
    if not (is_empty (filter (λ id. not (settled id)) ids)) then Running (filter (λ id. not (settled id)) ids)
    else (if nat_lt most (known + length ids) then NoRoom else Makes (copies_from (known + 1) ids))

-- by which ids were never known, and which are purged, besides
abbrev pub resubmitting_by : (Id → Bool) → (Id → Bool) → (Id → Bool) → ℕ → ℕ → List Id → Resubmitting
resubmitting_by unknown purged settled known most ids =
    if not (is_empty (filter unknown ids)) then NeverKnown (filter unknown ids)
    else (if not (is_empty (filter purged ids)) then Gone (filter purged ids) else resubmitting_known_by settled known most ids)

abbrev pub resubmitting_known : Facts → List Id → Resubmitting
resubmitting_known f = resubmitting_known_by (is_settled f) (length f.known) most_ids

abbrev pub resubmitting : Facts → List Id → Resubmitting
resubmitting f = resubmitting_by (λ id. not (is_listed id f.known)) (λ id. f.purged id) (is_settled f) (length f.known) most_ids

abbrev pub made : Resubmitting → Option (List Copy)
made (Makes copies) = Some copies
made _ = None

-- the copies that a Resubmit makes, where it is accepted
abbrev pub copied_by : Facts → Option Event → Option (List Copy)
copied_by f (Some (Resubmit ids)) = made (resubmitting f (once ids))
copied_by f _ = None

abbrev pub copied_ids : Option (List Copy) → List Id
copied_ids None = []
copied_ids (Some copies) = map (λ c. c.new) copies

-- the old id of a new one
abbrev pub copied_from : Id → Option (List Copy) → Option Id
copied_from id None = None
copied_from id (Some copies) = option_map (λ c. c.old) (find (λ c. bytes_eq c.new id) copies)

-- the old request under a new id: a Submit with a header of its own, which may run where the listed engines live now
abbrev pub resubmitted : Facts → ℕ → Id → Request → Request
resubmitted f moment id r = record r {
  direct_to = None;
  header = resubmit_header id r.session r.username r.msg_type (date_of moment);
  targets = targets_of f.engines.live r.listed;
  accepted_at = moment;
  invalid = is_invalid f.known id r.after r.follow;
}

-- what a new id gets of the old one
abbrev pub request_copied : Facts → ℕ → Id → Option (List Copy) → Option Request
request_copied f moment id copies = option_map (resubmitted f moment id) (option_and_then f.request_of (copied_from id copies))

abbrev pub body_copied : Facts → Id → Option (List Copy) → Option Body
body_copied f id copies = option_and_then f.body_of (copied_from id copies)
