-- Purges, resubmissions and aborts come to the same off the records of all tasks.
use Rattle.std.proofs.Common.{◌≡◌, suc, ◌+◌, List, [], ◌∷◌, length, map, Bool, true, false, cond, not, ◌&&◌, refl, sym, ap, ◌∙◌, Some, None}
use Rattle.std.specs.Prelude.{nat_lt, is_some, is_none}
use Rattle.std.proofs.lemmas.Bool.{false_from_ne_true, both_ways}
use Rattle.cluster_defs.specs.Words.{Id, is_empty, is_listed, once}
use Rattle.cluster_defs.specs.declared.settled.Settled.{Settled}
use Rattle.cluster_defs.specs.Facts.{Facts, is_settled}
use Rattle.cluster_types.specs.Limits.{most_ids}
use Rattle.cluster_defs.specs.Purges.{Unknown, Inflight, Drops, inflight, gone_or_unknown, purge_list, purging, copies_from, never_known, gone, NeverKnown, Gone, Running, NoRoom, Makes, resubmitting}
use Rattle.cluster_defs.specs.Histories.{History, facts, Legal}
use Rattle.cluster_defs.specs.TaskRecords.{record_of, records_of}
use Rattle.cluster_defs.specs.RecordAnswers.{record_in, gone_as, is_settled_record}
use Rattle.cluster_defs.specs.RecordPlans.{gone_in, inflight_in, purge_list_in, purge_in, unknown_in, purged_in, resubmit_in, abort_in}
use Rattle.cluster_laws.proofs.Closed.{Closed, closed}
use Rattle.cluster_laws.proofs.RecordsTell.{some_map, picked, gone_told, record_is}
use Rattle.cluster_types.proofs.Lists.{same_filter}
use Rattle.cluster_defs.specs.Aborts.{Absent, TakesBack, aborting}

-- whether an id is settled, by its record
settled_as : (f : Facts) (id : Id) (b : Bool) → is_listed id f.known ≡ b → (is_settled f id ≡ true → is_listed id f.known ≡ true) → is_settled_record (cond b (Some (record_of f id)) None) ≡ is_settled f id
settled_as f id true is listed = some_map (λ (s : Settled). (s.verdict, s.cause)) (f.settled id)
settled_as f id false is listed = sym (false_from_ne_true (is_settled f id) (λ on. both_ways (is_listed id f.known) is (listed on)))

settled_told : (f : Facts) → Closed f → (id : Id) → is_settled_record (record_in (records_of f) id) ≡ is_settled f id
settled_told f closed id = ap is_settled_record (record_is f f.known id) ∙ settled_as f id (is_listed id f.known) refl (closed.listed id)

inflight_told : (f : Facts) → Closed f → (ids : List Id) → inflight_in (records_of f) ids ≡ inflight f ids
inflight_told f closed ids = same_filter _ _ (λ id. ap not (settled_told f closed id)) ids

gone_ids : (f : Facts) (ids : List Id) → gone_in (records_of f) ids ≡ gone_or_unknown f ids
gone_ids f ids = same_filter _ _ (gone_told f) ids

-- PURGE

purge_told : (f : Facts) → Closed f → (ids : List Id) → purge_in (records_of f) ids ≡ purging f ids
purge_told f closed ids =
    let a = gone_ids f ids in
    let b = inflight_told f closed ids in
    λ i. cond (not (is_empty (a i))) (Unknown (a i)) (cond (not (is_empty (b i))) (Inflight (b i)) (Drops ids))

list_told : (f : Facts) (all : Bool) (ids : List Id) → purge_list_in (records_of f) all ids ≡ purge_list f all ids
list_told f true ids =
    picked f (λ r. is_some r.settled && not r.purged) (λ id. is_settled f id && not (f.purged id)) (λ id. ap (λ b. b && not (f.purged id)) (some_map (λ (s : Settled). (s.verdict, s.cause)) (f.settled id)))
list_told f false ids = refl

-- RESUBMIT

unknown_as : (f : Facts) (id : Id) (b : Bool) → is_none (cond b (Some (record_of f id)) None) ≡ not b
unknown_as f id true = refl
unknown_as f id false = refl

unknown_told : (f : Facts) (ids : List Id) → unknown_in (records_of f) ids ≡ never_known f ids
unknown_told f ids = same_filter _ _ (λ id. ap is_none (record_is f f.known id) ∙ unknown_as f id (is_listed id f.known)) ids

purged_as : (f : Facts) (id : Id) (b : Bool) → is_listed id f.known ≡ b → (f.purged id ≡ true → is_listed id f.known ≡ true) →
    (is_some (cond b (Some (record_of f id)) None) && gone_as (cond b (Some (record_of f id)) None)) ≡ f.purged id
purged_as f id true is listed = refl
purged_as f id false is listed = sym (false_from_ne_true (f.purged id) (λ on. both_ways (is_listed id f.known) is (listed on)))

purged_told : (f : Facts) → Closed f → (ids : List Id) → purged_in (records_of f) ids ≡ gone f ids
purged_told f closed ids =
    same_filter _ _ (λ id. ap (λ o. is_some o && gone_as o) (record_is f f.known id) ∙ purged_as f id (is_listed id f.known) refl (λ on. closed.listed id (closed.purged id on))) ids

length_map : {X Y : Type 0} (g : X → Y) (xs : List X) → length (map g xs) ≡ length xs
length_map g [] = refl
length_map g (x ∷ xs) = ap suc (length_map g xs)

resubmit_told : (f : Facts) → Closed f → (ids : List Id) → resubmit_in (records_of f) most_ids ids ≡ resubmitting f ids
resubmit_told f closed ids =
    let a = unknown_told f ids in
    let b = purged_told f closed ids in
    let c = inflight_told f closed ids in
    let n = length_map (record_of f) f.known in
    λ i. cond (not (is_empty (a i))) (NeverKnown (a i))
    (cond (not (is_empty (b i))) (Gone (b i))
    (cond (not (is_empty (c i))) (Running (c i)) (cond (nat_lt most_ids (n i + length ids)) NoRoom (Makes (copies_from (n i + 1) ids)))))

-- ABORT

abort_told : (f : Facts) → Closed f → (ids : List Id) → abort_in (records_of f) ids ≡ aborting f ids
abort_told f closed ids =
    let a = gone_ids f ids in
    let b = inflight_told f closed ids in
    λ i. cond (not (is_empty (a i))) (Absent (a i)) (TakesBack (b i))

pub records_plan : (h : History) (all : Bool) (ids : List Id) → Legal h →
    (purge_in (records_of (facts h)) (purge_list_in (records_of (facts h)) all ids) ≡ purging (facts h) (purge_list (facts h) all ids))
    × (resubmit_in (records_of (facts h)) most_ids (once ids) ≡ resubmitting (facts h) (once ids))
    × (abort_in (records_of (facts h)) (once ids) ≡ aborting (facts h) (once ids))
records_plan h all ids legal =
    let f = facts h in
    (ap (purge_in (records_of f)) (list_told f all ids) ∙ purge_told f (closed h legal) (purge_list f all ids), resubmit_told f (closed h legal) (once ids), abort_told f (closed h legal) (once ids))
