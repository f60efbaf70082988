-- Questions are answered the same off the records of all tasks and the live engines.
use Rattle.std.proofs.Common.{◌≡◌, ℕ, List, [], ◌∷◌, map, Bool, true, false, cond, not, ◌&&◌, ◌||◌, refl, sym, ap, ◌∙◌, Option, Some, None, bytes_eq}
use Rattle.std.specs.Prelude.{filter, find, filter_map, flat_map, option_map, ◌==◌, codes}
use Rattle.std.specs.List.{list_any, list_all}
use Rattle.std.specs.Option.{is_some, option_and_then}
use Rattle.std.proofs.lemmas.Bool.{and_parts}
use Rattle.cluster_types.specs.Verdicts.{verdict_name, cause_name}
use Rattle.cluster_types.specs.declared.config.Channel.{Channel}
use Rattle.cluster_types.specs.declared.verdict.Verdict.{Verdict}
use Rattle.cluster_types.specs.declared.verdict.Cause.{Cause}
use Rattle.cluster_types.specs.declared.event.Query.{Query}
use Rattle.cluster_types.specs.declared.event.Query.TheVariants.{Connection, Queue, Result as ResultQuery, History as HistoryQuery, Shutdown, Db, Unknown, Bad}
use Rattle.cluster_types.specs.declared.message.Message.{Message}
use Rattle.cluster_types.specs.declared.record.Record.{Record}
use Rattle.cluster_defs.specs.Texts.{queue_content, result_content, history_content, Settled as SettledText}
use Rattle.cluster_defs.specs.declared.attempt.Attempt.{Attempt}
use Rattle.cluster_defs.specs.declared.attempt.Attempt.TheVariants.{Never, Running, EndedOk, EndedBadly, Lost, Declined, Withdrawn}
use Rattle.cluster_defs.specs.declared.engine.Engine.{Engine}
use Rattle.cluster_defs.specs.Words.{Id, is_empty, is_listed, is_number, once}
use Rattle.cluster_defs.specs.Engines.{lists_number}
use Rattle.cluster_defs.specs.declared.settled.Settled.{Settled}
use Rattle.cluster_defs.specs.Tasks.{engine_of, runs, runs_at}
use Rattle.cluster_defs.specs.Facts.{Facts, is_settled, is_direct_id}
use Rattle.cluster_defs.specs.Purges.{gone_or_unknown}
use Rattle.cluster_defs.specs.Scheduling.{is_live, rests}
use Rattle.cluster_defs.specs.Histories.{History, facts, Legal}
use Rattle.cluster_defs.specs.Outcomes.{outcome}
use Rattle.cluster_defs.specs.Queries.{plain, refusal, finished_on, engine_queue, unassigned, view_of, queues_by, shown, left_as, left_by, results_of, result_with, result_answer, answer_query, answer, limited}
use Rattle.cluster_defs.specs.TaskRecords.{record_of, records_of}
use Rattle.cluster_defs.specs.RecordAnswers.{ids_where, record_in, waits_in, runs_in, finished_in, queue_in, asked_engines, lives_in, queues_in, gone_as, is_settled_record, left_in, all_left, results_in, result_in, query_in, answer_in}
use Rattle.cluster_defs.proofs.Options.{same_id}
use Rattle.cluster_laws.proofs.Copies.{none_pass}
use Rattle.cluster_laws.proofs.RecordsHold.{settled_engine}
use Rattle.cluster_types.proofs.Lists.{same_filter, same_map}

-- LISTS

-- the ids of the records that pass a test are the ids whose record passes it
where_is : (f : Facts) (p : Record → Bool) (ids : List Id) → map (λ (r : Record). r.id) (filter p (map (record_of f) ids)) ≡ filter (λ id. p (record_of f id)) ids
where_is f p [] = refl
where_is f p (id ∷ ids) =
    let rest = where_is f p ids in
    elim (p (record_of f id)) as (λ b. map (λ (r : Record). r.id) (cond b (record_of f id ∷ filter p (map (record_of f) ids)) (filter p (map (record_of f) ids))) ≡ cond b (id ∷ filter (λ i. p (record_of f i)) ids) (filter (λ i. p (record_of f i)) ids)) [
      | true ↦ ap (λ x. id ∷ x) rest
      | false ↦ rest
    ]

same_find : {X : Type 0} (p q : X → Bool) → ((x : X) → p x ≡ q x) → (xs : List X) → find p xs ≡ find q xs
same_find p q same [] = refl
same_find p q same (x ∷ xs) = rw (same x, same_find p q same xs) refl

-- the ids that a test of the records picks
pub picked : (f : Facts) (p : Record → Bool) (q : Id → Bool) → ((id : Id) → p (record_of f id) ≡ q id) → ids_where p (records_of f) ≡ filter q f.known
picked f p q same = where_is f p f.known ∙ same_filter (λ id. p (record_of f id)) q same f.known

pub some_map : {X Y : Type 0} (g : X → Y) (o : Option X) → is_some (option_map g o) ≡ is_some o
some_map g None = refl
some_map g (Some x) = refl

-- QUEUES

pub runs_there : (n : ℕ) (a : Attempt) → (runs a && is_number n (engine_of a)) ≡ runs_at n a
runs_there n Never = refl
runs_there n (Running m) = refl
runs_there n (EndedOk m) = refl
runs_there n (EndedBadly m) = refl
runs_there n (Lost m) = refl
runs_there n (Declined m) = refl
runs_there n (Withdrawn m) = refl

finished_there : (f : Facts) (n : ℕ) (id : Id) → ((s : Settled) → f.settled id ≡ Some s → s.engine ≡ engine_of (f.task id).last) → (o : Option Settled) → f.settled id ≡ o →
    (is_some o && is_number n (engine_of (f.task id).last)) ≡ finished_on n o
finished_there f n id placed None is = refl
finished_there f n id placed (Some s) is = ap (is_number n) (sym (placed s is))

queue_same : (h : History) → Legal h → (n : ℕ) → queue_in (records_of (facts h)) n ≡ engine_queue (facts h) n
queue_same h legal n =
    let f = facts h in
    let direct = picked f (λ r. runs_in n r && r.direct) (λ id. runs_at n (f.task id).last && is_direct_id f id) (λ id. ap (λ b. b && is_direct_id f id) (runs_there n (f.task id).last)) in
    let done = picked f (λ r. finished_in n r && not r.purged) (λ id. finished_on n (f.settled id) && not (f.purged id))
    (λ id. ap (λ b. b && not (f.purged id)) (ap (λ b. b && is_number n (engine_of (f.task id).last)) (some_map _ (f.settled id)) ∙ finished_there f n id (λ s is. settled_engine h id s legal is) (f.settled id) refl)) in
    let tasks = picked f (λ r. runs_in n r && not r.direct) (λ id. runs_at n (f.task id).last && not (is_direct_id f id)) (λ id. ap (λ b. b && not (is_direct_id f id)) (runs_there n (f.task id).last)) in
    λ i. record { number = n; queue = direct i; completed = done i; tasks = tasks i }

unassigned_same : (f : Facts) → ids_where waits_in (records_of f) ≡ unassigned f
unassigned_same f =
    picked f waits_in (λ id. rests f id && not (is_direct_id f id)) (λ id. ap (λ b. not b && not (runs (f.task id).last) && not (is_direct_id f id)) (some_map _ (f.settled id)))

abbrev pair : Engine → ℕ × List ℕ
pair e = (e.number, e.uuid)

numbers_same : (live : List Engine) → map (λ (p : ℕ × List ℕ). p.0) (map pair live) ≡ map (λ e. e.number) live
numbers_same [] = refl
numbers_same (e ∷ live) = ap (λ x. e.number ∷ x) (numbers_same live)

lives_same : (live : List Engine) (n : ℕ) → lives_in (map pair live) n ≡ lists_number n live
lives_same [] n = refl
lives_same (e ∷ live) n = ap (λ b. (e.number == n) || b) (lives_same live n)

shown_same : (f : Facts) (targets : List ℕ) → asked_engines (map pair f.engines.live) targets ≡ shown (map (λ e. e.number) f.engines.live) targets
shown_same f targets = ap (λ ns. shown ns targets) (numbers_same f.engines.live)

queues_same : (h : History) → Legal h → (targets : List ℕ) (verbose : Bool) (o : Option ℕ) → queues_in (records_of (facts h)) (map pair (facts h).engines.live) targets verbose o ≡ queues_by (view_of (facts h)) targets verbose o
queues_same h legal targets verbose (Some n) = refl
queues_same h legal targets verbose None =
    let f = facts h in
    let waiting = unassigned_same f in
    let engines = ap (map (queue_in (records_of f))) (shown_same f targets) ∙ same_map (queue_in (records_of f)) (engine_queue f) (queue_same h legal) (shown (map (λ e. e.number) f.engines.live) targets) in
    λ i. plain (queue_content verbose (waiting i) (engines i))

queue_told : (h : History) → Legal h → (targets : List ℕ) (verbose : Bool) →
    queues_in (records_of (facts h)) (map pair (facts h).engines.live) targets verbose (find (λ n. not (lives_in (map pair (facts h).engines.live) n)) targets) ≡ queues_by (view_of (facts h)) targets verbose (find (λ n. not (is_live (facts h) n)) targets)
queue_told h legal targets verbose =
    let f = facts h in
    ap (queues_in (records_of f) (map pair f.engines.live) targets verbose) (same_find (λ n. not (lives_in (map pair f.engines.live) n)) (λ n. not (is_live f n)) (λ n. ap not (lives_same f.engines.live n)) targets)
    ∙ queues_same h legal targets verbose (find (λ n. not (is_live f n)) targets)

-- RESULTS

-- the record of an id is its record, where it is known
pub record_is : (f : Facts) (ids : List Id) (id : Id) → find (λ (r : Record). bytes_eq r.id id) (map (record_of f) ids) ≡ cond (is_listed id ids) (Some (record_of f id)) None
record_is f [] id = refl
record_is f (i ∷ ids) id =
    elim (bytes_eq i id) as (λ b. bytes_eq i id ≡ b → cond b (Some (record_of f i)) (find (λ (r : Record). bytes_eq r.id id) (map (record_of f) ids)) ≡ cond (b || is_listed id ids) (Some (record_of f id)) None) [
      | true ↦ λ same. ap (λ x. Some (record_of f x)) (same_id i id same)
      | false ↦ λ _. record_is f ids id
    ] refl

gone_same : (f : Facts) (id : Id) (b : Bool) → gone_as (cond b (Some (record_of f id)) None) ≡ (not b || f.purged id)
gone_same f id true = refl
gone_same f id false = refl

pub gone_told : (f : Facts) (id : Id) → gone_as (record_in (records_of f) id) ≡ (not (is_listed id f.known) || f.purged id)
gone_told f id = ap gone_as (record_is f f.known id) ∙ gone_same f id (is_listed id f.known)

-- of ids that are known and not purged
abbrev Open : Facts → Id → Type 0
Open f id = (is_listed id f.known ≡ true) × (f.purged id ≡ false)

abbrev AllOpen : Facts → List Id → Type 0
AllOpen f [] = Unit {0}
AllOpen f (id ∷ ids) = Open f id × AllOpen f ids

open_of : (f : Facts) (id : Id) (a b : Bool) → is_listed id f.known ≡ a → f.purged id ≡ b → not (not a || b) ≡ true → Open f id
open_of f id true false x y h = (x, y)
open_of f id true true x y h = cc
open_of f id false b x y h = cc

all_open : (f : Facts) (ids : List Id) → list_all (λ id. not (not (is_listed id f.known) || f.purged id)) ids ≡ true → AllOpen f ids
all_open f [] h = tt
all_open f (id ∷ ids) h = let both = and_parts _ _ h in (open_of f id (is_listed id f.known) (f.purged id) refl refl both.0, all_open f ids both.1)

known_record : (f : Facts) (id : Id) → is_listed id f.known ≡ true → record_in (records_of f) id ≡ Some (record_of f id)
known_record f id h = record_is f f.known id ∙ ap (λ b. cond b (Some (record_of f id)) None) h

settled_told : (f : Facts) (id : Id) → Open f id → is_settled_record (record_in (records_of f) id) ≡ is_settled f id
settled_told f id is = ap is_settled_record (known_record f id is.0) ∙ some_map (λ (s : Settled). (s.verdict, s.cause)) (f.settled id)

-- filters by tests that agree on these ids
open_filter : (f : Facts) (p q : Id → Bool) → ((id : Id) → Open f id → p id ≡ q id) → (ids : List Id) → AllOpen f ids → filter p ids ≡ filter q ids
open_filter f p q same [] all = refl
open_filter f p q same (id ∷ ids) all = rw (same id all.0, open_filter f p q same ids all.1) refl

filter_open : (f : Facts) (p : Id → Bool) (ids : List Id) → AllOpen f ids → AllOpen f (filter p ids)
filter_open f p [] all = tt
filter_open f p (id ∷ ids) all = elim (p id) as (λ b. AllOpen f (cond b (id ∷ filter p ids) (filter p ids))) [ true ↦ (all.0, filter_open f p ids all.1) | false ↦ filter_open f p ids all.1 ]

abbrev text : Id → Option ℕ → Verdict → Cause → Message → SettledText
text id engine v c m = record { id = id; engine = engine; verdict = verdict_name v; cause = cause_name c; outcome = m }

left_at : (f : Facts) (id : Id) → ((s : Settled) → f.settled id ≡ Some s → s.engine ≡ engine_of (f.task id).last) → f.purged id ≡ false → (o : Option Settled) → f.settled id ≡ o →
    option_and_then (λ (v : Verdict × Cause). option_map (text id (engine_of (f.task id).last) v.0 v.1) (cond (f.purged id) None (outcome f id))) (option_map (λ (s : Settled). (s.verdict, s.cause)) o)
    ≡ option_and_then (λ s. option_map (left_as id s) (outcome f id)) o
left_at f id placed off None is = refl
left_at f id placed off (Some s) is =
    let engine : engine_of (f.task id).last ≡ s.engine = sym (placed s is) in
    ap (λ x. option_map (text id x s.verdict s.cause) (cond (f.purged id) None (outcome f id))) engine
    ∙ ap (λ b. option_map (left_as id s) (cond b None (outcome f id))) off

left_told : (h : History) → Legal h → (id : Id) → Open (facts h) id → option_and_then left_in (record_in (records_of (facts h)) id) ≡ left_by (facts h) id
left_told h legal id is =
    let f = facts h in
    ap (option_and_then left_in) (known_record f id is.0) ∙ left_at f id (λ s k. settled_engine h id s legal k) is.1 (f.settled id) refl

each_left : (h : History) → Legal h → (ids : List Id) → AllOpen (facts h) ids → filter_map (λ id. option_and_then left_in (record_in (records_of (facts h)) id)) ids ≡ filter_map (left_by (facts h)) ids
each_left h legal [] all = refl
each_left h legal (id ∷ ids) all = rw (left_told h legal id all.0, each_left h legal ids all.1) refl

all_left_told : (h : History) → Legal h → (status_only : Bool) (ids : List Id) → AllOpen (facts h) ids → all_left (records_of (facts h)) status_only ids ≡ results_of (facts h) status_only ids
all_left_told h legal true ids all = refl
all_left_told h legal false ids all = each_left h legal ids all

results_told : (h : History) → Legal h → (ids : List Id) (status_only : Bool) → AllOpen (facts h) ids →
    results_in (records_of (facts h)) ids (all_left (records_of (facts h)) status_only (filter (λ id. is_settled_record (record_in (records_of (facts h)) id)) ids))
    ≡ result_with (facts h) ids (results_of (facts h) status_only (filter (is_settled (facts h)) ids))
results_told h legal ids status_only all =
    let f = facts h in
    let told : Id → Bool = λ id. is_settled_record (record_in (records_of f) id) in
    let settled = open_filter f told (is_settled f) (settled_told f) ids all in
    let pending = open_filter f (λ id. not (told id)) (λ id. not (is_settled f id)) (λ id is. ap not (settled_told f id is)) ids all in
    let left = ap (all_left (records_of f) status_only) settled ∙ all_left_told h legal status_only (filter (is_settled f) ids) (filter_open f (is_settled f) ids all) in
    λ i. record { content = result_content (pending i) (settled i) (left i); buffers = flat_map (λ (r : SettledText). r.outcome.buffers) (left i) }

choose : (h : History) → Legal h → (ids : List Id) (status_only : Bool) (b : Bool) → is_empty (gone_or_unknown (facts h) ids) ≡ b →
    cond (not b) (refusal (codes "UnknownIds") [] (gone_or_unknown (facts h) ids)) (results_in (records_of (facts h)) ids (all_left (records_of (facts h)) status_only (filter (λ id. is_settled_record (record_in (records_of (facts h)) id)) ids)))
    ≡ cond (not b) (refusal (codes "UnknownIds") [] (gone_or_unknown (facts h) ids)) (result_with (facts h) ids (results_of (facts h) status_only (filter (is_settled (facts h)) ids)))
choose h legal ids status_only false is = refl
choose h legal ids status_only true is = results_told h legal ids status_only (all_open (facts h) ids (none_pass (λ id. not (is_listed id (facts h).known) || (facts h).purged id) ids is))

result_told : (h : History) → Legal h → (ids : List Id) (status_only : Bool) → result_in (records_of (facts h)) ids status_only ≡ result_answer (facts h) ids status_only
result_told h legal ids status_only =
    let f = facts h in
    let gone = same_filter (λ id. gone_as (record_in (records_of f) id)) (λ id. not (is_listed id f.known) || f.purged id) (gone_told f) ids in
    ap (λ x. cond (not (is_empty x)) (refusal (codes "UnknownIds") [] x) (results_in (records_of f) ids (all_left (records_of f) status_only (filter (λ id. is_settled_record (record_in (records_of f) id)) ids)))) gone
    ∙ choose h legal ids status_only (is_empty (gone_or_unknown f ids)) refl

-- THE ANSWER

query_told : (h : History) → Legal h → (channel : Channel) (query : Query) (msg_type : List ℕ) → query_in (records_of (facts h)) (map pair (facts h).engines.live) channel query msg_type ≡ answer_query (facts h) channel query msg_type
query_told h legal channel Connection msg_type = refl
query_told h legal channel (Queue targets verbose) msg_type = queue_told h legal targets verbose
query_told h legal channel (ResultQuery ids status_only) msg_type = result_told h legal (once ids) status_only
query_told h legal channel HistoryQuery msg_type = ap (λ x. plain (history_content x)) (picked (facts h) (λ r. not r.purged) (λ id. not ((facts h).purged id)) (λ id. refl))
query_told h legal channel Shutdown msg_type = refl
query_told h legal channel (Db content) msg_type = refl
query_told h legal channel Unknown msg_type = refl
query_told h legal channel (Bad field) msg_type = refl

pub records_answer : (h : History) (channel : Channel) (query : Query) (msg_type : List ℕ) → Legal h → answer_in (records_of (facts h)) (map (λ e. (e.number, e.uuid)) (facts h).engines.live) channel query msg_type ≡ answer (facts h) channel query msg_type
records_answer h channel query msg_type legal = ap (limited channel) (query_told h legal channel query msg_type)
