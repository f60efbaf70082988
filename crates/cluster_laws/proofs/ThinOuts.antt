-- What further entries send is the same after both histories: nothing that is let go is asked for.
use Rattle.std.proofs.Common.{◌≡◌, ℕ, suc, List, [], ◌∷◌, ◌++◌, Bool, true, false, cond, not, ◌||◌, refl, sym, ap, ◌∙◌, Option, Some, None}
use Rattle.std.specs.Prelude.{filter, filter_map, option_map, codes}
use Rattle.std.specs.List.{list_all}
use Rattle.std.specs.Option.{option_and_then}
use Rattle.std.proofs.lemmas.Bool.{and_parts, and_from, not-true, false_from_ne_true, both_ways}
use Rattle.cluster_types.specs.declared.config.Channel.{Channel}
use Rattle.cluster_types.specs.declared.config.Scheme.{Scheme}
use Rattle.cluster_types.specs.declared.message.Message.{Message}
use Rattle.cluster_types.specs.declared.verdict.Cause.{Cause}
use Rattle.cluster_types.specs.declared.verdict.Cause.TheVariants.{Reply as ByReply, EngineError, ImpossibleDependency, InvalidDependency, TaskTimeout, Abort as ByAbort}
use Rattle.cluster_types.specs.declared.event.Query.{Query}
use Rattle.cluster_types.specs.declared.event.Query.TheVariants.{Connection as ConnectionQuery, Queue, Result as ResultQuery, History as HistoryQuery, Shutdown, Db, Unknown as UnknownQuery, Bad}
use Rattle.cluster_types.specs.declared.event.Event.{Event}
use Rattle.cluster_types.specs.declared.event.Event.TheVariants.{Submit, Direct, Reply, Join, Leave, Pong, Purge, Resubmit, Abort, Ask}
use Rattle.cluster_types.specs.declared.out.Out.{Out}
use Rattle.cluster_types.specs.declared.entry.Input.TheVariants.{Open, Up, Down, In, Beat, Time}
use Rattle.cluster_types.specs.declared.entry.Entry.{Entry}
use Rattle.cluster_types.specs.declared.entry.Entry.TheVariants.{Input, Hand, Settle, Lose}
use Rattle.cluster_defs.specs.Header.{message_type}
use Rattle.cluster_defs.specs.declared.acceptance.Acceptance.{Acceptance}
use Rattle.cluster_defs.specs.declared.acceptance.Acceptance.TheVariants.{Reserved, Purged, Again, NoSuchEngine, Full, Accepted}
use Rattle.cluster_defs.specs.declared.answer.Answer.{Answer}
use Rattle.cluster_defs.specs.declared.connection.Connection.{Connection}
use Rattle.cluster_defs.specs.Words.{Id, is_empty, is_listed, begins_with, once}
use Rattle.cluster_defs.specs.Connections.{connection_on}
use Rattle.cluster_defs.specs.Engines.{conn_in}
use Rattle.cluster_defs.specs.declared.settled.Settled.{Settled}
use Rattle.cluster_defs.specs.Facts.{Facts, event_on, event_in, is_settled}
use Rattle.cluster_defs.specs.Acceptance.{Demand, reserved_front, is_same, is_repeat, acceptance_new, acceptance}
use Rattle.cluster_defs.specs.Purges.{gone_or_unknown}
use Rattle.cluster_defs.specs.Steps.{step}
use Rattle.cluster_defs.specs.Histories.{History, facts, Legal, place}
use Rattle.cluster_defs.specs.Outcomes.{handed_with, outcome, outcome_by}
use Rattle.cluster_defs.specs.Queries.{demand_answer, answer_query, answer_event, answer_type, limited, plain, refusal, left_by, left_as, results_of, result_with, result_answer}
use Rattle.cluster_defs.specs.Outs.{pass_to, owner_conn, repeat_out, repeated, answer_out, message_outs, outs_as, outs}
use Rattle.cluster_defs.specs.Thin.{with_bodies}
use Rattle.cluster_defs.proofs.Says.{due_says}
use Rattle.cluster_laws.proofs.Safe.{hand_open}
use Rattle.cluster_laws.proofs.Closed.{Closed, closed}
use Rattle.cluster_laws.proofs.Copies.{none_pass}
use Rattle.cluster_laws.proofs.Thin.{Bodies, Replies, Like}
use Rattle.cluster_laws.proofs.Gone.{Covers, not_yet, opened}
use Rattle.cluster_defs.specs.FilterContents.{query_content}
use Rattle.cluster_defs.specs.TaskRecords.{record_of, records_of}
use Rattle.cluster_types.proofs.Lists.{same_map}

-- OUTCOMES

by_same : (f : Facts) (b : Bodies) (r : Replies) (id : Id) (s : Settled) (c : Cause) → r id ≡ f.reply_of id → outcome_by (with_bodies f b r) id s c ≡ outcome_by f id s c
by_same f b r id s ByReply h = h
by_same f b r id s EngineError h = refl
by_same f b r id s ImpossibleDependency h = refl
by_same f b r id s InvalidDependency h = refl
by_same f b r id s TaskTimeout h = refl
by_same f b r id s ByAbort h = refl

outcome_at : (f : Facts) (b : Bodies) (r : Replies) (id : Id) (o : Option Settled) → r id ≡ f.reply_of id → option_and_then (λ s. outcome_by (with_bodies f b r) id s s.cause) o ≡ option_and_then (λ s. outcome_by f id s s.cause) o
outcome_at f b r id None h = refl
outcome_at f b r id (Some s) h = by_same f b r id s s.cause h

-- an id whose reply is the same has the same outcome
pub outcome_same : (f : Facts) (b : Bodies) (r : Replies) (id : Id) → r id ≡ f.reply_of id → outcome (with_bodies f b r) id ≡ outcome f id
outcome_same f b r id h = outcome_at f b r id (f.settled id) h

-- DEMANDS

-- of an id that isn't purged, body and reply are the same
pub record Same (f : Facts) (b : Bodies) (r : Replies) (id : Id) : Type 0 where
  pub body : b id ≡ f.body_of id
  pub reply : r id ≡ f.reply_of id

Agrees : Facts → Bodies → Replies → Type 0
Agrees f b r = (id : Id) → f.purged id ≡ false → Same f b r id

repeat_same : (f : Facts) (b : Bodies) (r : Replies) (conn : ℕ) (id : Id) (a : Acceptance) → r id ≡ f.reply_of id → repeat_out (with_bodies f b r) conn id a ≡ repeat_out f conn id a
repeat_same f b r conn id (Again repeat) h = ap (λ x. cond repeat (pass_to (Some conn) x) []) (outcome_same f b r id h)
repeat_same f b r conn id Reserved h = refl
repeat_same f b r conn id Purged h = refl
repeat_same f b r conn id NoSuchEngine h = refl
repeat_same f b r conn id Full h = refl
repeat_same f b r conn id Accepted h = refl

-- what the answer to a demand, and the outcome that it may ask for, are made of
record Demanded (f : Facts) (b : Bodies) (r : Replies) (conn : ℕ) (m : Message) (d : Demand) : Type 0 where
  answers : acceptance (with_bodies f b r) d m ≡ acceptance f d m
  repeats : repeat_out (with_bodies f b r) conn d.submission.id (acceptance (with_bodies f b r) d m) ≡ repeat_out f conn d.submission.id (acceptance f d m)

no_repeat : (f : Facts) (conn : ℕ) (id : Id) (front : Bool) → repeat_out f conn id (cond front Reserved Purged) ≡ []
no_repeat f conn id true = refl
no_repeat f conn id false = refl

demanded_purged : (f : Facts) (b : Bodies) (r : Replies) (conn : ℕ) (m : Message) (d : Demand) → f.purged d.submission.id ≡ true → Demanded f b r conn m d
demanded_purged f b r conn m d on =
    let there = with_bodies f b r in
    let front = begins_with reserved_front d.submission.id in
    let one : acceptance there d m ≡ cond front Reserved Purged = rw on refl in
    let two : acceptance f d m ≡ cond front Reserved Purged = rw on refl in
    record {
      answers = one ∙ sym two;
      repeats = ap (repeat_out there conn d.submission.id) one ∙ no_repeat there conn d.submission.id front ∙ sym (no_repeat f conn d.submission.id front) ∙ ap (repeat_out f conn d.submission.id) (sym two);
    }

demanded_same : (f : Facts) (b : Bodies) (r : Replies) (conn : ℕ) (m : Message) (d : Demand) → Same f b r d.submission.id → Demanded f b r conn m d
demanded_same f b r conn m d same =
    let there = with_bodies f b r in
    let again : is_repeat there d m ≡ is_repeat f d m = ap (is_same d m (f.request_of d.submission.id)) same.body in
    let is : acceptance there d m ≡ acceptance f d m =
    ap (λ x. cond (begins_with reserved_front d.submission.id) Reserved (cond (f.purged d.submission.id) Purged (cond (is_listed d.submission.id f.known) (Again x) (acceptance_new f d m)))) again in
    record { answers = is; repeats = repeat_same f b r conn d.submission.id (acceptance there d m) same.reply ∙ ap (repeat_out f conn d.submission.id) is }

demanded_alike : (f : Facts) (b : Bodies) (r : Replies) (conn : ℕ) (m : Message) (d : Demand) → Agrees f b r → Demanded f b r conn m d
unfolding Agrees
demanded_alike f b r conn m d agrees = go (f.purged d.submission.id) refl
  where
    go : (p : Bool) → f.purged d.submission.id ≡ p → Demanded f b r conn m d
    go true is = demanded_purged f b r conn m d is
    go false is = demanded_same f b r conn m d (agrees d.submission.id is)

-- RESULTS

left_same : (f : Facts) (b : Bodies) (r : Replies) (id : Id) → r id ≡ f.reply_of id → left_by (with_bodies f b r) id ≡ left_by f id
left_same f b r id h = ap (λ x. option_and_then (λ s. option_map (left_as id s) x) (f.settled id)) (outcome_same f b r id h)

each_left : (f : Facts) (b : Bodies) (r : Replies) → Agrees f b r → (ids : List Id) → list_all (λ id. not (f.purged id)) ids ≡ true → filter_map (left_by (with_bodies f b r)) ids ≡ filter_map (left_by f) ids
unfolding Agrees
each_left f b r agrees [] all = refl
each_left f b r agrees (id ∷ ids) all =
    let both = and_parts _ _ all in
    rw (left_same f b r id (agrees id (not-true _ both.0)).reply, each_left f b r agrees ids both.1) refl

results_same : (f : Facts) (b : Bodies) (r : Replies) → Agrees f b r → (status_only : Bool) (ids : List Id) → list_all (λ id. not (f.purged id)) ids ≡ true → results_of (with_bodies f b r) status_only ids ≡ results_of f status_only ids
results_same f b r agrees true ids all = refl
results_same f b r agrees false ids all = each_left f b r agrees ids all

all-filter : {X : Type 0} (q p : X → Bool) (xs : List X) → list_all q xs ≡ true → list_all q (filter p xs) ≡ true
all-filter q p [] h = h
all-filter {X} q p (x ∷ xs) h =
    let both = and_parts _ _ h in
    elim (p x) as (λ b. list_all q (cond b (x ∷ filter p xs) (filter p xs)) ≡ true) [ true ↦ and_from _ _ both.0 (all-filter q p xs both.1) | false ↦ all-filter q p xs both.1 ]

-- where none is gone or unknown, none is purged
unpurged : (f : Facts) (ids : List Id) → list_all (λ id. not (not (is_listed id f.known) || f.purged id)) ids ≡ true → list_all (λ id. not (f.purged id)) ids ≡ true
unpurged f [] all = refl
unpurged f (id ∷ ids) all = let both = and_parts _ _ all in and_from _ _ (second (not (is_listed id f.known)) (f.purged id) both.0) (unpurged f ids both.1)
  where
    second : (a b : Bool) → not (a || b) ≡ true → not b ≡ true
    second true b h = cc
    second false b h = h

result_same : (f : Facts) (b : Bodies) (r : Replies) → Agrees f b r → (ids : List Id) (status_only : Bool) → result_answer (with_bodies f b r) ids status_only ≡ result_answer f ids status_only
result_same f b r agrees ids status_only = go (is_empty (gone_or_unknown f ids)) refl
  where
    refused : Answer
    refused = refusal (codes "UnknownIds") [] (gone_or_unknown f ids)

    there : Answer
    there = result_with f ids (results_of (with_bodies f b r) status_only (filter (is_settled f) ids))

    here : Answer
    here = result_with f ids (results_of f status_only (filter (is_settled f) ids))

    go : (e : Bool) → is_empty (gone_or_unknown f ids) ≡ e → cond (not (is_empty (gone_or_unknown f ids))) refused there ≡ cond (not (is_empty (gone_or_unknown f ids))) refused here
    go false is = rw is refl
    go true is =
        let all = all-filter (λ id. not (f.purged id)) (is_settled f) ids (unpurged f ids (none_pass (λ id. not (is_listed id f.known) || f.purged id) ids is)) in
        ap (λ x. cond (not (is_empty (gone_or_unknown f ids))) refused (result_with f ids x)) (results_same f b r agrees status_only (filter (is_settled f) ids) all)

-- RECORDS

-- of what is purged the outcome isn't told, and of what isn't it is the same
told_outcome : (f : Facts) (b : Bodies) (r : Replies) → Agrees f b r → (id : Id) (p : Bool) → f.purged id ≡ p → cond (f.purged id) None (outcome (with_bodies f b r) id) ≡ cond (f.purged id) None (outcome f id)
unfolding Agrees
told_outcome f b r agrees id true is = rw is refl
told_outcome f b r agrees id false is = ap (cond (f.purged id) None) (outcome_same f b r id (agrees id is).reply)

record_same : (f : Facts) (b : Bodies) (r : Replies) → Agrees f b r → (id : Id) → record_of (with_bodies f b r) id ≡ record_of f id
record_same f b r agrees id = ap (λ o. record (record_of f id) { outcome = o }) (told_outcome f b r agrees id (f.purged id) refl)

records_same : (f : Facts) (b : Bodies) (r : Replies) → Agrees f b r → records_of (with_bodies f b r) ≡ records_of f
records_same f b r agrees = same_map (record_of (with_bodies f b r)) (record_of f) (record_same f b r agrees) f.known

query_same : (f : Facts) (b : Bodies) (r : Replies) → Agrees f b r → (channel : Channel) (query : Query) (msg_type : List ℕ) → answer_query (with_bodies f b r) channel query msg_type ≡ answer_query f channel query msg_type
query_same f b r agrees channel ConnectionQuery msg_type = refl
query_same f b r agrees channel (Queue targets verbose) msg_type = refl
query_same f b r agrees channel (ResultQuery ids status_only) msg_type = result_same f b r agrees (once ids) status_only
query_same f b r agrees channel HistoryQuery msg_type = refl
query_same f b r agrees channel Shutdown msg_type = refl
query_same f b r agrees channel (Db content) msg_type = ap (λ records. plain (query_content records content)) (records_same f b r agrees)
query_same f b r agrees channel UnknownQuery msg_type = refl
query_same f b r agrees channel (Bad field) msg_type = refl

-- MESSAGES

abbrev two_parts : Facts → ℕ → ℕ → ℕ → Message → Channel → Event → Option Answer → List Out → List Out
two_parts f at conn moment m channel event a again = answer_out f.opens at conn moment (answer_type channel m event) m.header a ++ again

event_same : (f : Facts) (b : Bodies) (r : Replies) → Agrees f b r → (at conn moment : ℕ) (m : Message) (channel : Channel) (event : Event) →
    two_parts f at conn moment m channel event (answer_event (with_bodies f b r) conn channel m event) (repeated (with_bodies f b r) conn m event)
    ≡ two_parts f at conn moment m channel event (answer_event f conn channel m event) (repeated f conn m event)
event_same f b r agrees at conn moment m channel (Submit s) =
    let alike = demanded_alike f b r conn m (record { direct = false; submission = s }) agrees in
    λ i. two_parts f at conn moment m channel (Submit s) (demand_answer s.id m.target (alike.answers i)) (alike.repeats i)
event_same f b r agrees at conn moment m channel (Direct s) =
    let alike = demanded_alike f b r conn m (record { direct = true; submission = s }) agrees in
    λ i. two_parts f at conn moment m channel (Direct s) (demand_answer s.id m.target (alike.answers i)) (alike.repeats i)
event_same f b r agrees at conn moment m channel (Ask query) =
    ap (λ x. two_parts f at conn moment m channel (Ask query) (Some (limited channel x)) []) (query_same f b r agrees channel query (message_type m))
event_same f b r agrees at conn moment m channel (Reply name header ok declined) = refl
event_same f b r agrees at conn moment m channel (Join u) = refl
event_same f b r agrees at conn moment m channel Leave = refl
event_same f b r agrees at conn moment m channel (Pong beat) = refl
event_same f b r agrees at conn moment m channel (Purge all ids) = refl
event_same f b r agrees at conn moment m channel (Resubmit ids) = refl
event_same f b r agrees at conn moment m channel (Abort ids) = refl

message_same : (f : Facts) (b : Bodies) (r : Replies) → Agrees f b r → (at conn moment : ℕ) (m : Message) (c : Option Connection) (o : Option Event) → message_outs at (with_bodies f b r) conn moment m c o ≡ message_outs at f conn moment m c o
message_same f b r agrees at conn moment m None o = refl
message_same f b r agrees at conn moment m (Some c) None = refl
message_same f b r agrees at conn moment m (Some c) (Some event) = event_same f b r agrees at conn moment m c.channel event

-- ALL ENTRIES

agrees_like : (gone purged : Id → Bool) (f g : Facts) (like : Like gone purged f g) → Covers gone f → Covers purged f → Agrees f like.bodies like.replies
unfolding Agrees
agrees_like gone purged f g like covers covers_purged id off = record { body = like.body id (not_yet gone f covers id off); reply = like.reply id (not_yet purged f covers_purged id off) }

-- what isn't settled isn't purged
open_same : (f : Facts) (b : Bodies) (r : Replies) → Closed f → Agrees f b r → (id : Id) → is_settled f id ≡ false → Same f b r id
unfolding Agrees
open_same f b r closed agrees id off = agrees id (false_from_ne_true _ (λ on. both_ways _ off (closed.purged id on)))

entry_same : (older : History) (b : Bodies) (r : Replies) → Agrees (facts older) b r → (at : ℕ) (e : Entry) → Legal (e ∷ older) →
    outs_as at (with_bodies (facts older) b r) e (event_in (with_bodies (facts older) b r) e) ≡ outs_as at (facts older) e (event_in (facts older) e)
entry_same older b r agrees at (Hand id n) legal =
    let f = facts older in
    ap (λ x. pass_to (conn_in n f.engines.live) (option_and_then (λ q. handed_with q x) (f.request_of id))) ((open_same f b r (closed older legal.1) agrees id (hand_open older id n legal)).body)
entry_same older b r agrees at (Settle id v c) legal =
    let f = facts older in
    let open_yet = (due_says f (Settle id v c) legal.0).open_yet in
    ap (pass_to (owner_conn f (f.request_of id))) (outcome_same (step f (Settle id v c) None) b r id (open_same f b r (closed older legal.1) agrees id open_yet).reply)
entry_same older b r agrees at (Lose n) legal = refl
entry_same older b r agrees at (Input (Open moment scheme hwm misses)) legal = refl
entry_same older b r agrees at (Input (Up conn channel moment word identity)) legal = refl
entry_same older b r agrees at (Input (Down conn moment word)) legal = refl
entry_same older b r agrees at (Input (Beat moment word)) legal = refl
entry_same older b r agrees at (Input (Time moment word)) legal = refl
entry_same older b r agrees at (Input (In conn moment word m)) legal =
    message_same (facts older) b r agrees at conn moment m (connection_on (facts older).connections conn) (event_on (facts older) conn m)

-- the same further entries from an Open on have the same places
places_same : (entries : List Entry) (moment : ℕ) (scheme : Scheme) (hwm misses : ℕ) (h t : History) → place (entries ++ opened moment scheme hwm misses ∷ t) ≡ place (entries ++ opened moment scheme hwm misses ∷ h)
places_same [] moment scheme hwm misses h t = refl
places_same (Input (Open a b c d) ∷ entries) moment scheme hwm misses h t = refl
places_same (Input (Up a b c d e) ∷ entries) moment scheme hwm misses h t = ap suc (places_same entries moment scheme hwm misses h t)
places_same (Input (Down a b c) ∷ entries) moment scheme hwm misses h t = ap suc (places_same entries moment scheme hwm misses h t)
places_same (Input (In a b c d) ∷ entries) moment scheme hwm misses h t = ap suc (places_same entries moment scheme hwm misses h t)
places_same (Input (Beat a b) ∷ entries) moment scheme hwm misses h t = ap suc (places_same entries moment scheme hwm misses h t)
places_same (Input (Time a b) ∷ entries) moment scheme hwm misses h t = ap suc (places_same entries moment scheme hwm misses h t)
places_same (Hand a b ∷ entries) moment scheme hwm misses h t = ap suc (places_same entries moment scheme hwm misses h t)
places_same (Settle a b c ∷ entries) moment scheme hwm misses h t = ap suc (places_same entries moment scheme hwm misses h t)
places_same (Lose a ∷ entries) moment scheme hwm misses h t = ap suc (places_same entries moment scheme hwm misses h t)

-- the newest of some further entries sends the same after both
pub newest_same : (gone purged : Id → Bool) (entries : List Entry) (moment : ℕ) (scheme : Scheme) (hwm misses : ℕ) (h t : History) (e : Entry) →
    let x = entries ++ opened moment scheme hwm misses ∷ h in
    let y = entries ++ opened moment scheme hwm misses ∷ t in
    Like gone purged (facts x) (facts y) → Covers gone (facts x) → Covers purged (facts x) → Legal (e ∷ x) → outs (e ∷ y) ≡ outs (e ∷ x)
newest_same gone purged entries moment scheme hwm misses h t e like covers covers_purged legal =
    let x = entries ++ opened moment scheme hwm misses ∷ h in
    let y = entries ++ opened moment scheme hwm misses ∷ t in
    ap (λ at. outs_as at (facts y) e (event_in (facts y) e)) (places_same (e ∷ entries) moment scheme hwm misses h t)
    ∙ ap (λ g. outs_as (place (e ∷ x)) g e (event_in g e)) like.is
    ∙ entry_same x like.bodies like.replies (agrees_like gone purged (facts x) (facts y) like covers covers_purged) (place (e ∷ x)) e legal
