-- What the data of a legal history tell.
use Rattle.std.proofs.Common.{◌≡◌, ℕ, List, [], ◌∷◌, ◌++◌, map, Bool, true, false, cond, ◌&&◌, refl, sym, ap, ◌∙◌, subst, bytes_eq, Option, Some, None}
use Rattle.std.specs.Prelude.{find, nat_lt, not, ◌==◌, option_map, Result, Err}
use Rattle.std.specs.List.{list_all}
use Rattle.std.specs.Option.{option_and_then}
use Rattle.std.proofs.lemmas.Bool.{and_parts, ltb-true}
use Rattle.cluster_types.specs.Records.{AreRecords}
use Rattle.cluster_types.specs.declared.config.Channel.{Channel}
use Rattle.cluster_types.specs.declared.message.Message.{Message}
use Rattle.cluster_types.specs.declared.record.Record.{Record}
use Rattle.cluster_types.specs.declared.verdict.Verdict.{Verdict}
use Rattle.cluster_types.specs.declared.verdict.Cause.{Cause}
use Rattle.cluster_types.specs.declared.verdict.Cause.TheVariants.{Reply, EngineError, ImpossibleDependency, InvalidDependency, TaskTimeout, Abort}
use Rattle.cluster_types.specs.declared.event.Query.{Query}
use Rattle.cluster_types.specs.declared.event.Query.TheVariants.{Connection, Queue, Result as ResultQuery, History as HistoryQuery, Shutdown, Db, Unknown, Bad}
use Rattle.cluster_types.specs.declared.entry.Entry.{Entry}
use Rattle.cluster_types.specs.declared.entry.Entry.TheVariants.{Settle}
use Rattle.cluster_defs.specs.declared.acceptance.Acceptance.{Acceptance}
use Rattle.cluster_defs.specs.declared.acceptance.Acceptance.TheVariants.{Reserved, Purged, Again, NoSuchEngine, Full, Accepted}
use Rattle.cluster_defs.specs.declared.engine.Engine.{Engine}
use Rattle.cluster_defs.specs.Words.{Id, is_listed, once, begins_with}
use Rattle.cluster_defs.specs.Connections.{reached as reached_conn}
use Rattle.cluster_defs.specs.Tasks.{settled_as}
use Rattle.cluster_defs.specs.Requests.{Request}
use Rattle.cluster_defs.specs.Facts.{Facts, nothing_yet, is_settled}
use Rattle.cluster_types.specs.Limits.{most_ids}
use Rattle.cluster_defs.specs.Acceptance.{Demand, acceptance, reserved_front}
use Rattle.cluster_defs.specs.Aborts.{aborting}
use Rattle.cluster_defs.specs.Purges.{purge_list, purging, Resubmitting, NeverKnown, Gone, Running, NoRoom, Makes, resubmitting}
use Rattle.cluster_defs.specs.Steps.{step}
use Rattle.cluster_defs.specs.Histories.{History, facts, Legal}
use Rattle.cluster_defs.specs.Laws.{EnginesAscend}
use Rattle.cluster_defs.specs.Outcomes.{outcome}
use Rattle.cluster_defs.specs.Queries.{answer, demand_answer}
use Rattle.cluster_defs.specs.Outs.{pass_to, owner_conn, answer_out, repeat_out}
use Rattle.cluster_defs.specs.TaskRecords.{record_of, records_of}
use Rattle.cluster_defs.specs.RecordAnswers.{answer_in}
use Rattle.cluster_defs.specs.RecordPlans.{purge_list_in, purge_in, resubmit_in, abort_in}
use Rattle.cluster_defs.proofs.Options.{some_inj, id_self}
use Rattle.cluster_defs.proofs.Says.{due_says}
use Rattle.cluster_laws.proofs.Apart.{live_ascend}
use Rattle.cluster_laws.proofs.RecordsHold.{records_hold}
use Rattle.cluster_laws.proofs.RecordsPlan.{records_plan}
use Rattle.cluster_laws.proofs.RecordsTell.{records_answer}
use Rattle.task_table.specs.Seen.{Seen, seen_in}
use Rattle.cluster_state.specs.declared.settling.Settling.{Settling}
use Rattle.cluster_state.specs.declared.ruling.Ruling.{Ruling}
use Rattle.cluster_state.specs.declared.ruling.Ruling.TheVariants.{Resubmit}
use Rattle.cluster_state.specs.Plain.{Plain, look, tasks_of, plain_of, facts_in, outcome_for}
use Rattle.cluster_state.specs.Ruled.{IsResubmit}
use Rattle.cluster_state.specs.Settling.{IsSettling}
use Rattle.cluster_state.proofs.Exact.{exact, seen_is}
use Rattle.hub_queries.specs.Ascending.{Below, Ascends}
use Rattle.entry_outs.specs.Asked.{asked_live}
use Rattle.entry_outs.specs.Reached.{Reached, IsNext}
use Rattle.entry_outs.specs.Repeats.{is_again}
use Rattle.entry_outs.specs.Memory.{is_memory}
use Rattle.resubmission.specs.Plans.{refusal_of}
use Rattle.resubmission.specs.declared.plan.Renaming.{Renaming}
use Rattle.resubmission.specs.declared.plan.ResubmitRefusal.{ResubmitRefusal}
use Rattle.resubmission.specs.declared.plan.ResubmitRefusal.TheVariants.{OutOfMemory}
use Rattle.std.proofs.lemmas.Bool.{both_ways}
use Rattle.cluster_types.proofs.Options.{none_of}

-- WHAT THE DATA STAND FOR

pub facts_from : (p : Plain) (h : History) → Legal h → p ≡ plain_of (facts h) → facts_in p ≡ facts h
facts_from p h legal is = ap facts_in is ∙ exact h legal

pub facts_are : (p : Plain) (r : Reached p) → facts_in p ≡ facts r.history
facts_are p r = facts_from p r.history r.legal r.is

abbrev pub reached : (p : Plain) (e : Entry) → IsNext p e → Reached p
reached p e n = record { history = n.history; legal = n.legal.1; is = n.is }

-- before the first entry
pub reached_first : (p : Plain) → p ≡ plain_of nothing_yet → Reached p
reached_first p is = record { history = []; legal = tt; is = is }

pub settles_open : (p : Plain) (id : Id) (v : Verdict) (c : Cause) → IsNext p (Settle id v c) → is_settled (facts_in p) id ≡ false
settles_open p id v c n =
    let open_yet = (due_says (facts n.history) (Settle id v c) n.legal.0).open_yet in
    subst (λ f. is_settled f id ≡ false) (sym (facts_are p (reached p (Settle id v c) n))) open_yet

-- RECORDS

rows_of : (f : Facts) (ids : List Id) → map (λ (t : Seen). t.row) (map (look f) ids) ≡ map (record_of f) ids
rows_of f [] = refl
rows_of f (id ∷ ids) = ap (λ rs. record_of f id ∷ rs) (rows_of f ids)

rows_then : (h : History) → Legal h → map (λ (t : Seen). t.row) (tasks_of (facts h)) ≡ records_of (facts_in (plain_of (facts h)))
rows_then h legal = rows_of (facts h) (facts h).known ∙ sym (ap records_of (exact h legal))

pub rows_are : (p : Plain) → Reached p → map (λ (t : Seen). t.row) p.tasks ≡ records_of (facts_in p)
rows_are p r = subst (λ q. map (λ (t : Seen). t.row) q.tasks ≡ records_of (facts_in q)) (sym r.is) (rows_then r.history r.legal)

pub rows_sound : (p : Plain) → Reached p → AreRecords (map (λ (t : Seen). t.row) p.tasks)
rows_sound p r =
    subst AreRecords (sym (rows_are p r)) (subst (λ f. AreRecords (records_of f)) (sym (facts_are p r)) (records_hold r.history r.legal))

pub row_found : (ts : List Seen) (id : Id) → find (λ (r : Record). bytes_eq r.id id) (map (λ (t : Seen). t.row) ts) ≡ option_map (λ (t : Seen). t.row) (seen_in ts id)
row_found [] id = refl
row_found (t ∷ ts) id =
    elim (bytes_eq t.row.id id) as (λ b. cond b (Some t.row) (find (λ (r : Record). bytes_eq r.id id) (map (λ (u : Seen). u.row) ts)) ≡ option_map (λ (u : Seen). u.row) (cond b (Some t) (seen_in ts id))) [
      | true ↦ refl
      | false ↦ row_found ts id
    ]

-- QUESTIONS

abbrev pair : Engine → ℕ × List ℕ
pair e = (e.number, e.uuid)

below_all : (e : Engine) (live : List Engine) → list_all (λ d. nat_lt e.number d.number && not (d.conn == e.conn) && not (bytes_eq d.uuid e.uuid)) live ≡ true →
    Below e.number (map (λ (p : ℕ × List ℕ). p.0) (map pair live))
below_all e [] h = tt
below_all e (d ∷ live) h =
    let both = and_parts _ _ h in
    let parts = and_parts _ _ (and_parts _ _ both.0).0 in
    (ltb-true e.number d.number parts.0, below_all e live both.1)

ascends : (live : List Engine) → EnginesAscend live → Ascends (map (λ (p : ℕ × List ℕ). p.0) (map pair live))
ascends [] h = tt
ascends (e ∷ live) h = (below_all e live h.0, ascends live h.1)

live_ascends : (p : Plain) → Reached p → EnginesAscend p.engines.live
live_ascends p r = subst (λ q. EnginesAscend q.engines.live) (sym r.is) (live_ascend r.history)

pub asked_ascends : (p : Plain) (query : Query) → Reached p → Ascends (map (λ (e : ℕ × List ℕ). e.0) (asked_live query (map (λ (e : Engine). (e.number, e.uuid)) p.engines.live)))
asked_ascends p Connection r = ascends p.engines.live (live_ascends p r)
asked_ascends p (Queue targets verbose) r = ascends p.engines.live (live_ascends p r)
asked_ascends p (ResultQuery ids status_only) r = tt
asked_ascends p HistoryQuery r = tt
asked_ascends p Shutdown r = tt
asked_ascends p (Db content) r = tt
asked_ascends p Unknown r = tt
asked_ascends p (Bad field) r = tt

asked_all : (rs : List Record) (live : List (ℕ × List ℕ)) (channel : Channel) (query : Query) (t : List ℕ) →
    answer_in rs (asked_live query live) channel query t ≡ answer_in rs live channel query t
asked_all rs live channel Connection t = refl
asked_all rs live channel (Queue targets verbose) t = refl
asked_all rs live channel (ResultQuery ids status_only) t = refl
asked_all rs live channel HistoryQuery t = refl
asked_all rs live channel Shutdown t = refl
asked_all rs live channel (Db content) t = refl
asked_all rs live channel Unknown t = refl
asked_all rs live channel (Bad field) t = refl

pub asked_answer : (p : Plain) (channel : Channel) (query : Query) (t : List ℕ) → Reached p →
    answer_in (map (λ (s : Seen). s.row) p.tasks) (asked_live query (map (λ (e : Engine). (e.number, e.uuid)) p.engines.live)) channel query t ≡ answer (facts_in p) channel query t
asked_answer p channel query t r =
    asked_all (map (λ (s : Seen). s.row) p.tasks) (map pair p.engines.live) channel query t
    ∙ ap (λ rs. answer_in rs (map pair p.engines.live) channel query t) (rows_are p r)
    ∙ subst (λ f. answer_in (records_of f) (map pair f.engines.live) channel query t ≡ answer f channel query t) (sym (facts_are p r)) (records_answer r.history channel query t r.legal)

pub purge_told : (p : Plain) (all : Bool) (ids : List Id) → Reached p →
    purge_in (map (λ (s : Seen). s.row) p.tasks) (purge_list_in (map (λ (s : Seen). s.row) p.tasks) all ids) ≡ purging (facts_in p) (purge_list (facts_in p) all ids)
purge_told p all ids r =
    ap (λ rs. purge_in rs (purge_list_in rs all ids)) (rows_are p r)
    ∙ subst (λ f. purge_in (records_of f) (purge_list_in (records_of f) all ids) ≡ purging f (purge_list f all ids)) (sym (facts_are p r)) (records_plan r.history all ids r.legal).0

pub resubmit_told : (p : Plain) (ids : List Id) → Reached p → resubmit_in (map (λ (s : Seen). s.row) p.tasks) most_ids (once ids) ≡ resubmitting (facts_in p) (once ids)
resubmit_told p ids r =
    ap (λ rs. resubmit_in rs most_ids (once ids)) (rows_are p r)
    ∙ subst (λ f. resubmit_in (records_of f) most_ids (once ids) ≡ resubmitting f (once ids)) (sym (facts_are p r)) (records_plan r.history true ids r.legal).1

pub abort_told : (p : Plain) (ids : List Id) → Reached p → abort_in (map (λ (s : Seen). s.row) p.tasks) (once ids) ≡ aborting (facts_in p) (once ids)
abort_told p ids r =
    ap (λ rs. abort_in rs (once ids)) (rows_are p r)
    ∙ subst (λ f. abort_in (records_of f) (once ids) ≡ aborting f (once ids)) (sym (facts_are p r)) (records_plan r.history true ids r.legal).2

-- OUTCOMES

looked : (f : Facts) (id : Id) (t : Seen) (b : Bool) → cond b (Some (look f id)) None ≡ Some t → look f id ≡ t
looked f id t true h = some_inj h
looked f id t false h = cc

look_found : (f : Facts) (id : Id) (t : Seen) → seen_in (tasks_of f) id ≡ Some t → look f id ≡ t
look_found f id t h = looked f id t (is_listed id f.known) (sym (seen_is f f.known id) ∙ h)

kept_outcome : (f : Facts) (id : Id) → f.purged id ≡ false → (look f id).row.outcome ≡ outcome f id
kept_outcome f id off = rw off refl

outcome_then : (h : History) (id : Id) (t : Seen) → Legal h → seen_in (tasks_of (facts h)) id ≡ Some t → (facts_in (plain_of (facts h))).purged id ≡ false → t.row.outcome ≡ outcome (facts_in (plain_of (facts h))) id
outcome_then h id t legal is off =
    let f = facts h in
    let unpurged : f.purged id ≡ false = subst (λ (g : Facts). g.purged id ≡ false) (exact h legal) off in
    sym (ap (λ (s : Seen). s.row.outcome) (look_found f id t is)) ∙ kept_outcome f id unpurged ∙ sym (ap (λ g. outcome g id) (exact h legal))

pub outcome_seen : (p : Plain) (id : Id) (t : Seen) → Reached p → seen_in p.tasks id ≡ Some t → (facts_in p).purged id ≡ false → t.row.outcome ≡ outcome (facts_in p) id
outcome_seen p id t r =
    subst (λ q. seen_in q.tasks id ≡ Some t → (facts_in q).purged id ≡ false → t.row.outcome ≡ outcome (facts_in q) id) (sym r.is) (outcome_then r.history id t r.legal)

pub outcome_none : (p : Plain) (id : Id) → seen_in p.tasks id ≡ None → None ≡ outcome (facts_in p) id
outcome_none p id is = rw is refl

-- of an id that is settled now
settle_look : (f : Facts) (id : Id) (v : Verdict) (c : Cause) → is_settled f id ≡ false →
    outcome_for (settled_as v c f.moment (f.task id)) c (look f id) ≡ outcome (step f (Settle id v c) None) id
settle_look f id v c off = by_cause c (none_of (f.settled id) off)
  where
    by_cause : (k : Cause) → f.settled id ≡ None → outcome_for (settled_as v k f.moment (f.task id)) k (look f id) ≡ outcome (step f (Settle id v k) None) id
    by_cause Reply none = rw (none, id_self id) refl
    by_cause EngineError none = rw (none, id_self id) refl
    by_cause ImpossibleDependency none = rw (none, id_self id) refl
    by_cause InvalidDependency none = rw (none, id_self id) refl
    by_cause TaskTimeout none = rw (none, id_self id) refl
    by_cause Abort none = rw (none, id_self id) refl

settle_then : (h : History) (id : Id) (v : Verdict) (c : Cause) (t : Seen) → Legal h → seen_in (tasks_of (facts h)) id ≡ Some t → is_settled (facts_in (plain_of (facts h))) id ≡ false →
    outcome_for (settled_as v c (facts h).moment t.attempts) c t ≡ outcome (step (facts_in (plain_of (facts h))) (Settle id v c) None) id
settle_then h id v c t legal is off =
    let f = facts h in
    let open_yet : is_settled f id ≡ false = subst (λ g. is_settled g id ≡ false) (exact h legal) off in
    sym (ap (λ (s : Seen). outcome_for (settled_as v c f.moment s.attempts) c s) (look_found f id t is))
    ∙ settle_look f id v c open_yet
    ∙ sym (ap (λ g. outcome (step g (Settle id v c) None) id) (exact h legal))

settle_told : (p : Plain) (id : Id) (v : Verdict) (c : Cause) (t : Seen) → Reached p → seen_in p.tasks id ≡ Some t → is_settled (facts_in p) id ≡ false →
    outcome_for (settled_as v c p.moment t.attempts) c t ≡ outcome (step (facts_in p) (Settle id v c) None) id
settle_told p id v c t r =
    subst (λ q. seen_in q.tasks id ≡ Some t → is_settled (facts_in q) id ≡ false → outcome_for (settled_as v c q.moment t.attempts) c t ≡ outcome (step (facts_in q) (Settle id v c) None) id)
    (sym r.is) (settle_then r.history id v c t r.legal)

owner_told : (p : Plain) (id : Id) (t : Seen) (q : Request) → seen_in p.tasks id ≡ Some t → t.request ≡ Some q → option_and_then (reached_conn p.connections) q.owner ≡ owner_conn (facts_in p) ((facts_in p).request_of id)
owner_told p id t q is has = rw (is, has) refl

pub settle_sends : (p : Plain) (id : Id) (v : Verdict) (c : Cause) (t : Seen) (q : Request) (conn : Option ℕ) (m : Option Message) → Reached p → seen_in p.tasks id ≡ Some t → is_settled (facts_in p) id ≡ false →
    t.request ≡ Some q → conn ≡ option_and_then (reached_conn p.connections) q.owner → m ≡ outcome_for (settled_as v c p.moment t.attempts) c t →
    pass_to conn m ≡ pass_to (owner_conn (facts_in p) ((facts_in p).request_of id)) (outcome (step (facts_in p) (Settle id v c) None) id)
settle_sends p id v c t q conn m r is off has at what =
    ap (λ o. pass_to o m) (at ∙ owner_told p id t q is has)
    ∙ ap (pass_to (owner_conn (facts_in p) ((facts_in p).request_of id))) (what ∙ settle_told p id v c t r is off)

pub settling_outcome : (v : Verdict) (c : Cause) (moment : ℕ) (o : Option Seen) (t : Seen) (s : Settling) → o ≡ Some t → IsSettling v c moment o (Some s) →
    s.outcome ≡ outcome_for (settled_as v c moment t.attempts) c t
settling_outcome v c moment o t s is h = (subst (λ (x : Option Seen). IsSettling v c moment x (Some s)) is h).1

-- REQUESTS

unpurged_open : (f : Facts) (d : Demand) (m : Message) (b : Bool) → f.purged d.submission.id ≡ b → is_again (acceptance f d m) ≡ true → f.purged d.submission.id ≡ false
unpurged_open f d m false is h = is
unpurged_open f d m true is h = go (begins_with reserved_front d.submission.id) refl
  where
    go : (c : Bool) → begins_with reserved_front d.submission.id ≡ c → f.purged d.submission.id ≡ false
    go true on = let off : is_again (acceptance f d m) ≡ false = rw on refl in cc
    go false on = let off : is_again (acceptance f d m) ≡ false = rw (on, is) refl in cc

pub again_unpurged : (f : Facts) (d : Demand) (m : Message) → is_again (acceptance f d m) ≡ true → f.purged d.submission.id ≡ false
again_unpurged f d m h = unpurged_open f d m (f.purged d.submission.id) refl h

pub again_sends : (f : Facts) (opens at conn moment : ℕ) (kind parent target : List ℕ) (id : Id) (a : Acceptance) → is_again a ≡ true →
    answer_out opens at conn moment kind parent (demand_answer id target a) ++ repeat_out f conn id a ≡ pass_to (Some conn) (outcome f id)
again_sends f opens at conn moment kind parent target id Reserved h = cc
again_sends f opens at conn moment kind parent target id Purged h = cc
again_sends f opens at conn moment kind parent target id (Again true) h = refl
again_sends f opens at conn moment kind parent target id (Again false) h = cc
again_sends f opens at conn moment kind parent target id NoSuchEngine h = cc
again_sends f opens at conn moment kind parent target id Full h = cc
again_sends f opens at conn moment kind parent target id Accepted h = cc

pub refused_sends : (f : Facts) (opens at conn moment : ℕ) (kind parent target : List ℕ) (id : Id) (a : Acceptance) → is_again a ≡ false →
    answer_out opens at conn moment kind parent (demand_answer id target a) ++ repeat_out f conn id a ≡ answer_out opens at conn moment kind parent (demand_answer id target a)
refused_sends f opens at conn moment kind parent target id Reserved h = refl
refused_sends f opens at conn moment kind parent target id Purged h = refl
refused_sends f opens at conn moment kind parent target id (Again true) h = cc
refused_sends f opens at conn moment kind parent target id (Again false) h = refl
refused_sends f opens at conn moment kind parent target id NoSuchEngine h = refl
refused_sends f opens at conn moment kind parent target id Full h = refl
refused_sends f opens at conn moment kind parent target id Accepted h = refl

-- MEMORY

pub has_memory : (e : ResubmitRefusal) → is_memory e ≡ false → e ≡ OutOfMemory → ⊥
has_memory e off is = both_ways (is_memory e) off (ap is_memory is)

no_refusal : (what : Resubmitting) → refusal_of what ≡ Some OutOfMemory → ⊥
no_refusal (NeverKnown ids) is = cc
no_refusal (Gone ids) is = cc
no_refusal (Running ids) is = cc
no_refusal NoRoom is = cc
no_refusal (Makes copies) is = cc

-- of a resubmission that a ruling has
pub resubmit_kept : (what : Resubmitting) (r : Ruling) (planned : Result (List Renaming) ResubmitRefusal) → IsResubmit what r → r ≡ Resubmit planned → IsResubmit what (Resubmit planned)
resubmit_kept what r planned h is = subst (IsResubmit what) is h

pub resubmit_had : (what : Resubmitting) (r : Ruling) (planned : Result (List Renaming) ResubmitRefusal) → IsResubmit what r → r ≡ Resubmit planned → planned ≡ Err OutOfMemory → ⊥
resubmit_had what r planned h is none = no_refusal what (subst (λ (x : Result (List Renaming) ResubmitRefusal). IsResubmit what (Resubmit x)) none (resubmit_kept what r planned h is))
