-- An entry that isn't kept changes nothing, so the kept entries alone read the same.
use Rattle.std.proofs.Common.{◌≡◌, ℕ, List, [], ◌∷◌, ◌++◌, append-nil, Bool, true, false, cond, not, ◌&&◌, ◌||◌, refl, sym, ap, ◌∙◌, subst, Option, Some, None, bytes_eq}
use Rattle.std.proofs.lemmas.Bool.{or_parts}
use Rattle.cluster_types.specs.declared.message.Message.{Message}
use Rattle.cluster_types.specs.declared.event.Event.{Event}
use Rattle.cluster_types.specs.declared.event.Event.TheVariants.{Submit, Direct, Reply, Join, Leave, Pong, Purge, Resubmit, Abort, Ask}
use Rattle.cluster_types.specs.declared.entry.Input.TheVariants.{Open, Up, Down, In, Beat, Time}
use Rattle.cluster_types.specs.declared.entry.Entry.{Entry}
use Rattle.cluster_types.specs.declared.entry.Entry.TheVariants.{Input, Hand, Settle, Lose}
use Rattle.cluster_defs.specs.Words.{Id, is_empty, or_else}
use Rattle.cluster_defs.specs.Engines.{joined, left_engine, echoed}
use Rattle.cluster_defs.specs.Tasks.{counts, after_reply, after_end, after_abort}
use Rattle.cluster_defs.specs.Facts.{Facts, event_on, is_direct_id}
use Rattle.cluster_defs.specs.Acceptance.{accepted, accepted_id, request_from, body_from}
use Rattle.cluster_defs.specs.Purges.{purged_by, drops, copied_by, copied_ids, request_copied, body_copied}
use Rattle.cluster_defs.specs.Steps.{step, next, changes, is_valid_reply, engines_in, with_joined, reply_from}
use Rattle.cluster_defs.specs.Scheduling.{Allowed, is_kept}
use Rattle.cluster_defs.specs.Histories.{History, facts, Legal, kept}
use Rattle.cluster_defs.proofs.Options.{same_id, or_else-None}
use Rattle.cluster_types.proofs.Booleans.{or_false}
use Rattle.cluster_types.proofs.Options.{none_of}
use Rattle.cluster_defs.specs.Aborts.{aborted_by}

-- what an event that changes nothing doesn't do
pub record Still (f : Facts) (conn : ℕ) (m : Message) (event : Option Event) : Type 0 where
  pub none_accepted : accepted f m event ≡ None
  pub no_join : joined f.engines conn event ≡ None
  pub no_leave : left_engine f.engines.live conn event ≡ None
  pub no_echo : echoed f.engines.live conn f.beats event ≡ None
  pub none_purged : purged_by f event ≡ None
  pub none_copied : copied_by f event ≡ None
  pub not_valid : is_valid_reply f conn event ≡ false
  pub none_aborted : aborted_by f event ≡ []

emptied : (ids : List Id) → not (is_empty ids) ≡ false → ids ≡ []
emptied [] h = refl
emptied (id ∷ ids) h = cc

pub still_from : (f : Facts) (conn : ℕ) (m : Message) (event : Option Event) → changes f conn m event ≡ false → Still f conn m event
still_from f conn m event h =
    let a = or_parts _ _ h in
    let z = or_parts _ _ a.0 in
    let b = or_parts _ _ z.0 in
    let c = or_parts _ _ b.0 in
    let d = or_parts _ _ c.0 in
    let e = or_parts _ _ d.0 in
    let g = or_parts _ _ e.0 in
    record {
      none_accepted = none_of _ g.0;
      no_join = none_of _ g.1;
      no_leave = none_of _ e.1;
      no_echo = none_of _ d.1;
      none_purged = none_of _ c.1;
      none_copied = none_of _ b.1;
      not_valid = a.1;
      none_aborted = emptied (aborted_by f event) z.1;
    }

-- a reply that isn't valid for the task that it names, is for none
off_for : (f : Facts) (conn : ℕ) (id name : Id) (header : List ℕ) → counts f.engines.live conn header (f.task name) ≡ false → (bytes_eq name id && counts f.engines.live conn header (f.task id)) ≡ false
off_for f conn id name header h =
    elim (bytes_eq name id) as (λ b. bytes_eq name id ≡ b → (b && counts f.engines.live conn header (f.task id)) ≡ false) [
      | true ↦ λ same. subst (λ i. counts f.engines.live conn header (f.task i) ≡ false) (same_id name id same) h
      | false ↦ λ _. refl
    ] refl

reply_same : (f : Facts) (conn : ℕ) (id : Id) (direct : Bool) (event : Option Event) → is_valid_reply f conn event ≡ false → after_reply f.engines.live conn id direct event (f.task id) ≡ f.task id
reply_same f conn id direct None h = refl
reply_same f conn id direct (Some (Submit s)) h = refl
reply_same f conn id direct (Some (Direct s)) h = refl
reply_same f conn id direct (Some (Join u)) h = refl
reply_same f conn id direct (Some Leave) h = refl
reply_same f conn id direct (Some (Pong b)) h = refl
reply_same f conn id direct (Some (Purge all ids)) h = refl
reply_same f conn id direct (Some (Resubmit ids)) h = refl
reply_same f conn id direct (Some (Abort ids)) h = refl
reply_same f conn id direct (Some (Ask q)) h = refl
reply_same f conn id direct (Some (Reply name header ok declined)) h = rw (off_for f conn id name header h) refl

answer_same : (f : Facts) (conn : ℕ) (m : Message) (id : Id) (event : Option Event) → is_valid_reply f conn event ≡ false → reply_from f conn m id event (f.reply_of id) ≡ f.reply_of id
answer_same f conn m id None h = refl
answer_same f conn m id (Some (Submit s)) h = refl
answer_same f conn m id (Some (Direct s)) h = refl
answer_same f conn m id (Some (Join u)) h = refl
answer_same f conn m id (Some Leave) h = refl
answer_same f conn m id (Some (Pong b)) h = refl
answer_same f conn m id (Some (Purge all ids)) h = refl
answer_same f conn m id (Some (Resubmit ids)) h = refl
answer_same f conn m id (Some (Abort ids)) h = refl
answer_same f conn m id (Some (Ask q)) h = refl
answer_same f conn m id (Some (Reply name header ok declined)) h = rw (off_for f conn id name header h) refl

task_same : (f : Facts) (conn : ℕ) (m : Message) (id : Id) (event : Option Event) → Still f conn m event → after_abort (aborted_by f event) id (after_end (left_engine f.engines.live conn event) (after_reply f.engines.live conn id (is_direct_id f id) event (f.task id))) ≡ f.task id
task_same f conn m id event still = rw (still.none_aborted, still.no_leave) (reply_same f conn id (is_direct_id f id) event still.not_valid)

engines_same : (f : Facts) (conn : ℕ) (m : Message) (event : Option Event) → Still f conn m event → engines_in f conn event ≡ f.engines
engines_same f conn m event still = rw (still.no_join, still.no_leave, still.no_echo) refl

known_same : (f : Facts) (conn : ℕ) (m : Message) (event : Option Event) → Still f conn m event → f.known ++ accepted_id (accepted f m event) ++ copied_ids (copied_by f event) ≡ f.known
known_same f conn m event still = rw (still.none_accepted, still.none_copied) (append-nil (f.known ++ []) ∙ append-nil f.known)

request_same : (f : Facts) (conn moment : ℕ) (m : Message) (event : Option Event) → Still f conn m event → (id : Id) →
    or_else (f.request_of id) (or_else (request_from f conn moment m id (accepted f m event)) (request_copied f moment id (copied_by f event))) ≡ f.request_of id
request_same f conn moment m event still id = rw (still.none_accepted, still.none_copied) (or_else-None (f.request_of id))

body_same : (f : Facts) (conn : ℕ) (m : Message) (event : Option Event) → Still f conn m event → (id : Id) →
    or_else (f.body_of id) (or_else (body_from m id (accepted f m event)) (body_copied f id (copied_by f event))) ≡ f.body_of id
body_same f conn m event still id = rw (still.none_accepted, still.none_copied) (or_else-None (f.body_of id))

purged_same : (f : Facts) (conn : ℕ) (m : Message) (event : Option Event) → Still f conn m event → (id : Id) → (f.purged id || drops id (purged_by f event)) ≡ f.purged id
purged_same f conn m event still id = rw still.none_purged (or_false (f.purged id))

-- a message that isn't kept changes nothing
pub in_same : (f : Facts) (conn moment word : ℕ) (m : Message) (event : Option Event) → changes f conn m event ≡ false → step f (Input (In conn moment word m)) event ≡ f
in_same f conn moment word m event h =
    let still = still_from f conn m event h in
    let engines = engines_same f conn m event still in
    let known = known_same f conn m event still in
    let uses : with_joined f.engines.next (joined f.engines conn event) f.by_use ≡ f.by_use = rw still.no_join refl in
    let same_moment : cond (changes f conn m event) moment f.moment ≡ f.moment = rw h refl in
    let same_word : cond (changes f conn m event) word f.word ≡ f.word = rw h refl in
    let request = request_same f conn moment m event still in
    let body = body_same f conn m event still in
    let gone = purged_same f conn m event still in
    let task = λ (id : Id). task_same f conn m id event still in
    let answer = λ (id : Id). answer_same f conn m id event still.not_valid in
    λ i. record {
      begun = f.begun;
      opens = f.opens;
      scheme = f.scheme;
      hwm = f.hwm;
      misses = f.misses;
      now = f.now;
      moment = same_moment i;
      word = same_word i;
      beats = f.beats;
      connections = f.connections;
      engines = engines i;
      by_use = uses i;
      known = known i;
      request_of = λ id. request id i;
      body_of = λ id. body id i;
      task = λ id. task id i;
      reply_of = λ id. answer id i;
      settled = f.settled;
      purged = λ id. gone id i;
    }

pub not_kept_same : (f : Facts) (e : Entry) → is_kept f e ≡ false → next f e ≡ f
not_kept_same f (Input (In conn moment word m)) h = in_same f conn moment word m (event_on f conn m) h
not_kept_same f (Input (Open moment scheme hwm misses)) h = cc
not_kept_same f (Input (Up conn channel moment word identity)) h = cc
not_kept_same f (Input (Down conn moment word)) h = cc
not_kept_same f (Input (Beat moment word)) h = cc
not_kept_same f (Input (Time moment word)) h = cc
not_kept_same f (Hand id n) h = cc
not_kept_same f (Settle id v c) h = cc
not_kept_same f (Lose n) h = cc

-- the kept entries read the same
pub kept_facts : (history : History) → facts (kept history) ≡ facts history
kept_facts [] = refl
kept_facts (e ∷ older) =
    elim (is_kept (facts older) e) as (λ b. is_kept (facts older) e ≡ b → facts (cond b (e ∷ kept older) (kept older)) ≡ next (facts older) e) [
      | true ↦ λ _. ap (λ f. next f e) (kept_facts older)
      | false ↦ λ off. kept_facts older ∙ sym (not_kept_same (facts older) e off)
    ] refl

pub kept_legal : (history : History) → Legal history → Legal (kept history)
kept_legal [] legal = tt
kept_legal (e ∷ older) legal =
    elim (is_kept (facts older) e) as (λ b. Legal (cond b (e ∷ kept older) (kept older))) [
      | true ↦ (subst (λ f. Allowed f e) (sym (kept_facts older)) legal.0, kept_legal older legal.1)
      | false ↦ kept_legal older legal.1
    ]

pub kept_own : (history : History) → kept (kept history) ≡ kept history
kept_own [] = refl
kept_own (e ∷ older) =
    elim (is_kept (facts older) e) as (λ b. is_kept (facts older) e ≡ b → kept (cond b (e ∷ kept older) (kept older)) ≡ cond b (e ∷ kept older) (kept older)) [
      | true ↦ λ on. let still : is_kept (facts (kept older)) e ≡ true = ap (λ f. is_kept f e) (kept_facts older) ∙ on in
          rw (still, kept_own older) refl
      | false ↦ λ _. kept_own older
    ] refl
