-- What is settled is known and at rest, what is purged is settled, and what is known has a request.
use Rattle.std.proofs.Common.{◌≡◌, ℕ, List, [], ◌∷◌, ◌++◌, Bool, true, false, cond, ◌&&◌, ◌||◌, refl, ap, ◌∙◌, subst, sym, Option, Some, None, bytes_eq, ⊎_elim}
use Rattle.std.specs.Prelude.{find, option_map}
use Rattle.std.specs.Option.{is_some, option_and_then}
use Rattle.std.proofs.lemmas.Bool.{or_cases, or_left, both_ways, or_right}
use Rattle.std.proofs.lemmas.List.Folds.{list_any-append}
use Rattle.cluster_types.specs.declared.message.Message.{Message}
use Rattle.cluster_types.specs.declared.verdict.Verdict.{Verdict}
use Rattle.cluster_types.specs.declared.verdict.Cause.{Cause}
use Rattle.cluster_types.specs.declared.event.Event.{Event}
use Rattle.cluster_types.specs.declared.event.Event.TheVariants.{Reply}
use Rattle.cluster_types.specs.declared.entry.Input.{Input as InputType}
use Rattle.cluster_types.specs.declared.entry.Input.TheVariants.{Open, Up, Down, In, Beat, Time}
use Rattle.cluster_types.specs.declared.entry.Entry.{Entry}
use Rattle.cluster_types.specs.declared.entry.Entry.TheVariants.{Input, Hand, Settle, Lose}
use Rattle.cluster_defs.specs.declared.attempt.Attempt.{Attempt}
use Rattle.cluster_defs.specs.declared.attempt.Attempt.TheVariants.{Never, Running, EndedOk, EndedBadly, Lost, Declined, Withdrawn}
use Rattle.cluster_defs.specs.declared.engine.Engine.{Engine}
use Rattle.cluster_defs.specs.Words.{Id, or_else, is_listed, is_number}
use Rattle.cluster_defs.specs.Engines.{engine_on, left_engine}
use Rattle.cluster_defs.specs.declared.attempt.Ending.{Ending}
use Rattle.cluster_defs.specs.declared.attempt.Ending.TheVariants.{Well, Badly, Declines}
use Rattle.cluster_defs.specs.declared.settled.Settled.{Settled}
use Rattle.cluster_defs.specs.Tasks.{Task, ending, settled_as, lost, took, replied, after_reply, after_end, counts, home, handed, runs, runs_at}
use Rattle.cluster_defs.specs.Requests.{Request}
use Rattle.cluster_defs.specs.Facts.{Facts, event_on, is_settled, is_direct_id}
use Rattle.cluster_defs.specs.Acceptance.{Demand, accepted, accepted_id, request_from, request_made}
use Rattle.cluster_defs.specs.Purges.{Copy, copied_by, copied_ids, copied_from, request_copied, resubmitted}
use Rattle.cluster_defs.specs.Steps.{next}
use Rattle.cluster_defs.specs.Histories.{History, facts, Legal}
use Rattle.cluster_defs.proofs.Options.{same_id, id_self}
use Rattle.cluster_defs.proofs.Says.{due_says}
use Rattle.cluster_laws.proofs.Later.{settled_stays, request_stays}
use Rattle.cluster_laws.proofs.Safe.{hand_open}
use Rattle.cluster_laws.proofs.Copies.{purge_settled, old_copied, listed_copied}
use Rattle.cluster_laws.proofs.Aborting.{abort_choice}
use Rattle.cluster_defs.specs.Aborts.{aborted_by}

-- WHAT STAYS

pub listed_stays : (f : Facts) (e : Entry) (id : Id) → is_listed id f.known ≡ true → is_listed id (next f e).known ≡ true
listed_stays f (Hand i n) id h = h
listed_stays f (Settle i v c) id h = h
listed_stays f (Lose n) id h = h
listed_stays f (Input (Open moment scheme hwm misses)) id h = h
listed_stays f (Input (Up conn channel moment word identity)) id h = h
listed_stays f (Input (Down conn moment word)) id h = h
listed_stays f (Input (Beat moment word)) id h = h
listed_stays f (Input (Time moment word)) id h = h
listed_stays f (Input (In conn moment word m)) id h =
    let event = event_on f conn m in
    list_any-append (λ i. bytes_eq i id) (f.known ++ accepted_id (accepted f m event)) (copied_ids (copied_by f event))
    ∙ or_left _ _ (list_any-append (λ i. bytes_eq i id) f.known (accepted_id (accepted f m event)) ∙ or_left _ _ h)

pub purged_stays : (f : Facts) (e : Entry) (id : Id) → f.purged id ≡ true → (next f e).purged id ≡ true
purged_stays f (Hand i n) id h = h
purged_stays f (Settle i v c) id h = h
purged_stays f (Lose n) id h = h
purged_stays f (Input (Open moment scheme hwm misses)) id h = h
purged_stays f (Input (Up conn channel moment word identity)) id h = h
purged_stays f (Input (Down conn moment word)) id h = h
purged_stays f (Input (Beat moment word)) id h = h
purged_stays f (Input (Time moment word)) id h = h
purged_stays f (Input (In conn moment word m)) id h = or_left _ _ h

pub some_stays : (f : Facts) (e : Entry) (id : Id) → is_settled f id ≡ true → is_settled (next f e) id ≡ true
some_stays f e id h = go (f.settled id) refl h
  where
    go : (o : Option Settled) → f.settled id ≡ o → is_some o ≡ true → is_settled (next f e) id ≡ true
    go None is h = cc
    go (Some s) is h = ap is_some (settled_stays f e id s is)

-- WHAT IS KNOWN HAS A REQUEST, in any list of entries

unfoldable pub Requested : Facts → Type 0
Requested f = (id : Id) → is_listed id f.known ≡ true → is_some (f.request_of id) ≡ true

some_request : (f : Facts) (e : Entry) (id : Id) → is_some (f.request_of id) ≡ true → is_some ((next f e).request_of id) ≡ true
some_request f e id h = go (f.request_of id) refl h
  where
    go : (o : Option Request) → f.request_of id ≡ o → is_some o ≡ true → is_some ((next f e).request_of id) ≡ true
    go None is h = cc
    go (Some r) is h = ap is_some (request_stays f e id r is)

else_left : {X : Type 0} (o p : Option X) → is_some o ≡ true → is_some (or_else o p) ≡ true
else_left None p h = cc
else_left (Some x) p h = refl

else_right : {X : Type 0} (o p : Option X) → is_some p ≡ true → is_some (or_else o p) ≡ true
else_right None p h = h
else_right (Some x) p h = refl

demand_requested : (f : Facts) (conn moment : ℕ) (m : Message) (id : Id) (d : Option Demand) → is_listed id (accepted_id d) ≡ true → is_some (request_from f conn moment m id d) ≡ true
demand_requested f conn moment m id None h = cc
demand_requested f conn moment m id (Some d) h =
    (elim (bytes_eq d.submission.id id) as (λ b. (b || false) ≡ true → is_some (cond b (Some (request_made f conn moment m d)) None) ≡ true) [ true ↦ λ _. refl | false ↦ λ k. cc ]) h

map_requested : {X Y : Type 0} (g : X → Y) (o : Option X) → is_some o ≡ true → is_some (option_map g o) ≡ true
map_requested g None h = cc
map_requested g (Some x) h = refl

copy_requested : (f : Facts) (moment : ℕ) (id : Id) (o : Option Event) → ((i : Id) → is_listed i f.known ≡ true → is_some (f.request_of i) ≡ true) → is_listed id (copied_ids (copied_by f o)) ≡ true → is_some (request_copied f moment id (copied_by f o)) ≡ true
copy_requested f moment id o requested h = go (copied_by f o) refl h
  where
    from : (old : Id) (x : Option Id) → x ≡ Some old → is_some (f.request_of old) ≡ true → is_some (option_map (resubmitted f moment id) (option_and_then f.request_of x)) ≡ true
    from old x is k = subst (λ y. is_some (option_map (resubmitted f moment id) (option_and_then f.request_of y)) ≡ true) (sym is) (map_requested (resubmitted f moment id) (f.request_of old) k)

    go : (c : Option (List Copy)) → copied_by f o ≡ c → is_listed id (copied_ids c) ≡ true → is_some (request_copied f moment id c) ≡ true
    go None is k = cc
    go (Some copies) is k =
        let old = listed_copied id copies k in
        from old.0 (copied_from id (Some copies)) old.1 (requested old.0 ((old_copied f o id old.0 (subst (λ c. copied_from id c ≡ Some old.0) (sym is) old.1)).known))

requested_more : (f : Facts) (e : Entry) → Requested f → Requested (next f e)
unfolding Requested
requested_more f (Hand i n) requested id h = requested id h
requested_more f (Settle i v c) requested id h = requested id h
requested_more f (Lose n) requested id h = requested id h
requested_more f (Input (Open moment scheme hwm misses)) requested id h = requested id h
requested_more f (Input (Up conn channel moment word identity)) requested id h = requested id h
requested_more f (Input (Down conn moment word)) requested id h = requested id h
requested_more f (Input (Beat moment word)) requested id h = requested id h
requested_more f (Input (Time moment word)) requested id h = requested id h
requested_more f (Input (In conn moment word m)) requested id h =
    let event = event_on f conn m in
    let new = accepted_id (accepted f m event) in
    let copies = copied_ids (copied_by f event) in
    let made : Option Request = request_from f conn moment m id (accepted f m event) in
    let copied : Option Request = request_copied f moment id (copied_by f event) in
    ⊎_elim
    (λ old. ⊎_elim (λ k. else_left (f.request_of id) (or_else made copied) (requested id k))
    (λ k. else_right (f.request_of id) (or_else made copied) (else_left made copied (demand_requested f conn moment m id (accepted f m event) k)))
    (or_cases _ _ (sym (list_any-append (λ i. bytes_eq i id) f.known new) ∙ old)))
    (λ k. else_right (f.request_of id) (or_else made copied) (else_right made copied (copy_requested f moment id event requested k)))
    (or_cases _ _ (sym (list_any-append (λ i. bytes_eq i id) (f.known ++ new) copies) ∙ h))

pub requested : (h : History) → Requested (facts h)
unfolding Requested
requested [] id h = cc
requested (e ∷ older) id h = requested_more (facts older) e (requested older) id h

-- SETTLED AND PURGED

-- what a legal history says of settled and purged ids
pub record Closed (f : Facts) : Type 0 where
  pub listed : (id : Id) → is_settled f id ≡ true → is_listed id f.known ≡ true
  pub idle : (id : Id) → is_settled f id ≡ true → runs (f.task id).last ≡ false
  pub purged : (id : Id) → f.purged id ≡ true → is_settled f id ≡ true

-- what is found in a list of ids is listed in it
pub found_listed : (test : Id → Bool) (known : List Id) (id : Id) → find test known ≡ Some id → is_listed id known ≡ true
found_listed test [] id e = cc
found_listed test (i ∷ known) id e =
    (elim (test i) as (λ b. cond b (Some i) (find test known) ≡ Some id → (bytes_eq i id || is_listed id known) ≡ true) [
      | true ↦ λ is. let same : i ≡ id = cc in or_left (bytes_eq i id) (is_listed id known) (rw same (id_self id))
      | false ↦ λ is. or_right (bytes_eq i id) _ (found_listed test known id is)
    ]) e

-- an attempt that doesn't run goes on not running
lost_idle : (a : Attempt) (t : Task) → runs t.last ≡ false → runs (lost a t).last ≡ false
lost_idle (Running n) t h = refl
lost_idle Never t h = h
lost_idle (EndedOk n) t h = h
lost_idle (EndedBadly n) t h = h
lost_idle (Lost n) t h = h
lost_idle (Declined n) t h = h
lost_idle (Withdrawn n) t h = h

replied_idle : (header : List ℕ) (how : Ending) (n : ℕ) (t : Task) → runs (replied header how n t).last ≡ false
replied_idle header Well n t = refl
replied_idle header Badly n t = refl
replied_idle header Declines n t = refl

took_idle : (header : List ℕ) (how : Ending) (a : Attempt) (t : Task) → runs t.last ≡ false → runs (took header how a t).last ≡ false
took_idle header how (Running n) t h = replied_idle header how n t
took_idle header how Never t h = h
took_idle header how (EndedOk n) t h = h
took_idle header how (EndedBadly n) t h = h
took_idle header how (Lost n) t h = h
took_idle header how (Declined n) t h = h
took_idle header how (Withdrawn n) t h = h

choice_idle : (b : Bool) (new old : Task) → runs new.last ≡ false → runs old.last ≡ false → runs (cond b new old).last ≡ false
choice_idle true new old h k = h
choice_idle false new old h k = k

end_idle : (o : Option ℕ) (t : Task) → runs t.last ≡ false → runs (after_end o t).last ≡ false
end_idle None t h = h
end_idle (Some n) t h = choice_idle (runs_at n t.last) _ t (lost_idle t.last t h) h

reply_idle : (live : List Engine) (conn : ℕ) (id : Id) (direct : Bool) (o : Option Event) (t : Task) → runs t.last ≡ false → runs (after_reply live conn id direct o t).last ≡ false
reply_idle live conn id direct None t h = h
reply_idle live conn id direct (Some (Reply name header ok declined)) t h =
    choice_idle (bytes_eq name id && counts live conn header t) _ t (took_idle header (ending direct ok declined) t.last t h) h
reply_idle live conn id direct (Some _) t h = h

input_idle : (f : Facts) (input : InputType) (id : Id) → runs (f.task id).last ≡ false → runs ((next f (Input input)).task id).last ≡ false
input_idle f (Open moment scheme hwm misses) id h = lost_idle (f.task id).last (f.task id) h
input_idle f (Up conn channel moment word identity) id h = h
input_idle f (Down conn moment word) id h = end_idle (option_map (λ e. e.number) (engine_on f.engines.live conn)) (f.task id) h
input_idle f (Beat moment word) id h = h
input_idle f (Time moment word) id h = h
input_idle f (In conn moment word m) id h =
    let event = event_on f conn m in
    abort_choice (λ t. runs t.last ≡ false) (aborted_by f event) id _ (end_idle (left_engine f.engines.live conn event) _ (reply_idle f.engines.live conn id (is_direct_id f id) event (f.task id) h)) refl

-- an id that is settled by an entry was settled before, or is the one that it names
settled_by : (o : Option Settled) (b : Bool) (s : Settled) → is_some (or_else o (cond b (Some s) None)) ≡ true → (b ≡ false) → is_some o ≡ true
settled_by None true s h e = cc
settled_by None false s h e = h
settled_by (Some t) b s h e = refl

settle_case : (f : Facts) (i id : Id) (v : Verdict) (c : Cause) (P : Id → Type 0) → P i → (is_settled f id ≡ true → P id) → is_some (or_else (f.settled id) (cond (bytes_eq i id) (Some (settled_as v c f.moment (f.task id))) None)) ≡ true → P id
settle_case f i id v c P here before h =
    (elim (bytes_eq i id) as (λ b. bytes_eq i id ≡ b → is_some (or_else (f.settled id) (cond b (Some (settled_as v c f.moment (f.task id))) None)) ≡ true → P id) [
      | true ↦ λ same _. subst P (same_id i id same) here
      | false ↦ λ _ k. before (settled_by (f.settled id) false (settled_as v c f.moment (f.task id)) k refl)
    ]) refl h

hand_idle : (f : Facts) → Closed f → (i : Id) (n : ℕ) → is_settled f i ≡ false → (id : Id) → is_settled f id ≡ true → runs ((next f (Hand i n)).task id).last ≡ false
hand_idle f closed i n open_yet id h =
    elim (bytes_eq i id) as (λ b. bytes_eq i id ≡ b → runs (cond b (handed n (f.task id)) (f.task id)).last ≡ false) [
      | true ↦ λ same. let no_more : is_settled f id ≡ false = subst (λ x. is_settled f x ≡ false) (same_id i id same) open_yet in absurd (both_ways (is_settled f id) no_more h)
      | false ↦ λ _. closed.idle id h
    ] refl

purged_input : (f : Facts) → Closed f → (input : InputType) (id : Id) → (next f (Input input)).purged id ≡ true → is_settled f id ≡ true
purged_input f closed (Open moment scheme hwm misses) id h = closed.purged id h
purged_input f closed (Up conn channel moment word identity) id h = closed.purged id h
purged_input f closed (Down conn moment word) id h = closed.purged id h
purged_input f closed (Beat moment word) id h = closed.purged id h
purged_input f closed (Time moment word) id h = closed.purged id h
purged_input f closed (In conn moment word m) id h = ⊎_elim (closed.purged id) (purge_settled f (event_on f conn m) id) (or_cases _ _ h)

closed_more : (older : History) (e : Entry) → Legal (e ∷ older) → Closed (facts older) → Closed (next (facts older) e)
closed_more older (Settle i v c) legal closed =
    let f = facts older in
    let says = due_says f (Settle i v c) legal.0 in
    record {
      listed = λ id h. settle_case f i id v c (λ x. is_listed x f.known ≡ true) (found_listed says.listed.test f.known i says.listed.found) (closed.listed id) h;
      idle = λ id h. settle_case f i id v c (λ x. runs (f.task x).last ≡ false) says.ended (closed.idle id) h;
      purged = λ id h. some_stays f (Settle i v c) id (closed.purged id h);
    }
closed_more older (Hand i n) legal closed =
    record { listed = closed.listed; idle = λ id h. hand_idle (facts older) closed i n (hand_open older i n legal) id h; purged = closed.purged }
closed_more older (Lose n) legal closed = record { listed = closed.listed; idle = λ id h. end_idle (Some n) ((facts older).task id) (closed.idle id h); purged = closed.purged }
closed_more older (Input input) legal closed =
    record {
      listed = λ id h. listed_stays (facts older) (Input input) id (closed.listed id h);
      idle = λ id h. input_idle (facts older) input id (closed.idle id h);
      purged = purged_input (facts older) closed input;
    }

pub closed : (h : History) → Legal h → Closed (facts h)
closed [] legal = record { listed = λ id h. cc; idle = λ id h. cc; purged = λ id h. cc }
closed (e ∷ older) legal = closed_more older e legal (closed older legal.1)

pub home_idle : (live : List Engine) (a : Attempt) (conn : ℕ) (b : Bool) → runs a ≡ false → (is_number conn (home live a) && b) ≡ false
home_idle live Never conn b h = refl
home_idle live (Running n) conn b h = cc
home_idle live (EndedOk n) conn b h = refl
home_idle live (EndedBadly n) conn b h = refl
home_idle live (Lost n) conn b h = refl
home_idle live (Declined n) conn b h = refl
home_idle live (Withdrawn n) conn b h = refl
