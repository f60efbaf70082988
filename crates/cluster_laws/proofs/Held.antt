-- What is known has a body, what ended by a reply has one, and so a Hand sends its request, and what is settled has an outcome.
use Rattle.std.proofs.Common.{◌≡◌, ℕ, List, [], ◌∷◌, ◌++◌, Bool, true, false, cond, ◌&&◌, ◌||◌, refl, sym, ap, ◌∙◌, subst, Option, Some, None, bytes_eq, ⊎_elim}
use Rattle.std.specs.Prelude.{find, option_map, ◌==◌}
use Rattle.std.specs.Option.{is_some, option_and_then}
use Rattle.std.proofs.lemmas.Bool.{or_cases, both_ways}
use Rattle.std.proofs.lemmas.List.Folds.{list_any-append}
use Rattle.cluster_types.specs.declared.message.Message.{Message}
use Rattle.cluster_types.specs.declared.verdict.Verdict.{Verdict}
use Rattle.cluster_types.specs.declared.verdict.Verdict.TheVariants.{Failed, Aborted}
use Rattle.cluster_types.specs.declared.verdict.Cause.{Cause}
use Rattle.cluster_types.specs.declared.verdict.Cause.TheVariants.{Reply as ByReply, EngineError, ImpossibleDependency, InvalidDependency, TaskTimeout, Abort}
use Rattle.cluster_types.specs.declared.event.Event.{Event}
use Rattle.cluster_types.specs.declared.event.Event.TheVariants.{Reply}
use Rattle.cluster_types.specs.declared.out.Out.TheVariants.{Pass}
use Rattle.cluster_types.specs.declared.entry.Input.TheVariants.{Open, Up, Down, In, Beat, Time}
use Rattle.cluster_types.specs.declared.entry.Entry.{Entry}
use Rattle.cluster_types.specs.declared.entry.Entry.TheVariants.{Input, Hand, Settle, Lose}
use Rattle.cluster_defs.specs.declared.attempt.Attempt.{Attempt}
use Rattle.cluster_defs.specs.declared.attempt.Attempt.TheVariants.{Never, Running, EndedOk, EndedBadly, Lost, Declined, Withdrawn}
use Rattle.cluster_defs.specs.declared.engine.Engine.{Engine}
use Rattle.cluster_defs.specs.Words.{Id, or_else, is_listed}
use Rattle.cluster_defs.specs.Engines.{engine_on, left_engine, conn_in, lists_number}
use Rattle.cluster_defs.specs.declared.settled.Settled.{Settled}
use Rattle.cluster_defs.specs.Tasks.{Task, ending, settled_as, lost, took, replied, after_reply, after_end, counts, handed, runs_at}
use Rattle.cluster_defs.specs.Requests.{Request, Body, body_of, parts_of, is_direct}
use Rattle.cluster_defs.specs.Facts.{Facts, event_on, is_settled, is_direct_id}
use Rattle.cluster_defs.specs.Acceptance.{Demand, accepted, accepted_id, body_from}
use Rattle.cluster_defs.specs.Purges.{Copy, copied_by, copied_ids, copied_from, body_copied}
use Rattle.cluster_defs.specs.Steps.{next, reply_from}
use Rattle.cluster_defs.specs.Scheduling.{verdict_at, failing, failing_as, rests, is_dead, is_timed_out}
use Rattle.cluster_defs.specs.Histories.{History, facts, Legal}
use Rattle.cluster_defs.specs.Outcomes.{outcome, outcome_by, hand_out, handed_message}
use Rattle.cluster_defs.specs.Outs.{pass_to, outs}
use Rattle.cluster_defs.proofs.Options.{if_some, same_id}
use Rattle.cluster_defs.proofs.Says.{due_says}
use Rattle.cluster_laws.proofs.Copies.{old_copied, listed_copied}
use Rattle.cluster_laws.proofs.Safe.{hand_says, hand_live}
use Rattle.cluster_laws.proofs.Closed.{closed, found_listed, Requested, requested}
use Rattle.cluster_types.proofs.Options.{some_is}
use Rattle.cluster_laws.proofs.Aborting.{abort_choice}
use Rattle.cluster_defs.specs.Aborts.{aborted_by}

some_left : {X : Type 0} (o p : Option X) → is_some o ≡ true → is_some (or_else o p) ≡ true
some_left None p h = cc
some_left (Some x) p h = refl

some_right : {X : Type 0} (o p : Option X) → is_some p ≡ true → is_some (or_else o p) ≡ true
some_right None p h = h
some_right (Some x) p h = refl

-- BODIES, in any list of entries

unfoldable pub Bodied : Facts → Type 0
Bodied f = (id : Id) → is_listed id f.known ≡ true → is_some (f.body_of id) ≡ true

demand_bodied : (m : Message) (id : Id) (d : Option Demand) → is_listed id (accepted_id d) ≡ true → is_some (body_from m id d) ≡ true
demand_bodied m id None h = cc
demand_bodied m id (Some d) h =
    (elim (bytes_eq d.submission.id id) as (λ b. (b || false) ≡ true → is_some (cond b (Some (body_of m)) None) ≡ true) [ true ↦ λ _. refl | false ↦ λ k. cc ]) h

then_bodied : (f : Facts) (x : Option Id) (old : Id) → x ≡ Some old → is_some (f.body_of old) ≡ true → is_some (option_and_then f.body_of x) ≡ true
then_bodied f x old is h = subst (λ y. is_some (option_and_then f.body_of y) ≡ true) (sym is) h

copy_bodied : (f : Facts) (id : Id) (o : Option Event) → ((i : Id) → is_listed i f.known ≡ true → is_some (f.body_of i) ≡ true) → is_listed id (copied_ids (copied_by f o)) ≡ true → is_some (body_copied f id (copied_by f o)) ≡ true
copy_bodied f id o bodied h = go (copied_by f o) refl h
  where
    go : (c : Option (List Copy)) → copied_by f o ≡ c → is_listed id (copied_ids c) ≡ true → is_some (body_copied f id c) ≡ true
    go None is k = cc
    go (Some copies) is k =
        let old = listed_copied id copies k in
        then_bodied f (copied_from id (Some copies)) old.0 old.1 (bodied old.0 ((old_copied f o id old.0 (subst (λ c. copied_from id c ≡ Some old.0) (sym is) old.1)).known))

bodied_more : (f : Facts) (e : Entry) → Bodied f → Bodied (next f e)
unfolding Bodied
bodied_more f (Hand i n) bodied id h = bodied id h
bodied_more f (Settle i v c) bodied id h = bodied id h
bodied_more f (Lose n) bodied id h = bodied id h
bodied_more f (Input (Open moment scheme hwm misses)) bodied id h = bodied id h
bodied_more f (Input (Up conn channel moment word identity)) bodied id h = bodied id h
bodied_more f (Input (Down conn moment word)) bodied id h = bodied id h
bodied_more f (Input (Beat moment word)) bodied id h = bodied id h
bodied_more f (Input (Time moment word)) bodied id h = bodied id h
bodied_more f (Input (In conn moment word m)) bodied id h =
    let event = event_on f conn m in
    let new = accepted_id (accepted f m event) in
    let copies = copied_ids (copied_by f event) in
    let made : Option Body = body_from m id (accepted f m event) in
    let copied : Option Body = body_copied f id (copied_by f event) in
    ⊎_elim
    (λ old. ⊎_elim (λ k. some_left (f.body_of id) (or_else made copied) (bodied id k))
    (λ k. some_right (f.body_of id) (or_else made copied) (some_left made copied (demand_bodied m id (accepted f m event) k)))
    (or_cases _ _ (sym (list_any-append (λ i. bytes_eq i id) f.known new) ∙ old)))
    (λ k. some_right (f.body_of id) (or_else made copied) (some_right made copied (copy_bodied f id event bodied k)))
    (or_cases _ _ (sym (list_any-append (λ i. bytes_eq i id) (f.known ++ new) copies) ∙ h))

pub bodied : (h : History) → Bodied (facts h)
unfolding Bodied
bodied [] id h = cc
bodied (e ∷ older) id h = bodied_more (facts older) e (bodied older) id h

-- REPLIES, in any list of entries

-- whether an attempt ended by an ok or an error reply
abbrev pub is_answered : Attempt → Bool
is_answered (EndedOk n) = true
is_answered (EndedBadly n) = true
is_answered _ = false

unfoldable pub Replied : Facts → Type 0
Replied f = (id : Id) → is_answered (f.task id).last ≡ true → is_some (f.reply_of id) ≡ true

lost_before : (a : Attempt) (t : Task) → is_answered (lost a t).last ≡ true → is_answered t.last ≡ true
lost_before (Running n) t h = cc
lost_before Never t h = h
lost_before (EndedOk n) t h = h
lost_before (EndedBadly n) t h = h
lost_before (Lost n) t h = h
lost_before (Declined n) t h = h
lost_before (Withdrawn n) t h = h

end_before : (o : Option ℕ) (t : Task) → is_answered (after_end o t).last ≡ true → is_answered t.last ≡ true
end_before None t h = h
end_before (Some n) t h =
    (elim (runs_at n t.last) as (λ b. is_answered (cond b (lost t.last t) t).last ≡ true → is_answered t.last ≡ true) [ true ↦ λ k. lost_before t.last t k | false ↦ λ k. k ]) h

handed_before : (b : Bool) (n : ℕ) (t : Task) → is_answered (cond b (handed n t) t).last ≡ true → is_answered t.last ≡ true
handed_before true n t h = cc
handed_before false n t h = h

reply_has : (f : Facts) (conn : ℕ) (m : Message) (id : Id) (name header : Id) (ok declined : Bool) → (is_answered (f.task id).last ≡ true → is_some (f.reply_of id) ≡ true) →
    is_answered (after_reply f.engines.live conn id (is_direct_id f id) (Some (Reply name header ok declined)) (f.task id)).last ≡ true →
    is_some (reply_from f conn m id (Some (Reply name header ok declined)) (f.reply_of id)) ≡ true
reply_has f conn m id name header ok declined before h =
    let t = f.task id in
    (elim (bytes_eq name id && counts f.engines.live conn header t) as (λ b. is_answered (cond b (took header (ending (is_direct_id f id) ok declined) t.last t) t).last ≡ true → is_some (cond b (Some (parts_of m)) (f.reply_of id)) ≡ true) [
      | true ↦ λ _. refl
      | false ↦ λ k. before k
    ]) h

event_has : (f : Facts) (conn : ℕ) (m : Message) (id : Id) (o : Option Event) → (is_answered (f.task id).last ≡ true → is_some (f.reply_of id) ≡ true) →
    is_answered (after_reply f.engines.live conn id (is_direct_id f id) o (f.task id)).last ≡ true → is_some (reply_from f conn m id o (f.reply_of id)) ≡ true
event_has f conn m id None before h = before h
event_has f conn m id (Some (Reply name header ok declined)) before h = reply_has f conn m id name header ok declined before h
event_has f conn m id (Some _) before h = before h

replied_more : (f : Facts) (e : Entry) → Replied f → Replied (next f e)
unfolding Replied
replied_more f (Hand i n) replied id h = replied id (handed_before (bytes_eq i id) n (f.task id) h)
replied_more f (Settle i v c) replied id h = replied id h
replied_more f (Lose n) replied id h = replied id (end_before (Some n) (f.task id) h)
replied_more f (Input (Open moment scheme hwm misses)) replied id h = replied id (lost_before (f.task id).last (f.task id) h)
replied_more f (Input (Up conn channel moment word identity)) replied id h = replied id h
replied_more f (Input (Down conn moment word)) replied id h = replied id (end_before (option_map (λ e. e.number) (engine_on f.engines.live conn)) (f.task id) h)
replied_more f (Input (Beat moment word)) replied id h = replied id h
replied_more f (Input (Time moment word)) replied id h = replied id h
replied_more f (Input (In conn moment word m)) replied id h =
    let event = event_on f conn m in
    let before = end_before (left_engine f.engines.live conn event) (after_reply f.engines.live conn id (is_direct_id f id) event (f.task id)) in
    event_has f conn m id event (replied id) (abort_choice (λ t. is_answered t.last ≡ true → is_answered (after_reply f.engines.live conn id (is_direct_id f id) event (f.task id)).last ≡ true) (aborted_by f event) id _ before (λ k. cc) h)

pub replied_all : (h : History) → Replied (facts h)
unfolding Replied
replied_all [] id h = cc
replied_all (e ∷ older) id h = replied_more (facts older) e (replied_all older) id h

-- a reply isn't taken back
from_some : (f : Facts) (conn : ℕ) (m : Message) (id : Id) (o : Option Event) (old : Option Message) → is_some old ≡ true → is_some (reply_from f conn m id o old) ≡ true
from_some f conn m id None old h = h
from_some f conn m id (Some (Reply name header ok declined)) old h =
    elim (bytes_eq name id && counts f.engines.live conn header (f.task id)) as (λ b. is_some (cond b (Some (parts_of m)) old) ≡ true) [ true ↦ refl | false ↦ h ]
from_some f conn m id (Some _) old h = h

reply_some : (f : Facts) (e : Entry) (id : Id) → is_some (f.reply_of id) ≡ true → is_some ((next f e).reply_of id) ≡ true
reply_some f (Hand i n) id h = h
reply_some f (Settle i v c) id h = h
reply_some f (Lose n) id h = h
reply_some f (Input (Open moment scheme hwm misses)) id h = h
reply_some f (Input (Up conn channel moment word identity)) id h = h
reply_some f (Input (Down conn moment word)) id h = h
reply_some f (Input (Beat moment word)) id h = h
reply_some f (Input (Time moment word)) id h = h
reply_some f (Input (In conn moment word m)) id h = from_some f conn m id (event_on f conn m) (f.reply_of id) h

-- OUTCOMES, in a legal history

abbrev is_reply : Cause → Bool
is_reply ByReply = true
is_reply _ = false

-- what was settled by a reply has one
unfoldable pub Answered : Facts → Type 0
Answered f = (id : Id) (s : Settled) → f.settled id ≡ Some s → is_reply s.cause ≡ true → is_some (f.reply_of id) ≡ true

inside : (x y : Cause) → Some x ≡ Some y → x ≡ y
inside x y e = cc

-- a verdict with another cause
not_reply : (w v : Verdict) (x c : Cause) → is_reply x ≡ false → ◌≡◌ {A = Option (Verdict × Cause)} (Some (w, x)) (Some (v, c)) → is_reply c ≡ false
not_reply w v x c off h = let same : Some x ≡ Some c = ap (option_map (λ (p : Verdict × Cause). p.1)) h in subst (λ y. is_reply y ≡ false) (inside x c same) off

-- a final id whose cause is a reply ended by one
ended_by : (over : Bool) (a : Attempt) (v : Verdict) (c : Cause) → verdict_at over a ≡ Some (v, c) → is_reply c ≡ true → is_answered a ≡ true
ended_by over Never v c h k = cc
ended_by over (Running n) v c h k = cc
ended_by over (EndedOk n) v c h k = refl
ended_by over (EndedBadly n) v c h k = refl
ended_by true (Lost n) v c h k = let off = not_reply Failed v EngineError c refl h in cc
ended_by false (Lost n) v c h k = cc
ended_by over (Declined n) v c h k = cc
ended_by over (Withdrawn n) v c h k = let off = not_reply Aborted v Abort c refl h in cc

-- what fails without an attempt has another cause
why_other : (invalid dead late : Bool) (c : Cause) → cond invalid (Some InvalidDependency) (cond dead (Some ImpossibleDependency) (cond late (Some TaskTimeout) None)) ≡ Some c → is_reply c ≡ false
why_other true dead late c h = let same : InvalidDependency ≡ c = cc in subst (λ x. is_reply x ≡ false) same refl
why_other false true late c h = let same : ImpossibleDependency ≡ c = cc in subst (λ x. is_reply x ≡ false) same refl
why_other false false true c h = let same : TaskTimeout ≡ c = cc in subst (λ x. is_reply x ≡ false) same refl
why_other false false false c h = cc

submit_other : (f : Facts) (id : Id) (r : Request) (direct : Bool) (c : Cause) → cond direct None (failing f id r) ≡ Some c → is_reply c ≡ false
submit_other f id r true c h = cc
submit_other f id r false c h = why_other r.invalid (is_dead f id r) (is_timed_out f r) c h

failing_other : (f : Facts) (id : Id) (o : Option Request) (c : Cause) → failing_as f id o ≡ Some c → is_reply c ≡ false
failing_other f id None c h = cc
failing_other f id (Some r) c h = submit_other f id r (is_direct r) c h

settle_answered : (older : History) (i : Id) (v : Verdict) (c : Cause) → Legal (Settle i v c ∷ older) → is_reply c ≡ true → is_some ((facts older).reply_of i) ≡ true
unfolding Replied
settle_answered older i v c legal k =
    let f = facts older in
    ⊎_elim (λ is. replied_all older i (ended_by _ (f.task i).last v c is k))
    (λ fails. absurd (both_ways (is_reply c) (failing_other f i (f.request_of i) c (if_some (rests f i) (failing_as f i (f.request_of i)) c fails.0).1) k))
    (due_says f (Settle i v c) legal.0).why

-- what an entry settles was settled before, or is its own
settled_own : (f : Facts) (i id : Id) (v : Verdict) (c : Cause) (o : Option Settled) → f.settled id ≡ o → (s : Settled) → or_else o (cond (bytes_eq i id) (Some (settled_as v c f.moment (f.task id))) None) ≡ Some s → (P : Type 0) → (f.settled id ≡ Some s → P) → (i ≡ id → s.cause ≡ c → P) → P
settled_own f i id v c (Some q) is s h P before own = before (is ∙ h)
settled_own f i id v c None is s h P before own =
    (elim (bytes_eq i id) as (λ b. bytes_eq i id ≡ b → cond b (Some (settled_as v c f.moment (f.task id))) None ≡ Some s → P) [
      | true ↦ λ same k. let made : settled_as v c f.moment (f.task id) ≡ s = cc in own (same_id i id same) (sym (ap (λ (x : Settled). x.cause) made))
      | false ↦ λ _ k. cc
    ]) refl h

answered_more : (older : History) (e : Entry) → Legal (e ∷ older) → Answered (facts older) → Answered (next (facts older) e)
unfolding Answered
answered_more older (Settle i v c) legal answered id s is k =
    let f = facts older in
    settled_own f i id v c (f.settled id) refl s is (is_some (f.reply_of id) ≡ true) (λ before. answered id s before k)
    (λ same cause. subst (λ x. is_some (f.reply_of x) ≡ true) same (settle_answered older i v c legal (subst (λ x. is_reply x ≡ true) cause k)))
answered_more older (Hand i n) legal answered id s is k = answered id s is k
answered_more older (Lose n) legal answered id s is k = answered id s is k
answered_more older (Input input) legal answered id s is k = reply_some (facts older) (Input input) id (answered id s is k)

answered_all : (h : History) → Legal h → Answered (facts h)
unfolding Answered
answered_all [] legal id s is k = cc
answered_all (e ∷ older) legal id s is k = answered_more older e legal (answered_all older legal.1) id s is k

map_some_is : {X Y : Type 0} (g : X → Y) (o : Option X) → is_some o ≡ true → is_some (option_map g o) ≡ true
map_some_is g None h = cc
map_some_is g (Some x) h = refl

by_there : (f : Facts) (id : Id) (s : Settled) (c : Cause) → (is_reply c ≡ true → is_some (f.reply_of id) ≡ true) → is_some (f.request_of id) ≡ true → is_some (outcome_by f id s c) ≡ true
by_there f id s ByReply reply request = reply refl
by_there f id s EngineError reply request = map_some_is _ (f.request_of id) request
by_there f id s ImpossibleDependency reply request = map_some_is _ (f.request_of id) request
by_there f id s InvalidDependency reply request = map_some_is _ (f.request_of id) request
by_there f id s TaskTimeout reply request = map_some_is _ (f.request_of id) request
by_there f id s Abort reply request = map_some_is _ (f.request_of id) request

-- what is settled has an outcome
pub settled_answered : (h : History) (id : Id) → Legal h → is_settled (facts h) id ≡ true → is_some (outcome (facts h) id) ≡ true
unfolding Requested Answered
settled_answered h id legal is =
    let f = facts h in
    let s = some_is (f.settled id) is in
    let request = requested h id ((closed h legal).listed id is) in
    let there = by_there f id s.0 s.0.cause (answered_all h legal id s.0 s.1) request in
    subst (λ o. is_some (option_and_then (λ x. outcome_by f id x x.cause) o) ≡ true) (sym s.1) there

-- HAND-OUTS

number_conn : (n : ℕ) (live : List Engine) → lists_number n live ≡ true → is_some (conn_in n live) ≡ true
number_conn n [] h = cc
number_conn n (e ∷ live) h =
    (elim (e.number == n) as (λ b. (b || lists_number n live) ≡ true → is_some (option_map (λ (x : Engine). x.conn) (cond b (Some e) (find (λ x. x.number == n) live))) ≡ true) [
      | true ↦ λ _. refl
      | false ↦ λ k. number_conn n live k
    ]) h

hand_made : (f : Facts) (id : Id) (r : Request) (b : Body) → f.request_of id ≡ Some r → f.body_of id ≡ Some b → hand_out f id ≡ Some (handed_message r b)
hand_made f id r b request body = rw (request, body) refl

passed : (x : Option ℕ) (y : Option Message) (conn : ℕ) (message : Message) → x ≡ Some conn → y ≡ Some message → pass_to x y ≡ Pass conn message ∷ []
passed x y conn message a b = rw (a, b) refl

-- a Hand sends the request to the connection of its engine
pub hands_send : (h : History) (id : Id) (n : ℕ) → Legal (Hand id n ∷ h) →
    (conn : ℕ) × (message : Message) × (conn_in n (facts h).engines.live ≡ Some conn) × (hand_out (facts h) id ≡ Some message) × (outs (Hand id n ∷ h) ≡ Pass conn message ∷ [])
unfolding Requested Bodied
hands_send h id n legal =
    let f = facts h in
    let listed : is_listed id f.known ≡ true = let found = (hand_says h id n legal).listed in found_listed found.test f.known id found.found in
    let conn = some_is (conn_in n f.engines.live) (number_conn n f.engines.live (hand_live h id n legal)) in
    let request = some_is (f.request_of id) (requested h id listed) in
    let body = some_is (f.body_of id) (bodied h id listed) in
    let out = hand_made f id request.0 body.0 request.1 body.1 in
    (conn.0, handed_message request.0 body.0, conn.1, out, passed (conn_in n f.engines.live) (hand_out f id) conn.0 _ conn.1 out)
