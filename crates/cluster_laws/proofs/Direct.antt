-- A direct request that waits for its engine, waits for one that is live.
use Rattle.std.proofs.Common.{◌≡◌, ℕ, List, [], ◌∷◌, ◌++◌, Bool, true, false, cond, ◌&&◌, ◌||◌, refl, sym, ap, ◌∙◌, subst, Option, Some, None, bytes_eq}
use Rattle.std.specs.Prelude.{find, option_map, nat_lt, ◌==◌}
use Rattle.std.specs.Option.{is_some, option_and_then}
use Rattle.std.proofs.lemmas.Bool.{or_left, eq-eqb, or_right}
use Rattle.std.proofs.lemmas.List.Folds.{list_any-append}
use Rattle.cluster_types.specs.declared.message.Message.{Message}
use Rattle.cluster_types.specs.declared.event.Event.{Event}
use Rattle.cluster_types.specs.declared.event.Event.TheVariants.{Submit, Direct, Reply, Join, Leave, Pong, Purge, Resubmit, Abort, Ask}
use Rattle.cluster_types.specs.declared.entry.Input.TheVariants.{Open, Up, Down, In, Beat, Time}
use Rattle.cluster_types.specs.declared.entry.Entry.{Entry}
use Rattle.cluster_types.specs.declared.entry.Entry.TheVariants.{Input, Hand, Settle, Lose}
use Rattle.cluster_defs.specs.declared.attempt.Attempt.{Attempt}
use Rattle.cluster_defs.specs.declared.attempt.Attempt.TheVariants.{Never, Running, EndedOk, EndedBadly, Lost, Declined, Withdrawn}
use Rattle.cluster_defs.specs.declared.engine.Engine.{Engine}
use Rattle.cluster_defs.specs.Words.{Id, or_else, is_listed}
use Rattle.cluster_defs.specs.Engines.{Engines, engine_on, engine_named, lists_number, left_engine, missed}
use Rattle.cluster_defs.specs.declared.attempt.Ending.{Ending}
use Rattle.cluster_defs.specs.declared.attempt.Ending.TheVariants.{Well, Badly, Declines}
use Rattle.cluster_defs.specs.Tasks.{Task, ending, lost, took, replied, after_reply, after_end, counts, handed, runs_at, is_never}
use Rattle.cluster_defs.specs.Requests.{Request}
use Rattle.cluster_defs.specs.Facts.{Facts, event_on, is_settled, is_direct_id}
use Rattle.cluster_defs.specs.Acceptance.{Demand, accepted, accepted_id, request_from, request_made, request_direct, request_submit}
use Rattle.cluster_defs.specs.Purges.{Copy, copied_by, copied_ids, copied_from, request_copied, resubmitted}
use Rattle.cluster_defs.specs.Steps.{next, engines_in}
use Rattle.cluster_defs.specs.Scheduling.{due, lose_due, is_live, ready_for, direct_engine, Allowed}
use Rattle.cluster_defs.specs.Histories.{History, facts, Legal}
use Rattle.cluster_defs.proofs.Options.{map_some}
use Rattle.cluster_defs.proofs.Says.{SaysLose, due_says}
use Rattle.cluster_laws.proofs.Later.{request_stays}
use Rattle.cluster_laws.proofs.Parts.{Waits, waits, waits_back, none_due, none_waits}
use Rattle.cluster_laws.proofs.Aborting.{abort_choice}
use Rattle.cluster_defs.specs.Aborts.{aborted_by}

-- AN ATTEMPT IS FIRST MADE BY A HAND-OUT

abbrev pub Back : Task → Task → Type 0
Back old new = is_never new.last ≡ true → is_never old.last ≡ true

lost_never : (a : Attempt) (t : Task) → Back t (lost a t)
lost_never (Running n) t h = cc
lost_never Never t h = h
lost_never (EndedOk n) t h = h
lost_never (EndedBadly n) t h = h
lost_never (Lost n) t h = h
lost_never (Declined n) t h = h
lost_never (Withdrawn n) t h = h

choice_never : (b : Bool) (new old : Task) → Back old new → Back old (cond b new old)
choice_never true new old k h = k h
choice_never false new old k h = h

replied_never : (header : List ℕ) (how : Ending) (n : ℕ) (t : Task) → Back t (replied header how n t)
replied_never header Well n t h = cc
replied_never header Badly n t h = cc
replied_never header Declines n t h = cc

took_never : (header : List ℕ) (how : Ending) (a : Attempt) (t : Task) → Back t (took header how a t)
took_never header how (Running n) t h = replied_never header how n t h
took_never header how Never t h = h
took_never header how (EndedOk n) t h = h
took_never header how (EndedBadly n) t h = h
took_never header how (Lost n) t h = h
took_never header how (Declined n) t h = h
took_never header how (Withdrawn n) t h = h

reply_never : (live : List Engine) (conn : ℕ) (id : Id) (direct : Bool) (o : Option Event) (t : Task) → Back t (after_reply live conn id direct o t)
reply_never live conn id direct None t h = h
reply_never live conn id direct (Some (Reply name header ok declined)) t h =
    choice_never (bytes_eq name id && counts live conn header t) _ t (took_never header (ending direct ok declined) t.last t) h
reply_never live conn id direct (Some (Submit s)) t h = h
reply_never live conn id direct (Some (Direct s)) t h = h
reply_never live conn id direct (Some (Join u)) t h = h
reply_never live conn id direct (Some Leave) t h = h
reply_never live conn id direct (Some (Pong b)) t h = h
reply_never live conn id direct (Some (Purge all ids)) t h = h
reply_never live conn id direct (Some (Resubmit ids)) t h = h
reply_never live conn id direct (Some (Abort ids)) t h = h
reply_never live conn id direct (Some (Ask q)) t h = h

end_never : (o : Option ℕ) (t : Task) → Back t (after_end o t)
end_never None t h = h
end_never (Some n) t h = choice_never (runs_at n t.last) _ t (lost_never t.last t) h

handed_never : (b : Bool) (n : ℕ) (t : Task) → Back t (cond b (handed n t) t)
handed_never true n t h = cc
handed_never false n t h = h

pub task_never : (f : Facts) (e : Entry) (id : Id) → is_never ((next f e).task id).last ≡ true → is_never (f.task id).last ≡ true
task_never f (Hand name n) id h = handed_never (bytes_eq name id) n (f.task id) h
task_never f (Settle name v c) id h = h
task_never f (Lose n) id h = end_never (Some n) (f.task id) h
task_never f (Input (Open moment scheme hwm misses)) id h = lost_never (f.task id).last (f.task id) h
task_never f (Input (Up conn channel moment word identity)) id h = h
task_never f (Input (Down conn moment word)) id h = end_never (option_map (λ e. e.number) (engine_on f.engines.live conn)) (f.task id) h
task_never f (Input (Beat moment word)) id h = h
task_never f (Input (Time moment word)) id h = h
task_never f (Input (In conn moment word message)) id h =
    let event = event_on f conn message in
    reply_never f.engines.live conn id (is_direct_id f id) event (f.task id)
    (end_never (left_engine f.engines.live conn event) _ (abort_choice (λ t. is_never t.last ≡ true → is_never (after_end (left_engine f.engines.live conn event) (after_reply f.engines.live conn id (is_direct_id f id) event (f.task id))).last ≡ true) (aborted_by f event) id _ (λ k. k) (λ k. cc) h))

none_before : {X : Type 0} (o p : Option X) → is_some (or_else o p) ≡ false → is_some o ≡ false
none_before None p h = refl
none_before (Some x) p h = cc

settled_back : (f : Facts) (e : Entry) (id : Id) → is_settled (next f e) id ≡ false → is_settled f id ≡ false
settled_back f (Settle i v c) id h = none_before (f.settled id) _ h
settled_back f (Hand i n) id h = h
settled_back f (Lose n) id h = h
settled_back f (Input i) id h = h

-- what waits after an entry and had a request before, waited before
waited : (f : Facts) (e : Entry) (id : Id) (n : ℕ) (r : Request) → f.request_of id ≡ Some r → Waits (next f e) id n → Waits f id n
waited f e id n r is w =
    let same : (next f e).request_of id ≡ f.request_of id = request_stays f e id r is ∙ sym is in
    record {
      open_yet = settled_back f e id w.open_yet;
      never = task_never f e id w.never;
      engine = ap direct_engine (sym same) ∙ w.engine;
    }

-- WHAT HOLDS WHERE A DIRECT REQUEST WAITS

pub record Ready (f : Facts) : Type 0 where
  pub quiet : (id : Id) (n : ℕ) → Waits f id n → lose_due f ≡ None
  pub live : (id : Id) (n : ℕ) → Waits f id n → is_live f n ≡ true
  pub listed : (id : Id) (n : ℕ) → Waits f id n → is_listed id f.known ≡ true

nothing : (f : Facts) → ((id : Id) (n : ℕ) → Waits f id n → ⊥) → Ready f
nothing f none = record { quiet = λ id n w. absurd (none id n w); live = λ id n w. absurd (none id n w); listed = λ id n w. absurd (none id n w) }

none_ready : (f : Facts) → Ready f → due f ≡ None → (id : Id) (n : ℕ) → Waits f id n → ⊥
none_ready f ready none id n w =
    none_waits f ((none_due f none).direct) id (ready.listed id n w) (ap is_some (waits_back f id n w))

no_engine : (n : ℕ) → direct_engine None ≡ Some n → ⊥
no_engine n h = cc

-- an entry that makes no request makes nothing wait
quiet_entry : (f : Facts) (e : Entry) → ((id : Id) → (next f e).request_of id ≡ f.request_of id) → (id : Id) (n : ℕ) → Waits (next f e) id n → Waits f id n
quiet_entry f e same id n w =
    record { open_yet = settled_back f e id w.open_yet; never = task_never f e id w.never; engine = ap direct_engine (sym (same id)) ∙ w.engine }

decision_ready : (f : Facts) (d : Entry) → Ready f → ((id : Id) → (next f d).request_of id ≡ f.request_of id) → lose_due (next f d) ≡ lose_due f → ((n : ℕ) → is_live f n ≡ true → is_live (next f d) n ≡ true) → (next f d).known ≡ f.known → Ready (next f d)
decision_ready f d ready request lose live known =
    record {
      quiet = λ id n w. lose ∙ ready.quiet id n (quiet_entry f d request id n w);
      live = λ id n w. live n (ready.live id n (quiet_entry f d request id n w));
      listed = λ id n w. subst (λ k. is_listed id k ≡ true) (sym known) (ready.listed id n (quiet_entry f d request id n w));
    }

some_none : (o : Option Entry) (d : Entry) → o ≡ None → o ≡ Some d → ⊥
some_none None d a b = cc
some_none (Some x) d a b = cc

none_lost : (f : Facts) (n : ℕ) → SaysLose f n → lose_due f ≡ None → ⊥
none_lost f n says none =
    let some : lose_due f ≡ Some (Lose says.engine.number) = ap (option_map (λ (e : Engine). Lose e.number)) says.found in
    some_none (lose_due f) (Lose says.engine.number) none some

lose_ready : (f : Facts) (n : ℕ) → Ready f → due f ≡ Some (Lose n) → Ready (next f (Lose n))
lose_ready f n ready is =
    nothing (next f (Lose n)) (λ id m w. none_lost f n (due_says f (Lose n) is) (ready.quiet id m (quiet_entry f (Lose n) (λ id. refl) id m w)))

rest_ready : (f : Facts) (e : Entry) → Ready f → due f ≡ None → ((id : Id) → (next f e).request_of id ≡ f.request_of id) → Ready (next f e)
rest_ready f e ready none same = nothing (next f e) (λ id n w. none_ready f ready none id n (quiet_entry f e same id n w))

-- A DIRECT REQUEST THAT IS MADE

-- it goes to an engine that is live, changes no engine, and is known
pub record Made (f : Facts) (conn : ℕ) (m : Message) (o : Option Event) (id : Id) (n : ℕ) : Type 0 where
  pub live : is_live f n ≡ true
  pub engines : engines_in f conn o ≡ f.engines
  pub listed : is_listed id (accepted_id (accepted f m o)) ≡ true

found_live : (p : Engine → Bool) (live : List Engine) (e : Engine) → find p live ≡ Some e → lists_number e.number live ≡ true
found_live p [] e h = cc
found_live p (x ∷ live) e h =
    (elim (p x) as (λ b. cond b (Some x) (find p live) ≡ Some e → (x.number == e.number || lists_number e.number live) ≡ true) [
      | true ↦ λ s. let same : x ≡ e = cc in or_left _ _ (eq-eqb x.number e.number (ap (λ (y : Engine). y.number) same))
      | false ↦ λ s. or_right _ _ (found_live p live e s)
    ]) h

-- the request that an accepted demand makes, where it has a direct engine
made_live : (f : Facts) (conn moment : ℕ) (m : Message) (d : Demand) (n : ℕ) → (request_made f conn moment m d).direct_to ≡ Some n → is_live f n ≡ true
made_live f conn moment m d n h =
    (elim d.direct as (λ b. (cond b (request_direct f conn moment m d.submission) (request_submit f conn moment m d.submission)).direct_to ≡ Some n → is_live f n ≡ true) [
      | true ↦ λ k. let at = map_some (λ (e : Engine). e.number) (engine_named f.engines.live m.target) n k in
          subst (λ x. is_live f x ≡ true) at.2 (found_live _ f.engines.live at.0 at.1)
      | false ↦ λ k. cc
    ]) h

from_demand : (f : Facts) (conn moment : ℕ) (m : Message) (id : Id) (d : Demand) (n : ℕ) → direct_engine (request_from f conn moment m id (Some d)) ≡ Some n → (bytes_eq d.submission.id id ≡ true) × (is_live f n ≡ true)
from_demand f conn moment m id d n h =
    (elim (bytes_eq d.submission.id id) as (λ b. direct_engine (cond b (Some (request_made f conn moment m d)) None) ≡ Some n → (b ≡ true) × (is_live f n ≡ true)) [
      | true ↦ λ k. (refl, made_live f conn moment m d n k)
      | false ↦ λ k. cc
    ]) h

-- an event whose demand is accepted changes no engine
demand_quiet : (f : Facts) (conn : ℕ) (m : Message) (o : Option Event) (d : Demand) → accepted f m o ≡ Some d → engines_in f conn o ≡ f.engines
demand_quiet f conn m None d h = refl
demand_quiet f conn m (Some (Submit s)) d h = refl
demand_quiet f conn m (Some (Direct s)) d h = refl
demand_quiet f conn m (Some (Reply name header ok declined)) d h = refl
demand_quiet f conn m (Some (Join u)) d h = cc
demand_quiet f conn m (Some Leave) d h = cc
demand_quiet f conn m (Some (Pong b)) d h = cc
demand_quiet f conn m (Some (Purge all ids)) d h = refl
demand_quiet f conn m (Some (Resubmit ids)) d h = refl
demand_quiet f conn m (Some (Abort ids)) d h = refl
demand_quiet f conn m (Some (Ask q)) d h = refl

no_copy : (f : Facts) (moment : ℕ) (id : Id) (copies : Option (List Copy)) (n : ℕ) → direct_engine (request_copied f moment id copies) ≡ Some n → ⊥
no_copy f moment id copies n h = go (option_and_then f.request_of (copied_from id copies)) h
  where
    go : (o : Option Request) → direct_engine (option_map (resubmitted f moment id) o) ≡ Some n → ⊥
    go None h = cc
    go (Some r) h = cc

made : (f : Facts) (conn moment : ℕ) (m : Message) (o : Option Event) (id : Id) (n : ℕ) → direct_engine (or_else (request_from f conn moment m id (accepted f m o)) (request_copied f moment id (copied_by f o))) ≡ Some n → Made f conn m o id n
made f conn moment m o id n h = go (accepted f m o) refl h
  where
    choose : (x y : Option Request) → direct_engine (or_else x y) ≡ Some n → (direct_engine y ≡ Some n → ⊥) → direct_engine x ≡ Some n
    choose None y h no_y = absurd (no_y h)
    choose (Some r) y h no_y = h

    go : (a : Option Demand) → accepted f m o ≡ a → direct_engine (or_else (request_from f conn moment m id a) (request_copied f moment id (copied_by f o))) ≡ Some n → Made f conn m o id n
    go None is k = absurd (no_copy f moment id (copied_by f o) n k)
    go (Some d) is k =
        let from = from_demand f conn moment m id d n (choose (request_from f conn moment m id (Some d)) (request_copied f moment id (copied_by f o)) k (no_copy f moment id (copied_by f o) n)) in
        record {
          live = from.1;
          engines = demand_quiet f conn m o d is;
          listed = subst (λ a. is_listed id (accepted_id a) ≡ true) (sym is) (or_left _ _ from.0);
        }

listed_new : (f : Facts) (id : Id) (new more : List Id) → is_listed id new ≡ true → is_listed id (f.known ++ new ++ more) ≡ true
listed_new f id new more h =
    list_any-append (λ i. bytes_eq i id) (f.known ++ new) more
    ∙ or_left _ _ (list_any-append (λ i. bytes_eq i id) f.known new ∙ or_right _ _ h)

in_ready : (f : Facts) (conn moment word : ℕ) (m : Message) → Ready f → due f ≡ None → Ready (next f (Input (In conn moment word m)))
in_ready f conn moment word m ready none =
    let o = event_on f conn m in
    let e = Input (In conn moment word m) in
    let new : (id : Id) (n : ℕ) → Waits (next f e) id n → Made f conn m o id n = λ id n w. fresh id n (f.request_of id) refl w in
    record {
      quiet = λ id n w. ap (λ (x : Engines). option_map (λ (y : Engine). Lose y.number) (find (λ y. nat_lt f.misses (missed f.beats y)) x.live)) (new id n w).engines ∙ (none_due f none).lose;
      live = λ id n w. ap (λ (x : Engines). lists_number n x.live) (new id n w).engines ∙ (new id n w).live;
      listed = λ id n w. listed_new f id (accepted_id (accepted f m o)) (copied_ids (copied_by f o)) (new id n w).listed;
    }
  where
    fresh : (id : Id) (n : ℕ) (r : Option Request) → f.request_of id ≡ r → Waits (next f (Input (In conn moment word m))) id n → Made f conn m (event_on f conn m) id n
    fresh id n (Some r) is w = absurd (none_ready f ready none id n (waited f (Input (In conn moment word m)) id n r is w))
    fresh id n None is w =
        made f conn moment m (event_on f conn m) id n
        (subst (λ r. direct_engine (or_else r (or_else (request_from f conn moment m id (accepted f m (event_on f conn m))) (request_copied f moment id (copied_by f (event_on f conn m))))) ≡ Some n) is w.engine)

pub ready_more : (f : Facts) (e : Entry) → Allowed f e → Ready f → Ready (next f e)
ready_more f (Hand i n) allowed ready = decision_ready f (Hand i n) ready (λ id. refl) refl (λ m l. l) refl
ready_more f (Settle i v c) allowed ready = decision_ready f (Settle i v c) ready (λ id. refl) refl (λ m l. l) refl
ready_more f (Lose n) allowed ready = lose_ready f n ready allowed
ready_more f (Input (Open moment scheme hwm misses)) allowed ready = rest_ready f (Input (Open moment scheme hwm misses)) ready allowed.0 (λ id. refl)
ready_more f (Input (Up conn channel moment word identity)) allowed ready = rest_ready f (Input (Up conn channel moment word identity)) ready allowed.0 (λ id. refl)
ready_more f (Input (Down conn moment word)) allowed ready = rest_ready f (Input (Down conn moment word)) ready allowed.0 (λ id. refl)
ready_more f (Input (Beat moment word)) allowed ready = rest_ready f (Input (Beat moment word)) ready allowed.0 (λ id. refl)
ready_more f (Input (Time moment word)) allowed ready = rest_ready f (Input (Time moment word)) ready allowed.0 (λ id. refl)
ready_more f (Input (In conn moment word m)) allowed ready = in_ready f conn moment word m ready allowed.0

pub ready : (h : History) → Legal h → Ready (facts h)
ready [] legal = nothing _ (λ id n w. no_engine n w.engine)
ready (e ∷ older) legal = ready_more (facts older) e legal.0 (ready older legal.1)

-- a direct request that is handed out, goes to a live engine
pub direct_live : (h : History) (id : Id) (n : ℕ) → Legal h → ready_for (facts h) id ≡ Some n → is_live (facts h) n ≡ true
direct_live h id n legal is = (ready h legal).live id n (waits (facts h) id n is)
