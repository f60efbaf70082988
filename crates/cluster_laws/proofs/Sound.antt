-- Of a legal history: every engine that it names has a number that was given.
use Rattle.std.proofs.Common.{◌≡◌, ℕ, ◌<◌, ◌≤◌, List, [], ◌∷◌, Bool, true, false, cond, ◌&&◌, refl, sym, ap, ◌∙◌, subst, arith, Option, Some, None, bytes_eq, ⊎_elim}
use Rattle.std.specs.Prelude.{nat_lt, option_map}
use Rattle.std.specs.Option.{option_and_then}
use Rattle.std.specs.List.{list_all}
use Rattle.std.proofs.lemmas.Bool.{ltb-true, lt-ltb}
use Rattle.cluster_types.specs.declared.message.Message.{Message}
use Rattle.cluster_types.specs.declared.verdict.Verdict.{Verdict}
use Rattle.cluster_types.specs.declared.verdict.Cause.{Cause}
use Rattle.cluster_types.specs.declared.event.Event.{Event}
use Rattle.cluster_types.specs.declared.event.Event.TheVariants.{Reply}
use Rattle.cluster_types.specs.declared.entry.Input.TheVariants.{Open, Up, Down, In, Beat, Time}
use Rattle.cluster_types.specs.declared.entry.Entry.{Entry}
use Rattle.cluster_types.specs.declared.entry.Entry.TheVariants.{Input, Hand, Settle, Lose}
use Rattle.cluster_defs.specs.declared.attempt.Attempt.{Attempt}
use Rattle.cluster_defs.specs.declared.attempt.Attempt.TheVariants.{Never, Running, EndedOk, EndedBadly, Lost, Declined, Withdrawn}
use Rattle.cluster_defs.specs.declared.engine.Engine.{Engine}
use Rattle.cluster_defs.specs.Words.{Id, or_else}
use Rattle.cluster_defs.specs.Engines.{engine_on, left_engine}
use Rattle.cluster_defs.specs.declared.attempt.Ending.{Ending}
use Rattle.cluster_defs.specs.declared.attempt.Ending.TheVariants.{Well, Badly, Declines}
use Rattle.cluster_defs.specs.declared.settled.Settled.{Settled}
use Rattle.cluster_defs.specs.Tasks.{Task, ending, settled_as, engine_of, lost, took, replied, after_reply, after_end, after_abort, counts, handed, runs_at}
use Rattle.cluster_defs.specs.Requests.{Request}
use Rattle.cluster_defs.specs.Facts.{Facts, event_on, is_direct_id}
use Rattle.cluster_defs.specs.Acceptance.{Demand, accepted, request_from, request_made, request_direct, request_submit}
use Rattle.cluster_defs.specs.Purges.{Copy, copied_by, copied_from, request_copied, resubmitted}
use Rattle.cluster_defs.specs.Steps.{next}
use Rattle.cluster_defs.specs.Scheduling.{is_live}
use Rattle.cluster_defs.specs.Histories.{History, facts, Legal}
use Rattle.cluster_laws.proofs.Lists.{numbers-below}
use Rattle.cluster_laws.proofs.Later.{came, next_rises}
use Rattle.cluster_laws.proofs.Safe.{hand_live}
use Rattle.cluster_types.proofs.Lists.{all-weaker}
use Rattle.cluster_laws.proofs.Aborting.{abort_choice}
use Rattle.cluster_defs.specs.Aborts.{aborted_by}

pub record Sound (f : Facts) : Type 0 where
  pub live : (n : ℕ) → is_live f n ≡ true → n < f.engines.next
  pub targets : (id : Id) (r : Request) → f.request_of id ≡ Some r → list_all (λ m. nat_lt m f.engines.next) r.targets ≡ true
  pub attempt : (id : Id) (n : ℕ) → engine_of (f.task id).last ≡ Some n → n < f.engines.next
  pub settled : (id : Id) (s : Settled) (n : ℕ) → f.settled id ≡ Some s → s.engine ≡ Some n → n < f.engines.next

live_sound : (f : Facts) (e : Entry) → Sound f → (n : ℕ) → is_live (next f e) n ≡ true → n < (next f e).engines.next
live_sound f e sound n h =
    let more = next_rises f e in
    ⊎_elim (λ l. let below = sound.live n l in omega arith) (λ r. let same = r.0 in let now = r.1 in omega arith) (came f e n h)

-- targets that are below one number are below a greater one
below_more : (a b : ℕ) → a ≤ b → (ns : List ℕ) → list_all (λ m. nat_lt m a) ns ≡ true → list_all (λ m. nat_lt m b) ns ≡ true
below_more a b le ns h = all-weaker (λ m. nat_lt m a) (λ m. nat_lt m b) (λ m l. let lt = ltb-true m a l in lt-ltb m b (omega arith)) ns h

abbrev Below : Facts → Request → Type 0
Below f r = list_all (λ m. nat_lt m f.engines.next) r.targets ≡ true

made_below : (f : Facts) → Sound f → (conn moment : ℕ) (m : Message) (d : Demand) → Below f (request_made f conn moment m d)
made_below f sound conn moment m d =
    elim d.direct as (λ b. Below f (cond b (request_direct f conn moment m d.submission) (request_submit f conn moment m d.submission))) [
      | true ↦ refl
      | false ↦ numbers-below f.engines.next _ f.engines.live sound.live
    ]

from_below : (f : Facts) → Sound f → (conn moment : ℕ) (m : Message) (id : Id) (d : Option Demand) (r : Request) → request_from f conn moment m id d ≡ Some r → Below f r
from_below f sound conn moment m id None r h = cc
from_below f sound conn moment m id (Some d) r h =
    (elim (bytes_eq d.submission.id id) as (λ b. cond b (Some (request_made f conn moment m d)) None ≡ Some r → Below f r) [
      | true ↦ λ is. let same : request_made f conn moment m d ≡ r = cc in subst (Below f) same (made_below f sound conn moment m d)
      | false ↦ λ is. cc
    ]) h

copy_below : (f : Facts) → Sound f → (moment : ℕ) (id : Id) (o : Option Request) (r : Request) → option_map (resubmitted f moment id) o ≡ Some r → Below f r
copy_below f sound moment id None r h = cc
copy_below f sound moment id (Some q) r h =
    let same : resubmitted f moment id q ≡ r = cc in
    subst (Below f) same (numbers-below f.engines.next _ f.engines.live sound.live)

in_below : (f : Facts) → Sound f → (conn moment : ℕ) (m : Message) (id : Id) (o : Option Request) → f.request_of id ≡ o → (d : Option Demand) (x : Option Request) → request_from f conn moment m id d ≡ x → (copies : Option (List Copy)) (r : Request) → or_else o (or_else x (request_copied f moment id copies)) ≡ Some r → Below f r
in_below f sound conn moment m id (Some q) is d x from copies r h = sound.targets id r (is ∙ h)
in_below f sound conn moment m id None is d (Some q) from copies r h = from_below f sound conn moment m id d r (from ∙ h)
in_below f sound conn moment m id None is d None from copies r h = copy_below f sound moment id (option_and_then f.request_of (copied_from id copies)) r h

request_sound : (f : Facts) (e : Entry) → Sound f → (id : Id) (r : Request) → (next f e).request_of id ≡ Some r → Below f r
request_sound f (Hand i n) sound id r h = sound.targets id r h
request_sound f (Settle i v c) sound id r h = sound.targets id r h
request_sound f (Lose n) sound id r h = sound.targets id r h
request_sound f (Input (Open moment scheme hwm misses)) sound id r h = sound.targets id r h
request_sound f (Input (Up conn channel moment word identity)) sound id r h = sound.targets id r h
request_sound f (Input (Down conn moment word)) sound id r h = sound.targets id r h
request_sound f (Input (Beat moment word)) sound id r h = sound.targets id r h
request_sound f (Input (Time moment word)) sound id r h = sound.targets id r h
request_sound f (Input (In conn moment word m)) sound id r h =
    let event = event_on f conn m in
    in_below f sound conn moment m id (f.request_of id) refl (accepted f m event) (request_from f conn moment m id (accepted f m event)) refl (copied_by f event) r h

-- an attempt stays at its engine until the next hand-out
pub lost_engine : (a : Attempt) (t : Task) → t.last ≡ a → engine_of (lost a t).last ≡ engine_of t.last
lost_engine (Running n) t e = sym (ap engine_of e)
lost_engine Never t e = refl
lost_engine (EndedOk n) t e = refl
lost_engine (EndedBadly n) t e = refl
lost_engine (Lost n) t e = refl
lost_engine (Declined n) t e = refl
lost_engine (Withdrawn n) t e = refl

replied_engine : (header : List ℕ) (how : Ending) (n : ℕ) (t : Task) → engine_of (replied header how n t).last ≡ Some n
replied_engine header Well n t = refl
replied_engine header Badly n t = refl
replied_engine header Declines n t = refl

took_engine : (header : List ℕ) (how : Ending) (a : Attempt) (t : Task) → t.last ≡ a → engine_of (took header how a t).last ≡ engine_of t.last
took_engine header how (Running n) t e = replied_engine header how n t ∙ sym (ap engine_of e)
took_engine header how Never t e = refl
took_engine header how (EndedOk n) t e = refl
took_engine header how (EndedBadly n) t e = refl
took_engine header how (Lost n) t e = refl
took_engine header how (Declined n) t e = refl
took_engine header how (Withdrawn n) t e = refl

choice_engine : (b : Bool) (new old : Task) → engine_of new.last ≡ engine_of old.last → engine_of (cond b new old).last ≡ engine_of old.last
choice_engine true new old e = e
choice_engine false new old e = refl

pub end_engine : (o : Option ℕ) (t : Task) → engine_of (after_end o t).last ≡ engine_of t.last
end_engine None t = refl
end_engine (Some n) t = choice_engine (runs_at n t.last) _ t (lost_engine t.last t refl)

-- what is withdrawn keeps the engine of its last attempt
pub abort_engine : (ids : List Id) (id : Id) (t : Task) → engine_of (after_abort ids id t).last ≡ engine_of t.last
abort_engine ids id t = abort_choice (λ x. engine_of x.last ≡ engine_of t.last) ids id t refl refl

pub reply_engine : (live : List Engine) (conn : ℕ) (id : Id) (direct : Bool) (event : Option Event) (t : Task) → engine_of (after_reply live conn id direct event t).last ≡ engine_of t.last
reply_engine live conn id direct None t = refl
reply_engine live conn id direct (Some (Reply name header ok declined)) t =
    choice_engine (bytes_eq name id && counts live conn header t) _ t (took_engine header (ending direct ok declined) t.last t refl)
reply_engine live conn id direct (Some _) t = refl

handed_sound : (f : Facts) → Sound f → (b : Bool) (m : ℕ) → m < f.engines.next → (id : Id) (n : ℕ) → engine_of (cond b (handed m (f.task id)) (f.task id)).last ≡ Some n → n < f.engines.next
handed_sound f sound true m below id n h = let same : m ≡ n = cc in omega arith
handed_sound f sound false m below id n h = sound.attempt id n h

pub task_sound : (f : Facts) (e : Entry) → Sound f → ((i : Id) (m : ℕ) → e ≡ Hand i m → m < f.engines.next) → (id : Id) (n : ℕ) → engine_of ((next f e).task id).last ≡ Some n → n < f.engines.next
task_sound f (Hand i m) sound hand id n h = handed_sound f sound (bytes_eq i id) m (hand i m refl) id n h
task_sound f (Settle i v c) sound hand id n h = sound.attempt id n h
task_sound f (Lose m) sound hand id n h = sound.attempt id n (sym (end_engine (Some m) (f.task id)) ∙ h)
task_sound f (Input (Open moment scheme hwm misses)) sound hand id n h = sound.attempt id n (sym (lost_engine (f.task id).last (f.task id) refl) ∙ h)
task_sound f (Input (Up conn channel moment word identity)) sound hand id n h = sound.attempt id n h
task_sound f (Input (Down conn moment word)) sound hand id n h = sound.attempt id n (sym (end_engine (option_map (λ e. e.number) (engine_on f.engines.live conn)) (f.task id)) ∙ h)
task_sound f (Input (Beat moment word)) sound hand id n h = sound.attempt id n h
task_sound f (Input (Time moment word)) sound hand id n h = sound.attempt id n h
task_sound f (Input (In conn moment word m)) sound hand id n h =
    let event = event_on f conn m in
    sound.attempt id n (sym (abort_engine (aborted_by f event) id (after_end (left_engine f.engines.live conn event) (after_reply f.engines.live conn id (is_direct_id f id) event (f.task id))) ∙ end_engine (left_engine f.engines.live conn event) (after_reply f.engines.live conn id (is_direct_id f id) event (f.task id)) ∙ reply_engine f.engines.live conn id (is_direct_id f id) event (f.task id)) ∙ h)

made_engine : (f : Facts) → Sound f → (b : Bool) (v : Verdict) (c : Cause) (id : Id) (o : Option Settled) → f.settled id ≡ o → (s : Settled) (n : ℕ) → or_else o (cond b (Some (settled_as v c f.moment (f.task id))) None) ≡ Some s → s.engine ≡ Some n → n < f.engines.next
made_engine f sound b v c id (Some q) is s n h e = sound.settled id s n (is ∙ h) e
made_engine f sound true v c id None is s n h e = let same : settled_as v c f.moment (f.task id) ≡ s = cc in sound.attempt id n (ap (λ (q : Settled). q.engine) same ∙ e)
made_engine f sound false v c id None is s n h e = cc

settled_sound : (f : Facts) (e : Entry) → Sound f → (id : Id) (s : Settled) (n : ℕ) → (next f e).settled id ≡ Some s → s.engine ≡ Some n → n < f.engines.next
settled_sound f (Settle i v c) sound id s n h e = made_engine f sound (bytes_eq i id) v c id (f.settled id) refl s n h e
settled_sound f (Hand i m) sound id s n h e = sound.settled id s n h e
settled_sound f (Lose m) sound id s n h e = sound.settled id s n h e
settled_sound f (Input i) sound id s n h e = sound.settled id s n h e

sound_more : (f : Facts) (e : Entry) → Sound f → ((i : Id) (m : ℕ) → e ≡ Hand i m → m < f.engines.next) → Sound (next f e)
sound_more f e sound hand =
    let more = next_rises f e in
    record {
      live = live_sound f e sound;
      targets = λ id r h. below_more _ _ more r.targets (request_sound f e sound id r h);
      attempt = λ id n h. let below = task_sound f e sound hand id n h in omega arith;
      settled = λ id s n h is. let below = settled_sound f e sound id s n h is in omega arith;
    }

hand_below : (older : History) (e : Entry) → Legal (e ∷ older) → Sound (facts older) → (i : Id) (m : ℕ) → e ≡ Hand i m → m < (facts older).engines.next
hand_below older e legal sound i m is = sound.live m (hand_live older i m (subst (λ x. Legal (x ∷ older)) is legal))

pub sound : (h : History) → Legal h → Sound (facts h)
sound [] legal = record { live = λ n h. cc; targets = λ id r h. cc; attempt = λ id n h. cc; settled = λ id s n h e. cc }
sound (e ∷ older) legal = let before = sound older legal.1 in sound_more (facts older) e before (hand_below older e legal before)
