-- Of an id that isn't known, a legal history says nothing.
use Rattle.std.proofs.Common.{◌≡◌, ℕ, List, [], ◌∷◌, ◌++◌, Bool, true, false, not, cond, ◌&&◌, ◌||◌, refl, ap, ◌∙◌, subst, bytes_eq, Option, Some, None, ⊎_elim}
use Rattle.std.specs.Prelude.{filter, find, option_map}
use Rattle.std.proofs.lemmas.Bool.{false_from_ne_true, both_ways, or_cases, or_left, or_right, not-true}
use Rattle.std.proofs.lemmas.List.Folds.{list_any-append}
use Rattle.cluster_types.specs.declared.message.Message.{Message}
use Rattle.cluster_types.specs.declared.event.Event.{Event}
use Rattle.cluster_types.specs.declared.event.Event.TheVariants.{Submit, Direct, Reply, Join, Leave, Pong, Purge, Resubmit, Abort, Ask}
use Rattle.cluster_types.specs.declared.entry.Input.TheVariants.{Open, Up, Down, In, Beat, Time}
use Rattle.cluster_types.specs.declared.entry.Entry.{Entry}
use Rattle.cluster_types.specs.declared.entry.Entry.TheVariants.{Input, Hand, Settle, Lose}
use Rattle.cluster_defs.specs.declared.engine.Engine.{Engine}
use Rattle.cluster_defs.specs.Words.{Id, is_empty, is_listed, once}
use Rattle.cluster_defs.specs.Engines.{left_engine}
use Rattle.cluster_defs.specs.Tasks.{Task, new_task, after_reply, after_end, after_abort}
use Rattle.cluster_defs.specs.Facts.{Facts, event_on, is_settled, is_direct_id}
use Rattle.cluster_defs.specs.Acceptance.{Demand, accepted, accepted_id, request_from, body_from}
use Rattle.cluster_defs.specs.Aborts.{Absent, TakesBack, aborting, taken_back, aborted_by}
use Rattle.cluster_defs.specs.Purges.{Copy, copied_by, copied_ids, copied_from, inflight, gone_or_unknown}
use Rattle.cluster_defs.specs.Steps.{next, reply_from, engine_end}
use Rattle.cluster_defs.specs.Histories.{History, facts, Legal}
use Rattle.cluster_defs.proofs.Options.{same_id}
use Rattle.cluster_defs.proofs.Says.{due_says}
use Rattle.cluster_laws.proofs.Closed.{found_listed, listed_stays}
use Rattle.cluster_laws.proofs.Copies.{none_pass, listed_passes}
use Rattle.cluster_types.proofs.Booleans.{or_off_left, or_off_right}

pub record Blank (f : Facts) (id : Id) : Type 0 where
  pub request : f.request_of id ≡ None
  pub body : f.body_of id ≡ None
  pub task : f.task id ≡ new_task
  pub reply : f.reply_of id ≡ None

-- an id that isn't known after an entry wasn't known before
unlisted_before : (f : Facts) (e : Entry) (id : Id) → is_listed id (next f e).known ≡ false → is_listed id f.known ≡ false
unlisted_before f e id off = false_from_ne_true _ (λ on. both_ways (is_listed id (next f e).known) off (listed_stays f e id on))

left_off : (xs ys : List Id) (id : Id) → is_listed id (xs ++ ys) ≡ false → is_listed id ys ≡ false
left_off xs ys id off = false_from_ne_true _ (λ on. both_ways (is_listed id (xs ++ ys)) off (list_any-append (λ i. bytes_eq i id) xs ys ∙ or_right _ _ on))

front_off : (xs ys : List Id) (id : Id) → is_listed id (xs ++ ys) ≡ false → is_listed id xs ≡ false
front_off xs ys id off = false_from_ne_true _ (λ on. both_ways (is_listed id (xs ++ ys)) off (list_any-append (λ i. bytes_eq i id) xs ys ∙ or_left _ _ on))

-- a request makes one of its own id alone
none_made : (f : Facts) (conn moment : ℕ) (m : Message) (id : Id) (d : Option Demand) → is_listed id (accepted_id d) ≡ false → request_from f conn moment m id d ≡ None
none_made f conn moment m id None h = refl
none_made f conn moment m id (Some d) h = rw (or_off_left (bytes_eq d.submission.id id) false h) refl

none_bodied : (m : Message) (id : Id) (d : Option Demand) → is_listed id (accepted_id d) ≡ false → body_from m id d ≡ None
none_bodied m id None h = refl
none_bodied m id (Some d) h = rw (or_off_left (bytes_eq d.submission.id id) false h) refl

none_copied : (id : Id) (c : Option (List Copy)) → is_listed id (copied_ids c) ≡ false → copied_from id c ≡ None
none_copied id None h = refl
none_copied id (Some copies) h = ap (option_map (λ (c : Copy). c.old)) (in_list copies h)
  where
    in_list : (cs : List Copy) → is_listed id (copied_ids (Some cs)) ≡ false → find (λ (c : Copy). bytes_eq c.new id) cs ≡ None
    in_list [] k = refl
    in_list (c ∷ cs) k = rw (or_off_left (bytes_eq c.new id) _ k) (in_list cs (or_off_right (bytes_eq c.new id) _ k))

end_new : (end : Option ℕ) → after_end end new_task ≡ new_task
end_new None = refl
end_new (Some n) = refl

reply_new : (live : List Engine) (conn : ℕ) (id : Id) (direct : Bool) (event : Option Event) → after_reply live conn id direct event new_task ≡ new_task
reply_new live conn id direct None = refl
reply_new live conn id direct (Some (Submit s)) = refl
reply_new live conn id direct (Some (Direct s)) = refl
reply_new live conn id direct (Some (Join u)) = refl
reply_new live conn id direct (Some Leave) = refl
reply_new live conn id direct (Some (Pong b)) = refl
reply_new live conn id direct (Some (Purge all ids)) = refl
reply_new live conn id direct (Some (Resubmit ids)) = refl
reply_new live conn id direct (Some (Abort ids)) = refl
reply_new live conn id direct (Some (Ask q)) = refl
reply_new live conn id direct (Some (Reply name header ok declined)) =
    elim (bytes_eq name id) as (λ b. cond (b && false) (after_reply live conn id direct None new_task) new_task ≡ new_task) [ true ↦ refl | false ↦ refl ]

-- AN ABORT TAKES KNOWN IDS BACK ALONE

passed_listed : (p : Id → Bool) (ids : List Id) (id : Id) → is_listed id (filter p ids) ≡ true → is_listed id ids ≡ true
passed_listed p [] id on = on
passed_listed p (i ∷ ids) id on =
    (elim (p i) as (λ b. is_listed id (cond b (i ∷ filter p ids) (filter p ids)) ≡ true → (bytes_eq i id || is_listed id ids) ≡ true) [
      | true ↦ λ h. ⊎_elim (λ same. or_left (bytes_eq i id) (is_listed id ids) same) (λ later. or_right (bytes_eq i id) (is_listed id ids) (passed_listed p ids id later)) (or_cases (bytes_eq i id) (is_listed id (filter p ids)) h)
      | false ↦ λ h. or_right (bytes_eq i id) (is_listed id ids) (passed_listed p ids id h)
    ]) on

unknown_back : (f : Facts) (ids : List Id) (id : Id) → is_listed id f.known ≡ false → is_listed id (taken_back (aborting f ids)) ≡ false
unknown_back f ids id off =
    elim (is_empty (gone_or_unknown f ids)) as (λ b. is_empty (gone_or_unknown f ids) ≡ b → is_listed id (taken_back (cond (not b) (Absent (gone_or_unknown f ids)) (TakesBack (inflight f ids)))) ≡ false) [
      | false ↦ λ _. refl
      | true ↦ λ none. false_from_ne_true (is_listed id (inflight f ids)) (λ on. absent (listed_passes (λ i. not (not (is_listed i f.known) || f.purged i)) ids id
          (none_pass (λ i. not (is_listed i f.known) || f.purged i) ids none) (passed_listed (λ i. not (is_settled f i)) ids id on)))
    ] refl
  where
    absent : not (not (is_listed id f.known) || f.purged id) ≡ true → ⊥
    absent passes = both_ways (not (is_listed id f.known) || f.purged id) (not-true _ passes) (or_left (not (is_listed id f.known)) (f.purged id) (ap not off))

-- an id that isn't known isn't taken back
none_back : (f : Facts) (event : Option Event) (id : Id) → is_listed id f.known ≡ false → is_listed id (aborted_by f event) ≡ false
none_back f None id off = refl
none_back f (Some (Submit s)) id off = refl
none_back f (Some (Direct s)) id off = refl
none_back f (Some (Reply name header ok declined)) id off = refl
none_back f (Some (Join u)) id off = refl
none_back f (Some Leave) id off = refl
none_back f (Some (Pong b)) id off = refl
none_back f (Some (Purge all ids)) id off = refl
none_back f (Some (Resubmit ids)) id off = refl
none_back f (Some (Abort ids)) id off = unknown_back f (once ids) id off
none_back f (Some (Ask q)) id off = refl

abort_new : (ids : List Id) (id : Id) (t : Task) → is_listed id ids ≡ false → t ≡ new_task → after_abort ids id t ≡ new_task
abort_new ids id t off is = rw off is

answer_new : (f : Facts) (conn : ℕ) (m : Message) (id : Id) (event : Option Event) → f.task id ≡ new_task → reply_from f conn m id event None ≡ None
answer_new f conn m id None h = refl
answer_new f conn m id (Some (Submit s)) h = refl
answer_new f conn m id (Some (Direct s)) h = refl
answer_new f conn m id (Some (Join u)) h = refl
answer_new f conn m id (Some Leave) h = refl
answer_new f conn m id (Some (Pong b)) h = refl
answer_new f conn m id (Some (Purge all ids)) h = refl
answer_new f conn m id (Some (Resubmit ids)) h = refl
answer_new f conn m id (Some (Abort ids)) h = refl
answer_new f conn m id (Some (Ask q)) h = refl
answer_new f conn m id (Some (Reply name header ok declined)) h = rw h (by_name (bytes_eq name id))
  where
    by_name : (b : Bool) → cond (b && false) (Some (record m { target = [] })) None ≡ None
    by_name true = refl
    by_name false = refl

message_blank : (f : Facts) (conn moment word : ℕ) (m : Message) (id : Id) → Blank f id → is_listed id (next f (Input (In conn moment word m))).known ≡ false → Blank (next f (Input (In conn moment word m))) id
message_blank f conn moment word m id old off =
    let event = event_on f conn m in
    let new = accepted_id (accepted f m event) in
    let copies = copied_ids (copied_by f event) in
    let not_copied = left_off (f.known ++ new) copies id off in
    let not_made = left_off f.known new id (front_off (f.known ++ new) copies id off) in
    let unknown = front_off f.known new id (front_off (f.known ++ new) copies id off) in
    let ended : Task = after_end (left_engine f.engines.live conn event) (after_reply f.engines.live conn id (is_direct_id f id) event (f.task id)) in
    let blank_yet : ended ≡ new_task = rw (old.task, reply_new f.engines.live conn id (is_direct_id f id) event) (end_new (left_engine f.engines.live conn event)) in
    record {
      request = rw (old.request, none_made f conn moment m id (accepted f m event) not_made, none_copied id (copied_by f event) not_copied) refl;
      body = rw (old.body, none_bodied m id (accepted f m event) not_made, none_copied id (copied_by f event) not_copied) refl;
      task = abort_new (aborted_by f event) id ended (none_back f event id unknown) blank_yet;
      reply = rw old.reply (answer_new f conn m id event old.task);
    }

blank_more : (h : History) (e : Entry) (id : Id) → Legal (e ∷ h) → Blank (facts h) id → is_listed id (next (facts h) e).known ≡ false → Blank (next (facts h) e) id
blank_more h (Hand name n) id legal old off =
    let found = (due_says (facts h) (Hand name n) legal.0).listed in
    let other : bytes_eq name id ≡ false = false_from_ne_true _ (λ on. both_ways (is_listed id (facts h).known) off (subst (λ i. is_listed i (facts h).known ≡ true) (same_id name id on) (found_listed found.test (facts h).known name found.found))) in
    record { request = old.request; body = old.body; task = rw other old.task; reply = old.reply }
blank_more h (Settle name v c) id legal old off = record { request = old.request; body = old.body; task = rw old.task refl; reply = old.reply }
blank_more h (Lose n) id legal old off = record { request = old.request; body = old.body; task = rw old.task (end_new (Some n)); reply = old.reply }
blank_more h (Input (Open moment scheme hwm misses)) id legal old off = record { request = old.request; body = old.body; task = rw old.task refl; reply = old.reply }
blank_more h (Input (Up conn channel moment word identity)) id legal old off = record { request = old.request; body = old.body; task = rw old.task refl; reply = old.reply }
blank_more h (Input (Down conn moment word)) id legal old off =
    record { request = old.request; body = old.body; task = rw old.task (end_new (engine_end (facts h).engines.live (Input (Down conn moment word)) None)); reply = old.reply }
blank_more h (Input (Beat moment word)) id legal old off = record { request = old.request; body = old.body; task = rw old.task refl; reply = old.reply }
blank_more h (Input (Time moment word)) id legal old off = record { request = old.request; body = old.body; task = rw old.task refl; reply = old.reply }
blank_more h (Input (In conn moment word m)) id legal old off = message_blank (facts h) conn moment word m id old off

pub blank : (h : History) (id : Id) → Legal h → is_listed id (facts h).known ≡ false → Blank (facts h) id
blank [] id legal off = record { request = refl; body = refl; task = refl; reply = refl }
blank (e ∷ older) id legal off = blank_more older e id legal (blank older id legal.1 (unlisted_before (facts older) e id off)) off
