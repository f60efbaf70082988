-- The hand-outs of an id that were not declined are at most one more than its retries.
use Rattle.std.proofs.Common.{◌≡◌, ℕ, ◌+◌, ◌≤◌, suc, List, [], ◌∷◌, Bool, true, false, cond, not, ◌&&◌, refl, sym, ap, subst, arith, Option, Some, None, bytes_eq, ⊎_elim}
use Rattle.std.specs.Prelude.{find, option_map}
use Rattle.std.specs.Option.{is_some, option_and_then}
use Rattle.std.proofs.lemmas.Bool.{and_parts, not-true}
use Rattle.cluster_types.specs.declared.verdict.Verdict.{Verdict}
use Rattle.cluster_types.specs.declared.verdict.Cause.{Cause}
use Rattle.cluster_types.specs.declared.event.Event.{Event}
use Rattle.cluster_types.specs.declared.message.Message.{Message}
use Rattle.cluster_types.specs.declared.event.Event.TheVariants.{Reply}
use Rattle.cluster_types.specs.declared.entry.Input.{Input as InputType}
use Rattle.cluster_types.specs.declared.entry.Input.TheVariants.{Open, Up, Down, In, Beat, Time}
use Rattle.cluster_types.specs.declared.entry.Entry.{Entry}
use Rattle.cluster_types.specs.declared.entry.Entry.TheVariants.{Input, Hand, Settle, Lose}
use Rattle.cluster_defs.specs.declared.attempt.Attempt.{Attempt}
use Rattle.cluster_defs.specs.declared.attempt.Attempt.TheVariants.{Never, Running, EndedOk, EndedBadly, Lost, Declined, Withdrawn}
use Rattle.cluster_defs.specs.declared.engine.Engine.{Engine}
use Rattle.cluster_defs.specs.Words.{Id, or_else, is_listed, is_number}
use Rattle.cluster_defs.specs.Engines.{engine_on, left_engine}
use Rattle.cluster_defs.specs.declared.attempt.Ending.{Ending}
use Rattle.cluster_defs.specs.declared.attempt.Ending.TheVariants.{Well, Badly, Declines}
use Rattle.cluster_defs.specs.Tasks.{Task, ending, lost, handed, runs, runs_at, is_never, home, counts, took, replied, withdrawn, after_reply, after_end}
use Rattle.cluster_defs.specs.Requests.{Request}
use Rattle.cluster_defs.specs.Facts.{Facts, event_on, is_direct_id}
use Rattle.cluster_defs.specs.Acceptance.{accepted, request_from}
use Rattle.cluster_defs.specs.Aborts.{aborted_by}
use Rattle.cluster_defs.specs.Purges.{copied_by, request_copied}
use Rattle.cluster_defs.specs.Steps.{next}
use Rattle.cluster_defs.specs.Scheduling.{settle_as, is_final, verdict, verdict_at, may_run, may_run_as, direct_engine}
use Rattle.cluster_defs.specs.Histories.{History, facts, Legal}
use Rattle.cluster_defs.specs.Safety.{one_if, hands, declines_in, is_declined, declines, allowance, Tries}
use Rattle.cluster_defs.proofs.Options.{same_id}
use Rattle.cluster_defs.proofs.Says.{SaysHand, due_says}
use Rattle.cluster_laws.proofs.Aborting.{abort_choice}
use Rattle.cluster_laws.proofs.Parts.{may_parts, runs_parts, waits}
use Rattle.cluster_types.proofs.Lists.{found_passes}

-- an attempt that is current, or that ended well, is a hand-out that was not spent
abbrev pub going : Attempt → ℕ
going (Running n) = 1
going (EndedOk n) = 1
going _ = 0

abbrev pub used : Task → ℕ
used t = t.spent + going t.last

lost_used : (a : Attempt) (t : Task) → t.last ≡ a → used (lost a t) ≡ used t
lost_used (Running n) t e = let one : going t.last ≡ 1 = ap going e in omega arith
lost_used Never t e = refl
lost_used (EndedOk n) t e = refl
lost_used (EndedBadly n) t e = refl
lost_used (Lost n) t e = refl
lost_used (Declined n) t e = refl
lost_used (Withdrawn n) t e = refl

end_used : (o : Option ℕ) (t : Task) → used (after_end o t) ≡ used t
end_used None t = refl
end_used (Some n) t = elim (runs_at n t.last) as (λ b. used (cond b (lost t.last t) t) ≡ used t) [ true ↦ lost_used t.last t refl | false ↦ refl ]

replied_used : (header : List ℕ) (direct ok declined : Bool) (n : ℕ) (t : Task) → going t.last ≡ 1 → used (replied header (ending direct ok declined) n t) + one_if (declined && not direct) ≡ used t
replied_used header true ok true n t one = omega arith
replied_used header false ok true n t one = omega arith
replied_used header direct true false n t one = omega arith
replied_used header direct false false n t one = omega arith

took_used : (live : List Engine) (conn : ℕ) (header : List ℕ) (direct ok declined : Bool) (a : Attempt) (t : Task) → t.last ≡ a → is_number conn (home live a) ≡ true →
    used (took header (ending direct ok declined) a t) + one_if (declined && not direct) ≡ used t
took_used live conn header direct ok declined (Running n) t e h = replied_used header direct ok declined n t (ap going e)
took_used live conn header direct ok declined Never t e h = cc
took_used live conn header direct ok declined (EndedOk n) t e h = cc
took_used live conn header direct ok declined (EndedBadly n) t e h = cc
took_used live conn header direct ok declined (Lost n) t e h = cc
took_used live conn header direct ok declined (Declined n) t e h = cc
took_used live conn header direct ok declined (Withdrawn n) t e h = cc

reply_used : (f : Facts) (conn : ℕ) (id name : Id) (header : List ℕ) (ok declined : Bool) →
    used (cond (bytes_eq name id && counts f.engines.live conn header (f.task id)) (took header (ending (is_direct_id f id) ok declined) (f.task id).last (f.task id)) (f.task id))
    + one_if ((bytes_eq name id && counts f.engines.live conn header (f.task id)) && (declined && not (is_direct_id f id))) ≡ used (f.task id)
reply_used f conn id name header ok declined =
    let t = f.task id in
    let direct = is_direct_id f id in
    let c = bytes_eq name id && counts f.engines.live conn header t in
    elim c as (λ b. c ≡ b → used (cond b (took header (ending direct ok declined) t.last t) t) + one_if (b && (declined && not direct)) ≡ used t) [
      | true ↦ λ on. took_used f.engines.live conn header direct ok declined t.last t refl ((and_parts _ _ ((and_parts _ _ on).1)).0)
      | false ↦ λ _. omega arith
    ] refl

event_used : (f : Facts) (conn : ℕ) (id : Id) (event : Option Event) → used (after_reply f.engines.live conn id (is_direct_id f id) event (f.task id)) + one_if (declines_in f conn id event) ≡ used (f.task id)
event_used f conn id None = omega arith
event_used f conn id (Some (Reply name header ok declined)) = reply_used f conn id name header ok declined
event_used f conn id (Some _) = omega arith

-- WHAT ISN'T WITHDRAWN

abbrev pub is_withdrawn : Attempt → Bool
is_withdrawn (Withdrawn engine) = true
is_withdrawn _ = false

-- what isn't withdrawn afterwards, wasn't before
abbrev Stands : Task → Task → Type 0
Stands old new = is_withdrawn new.last ≡ false → is_withdrawn old.last ≡ false

lost_stands : (a : Attempt) (t : Task) → t.last ≡ a → Stands t (lost a t)
lost_stands (Running n) t e h = ap is_withdrawn e
lost_stands Never t e h = h
lost_stands (EndedOk n) t e h = h
lost_stands (EndedBadly n) t e h = h
lost_stands (Lost n) t e h = h
lost_stands (Declined n) t e h = h
lost_stands (Withdrawn n) t e h = h

choice_stands : (b : Bool) (new old : Task) → Stands old new → Stands old (cond b new old)
choice_stands true new old k h = k h
choice_stands false new old k h = h

end_stands : (o : Option ℕ) (t : Task) → Stands t (after_end o t)
end_stands None t h = h
end_stands (Some n) t h = choice_stands (runs_at n t.last) _ t (lost_stands t.last t refl) h

took_stands : (header : List ℕ) (how : Ending) (a : Attempt) (t : Task) → t.last ≡ a → Stands t (took header how a t)
took_stands header how (Running n) t e h = ap is_withdrawn e
took_stands header how Never t e h = h
took_stands header how (EndedOk n) t e h = h
took_stands header how (EndedBadly n) t e h = h
took_stands header how (Lost n) t e h = h
took_stands header how (Declined n) t e h = h
took_stands header how (Withdrawn n) t e h = h

reply_stands : (live : List Engine) (conn : ℕ) (id : Id) (direct : Bool) (o : Option Event) (t : Task) → Stands t (after_reply live conn id direct o t)
reply_stands live conn id direct None t h = h
reply_stands live conn id direct (Some (Reply name header ok declined)) t h =
    choice_stands (bytes_eq name id && counts live conn header t) _ t (took_stands header (ending direct ok declined) t.last t refl) h
reply_stands live conn id direct (Some _) t h = h

-- an Abort does nothing to what isn't withdrawn afterwards
abort_none : (b : Bool) (t : Task) → is_withdrawn (cond b (withdrawn t) t).last ≡ false → cond b (withdrawn t) t ≡ t
abort_none true t h = cc
abort_none false t h = refl

-- what a message makes of a task, but for an Abort
abbrev told : Facts → ℕ → Message → Id → Task
told f conn message id =
    after_end (left_engine f.engines.live conn (event_on f conn message)) (after_reply f.engines.live conn id (is_direct_id f id) (event_on f conn message) (f.task id))

message_stands : (f : Facts) (conn : ℕ) (message : Message) (id : Id) → Stands (f.task id) (told f conn message id)
message_stands f conn message id h =
    let event = event_on f conn message in
    reply_stands f.engines.live conn id (is_direct_id f id) event (f.task id) (end_stands (left_engine f.engines.live conn event) (after_reply f.engines.live conn id (is_direct_id f id) event (f.task id)) h)

none_taken : (f : Facts) (conn moment word : ℕ) (message : Message) (id : Id) → is_withdrawn ((next f (Input (In conn moment word message))).task id).last ≡ false → (next f (Input (In conn moment word message))).task id ≡ told f conn message id
none_taken f conn moment word message id h = abort_none (is_listed id (aborted_by f (event_on f conn message))) (told f conn message id) h

input_stands : (f : Facts) (input : InputType) (id : Id) → Stands (f.task id) ((next f (Input input)).task id)
input_stands f (Open moment scheme hwm misses) id h = lost_stands (f.task id).last (f.task id) refl h
input_stands f (Up conn channel moment word identity) id h = h
input_stands f (Down conn moment word) id h = end_stands (option_map (λ e. e.number) (engine_on f.engines.live conn)) (f.task id) h
input_stands f (Beat moment word) id h = h
input_stands f (Time moment word) id h = h
input_stands f (In conn moment word message) id h =
    message_stands f conn message id (subst (λ (t : Task). is_withdrawn t.last ≡ false) (none_taken f conn moment word message id h) h)

-- what an input leaves of the hand-outs that were used up, of a task that isn't withdrawn
input_used : (f : Facts) (input : InputType) (id : Id) → is_withdrawn ((next f (Input input)).task id).last ≡ false → used ((next f (Input input)).task id) + one_if (is_declined f (Input input) id) ≡ used (f.task id)
input_used f (Open moment scheme hwm misses) id h = let e = lost_used (f.task id).last (f.task id) refl in omega arith
input_used f (Up conn channel moment word identity) id h = omega arith
input_used f (Down conn moment word) id h = let e = end_used (option_map (λ e. e.number) (engine_on f.engines.live conn)) (f.task id) in omega arith
input_used f (Beat moment word) id h = omega arith
input_used f (Time moment word) id h = omega arith
input_used f (In conn moment word message) id h =
    let event = event_on f conn message in
    let e = event_used f conn id event in
    let g = end_used (left_engine f.engines.live conn event) (after_reply f.engines.live conn id (is_direct_id f id) event (f.task id)) in
    let same : used (told f conn message id) + one_if (is_declined f (Input (In conn moment word message)) id) ≡ used (f.task id) = omega arith in
    subst (λ (t : Task). used t + one_if (is_declined f (Input (In conn moment word message)) id) ≡ used (f.task id)) (sym (none_taken f conn moment word message id h)) same

-- what an accepted request allows, only rises
allowance_le : (o p : Option Request) → allowance o ≤ allowance (or_else o p)
allowance_le None p = omega arith
allowance_le (Some r) p = omega arith

input_allowance : (f : Facts) (input : InputType) (id : Id) → allowance (f.request_of id) ≤ allowance ((next f (Input input)).request_of id)
input_allowance f (Open moment scheme hwm misses) id = omega arith
input_allowance f (Up conn channel moment word identity) id = omega arith
input_allowance f (Down conn moment word) id = omega arith
input_allowance f (Beat moment word) id = omega arith
input_allowance f (Time moment word) id = omega arith
input_allowance f (In conn moment word message) id =
    let event = event_on f conn message in
    allowance_le (f.request_of id) (or_else (request_from f conn moment message id (accepted f message event)) (request_copied f moment id (copied_by f event)))

-- A TASK WITHOUT AN ATTEMPT HAS SPENT NOTHING

abbrev Fresh : Task → Type 0
Fresh t = is_never t.last ≡ true → t.spent ≡ 0

lost_fresh : (a : Attempt) (t : Task) → Fresh t → Fresh (lost a t)
lost_fresh (Running n) t fresh h = cc
lost_fresh Never t fresh h = fresh h
lost_fresh (EndedOk n) t fresh h = fresh h
lost_fresh (EndedBadly n) t fresh h = fresh h
lost_fresh (Lost n) t fresh h = fresh h
lost_fresh (Declined n) t fresh h = fresh h
lost_fresh (Withdrawn n) t fresh h = fresh h

choice_fresh : (b : Bool) (new old : Task) → Fresh new → Fresh old → Fresh (cond b new old)
choice_fresh true new old k l h = k h
choice_fresh false new old k l h = l h

end_fresh : (o : Option ℕ) (t : Task) → Fresh t → Fresh (after_end o t)
end_fresh None t fresh h = fresh h
end_fresh (Some n) t fresh h = choice_fresh (runs_at n t.last) _ t (lost_fresh t.last t fresh) fresh h

replied_fresh : (header : List ℕ) (how : Ending) (n : ℕ) (t : Task) → Fresh (replied header how n t)
replied_fresh header Well n t h = cc
replied_fresh header Badly n t h = cc
replied_fresh header Declines n t h = cc

took_fresh : (header : List ℕ) (how : Ending) (a : Attempt) (t : Task) → Fresh t → Fresh (took header how a t)
took_fresh header how (Running n) t fresh h = replied_fresh header how n t h
took_fresh header how Never t fresh h = fresh h
took_fresh header how (EndedOk n) t fresh h = fresh h
took_fresh header how (EndedBadly n) t fresh h = fresh h
took_fresh header how (Lost n) t fresh h = fresh h
took_fresh header how (Declined n) t fresh h = fresh h
took_fresh header how (Withdrawn n) t fresh h = fresh h

reply_fresh : (live : List Engine) (conn : ℕ) (id : Id) (direct : Bool) (o : Option Event) (t : Task) → Fresh t → Fresh (after_reply live conn id direct o t)
reply_fresh live conn id direct None t fresh h = fresh h
reply_fresh live conn id direct (Some (Reply name header ok declined)) t fresh h =
    choice_fresh (bytes_eq name id && counts live conn header t) _ t (took_fresh header (ending direct ok declined) t.last t fresh) fresh h
reply_fresh live conn id direct (Some _) t fresh h = fresh h

handed_fresh : (b : Bool) (n : ℕ) (t : Task) → Fresh t → Fresh (cond b (handed n t) t)
handed_fresh true n t fresh h = cc
handed_fresh false n t fresh h = fresh h

fresh_more : (f : Facts) (e : Entry) (id : Id) → Fresh (f.task id) → Fresh ((next f e).task id)
fresh_more f (Hand name n) id fresh h = handed_fresh (bytes_eq name id) n (f.task id) fresh h
fresh_more f (Settle name v c) id fresh h = fresh h
fresh_more f (Lose n) id fresh h = end_fresh (Some n) (f.task id) fresh h
fresh_more f (Input (Open moment scheme hwm misses)) id fresh h = lost_fresh (f.task id).last (f.task id) fresh h
fresh_more f (Input (Up conn channel moment word identity)) id fresh h = fresh h
fresh_more f (Input (Down conn moment word)) id fresh h = end_fresh (option_map (λ e. e.number) (engine_on f.engines.live conn)) (f.task id) fresh h
fresh_more f (Input (Beat moment word)) id fresh h = fresh h
fresh_more f (Input (Time moment word)) id fresh h = fresh h
fresh_more f (Input (In conn moment word message)) id fresh h =
    let event = event_on f conn message in
    abort_choice Fresh (aborted_by f event) id _ (end_fresh (left_engine f.engines.live conn event) _ (reply_fresh f.engines.live conn id (is_direct_id f id) event (f.task id) fresh)) (λ k. cc) h

pub fresh : (h : History) (id : Id) → Fresh ((facts h).task id)
fresh [] id h = refl
fresh (e ∷ older) id h = fresh_more (facts older) e id (fresh older id) h

-- WHAT IS HANDED OUT IS IDLE, AND HAS TRIES LEFT

-- an id that is to be handed out has no attempt that ended well: it would have been settled first
find_none : {X : Type 0} (p q : X → Bool) (xs : List X) (x : X) → find p xs ≡ None → find q xs ≡ Some x → p x ≡ false
find_none p q [] x none is = cc
find_none {X} p q (y ∷ ys) x none is =
    (elim (p y) as (λ b. p y ≡ b → cond b (Some y) (find p ys) ≡ None → p x ≡ false) [
      | true ↦ λ _ n. cc
      | false ↦ λ off n. (elim (q y) as (λ b. cond b (Some y) (find q ys) ≡ Some x → p x ≡ false) [
        | true ↦ λ s. let same : y ≡ x = cc in rw (← same) off
        | false ↦ λ s. find_none p q ys x n s
      ]) is
    ]) refl none

verdict_none : (id : Id) (v : Option (Verdict × Cause)) → is_some v ≡ true → settle_as id v ≡ None → ⊥
verdict_none id None h e = cc
verdict_none id (Some v) h e = cc

no_final : (f : Facts) (o : Option Id) → find (is_final f) f.known ≡ o → option_and_then (λ id. settle_as id (verdict f id)) o ≡ None → o ≡ None
no_final f None found e = refl
no_final f (Some id) found e = absurd (verdict_none id (verdict f id) ((and_parts _ _ (found_passes (is_final f) f.known id found)).0) e)

not_ended_ok : (over : Bool) (a : Attempt) → runs a ≡ false → is_some (verdict_at over a) ≡ false → going a ≡ 0
not_ended_ok over Never r v = refl
not_ended_ok over (Running n) r v = cc
not_ended_ok over (EndedOk n) r v = cc
not_ended_ok over (EndedBadly n) r v = refl
not_ended_ok over (Lost n) r v = refl
not_ended_ok over (Declined n) r v = refl
not_ended_ok over (Withdrawn n) r v = cc

-- nor was it withdrawn
not_taken_back : (over : Bool) (a : Attempt) → is_some (verdict_at over a) ≡ false → is_withdrawn a ≡ false
not_taken_back over Never v = refl
not_taken_back over (Running n) v = refl
not_taken_back over (EndedOk n) v = refl
not_taken_back over (EndedBadly n) v = refl
not_taken_back over (Lost n) v = refl
not_taken_back over (Declined n) v = refl
not_taken_back over (Withdrawn n) v = cc

never_idle : (a : Attempt) → is_never a ≡ true → going a ≡ 0
never_idle Never h = refl
never_idle (Running n) h = cc
never_idle (EndedOk n) h = cc
never_idle (EndedBadly n) h = refl
never_idle (Lost n) h = refl
never_idle (Declined n) h = refl
never_idle (Withdrawn n) h = refl

never_stands : (a : Attempt) → is_never a ≡ true → is_withdrawn a ≡ false
never_stands Never h = refl
never_stands (Running n) h = cc
never_stands (EndedOk n) h = cc
never_stands (EndedBadly n) h = cc
never_stands (Lost n) h = cc
never_stands (Declined n) h = cc
never_stands (Withdrawn n) h = cc

and_off : (a b : Bool) → (a && not b) ≡ false → b ≡ false → a ≡ false
and_off true true h e = cc
and_off true false h e = cc
and_off false b h e = refl

-- what is to be handed out as a Submit has no verdict
no_verdict : (f : Facts) (id : Id) (n : ℕ) → SaysHand f id n → may_run f id n ≡ true → is_some (verdict f id) ≡ false
no_verdict f id n says m =
    let none = no_final f (find (is_final f) f.known) refl says.none_final in
    and_off _ _ (find_none (is_final f) says.listed.test f.known id none says.listed.found) (may_parts f id n m).open_yet

hand_idle : (f : Facts) (id : Id) (n : ℕ) → SaysHand f id n → going (f.task id).last ≡ 0
hand_idle f id n says =
    ⊎_elim (λ w. never_idle (f.task id).last (waits f id n w).never)
    (λ m. not_ended_ok _ (f.task id).last (not-true _ ((and_parts _ _ (may_parts f id n m).rests_now).1)) (no_verdict f id n says m)) says.why

hand_stands : (f : Facts) (id : Id) (n : ℕ) → SaysHand f id n → is_withdrawn (f.task id).last ≡ false
hand_stands f id n says =
    ⊎_elim (λ w. never_stands (f.task id).last (waits f id n w).never) (λ m. not_taken_back _ (f.task id).last (no_verdict f id n says m)) says.why

may_allowed : (f : Facts) (id : Id) (n : ℕ) (o : Option Request) → may_run_as f id n o ≡ true → suc (f.task id).spent ≤ allowance o
may_allowed f id n None h = cc
may_allowed f id n (Some r) h = let le = (runs_parts f id n r h).tries in omega arith

direct_allowed : (o : Option Request) (n spent : ℕ) → direct_engine o ≡ Some n → spent ≡ 0 → suc spent ≤ allowance o
direct_allowed None n spent h e = cc
direct_allowed (Some r) n spent h e = omega arith

hand_allowed : (older : History) (id : Id) (n : ℕ) → SaysHand (facts older) id n → suc ((facts older).task id).spent ≤ allowance ((facts older).request_of id)
hand_allowed older id n says =
    let f = facts older in
    ⊎_elim (λ w. let wait = waits f id n w in direct_allowed (f.request_of id) n (f.task id).spent wait.engine (fresh older id wait.never))
    (λ m. may_allowed f id n (f.request_of id) (may_parts f id n m).request) says.why

-- THE BALANCE

-- the hand-outs of a task that isn't withdrawn are those that were used up and those that were declined; none is handed
-- out after it was withdrawn
pub record Balanced (h : History) (id : Id) : Type 0 where
  pub sum : is_withdrawn ((facts h).task id).last ≡ false → hands h id ≡ used ((facts h).task id) + declines h id
  pub within : is_withdrawn ((facts h).task id).last ≡ false → used ((facts h).task id) ≤ allowance ((facts h).request_of id)
  pub bound : hands h id ≤ allowance ((facts h).request_of id) + declines h id

-- what a hand-out leaves, of the task that it names or of another one
abbrev AfterHand : Bool → ℕ → Task → Option Request → ℕ → ℕ → Type 0
AfterHand b n t o hands declines =
    (is_withdrawn (cond b (handed n t) t).last ≡ false → one_if b + hands ≡ used (cond b (handed n t) t) + (0 + declines))
    × (is_withdrawn (cond b (handed n t) t).last ≡ false → used (cond b (handed n t) t) ≤ allowance o)
    × (one_if b + hands ≤ allowance o + (0 + declines))

hand_named : (n : ℕ) (t : Task) (o : Option Request) (hands declines : ℕ) → going t.last ≡ 0 → suc t.spent ≤ allowance o → hands ≡ used t + declines → AfterHand true n t o hands declines
hand_named n t o hands declines idle may sum = (λ _. omega arith, λ _. omega arith, omega arith)

hand_step : (older : History) (i id : Id) (n : ℕ) → SaysHand (facts older) i n → Balanced older id → Balanced (Hand i n ∷ older) id
hand_step older i id n says before =
    let f = facts older in
    let t = f.task id in
    let both = (elim (bytes_eq i id) as (λ b. bytes_eq i id ≡ b → AfterHand b n t (f.request_of id) (hands older id) (declines older id)) [
      | true ↦ λ same. let is : i ≡ id = same_id i id same in
          let idle : going t.last ≡ 0 = subst (λ x. going (f.task x).last ≡ 0) is (hand_idle f i n says) in
          let stands : is_withdrawn t.last ≡ false = subst (λ x. is_withdrawn (f.task x).last ≡ false) is (hand_stands f i n says) in
          let may : suc t.spent ≤ allowance (f.request_of id) = subst (λ x. suc (f.task x).spent ≤ allowance (f.request_of x)) is (hand_allowed older i n says) in
          hand_named n t (f.request_of id) (hands older id) (declines older id) idle may (before.sum stands)
      | false ↦ λ _. (λ k. let sum = before.sum k in omega arith, before.within, let bound = before.bound in omega arith)
    ]) refl in
    record { sum = both.0; within = both.1; bound = both.2 }

pub balanced : (h : History) → Legal h → (id : Id) → Balanced h id
balanced [] legal id = record { sum = λ _. omega arith; within = λ _. omega arith; bound = omega arith }
balanced (Hand i n ∷ older) legal id = hand_step older i id n (due_says (facts older) (Hand i n) legal.0) (balanced older legal.1 id)
balanced (Settle i v c ∷ older) legal id =
    let before = balanced older legal.1 id in
    let bound = before.bound in
    record { sum = λ k. let sum = before.sum k in omega arith; within = before.within; bound = omega arith }
balanced (Lose n ∷ older) legal id =
    let before = balanced older legal.1 id in
    let e = end_used (Some n) ((facts older).task id) in
    let stands = end_stands (Some n) ((facts older).task id) in
    let bound = before.bound in
    record {
      sum = λ k. let sum = before.sum (stands k) in omega arith;
      within = λ k. let within = before.within (stands k) in omega arith;
      bound = omega arith;
    }
balanced (Input input ∷ older) legal id =
    let before = balanced older legal.1 id in
    let bound = before.bound in
    let stands = input_stands (facts older) input id in
    let rises = input_allowance (facts older) input id in
    record {
      sum = λ k. let sum = before.sum (stands k) in let e = input_used (facts older) input id k in omega arith;
      within = λ k. let within = before.within (stands k) in let e = input_used (facts older) input id k in omega arith;
      bound = omega arith;
    }

pub legal_tries : (h : History) → Legal h → Tries h
legal_tries h legal id = (balanced h legal id).bound
