-- What one entry more can't take away, whether it is legal or not.
use Rattle.std.proofs.Common.{◌≡◌, ℕ, ◌+◌, ◌<◌, ◌≤◌, List, [], ◌∷◌, ◌++◌, Bool, true, false, cond, not, ◌&&◌, refl, sym, ◌∙◌, arith, Option, Some, None, bytes_eq, ◌⊎◌, inl, inr, ⊎_elim}
use Rattle.std.specs.Prelude.{◌==◌, option_map}
use Rattle.std.specs.List.{list_any}
use Rattle.std.proofs.lemmas.Bool.{or_cases, eqb-true, or_right}
use Rattle.std.proofs.lemmas.List.Folds.{list_any-append}
use Rattle.cluster_types.specs.declared.event.Event.{Event}
use Rattle.cluster_types.specs.declared.event.Event.TheVariants.{Reply}
use Rattle.cluster_types.specs.declared.entry.Input.TheVariants.{Open, Up, Down, In, Beat, Time}
use Rattle.cluster_types.specs.declared.entry.Entry.{Entry}
use Rattle.cluster_types.specs.declared.entry.Entry.TheVariants.{Input, Hand, Settle, Lose}
use Rattle.cluster_defs.specs.declared.attempt.Attempt.{Attempt}
use Rattle.cluster_defs.specs.declared.attempt.Attempt.TheVariants.{Running}
use Rattle.cluster_defs.specs.declared.engine.Engine.{Engine}
use Rattle.cluster_defs.specs.Words.{Id, or_else}
use Rattle.cluster_defs.specs.Engines.{Engines, engine_on, lists_number, joined, left_engine, echoed, with_engine, without_left, with_mark, marked, raises}
use Rattle.cluster_defs.specs.declared.attempt.Ending.{Ending}
use Rattle.cluster_defs.specs.declared.attempt.Ending.TheVariants.{Well, Badly, Declines}
use Rattle.cluster_defs.specs.declared.settled.Settled.{Settled}
use Rattle.cluster_defs.specs.Tasks.{Task, ending, lost, took, replied, after_reply, after_end, counts, handed, runs_at}
use Rattle.cluster_defs.specs.Requests.{Request}
use Rattle.cluster_defs.specs.Facts.{Facts, event_on, is_direct_id}
use Rattle.cluster_defs.specs.Steps.{next}
use Rattle.cluster_defs.specs.Scheduling.{is_live, excludes}
use Rattle.cluster_defs.specs.Histories.{History, facts}
use Rattle.cluster_laws.proofs.Lists.{any-filter, any-map}
use Rattle.cluster_laws.proofs.Aborting.{abort_choice}
use Rattle.cluster_defs.specs.Aborts.{aborted_by}

-- ENGINES

-- an engine that is live was live before, or has just got the next number
abbrev pub Came : ℕ → Engines → Engines → Type 0
Came n old new = (lists_number n old.live ≡ true) ⊎ ((n ≡ old.next) × (new.next ≡ old.next + 1))

same_number : (conn beat n : ℕ) (e : Engine) → ((marked conn beat e).number == n) ≡ (e.number == n)
same_number conn beat n e = elim (raises conn beat e) as (λ b. ((cond b (record e { mark = beat }) e).number == n) ≡ (e.number == n)) [ true ↦ refl | false ↦ refl ]

joined_came : (n conn beats : ℕ) (uuid : Option (List ℕ)) (old : Engines) → lists_number n (with_engine conn beats uuid old).live ≡ true → Came n old (with_engine conn beats uuid old)
joined_came n conn beats None old h = inl h
joined_came n conn beats (Some uuid) old h =
    ⊎_elim inl (λ r. inr (⊎_elim (λ s. (sym (eqb-true old.next n s), refl)) (λ s. cc) (or_cases _ _ r))) (or_cases _ _ (sym (list_any-append (λ e. e.number == n) old.live _) ∙ h))

-- what is live after an engine's end, was live before
pub left_live : (n : ℕ) (o : Option ℕ) (engines : Engines) → lists_number n (without_left o engines).live ≡ true → lists_number n engines.live ≡ true
left_live n None engines h = h
left_live n (Some m) engines h = any-filter _ (λ e. not (e.number == m)) engines.live h

left_came : (n : ℕ) (o : Option ℕ) (old new : Engines) → (lists_number n new.live ≡ true → Came n old new) → lists_number n (without_left o new).live ≡ true → Came n old (without_left o new)
left_came n None old new came h = came h
left_came n (Some m) old new came h = came (any-filter _ (λ e. not (e.number == m)) new.live h)

marked_came : (n conn : ℕ) (beat : Option ℕ) (old new : Engines) → (lists_number n new.live ≡ true → Came n old new) → lists_number n (with_mark conn beat new).live ≡ true → Came n old (with_mark conn beat new)
marked_came n conn None old new came h = came h
marked_came n conn (Some beat) old new came h = came (sym (any-map (λ e. e.number == n) (marked conn beat) (same_number conn beat n) new.live) ∙ h)

pub came : (f : Facts) (e : Entry) (n : ℕ) → is_live (next f e) n ≡ true → Came n f.engines (next f e).engines
came f (Hand id m) n h = inl h
came f (Settle id v c) n h = inl h
came f (Lose m) n h = inl (left_live n (Some m) f.engines h)
came f (Input (Open moment scheme hwm misses)) n h = cc
came f (Input (Up conn channel moment word identity)) n h = inl h
came f (Input (Down conn moment word)) n h = inl (left_live n (option_map (λ e. e.number) (engine_on f.engines.live conn)) f.engines h)
came f (Input (Beat moment word)) n h = inl h
came f (Input (Time moment word)) n h = inl h
came f (Input (In conn moment word message)) n h =
    let event = event_on f conn message in
    marked_came n conn (echoed f.engines.live conn f.beats event) f.engines _
    (left_came n (left_engine f.engines.live conn event) f.engines _ (joined_came n conn f.beats (joined f.engines conn event) f.engines)) h

joined_rises : (conn beats : ℕ) (uuid : Option (List ℕ)) (old : Engines) → old.next ≤ (with_engine conn beats uuid old).next
joined_rises conn beats None old = omega arith
joined_rises conn beats (Some uuid) old = omega arith

pub left_next : (o : Option ℕ) (old : Engines) → (without_left o old).next ≡ old.next
left_next None old = refl
left_next (Some m) old = refl

pub marked_next : (conn : ℕ) (beat : Option ℕ) (old : Engines) → (with_mark conn beat old).next ≡ old.next
marked_next conn None old = refl
marked_next conn (Some beat) old = refl

pub in_next : (f : Facts) (conn : ℕ) (beat : Option ℕ) (gone : Option ℕ) (uuid : Option (List ℕ)) →
    (with_mark conn beat (without_left gone (with_engine conn f.beats uuid f.engines))).next ≡ (with_engine conn f.beats uuid f.engines).next
in_next f conn beat gone uuid = marked_next conn beat (without_left gone (with_engine conn f.beats uuid f.engines)) ∙ left_next gone (with_engine conn f.beats uuid f.engines)

pub next_rises : (f : Facts) (e : Entry) → f.engines.next ≤ (next f e).engines.next
next_rises f (Hand id m) = omega arith
next_rises f (Settle id v c) = omega arith
next_rises f (Lose m) = omega arith
next_rises f (Input (Open moment scheme hwm misses)) = omega arith
next_rises f (Input (Up conn channel moment word identity)) = omega arith
next_rises f (Input (Down conn moment word)) = let same = left_next (option_map (λ e. e.number) (engine_on f.engines.live conn)) f.engines in omega arith
next_rises f (Input (Beat moment word)) = omega arith
next_rises f (Input (Time moment word)) = omega arith
next_rises f (Input (In conn moment word message)) =
    let event = event_on f conn message in
    rw (in_next f conn (echoed f.engines.live conn f.beats event) (left_engine f.engines.live conn event) (joined f.engines conn event)) (joined_rises conn f.beats (joined f.engines conn event) f.engines)

-- REQUESTS AND OUTCOMES

-- an option keeps what it has
pub or_else_keeps : {X : Type 0} (o p : Option X) (x : X) → o ≡ Some x → or_else o p ≡ Some x
or_else_keeps None p x e = cc
or_else_keeps (Some y) p x e = e

pub request_stays : (f : Facts) (e : Entry) (id : Id) (r : Request) → f.request_of id ≡ Some r → (next f e).request_of id ≡ Some r
request_stays f (Hand i m) id r h = h
request_stays f (Settle i v c) id r h = h
request_stays f (Lose m) id r h = h
request_stays f (Input (Open moment scheme hwm misses)) id r h = h
request_stays f (Input (Up conn channel moment word identity)) id r h = h
request_stays f (Input (Down conn moment word)) id r h = h
request_stays f (Input (Beat moment word)) id r h = h
request_stays f (Input (Time moment word)) id r h = h
request_stays f (Input (In conn moment word message)) id r h = or_else_keeps _ _ r h

pub settled_stays : (f : Facts) (e : Entry) (id : Id) (s : Settled) → f.settled id ≡ Some s → (next f e).settled id ≡ Some s
settled_stays f (Settle i v c) id s h = or_else_keeps _ _ s h
settled_stays f (Hand i m) id s h = h
settled_stays f (Lose m) id s h = h
settled_stays f (Input i) id s h = h

-- EXCLUSION: engines that declined stay excluded

abbrev pub lists : ℕ → Task → Bool
lists n t = list_any (λ m. m == n) t.excluded

abbrev pub Keeps : ℕ → Task → Task → Type 0
Keeps n old new = lists n old ≡ true → lists n new ≡ true

lost_keeps : (n : ℕ) (a : Attempt) (t : Task) → Keeps n t (lost a t)
lost_keeps n (Running m) t h = h
lost_keeps n _ t h = h

replied_keeps : (n : ℕ) (header : List ℕ) (how : Ending) (m : ℕ) (t : Task) → Keeps n t (replied header how m t)
replied_keeps n header Well m t h = h
replied_keeps n header Badly m t h = h
replied_keeps n header Declines m t h = or_right _ _ h

took_keeps : (n : ℕ) (header : List ℕ) (how : Ending) (a : Attempt) (t : Task) → Keeps n t (took header how a t)
took_keeps n header how (Running m) t h = replied_keeps n header how m t h
took_keeps n header how _ t h = h

choice_keeps : (n : ℕ) (b : Bool) (old new : Task) → Keeps n old new → Keeps n old (cond b new old)
choice_keeps n true old new k h = k h
choice_keeps n false old new k h = h

reply_keeps : (n : ℕ) (live : List Engine) (conn : ℕ) (id : Id) (direct : Bool) (event : Option Event) (t : Task) → Keeps n t (after_reply live conn id direct event t)
reply_keeps n live conn id direct None t h = h
reply_keeps n live conn id direct (Some (Reply name header ok declined)) t h =
    choice_keeps n (bytes_eq name id && counts live conn header t) t _ (took_keeps n header (ending direct ok declined) t.last t) h
reply_keeps n live conn id direct (Some _) t h = h

end_keeps : (n : ℕ) (o : Option ℕ) (t : Task) → Keeps n t (after_end o t)
end_keeps n None t h = h
end_keeps n (Some m) t h = choice_keeps n (runs_at m t.last) t _ (lost_keeps n t.last t) h

pub excluded_stays : (f : Facts) (e : Entry) (id : Id) (n : ℕ) → excludes f id n ≡ true → excludes (next f e) id n ≡ true
excluded_stays f (Hand i m) id n h = choice_keeps n (bytes_eq i id) (f.task id) (handed m (f.task id)) (λ k. k) h
excluded_stays f (Settle i v c) id n h = h
excluded_stays f (Lose m) id n h = end_keeps n (Some m) (f.task id) h
excluded_stays f (Input (Open moment scheme hwm misses)) id n h = lost_keeps n (f.task id).last (f.task id) h
excluded_stays f (Input (Up conn channel moment word identity)) id n h = h
excluded_stays f (Input (Down conn moment word)) id n h = end_keeps n (option_map (λ e. e.number) (engine_on f.engines.live conn)) (f.task id) h
excluded_stays f (Input (Beat moment word)) id n h = h
excluded_stays f (Input (Time moment word)) id n h = h
excluded_stays f (Input (In conn moment word message)) id n h =
    let event = event_on f conn message in
    let ended = end_keeps n (left_engine f.engines.live conn event) (after_reply f.engines.live conn id (is_direct_id f id) event (f.task id)) (reply_keeps n f.engines.live conn id (is_direct_id f id) event (f.task id) h) in
    abort_choice (λ t. lists n t ≡ true) (aborted_by f event) id (after_end (left_engine f.engines.live conn event) (after_reply f.engines.live conn id (is_direct_id f id) event (f.task id))) ended ended

-- LATER FACTS

-- what later facts can't take back
pub record Later (f g : Facts) : Type 0 where
  pub rises : f.engines.next ≤ g.engines.next
  pub gone : (n : ℕ) → n < f.engines.next → is_live g n ≡ true → is_live f n ≡ true
  pub request : (id : Id) (r : Request) → f.request_of id ≡ Some r → g.request_of id ≡ Some r
  pub settled : (id : Id) (s : Settled) → f.settled id ≡ Some s → g.settled id ≡ Some s
  pub excluded : (id : Id) (n : ℕ) → excludes f id n ≡ true → excludes g id n ≡ true

pub later_self : (f : Facts) → Later f f
later_self f = record { rises = omega arith; gone = λ n _ h. h; request = λ id r h. h; settled = λ id s h. h; excluded = λ id n h. h }

gone_after : (f : Facts) (e : Entry) (n : ℕ) → n < f.engines.next → is_live (next f e) n ≡ true → is_live f n ≡ true
gone_after f e n below live = ⊎_elim (λ h. h) (λ h. let same = h.0 in absurd (omega arith)) (came f e n live)

pub later_more : (f g : Facts) (e : Entry) → Later f g → Later f (next g e)
later_more f g e later =
    let more = next_rises g e in
    let before = later.rises in
    record {
      rises = omega arith;
      gone = λ n below live. later.gone n below (gone_after g e n (omega arith) live);
      request = λ id r h. request_stays g e id r (later.request id r h);
      settled = λ id s h. settled_stays g e id s (later.settled id s h);
      excluded = λ id n h. excluded_stays g e id n (later.excluded id n h);
    }

-- any entries at all leave later facts
pub later_all : (entries history : History) → Later (facts history) (facts (entries ++ history))
later_all [] history = later_self (facts history)
later_all (e ∷ entries) history = later_more (facts history) (facts (entries ++ history)) e (later_all entries history)
