-- The outcome of a settled id stays what it is.
use Rattle.std.proofs.Common.{◌≡◌, ℕ, suc, ◌+◌, List, [], ◌∷◌, ◌++◌, Bool, true, false, cond, not, ◌&&◌, ◌||◌, refl, sym, ap, ◌∙◌, subst, Option, Some, None, bytes_eq}
use Rattle.std.specs.Prelude.{option_map}
use Rattle.std.specs.List.{list_any, position_or_len}
use Rattle.std.specs.Option.{is_some, option_and_then}
use Rattle.cluster_types.specs.declared.message.Message.{Message}
use Rattle.cluster_types.specs.declared.verdict.Cause.{Cause}
use Rattle.cluster_types.specs.declared.verdict.Cause.TheVariants.{Reply as ByReply, EngineError, ImpossibleDependency, InvalidDependency, TaskTimeout, Abort}
use Rattle.cluster_types.specs.declared.event.Event.{Event}
use Rattle.cluster_types.specs.declared.event.Event.TheVariants.{Reply}
use Rattle.cluster_types.specs.declared.entry.Input.TheVariants.{Open, Up, Down, In, Beat, Time}
use Rattle.cluster_types.specs.declared.entry.Entry.{Entry}
use Rattle.cluster_types.specs.declared.entry.Entry.TheVariants.{Input, Hand, Settle, Lose}
use Rattle.cluster_defs.specs.Words.{Id, is_listed}
use Rattle.cluster_defs.specs.declared.settled.Settled.{Settled}
use Rattle.cluster_defs.specs.Tasks.{counts}
use Rattle.cluster_defs.specs.Requests.{Request}
use Rattle.cluster_defs.specs.Facts.{Facts, event_on, is_settled}
use Rattle.cluster_defs.specs.Acceptance.{accepted, accepted_id}
use Rattle.cluster_defs.specs.Purges.{copied_by, copied_ids}
use Rattle.cluster_defs.specs.Steps.{next, reply_from}
use Rattle.cluster_defs.specs.Histories.{History, facts, Legal, kept}
use Rattle.cluster_defs.specs.Outcomes.{number_of, made_outcome, outcome, outcome_by}
use Rattle.cluster_defs.specs.Lives.{IsFront}
use Rattle.cluster_laws.proofs.Kept.{kept_facts, kept_legal}
use Rattle.cluster_laws.proofs.Later.{settled_stays, request_stays}
use Rattle.cluster_laws.proofs.Closed.{Closed, closed, home_idle, some_stays, Requested, requested}

and_off : (a b : Bool) → b ≡ false → (a && b) ≡ false
and_off true b h = h
and_off false b h = refl

event_keeps : (f : Facts) → Closed f → (conn : ℕ) (m : Message) (id : Id) → is_settled f id ≡ true → (o : Option Event) → reply_from f conn m id o (f.reply_of id) ≡ f.reply_of id
event_keeps f closed conn m id h None = refl
event_keeps f closed conn m id h (Some (Reply name header ok declined)) =
    let off : (bytes_eq name id && counts f.engines.live conn header (f.task id)) ≡ false = and_off _ _ (home_idle f.engines.live (f.task id).last conn _ (closed.idle id h)) in
    rw off refl
event_keeps f closed conn m id h (Some _) = refl

reply_stays : (f : Facts) → Closed f → (e : Entry) (id : Id) → is_settled f id ≡ true → (next f e).reply_of id ≡ f.reply_of id
reply_stays f closed (Hand i n) id h = refl
reply_stays f closed (Settle i v c) id h = refl
reply_stays f closed (Lose n) id h = refl
reply_stays f closed (Input (Open moment scheme hwm misses)) id h = refl
reply_stays f closed (Input (Up conn channel moment word identity)) id h = refl
reply_stays f closed (Input (Down conn moment word)) id h = refl
reply_stays f closed (Input (Beat moment word)) id h = refl
reply_stays f closed (Input (Time moment word)) id h = refl
reply_stays f closed (Input (In conn moment word m)) id h = event_keeps f closed conn m id h (event_on f conn m)

-- a known id keeps its number
place_append : {X : Type 0} (p : X → Bool) (xs ys : List X) → list_any p xs ≡ true → position_or_len p (xs ++ ys) ≡ position_or_len p xs
place_append p [] ys h = cc
place_append p (x ∷ xs) ys h =
    (elim (p x) as (λ b. (b || list_any p xs) ≡ true → cond (not b) (1 + position_or_len p (xs ++ ys)) 0 ≡ cond (not b) (1 + position_or_len p xs) 0) [
      | true ↦ λ _. refl
      | false ↦ λ k. ap (λ n. 1 + n) (place_append p xs ys k)
    ]) h

any_left : {X : Type 0} (p : X → Bool) (xs ys : List X) → list_any p xs ≡ true → list_any p (xs ++ ys) ≡ true
any_left p [] ys h = cc
any_left p (x ∷ xs) ys h =
    (elim (p x) as (λ b. (b || list_any p xs) ≡ true → (b || list_any p (xs ++ ys)) ≡ true) [ true ↦ λ _. refl | false ↦ λ k. any_left p xs ys k ]) h

number_stays : (f : Facts) (e : Entry) (id : Id) → is_listed id f.known ≡ true → number_of (next f e) id ≡ number_of f id
number_stays f (Hand i n) id h = refl
number_stays f (Settle i v c) id h = refl
number_stays f (Lose n) id h = refl
number_stays f (Input (Open moment scheme hwm misses)) id h = refl
number_stays f (Input (Up conn channel moment word identity)) id h = refl
number_stays f (Input (Down conn moment word)) id h = refl
number_stays f (Input (Beat moment word)) id h = refl
number_stays f (Input (Time moment word)) id h = refl
number_stays f (Input (In conn moment word m)) id h =
    let event = event_on f conn m in
    let p : Id → Bool = λ i. bytes_eq i id in
    let new = accepted_id (accepted f m event) in
    ap suc (place_append p (f.known ++ new) (copied_ids (copied_by f event)) (any_left p f.known new h) ∙ place_append p f.known new h)

-- what an outcome is made of
made_same : (n m : ℕ) (s : Settled) (o p : Option Request) → n ≡ m → p ≡ o → option_map (made_outcome n s) p ≡ option_map (made_outcome m s) o
made_same n m s o p same is = ap (λ k. option_map (made_outcome k s) p) same ∙ ap (option_map (made_outcome m s)) is

request_same : (f : Facts) (e : Entry) (id : Id) → is_some (f.request_of id) ≡ true → (next f e).request_of id ≡ f.request_of id
request_same f e id h = go (f.request_of id) refl h
  where
    go : (o : Option Request) → f.request_of id ≡ o → is_some o ≡ true → (next f e).request_of id ≡ f.request_of id
    go None is k = cc
    go (Some r) is k = request_stays f e id r is ∙ sym is

by_stays : (f : Facts) → Closed f → Requested f → (e : Entry) (id : Id) → is_settled f id ≡ true → (s : Settled) (c : Cause) → outcome_by (next f e) id s c ≡ outcome_by f id s c
unfolding Requested
by_stays f closed known e id h s ByReply = reply_stays f closed e id h
by_stays f closed known e id h s EngineError = made_same _ _ s _ _ (number_stays f e id (closed.listed id h)) (request_same f e id (known id (closed.listed id h)))
by_stays f closed known e id h s ImpossibleDependency = made_same _ _ s _ _ (number_stays f e id (closed.listed id h)) (request_same f e id (known id (closed.listed id h)))
by_stays f closed known e id h s InvalidDependency = made_same _ _ s _ _ (number_stays f e id (closed.listed id h)) (request_same f e id (known id (closed.listed id h)))
by_stays f closed known e id h s TaskTimeout = made_same _ _ s _ _ (number_stays f e id (closed.listed id h)) (request_same f e id (known id (closed.listed id h)))
by_stays f closed known e id h s Abort = made_same _ _ s _ _ (number_stays f e id (closed.listed id h)) (request_same f e id (known id (closed.listed id h)))

abbrev outcome_at : Facts → Id → Option Settled → Option Message
outcome_at g id o = option_and_then (λ s. outcome_by g id s s.cause) o

stays_at : (f : Facts) → Closed f → Requested f → (e : Entry) (id : Id) (o : Option Settled) → f.settled id ≡ o → is_some o ≡ true → outcome (next f e) id ≡ outcome f id
stays_at f closed known e id None is k = cc
stays_at f closed known e id (Some s) is k =
    ap (outcome_at (next f e) id) (settled_stays f e id s is) ∙ by_stays f closed known e id (ap is_some is) s s.cause ∙ sym (ap (outcome_at f id) is)

outcome_stays : (f : Facts) → Closed f → Requested f → (e : Entry) (id : Id) → is_settled f id ≡ true → outcome (next f e) id ≡ outcome f id
outcome_stays f closed known e id h = stays_at f closed known e id (f.settled id) refl h

some_later : (later : List Entry) (h : History) (id : Id) → is_settled (facts h) id ≡ true → is_settled (facts (later ++ h)) id ≡ true
some_later [] h id is = is
some_later (e ∷ later) h id is = some_stays (facts (later ++ h)) e id (some_later later h id is)

later_outcome : (later : List Entry) (h : History) → Legal (later ++ h) → (id : Id) → is_settled (facts h) id ≡ true → outcome (facts (later ++ h)) id ≡ outcome (facts h) id
later_outcome [] h legal id is = refl
later_outcome (e ∷ later) h legal id is =
    outcome_stays (facts (later ++ h)) (closed (later ++ h) legal.1) (requested (later ++ h)) e id (some_later later h id is) ∙ later_outcome later h legal.1 id is

-- what was answered at a history that this one belongs after, is answered still
pub answered_alike : (old history : History) (id : Id) → Legal history → IsFront (kept old) (kept history) → is_settled (facts old) id ≡ true → outcome (facts history) id ≡ outcome (facts old) id
answered_alike old history id legal front is =
    let there : is_settled (facts (kept old)) id ≡ true = ap (λ f. is_settled f id) (kept_facts old) ∙ is in
    ap (λ (f : Facts). outcome f id) (sym (kept_facts history))
    ∙ ap (λ h. outcome (facts h) id) front.1
    ∙ later_outcome front.0 (kept old) (subst Legal front.1 (kept_legal history legal)) id there
    ∙ ap (λ (f : Facts). outcome f id) (kept_facts old)
