-- Plans, and the histories that they make.
use Rattle.std.proofs.Common.{◌≡◌, ℕ, zero, suc, ◌+◌, ◌<◌, ◌≤◌, List, [], ◌∷◌, ◌++◌, length, take, drop, get_or, refl, sym, ap, subst, ◌∙◌, arith, Option, Some, None, reverse}
use Rattle.std.proofs.lemmas.List.{reverse-append, take-append-drop, take_more}
use Rattle.cluster_types.specs.declared.entry.Entry.{Entry}
use Rattle.cluster_types.specs.declared.entry.Entry.TheVariants.{Input, Hand, Settle, Lose}
use Rattle.cluster_types.specs.declared.entry.Input.{Input as InputType}
use Rattle.cluster_types.specs.declared.entry.Input.TheVariants.{Open, Up, Down, In, Beat, Time}
use Rattle.cluster_defs.specs.Facts.{event_in}
use Rattle.cluster_defs.specs.Scheduling.{due, Allowed, open_work}
use Rattle.cluster_defs.specs.Histories.{History, facts, Legal, place, is_stopping, go_on, decided, decide_all}
use Rattle.cluster_defs.specs.Outs.{outs_from}
use Rattle.cluster_defs.proofs.Falls.{due_falls}
use Rattle.cluster_state.specs.Plain.{Plain, facts_in, plain_after, InTime}
use Rattle.entry_outs.specs.Reached.{IsNext}
use Rattle.cluster_core.specs.Steps.{CoreView, PlanView, planned, AllInTime, IsReadOff, IsGrown, IsPlan, kept_from, entry_place}
use Rattle.cluster_core.proofs.Growing.{stands_more, facts_told}

-- a list to which an input and decisions were added, seen with the newest entry first
pub reverse_added : (xs ds : List Entry) (e : Entry) → reverse ((xs ++ e ∷ []) ++ ds) ≡ reverse ds ++ e ∷ reverse xs
reverse_added xs ds e = reverse-append (xs ++ e ∷ []) ds ∙ ap (λ (ys : List Entry). reverse ds ++ ys) (reverse-append xs (e ∷ []))

pub place_is : (h : History) (e : Entry) → place (e ∷ h) ≡ entry_place e (place h)
place_is h (Input (Open moment scheme hwm misses)) = refl
place_is h (Input (Up conn channel moment word identity)) = refl
place_is h (Input (Down conn moment word)) = refl
place_is h (Input (In conn moment word m)) = refl
place_is h (Input (Beat moment word)) = refl
place_is h (Input (Time moment word)) = refl
place_is h (Hand id n) = refl
place_is h (Settle id v c) = refl
place_is h (Lose n) = refl

-- what lies below a legal history is legal, and in time
pub below : (later older : History) → Legal (later ++ older) → Legal older
below [] older legal = legal
below (e ∷ later) older legal = below later older legal.1

pub time_below : (later older : History) → AllInTime (later ++ older) → AllInTime older
time_below [] older time = time
time_below (e ∷ later) older time = time_below later older time.1

-- a list, turned at the entry at a place
pub turned_at : (xs : List Entry) (i : ℕ) (e : Entry) → i < length xs → e ≡ get_or xs i e → reverse xs ≡ reverse (drop (i + 1) xs) ++ e ∷ reverse (take i xs)
turned_at xs i e lt is =
    let parts : xs ≡ take (i + 1) xs ++ drop (i + 1) xs = sym (take-append-drop (i + 1) xs) in
    let front : take (i + 1) xs ≡ take i xs ++ e ∷ [] = take_more xs i e lt ∙ ap (λ (x : Entry). take i xs ++ x ∷ []) (sym is) in
    ap reverse parts ∙ reverse-append (take (i + 1) xs) (drop (i + 1) xs)
    ∙ ap (λ (ys : List Entry). reverse (drop (i + 1) xs) ++ reverse ys) front
    ∙ ap (λ (ys : List Entry). reverse (drop (i + 1) xs) ++ ys) (reverse-append (take i xs) (e ∷ []))

-- the entry at a place of a legal history is allowed after those before it, and in time
pub allowed_at : (xs : List Entry) (i : ℕ) (e : Entry) → i < length xs → e ≡ get_or xs i e → Legal (reverse xs) → Allowed (facts (reverse (take i xs))) e
allowed_at xs i e lt is legal =
    let here : Legal (e ∷ reverse (take i xs)) = below (reverse (drop (i + 1) xs)) (e ∷ reverse (take i xs)) (subst Legal (turned_at xs i e lt is) legal) in
    here.0

pub time_at : (xs : List Entry) (i : ℕ) (e : Entry) → i < length xs → e ≡ get_or xs i e → AllInTime (reverse xs) → InTime e
time_at xs i e lt is time =
    let here : AllInTime (e ∷ reverse (take i xs)) = time_below (reverse (drop (i + 1) xs)) (e ∷ reverse (take i xs)) (subst AllInTime (turned_at xs i e lt is) time) in
    here.0

-- and it may stand next after them
pub next_at : (xs : List Entry) (i : ℕ) (e : Entry) (p : Plain) (at : ℕ) → i < length xs → e ≡ get_or xs i e → Legal (reverse xs) → IsReadOff (reverse (take i xs)) p at → IsNext p e
next_at xs i e p at lt is legal s = record { history = reverse (take i xs); legal = (allowed_at xs i e lt is legal, s.legal); is = s.data_are }

-- data that stand for a front of a history stand for one entry more
pub stands_at : (xs : List Entry) (i : ℕ) (e : Entry) (p q : Plain) (at next_at : ℕ) → i < length xs → e ≡ get_or xs i e → Legal (reverse xs) → AllInTime (reverse xs) → IsReadOff (reverse (take i xs)) p at →
    q ≡ plain_after (facts_in p) e (event_in (facts_in p) e) p → next_at ≡ entry_place e at → IsReadOff (reverse (take (i + 1) xs)) q next_at
stands_at xs i e p q at next_at lt is legal time s taken placed =
    let front : take (i + 1) xs ≡ take i xs ++ e ∷ [] = take_more xs i e lt ∙ ap (λ (x : Entry). take i xs ++ x ∷ []) (sym is) in
    let turned : reverse (take (i + 1) xs) ≡ e ∷ reverse (take i xs) = ap reverse front ∙ reverse-append (take i xs) (e ∷ []) in
    let told : facts_in p ≡ facts (reverse (take i xs)) = facts_told (reverse (take i xs)) p at s in
    subst (λ (h : History). IsReadOff h q next_at) (sym turned)
    (stands_more (reverse (take i xs)) p q at next_at e (event_in (facts_in p) e) s (allowed_at xs i e lt is legal) (time_at xs i e lt is time) (ap (λ f. event_in f e) told) taken
    (placed ∙ ap (entry_place e) s.place_is ∙ sym (place_is (reverse (take i xs)) e)))

-- AFTER ALL DECISIONS NONE IS DUE

rests_decided : (n : ℕ) (h : History) → open_work (facts h) ≤ n → due (facts (decided n h)) ≡ None
rests_decided zero h le =
    elim (due (facts h)) as (λ o. due (facts h) ≡ o → due (facts h) ≡ None) [
      | None ↦ λ is. is
      | (Some d) ↦ λ is. absurd (let less = due_falls (facts h) d is in omega (arith, less))
    ] refl
rests_decided (suc n) h le =
    elim (due (facts h)) as (λ o. due (facts h) ≡ o → due (facts (go_on h o (decided n))) ≡ None) [
      | None ↦ λ is. is
      | (Some d) ↦ λ is. rests_decided n (d ∷ h) (let less = due_falls (facts h) d is in omega (arith, less))
    ] refl

pub decide_all_rests : (h : History) → due (facts (decide_all h)) ≡ None
unfolding decide_all
decide_all_rests h = rests_decided (open_work (facts h)) h (omega arith)

-- APPLIED PLANS

pub record Applied (old : History) (p q : PlanView) (new : History) : Type 0 where
  pub stands : IsReadOff new q.plain q.place
  pub rests : due (facts new) ≡ None
  pub history : new ≡ decide_all (Input p.input ∷ old)
  pub outs : q.outs ≡ outs_from (length old) new
  pub kept : q.kept ≡ kept_from (length old) new
  pub stops : q.stops ≡ is_stopping new

-- what stands after a plan was applied, of a core and a plan that are seen in another way
pub applied_in : (core : CoreView) (p : PlanView) (inside : CoreView) (q : PlanView) (new : History) → inside ≡ core → q ≡ p → IsPlan core p → new ≡ planned inside.history q → Applied core.history p q new
applied_in core p inside q new same_core same_plan plan is =
    let within : IsPlan core q = subst (IsPlan core) (sym same_plan) plan in
    let here : new ≡ planned core.history q = is ∙ ap (λ (c : CoreView). planned c.history q) same_core in
    subst (Applied core.history p q) (sym here) (record {
      stands = within.grown.stands;
      rests = ap (λ (h : History). due (facts h)) within.all ∙ decide_all_rests (Input q.input ∷ core.history);
      history = within.all ∙ ap (λ (r : PlanView). decide_all (Input r.input ∷ core.history)) same_plan;
      outs = within.grown.outs_are;
      kept = within.grown.kept_are;
      stops = within.grown.stops_is;
    })

pub room_in : (core : CoreView) (p : PlanView) (inside : CoreView) (q : PlanView) → inside ≡ core → q ≡ p → IsPlan core p → length q.decisions + 1 ≤ inside.spare
room_in core p inside q same_core same_plan plan =
    (subst (λ (c : CoreView). IsPlan c q) (sym same_core) (subst (IsPlan core) (sym same_plan) plan)).room

-- a plan that was worked out after the history of a core is a plan for the core once it has room
pub plan_made : (old new : CoreView) (h : History) (p : PlanView) (input : InputType) → h ≡ old.history → p.input ≡ input → IsGrown h p → planned h p ≡ decide_all (Input input ∷ h) →
    new.history ≡ old.history → length p.decisions + 1 ≤ new.spare → IsPlan new p
plan_made old new h p input is same grown all kept room =
    let here : h ≡ new.history = is ∙ sym kept in
    record {
      grown = subst (λ (x : History). IsGrown x p) here grown;
      all = subst (λ (x : History). planned x p ≡ decide_all (Input input ∷ x)) here all ∙ ap (λ (i : InputType). decide_all (Input i ∷ new.history)) (sym same);
      room = room;
    }

pub only_some : {X : Type 0} (P : X → Type 0) (a : X) → P a → (x : X) → Some a ≡ Some x → P x
only_some {X} P a here x e = subst P (ap (or_that a) e) here
  where
    or_that : X → Option X → X
    or_that z None = z
    or_that z (Some w) = w
