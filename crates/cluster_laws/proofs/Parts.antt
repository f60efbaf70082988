-- The parts of the tests by which a hand-out is due, and what it means that nothing is due.
use Rattle.std.proofs.Common.{◌≡◌, ℕ, ◌≤◌, List, [], ◌∷◌, Bool, true, false, cond, not, ◌&&◌, refl, sym, subst, Option, Some, None, ⊎_elim}
use Rattle.std.specs.Prelude.{find}
use Rattle.std.specs.Option.{is_some, option_and_then}
use Rattle.std.proofs.lemmas.Bool.{and_parts, not-true, leb-true, both_ways, or_cases}
use Rattle.cluster_defs.specs.Words.{Id, or_else, is_listed}
use Rattle.cluster_defs.specs.Tasks.{is_never}
use Rattle.cluster_defs.specs.Dependencies.{met, on_engine}
use Rattle.cluster_defs.specs.Requests.{Request, is_direct, is_target}
use Rattle.cluster_defs.specs.Facts.{Facts, is_settled}
use Rattle.cluster_defs.specs.Scheduling.{due, lose_due, settle_due, fail_due, direct_due, hand_due, hand_to, rests, may_run, may_run_as, is_live, excludes, ready_for, direct_engine}
use Rattle.cluster_defs.proofs.Options.{if_some, same_id}
use Rattle.cluster_types.proofs.Lists.{found_passes}

-- the parts of the test whether an id may run
pub record MayRun (f : Facts) (id : Id) (n : ℕ) : Type 0 where
  pub open_yet : is_settled f id ≡ false
  pub rests_now : rests f id ≡ true
  pub request : may_run_as f id n (f.request_of id) ≡ true
  pub live : is_live f n ≡ true
  pub not_excluded : excludes f id n ≡ false

pub may_parts : (f : Facts) (id : Id) (n : ℕ) → may_run f id n ≡ true → MayRun f id n
may_parts f id n may =
    let a = and_parts _ _ may in
    let b = and_parts _ _ a.0 in
    let c = and_parts _ _ b.0 in
    let d = and_parts _ _ c.0 in
    record { open_yet = not-true _ ((and_parts _ _ d.0).0); rests_now = d.0; request = d.1; live = c.1; not_excluded = not-true _ b.1 }

-- the parts of what its request says
pub record RunsAs (f : Facts) (id : Id) (n : ℕ) (r : Request) : Type 0 where
  pub no_direct : is_direct r ≡ false
  pub tries : (f.task id).spent ≤ r.retries
  pub after : met r.after f.settled ≡ true
  pub follow : met r.follow (λ i. on_engine n (f.settled i)) ≡ true
  pub target : is_target n r ≡ true

pub runs_parts : (f : Facts) (id : Id) (n : ℕ) (r : Request) → may_run_as f id n (Some r) ≡ true → RunsAs f id n r
runs_parts f id n r h =
    let a = and_parts _ _ h in
    let b = and_parts _ _ a.0 in
    let c = and_parts _ _ b.0 in
    let d = and_parts _ _ c.0 in
    record { no_direct = not-true _ d.0; tries = leb-true (f.task id).spent r.retries d.1; after = c.1; follow = b.1; target = a.1 }

-- the parts of the test whether a direct request waits for an engine
pub record Waits (f : Facts) (id : Id) (n : ℕ) : Type 0 where
  pub open_yet : is_settled f id ≡ false
  pub never : is_never (f.task id).last ≡ true
  pub engine : direct_engine (f.request_of id) ≡ Some n

pub waits : (f : Facts) (id : Id) (n : ℕ) → ready_for f id ≡ Some n → Waits f id n
waits f id n h =
    let a = if_some (not (is_settled f id) && is_never (f.task id).last) (direct_engine (f.request_of id)) n h in
    let b = and_parts _ _ a.0 in
    record { open_yet = not-true _ b.0; never = b.1; engine = a.1 }

pub waits_back : (f : Facts) (id : Id) (n : ℕ) → Waits f id n → ready_for f id ≡ Some n
waits_back f id n w = rw (w.open_yet, w.never) w.engine

-- NOTHING DUE

pub both_none : {X : Type 0} (o p : Option X) → or_else o p ≡ None → (o ≡ None) × (p ≡ None)
both_none None p e = (refl, e)
both_none (Some x) p e = cc

pub record NoneDue (f : Facts) : Type 0 where
  pub lose : lose_due f ≡ None
  pub settle : settle_due f ≡ None
  pub fail : fail_due f ≡ None
  pub direct : direct_due f ≡ None
  pub hand : hand_due f ≡ None

pub none_due : (f : Facts) → due f ≡ None → NoneDue f
none_due f none =
    let a = both_none (lose_due f) (or_else (settle_due f) (or_else (fail_due f) (or_else (direct_due f) (hand_due f)))) none in
    let b = both_none (settle_due f) (or_else (fail_due f) (or_else (direct_due f) (hand_due f))) a.1 in
    let c = both_none (fail_due f) (or_else (direct_due f) (hand_due f)) b.1 in
    let d = both_none (direct_due f) (hand_due f) c.1 in
    record { lose = a.0; settle = b.0; fail = c.0; direct = d.0; hand = d.1 }

-- what is listed and passes a test, is found
pub find_listed : (p : Id → Bool) (known : List Id) (id : Id) → is_listed id known ≡ true → p id ≡ true → find p known ≡ None → ⊥
find_listed p [] id l h e = cc
find_listed p (i ∷ known) id l h e =
    (elim (p i) as (λ b. p i ≡ b → cond b (Some i) (find p known) ≡ None → ⊥) [
      | true ↦ λ _ s. cc
      | false ↦ λ off s. ⊎_elim (λ same. both_ways (p i) off (subst (λ x. p x ≡ true) (sym (same_id i id same)) h)) (λ r. find_listed p known id r h s) (or_cases _ _ l)
    ]) refl e

no_hand : (id : Id) (d : Option ℕ) → is_some d ≡ true → hand_to id d ≡ None → ⊥
no_hand id None s h = cc
no_hand id (Some n) s h = cc

direct_none : (f : Facts) (o : Option Id) → find (λ id. is_some (ready_for f id)) f.known ≡ o → option_and_then (λ id. hand_to id (ready_for f id)) o ≡ None → o ≡ None
direct_none f None found e = refl
direct_none f (Some id) found e = absurd (no_hand id (ready_for f id) (found_passes (λ id. is_some (ready_for f id)) f.known id found) e)

-- no known direct request waits where none is due
pub none_waits : (f : Facts) → direct_due f ≡ None → (id : Id) → is_listed id f.known ≡ true → is_some (ready_for f id) ≡ true → ⊥
none_waits f none id listed h =
    find_listed (λ id. is_some (ready_for f id)) f.known id listed h (direct_none f (find (λ id. is_some (ready_for f id)) f.known) refl none)
