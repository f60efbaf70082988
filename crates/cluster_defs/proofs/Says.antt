-- What a decision that is due says.
use Rattle.std.proofs.Common.{◌≡◌, ℕ, Bool, true, false, ◌&&◌, not, refl, subst, Some, None, ◌⊎◌, inl, inr, ⊎_elim, map}
use Rattle.std.specs.Prelude.{find, nat_lt, option_map}
use Rattle.std.specs.Option.{is_some}
use Rattle.std.proofs.lemmas.Bool.{and_parts, not-true}
use Rattle.cluster_types.specs.declared.verdict.Verdict.{Verdict}
use Rattle.cluster_types.specs.declared.verdict.Verdict.TheVariants.{Failed}
use Rattle.cluster_types.specs.declared.verdict.Cause.{Cause}
use Rattle.cluster_types.specs.declared.entry.Entry.{Entry}
use Rattle.cluster_types.specs.declared.entry.Entry.TheVariants.{Input, Hand, Settle, Lose}
use Rattle.cluster_defs.specs.declared.attempt.Attempt.{Attempt}
use Rattle.cluster_defs.specs.declared.attempt.Attempt.TheVariants.{Never, Running, EndedOk, EndedBadly, Lost, Declined, Withdrawn}
use Rattle.cluster_defs.specs.declared.engine.Engine.{Engine}
use Rattle.cluster_defs.specs.Words.{Id, is_empty}
use Rattle.cluster_defs.specs.Engines.{missed}
use Rattle.cluster_defs.specs.Tasks.{runs, is_never}
use Rattle.cluster_defs.specs.Facts.{Facts, is_settled}
use Rattle.cluster_defs.specs.Scheduling.{due, lose_due, settle_due, fail_due, direct_due, hand_due, settle_as, hand_to, is_final, rests, verdict, verdict_at, failing_id, failing_as, ready_for, direct_engine, engine_for, candidates, load, pick, may_run}
use Rattle.cluster_defs.proofs.Options.{or_else_some, map_some, then_some, if_some, place_passes}
use Rattle.cluster_types.proofs.Lists.{found_passes}

-- an id that a search through the known ids comes to
pub record Found (f : Facts) (id : Id) : Type 0 where
  pub test : Id → Bool
  pub found : find test f.known ≡ Some id

pub record SaysLose (f : Facts) (n : ℕ) : Type 0 where
  pub engine : Engine
  pub found : find (λ e. nat_lt f.misses (missed f.beats e)) f.engines.live ≡ Some engine
  pub is : engine.number ≡ n

-- why an id is settled: its attempts are over, or it fails without one
pub record SaysSettle (f : Facts) (id : Id) (v : Verdict) (cause : Cause) : Type 0 where
  pub listed : Found f id
  pub none_lost : lose_due f ≡ None
  pub open_yet : is_settled f id ≡ false
  pub ended : runs (f.task id).last ≡ false
  pub why : (verdict f id ≡ Some (v, cause)) ⊎ ((failing_id f id ≡ Some cause) × (v ≡ Failed))

-- why an id is handed out: it is a Direct that waits for this engine, or a Submit that may run there
pub record SaysHand (f : Facts) (id : Id) (n : ℕ) : Type 0 where
  pub listed : Found f id
  pub none_lost : lose_due f ≡ None
  pub none_final : settle_due f ≡ None
  pub why : (ready_for f id ≡ Some n) ⊎ (may_run f id n ≡ true)

abbrev pub Says : Facts → Entry → Type 0
Says f (Lose n) = SaysLose f n
Says f (Settle id v cause) = SaysSettle f id v cause
Says f (Hand id n) = SaysHand f id n
Says f (Input _) = ⊥

over_ended : (over : Bool) (a : Attempt) → is_some (verdict_at over a) ≡ true → runs a ≡ false
over_ended over Never h = refl
over_ended over (Running n) h = cc
over_ended over (EndedOk n) h = refl
over_ended over (EndedBadly n) h = refl
over_ended over (Lost n) h = refl
over_ended over (Declined n) h = refl
over_ended over (Withdrawn n) h = refl

lose_says : (f : Facts) (d : Entry) → lose_due f ≡ Some d → Says f d
lose_says f d e = let m = map_some _ _ _ e in subst (Says f) m.2 (record { engine = m.0; found = m.1; is = refl })

settle_says : (f : Facts) (d : Entry) → lose_due f ≡ None → settle_due f ≡ Some d → Says f d
settle_says f d none e =
    let at = then_some (λ id. settle_as id (verdict f id)) (find (is_final f) f.known) d e in
    let v = map_some (λ v. Settle at.0 v.0 v.1) (verdict f at.0) d at.2 in
    let final = and_parts _ _ (found_passes (is_final f) f.known at.0 at.1) in
    let says : SaysSettle f at.0 v.0.0 v.0.1 = record {
      listed = record { test = is_final f; found = at.1 };
      none_lost = none;
      open_yet = not-true _ final.1;
      ended = over_ended _ _ final.0;
      why = inl v.1;
    } in
    subst (Says f) v.2 says

fail_says : (f : Facts) (d : Entry) → lose_due f ≡ None → fail_due f ≡ Some d → Says f d
fail_says f d none e =
    let at = then_some (λ id. option_map (λ cause. Settle id Failed cause) (failing_id f id)) (find (λ id. is_some (failing_id f id)) f.known) d e in
    let c = map_some (λ cause. Settle at.0 Failed cause) (failing_id f at.0) d at.2 in
    let may = if_some (rests f at.0) (failing_as f at.0 (f.request_of at.0)) c.0 c.1 in
    let still = and_parts _ _ may.0 in
    let says : SaysSettle f at.0 Failed c.0 = record {
      listed = record { test = λ id. is_some (failing_id f id); found = at.1 };
      none_lost = none;
      open_yet = not-true _ still.0;
      ended = not-true _ still.1;
      why = inr (c.1, refl);
    } in
    subst (Says f) c.2 says

direct_says : (f : Facts) (d : Entry) → lose_due f ≡ None → settle_due f ≡ None → direct_due f ≡ Some d → Says f d
direct_says f d lost none e =
    let at = then_some (λ id. hand_to id (ready_for f id)) (find (λ id. is_some (ready_for f id)) f.known) d e in
    let n = map_some (λ n. Hand at.0 n) (ready_for f at.0) d at.2 in
    let says : SaysHand f at.0 n.0 = record {
      listed = record { test = λ id. is_some (ready_for f id); found = at.1 };
      none_lost = lost;
      none_final = none;
      why = inl n.1;
    } in
    subst (Says f) n.2 says

hand_says : (f : Facts) (d : Entry) → lose_due f ≡ None → settle_due f ≡ None → hand_due f ≡ Some d → Says f d
hand_says f d lost none e =
    let at = then_some (λ id. hand_to id (engine_for f id)) (find (λ id. not (is_empty (candidates f id))) f.known) d e in
    let n = map_some (λ n. Hand at.0 n) (engine_for f at.0) d at.2 in
    let says : SaysHand f at.0 n.0 = record {
      listed = record { test = λ id. not (is_empty (candidates f id)); found = at.1 };
      none_lost = lost;
      none_final = none;
      why = inr (place_passes (may_run f at.0) f.by_use (pick f.scheme (map (load f) (candidates f at.0)) f.word) n.0 n.1);
    } in
    subst (Says f) n.2 says

pub due_says : (f : Facts) (d : Entry) → due f ≡ Some d → Says f d
due_says f d e =
    ⊎_elim (lose_says f d)
    (λ r. ⊎_elim (settle_says f d r.0)
    (λ s. ⊎_elim (fail_says f d r.0)
    (λ t. ⊎_elim (direct_says f d r.0 s.0) (λ u. hand_says f d r.0 s.0 u.1) (or_else_some _ _ d t.1))
    (or_else_some _ _ d s.1)) (or_else_some _ _ d r.1)) (or_else_some _ _ d e)

-- what is handed out rests
pub ready_rests : (f : Facts) (id : Id) (n : ℕ) → ready_for f id ≡ Some n → (is_settled f id ≡ false) × (is_never (f.task id).last ≡ true)
ready_rests f id n e =
    let both = and_parts _ _ (if_some (not (is_settled f id) && is_never (f.task id).last) (direct_engine (f.request_of id)) n e).0 in
    (not-true _ both.0, both.1)

-- what a test that an id may run says
pub may_rests : (f : Facts) (id : Id) (n : ℕ) → may_run f id n ≡ true → rests f id ≡ true
may_rests f id n may = (and_parts _ _ ((and_parts _ _ ((and_parts _ _ ((and_parts _ _ may).0)).0)).0)).0

never_rests : (a : Attempt) → is_never a ≡ true → runs a ≡ false
never_rests Never h = refl
never_rests (Running n) h = cc
never_rests (EndedOk n) h = refl
never_rests (EndedBadly n) h = refl
never_rests (Lost n) h = refl
never_rests (Declined n) h = refl
never_rests (Withdrawn n) h = refl

pub hand_rests : (f : Facts) (id : Id) (n : ℕ) → SaysHand f id n → (is_settled f id ≡ false) × (runs (f.task id).last ≡ false)
hand_rests f id n says =
    ⊎_elim (λ ready. let r = ready_rests f id n ready in (r.0, never_rests _ r.1))
    (λ may. let both = and_parts _ _ (may_rests f id n may) in (not-true _ both.0, not-true _ both.1)) says.why
