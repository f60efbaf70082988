-- What each decision makes of the data.
use Rattle.std.proofs.Common.{◌≡◌, ℕ, ◌∷◌, map, true, false, cond, refl, sym, ap, ◌∙◌, bytes_eq, Option, Some, None}
use Rattle.std.specs.Prelude.{is_some}
use Rattle.std.proofs.lemmas.Bool.{false_from_ne_true, both_ways}
use Rattle.cluster_types.specs.declared.verdict.Verdict.{Verdict}
use Rattle.cluster_types.specs.declared.verdict.Cause.{Cause}
use Rattle.cluster_types.specs.declared.verdict.Cause.TheVariants.{Reply, EngineError, ImpossibleDependency, InvalidDependency, TaskTimeout, Abort}
use Rattle.cluster_types.specs.declared.entry.Entry.TheVariants.{Hand, Settle, Lose}
use Rattle.cluster_defs.specs.declared.attempt.Attempt.{Attempt}
use Rattle.cluster_defs.specs.declared.attempt.Attempt.TheVariants.{Never, Running, EndedOk, EndedBadly, Lost, Declined, Withdrawn}
use Rattle.cluster_defs.specs.Words.{Id, or_else}
use Rattle.cluster_defs.specs.declared.settled.Settled.{Settled}
use Rattle.cluster_defs.specs.Tasks.{Task, runs, runs_at, lost, after_end, settled_as}
use Rattle.cluster_defs.specs.Facts.{Facts, is_settled, is_direct_id}
use Rattle.cluster_defs.specs.Steps.{step}
use Rattle.cluster_defs.specs.Histories.{History, facts, Legal}
use Rattle.cluster_defs.specs.Outcomes.{number_of}
use Rattle.cluster_defs.proofs.Options.{or_else-None, id_self}
use Rattle.cluster_defs.proofs.Says.{due_says}
use Rattle.cluster_laws.proofs.Apart.{known_once}
use Rattle.cluster_laws.proofs.Closed.{closed, Closed}
use Rattle.task_table.specs.Seen.{Seen, attempted, handed_to, ended_on, changed, on_unsettled}
use Rattle.cluster_state.specs.Plain.{look, plain_of, handed_out, settled_at, settled_out, engine_ended}
use Rattle.cluster_state.proofs.Lists.{changed_one, map_all, map_twice}
use Rattle.cluster_state.proofs.Pieces.{seen_from, look_is}
use Rattle.cluster_types.proofs.Options.{none_of}

-- A HAND

abbrev after_hand : Facts → Id → ℕ → Facts
after_hand f id n = step f (Hand id n) None

hand_other : (f : Facts) (id i : Id) (n : ℕ) → bytes_eq id i ≡ false → look (after_hand f id n) i ≡ look f i
hand_other f id i n off = look_is (after_hand f id n) i ∙ rw off (sym (look_is f i))

hand_here : (f : Facts) (id : Id) (n : ℕ) → look (after_hand f id n) id ≡ handed_to n (look f id)
hand_here f id n = look_is (after_hand f id n) id ∙ rw (id_self id) (sym (ap (handed_to n) (look_is f id)))

pub hand_plain : (h : History) (id : Id) (n : ℕ) → plain_of (facts (Hand id n ∷ h)) ≡ handed_out id n (is_direct_id (facts h) id) (plain_of (facts h))
hand_plain h id n =
    let f = facts h in
    let tasks : map (look (after_hand f id n)) f.known ≡ changed id (handed_to n) (map (look f) f.known) =
    changed_one f (after_hand f id n) (handed_to n) id f.known (known_once h) (λ i off. hand_other f id i n off) (hand_here f id n) in
    rw tasks refl

-- A SETTLE

abbrev after_settle : Facts → Id → Verdict → Cause → Facts
after_settle f id v c = step f (Settle id v c) None

settle_other : (f : Facts) (id i : Id) (v : Verdict) (c : Cause) → bytes_eq id i ≡ false → look (after_settle f id v c) i ≡ look f i
settle_other f id i v c off =
    look_is (after_settle f id v c) i ∙ rw (off, or_else-None (f.settled i)) (sym (look_is f i))

-- what is settled now was not, and not purged
unpurged : (f : Facts) (id : Id) → Closed f → is_settled f id ≡ false → f.purged id ≡ false
unpurged f id is off = false_from_ne_true _ (λ on. both_ways (is_settled f id) off (is.purged id on))

settle_here : (f : Facts) (id : Id) (v : Verdict) (c : Cause) → Closed f → is_settled f id ≡ false → look (after_settle f id v c) id ≡ settled_at v c f.moment (look f id)
settle_here f id v c is off =
    let none : f.settled id ≡ None = none_of (f.settled id) off in
    let gone : f.purged id ≡ false = unpurged f id is off in
    look_is (after_settle f id v c) id ∙ by_cause c none gone ∙ sym (ap (settled_at v c f.moment) (look_is f id))
  where
    by_cause : (k : Cause) → f.settled id ≡ None → f.purged id ≡ false →
        seen_from id (number_of f id) (f.request_of id) (f.body_of id) (f.task id) (f.reply_of id)
        (or_else (f.settled id) (cond (bytes_eq id id) (Some (settled_as v k f.moment (f.task id))) None)) (f.purged id)
        ≡ settled_at v k f.moment (seen_from id (number_of f id) (f.request_of id) (f.body_of id) (f.task id) (f.reply_of id) (f.settled id) (f.purged id))
    by_cause Reply none gone = rw (none, gone, id_self id) refl
    by_cause EngineError none gone = rw (none, gone, id_self id) refl
    by_cause ImpossibleDependency none gone = rw (none, gone, id_self id) refl
    by_cause InvalidDependency none gone = rw (none, gone, id_self id) refl
    by_cause TaskTimeout none gone = rw (none, gone, id_self id) refl
    by_cause Abort none gone = rw (none, gone, id_self id) refl

pub settle_plain : (h : History) (id : Id) (v : Verdict) (c : Cause) → Legal (Settle id v c ∷ h) → plain_of (facts (Settle id v c ∷ h)) ≡ settled_out id v c (plain_of (facts h))
settle_plain h id v c legal =
    let f = facts h in
    let says = due_says f (Settle id v c) legal.0 in
    let tasks : map (look (after_settle f id v c)) f.known ≡ changed id (settled_at v c f.moment) (map (look f) f.known) =
    changed_one f (after_settle f id v c) (settled_at v c f.moment) id f.known (known_once h) (λ i off. settle_other f id i v c off) (settle_here f id v c (closed h legal.1) says.open_yet) in
    rw tasks refl

-- AN ENGINE'S END

idle_end : (n : ℕ) (t : Task) → runs t.last ≡ false → after_end (Some n) t ≡ t
idle_end n t off = by_last t.last off
  where
    by_last : (a : Attempt) → runs a ≡ false → cond (runs_at n a) (lost a t) t ≡ t
    by_last Never h = refl
    by_last (Running m) h = cc
    by_last (EndedOk m) h = refl
    by_last (EndedBadly m) h = refl
    by_last (Lost m) h = refl
    by_last (Declined m) h = refl
    by_last (Withdrawn m) h = refl

-- what is seen of an id whose engine may have ended
pub end_seen : (f : Facts) (id : Id) (n : ℕ) → Closed f →
    seen_from id (number_of f id) (f.request_of id) (f.body_of id) (after_end (Some n) (f.task id)) (f.reply_of id) (f.settled id) (f.purged id)
    ≡ on_unsettled (ended_on n) (look f id)
end_seen f id n is = ends ∙ sym (ap (on_unsettled (ended_on n)) (look_is f id))
  where
    from : Task → Option Settled → Seen
    from t o = seen_from id (number_of f id) (f.request_of id) (f.body_of id) t (f.reply_of id) o (f.purged id)

    ends : from (after_end (Some n) (f.task id)) (f.settled id) ≡ on_unsettled (ended_on n) (from (f.task id) (f.settled id))
    ends = elim (f.settled id) as (λ o. f.settled id ≡ o → from (after_end (Some n) (f.task id)) o ≡ on_unsettled (ended_on n) (from (f.task id) o)) [
      | None ↦ λ _. (elim (runs_at n (f.task id).last) as (λ b. from (cond b (lost (f.task id).last (f.task id)) (f.task id)) None ≡ cond b (attempted (cond b (lost (f.task id).last (f.task id)) (f.task id)) (from (f.task id) None)) (from (f.task id) None)) [ true ↦ refl | false ↦ refl ])
      | (Some s) ↦ λ some. ap (λ t. from t (Some s)) (idle_end n (f.task id) (is.idle id (ap is_some some)))
    ] refl

lose_look : (f : Facts) (n : ℕ) → Closed f → (id : Id) → look (step f (Lose n) None) id ≡ on_unsettled (ended_on n) (look f id)
lose_look f n is id = look_is (step f (Lose n) None) id ∙ end_seen f id n is

pub lose_plain : (h : History) (n : ℕ) → Legal (Lose n ∷ h) → plain_of (facts (Lose n ∷ h)) ≡ engine_ended (Some n) (plain_of (facts h))
lose_plain h n legal =
    let f = facts h in
    let tasks : map (look (step f (Lose n) None)) f.known ≡ map (on_unsettled (ended_on n)) (map (look f) f.known) =
    map_all (look (step f (Lose n) None)) (λ i. on_unsettled (ended_on n) (look f i)) f.known (lose_look f n (closed h legal.1)) ∙ sym (map_twice (on_unsettled (ended_on n)) (look f) f.known) in
    rw tasks refl
