-- What each input but a message makes of the data.
use Rattle.std.proofs.Common.{◌≡◌, ℕ, List, ◌∷◌, map, true, false, cond, refl, sym, ap, ◌∙◌, Option, Some, None}
use Rattle.std.specs.Prelude.{is_some, option_map}
use Rattle.cluster_types.specs.declared.config.Channel.{Channel}
use Rattle.cluster_types.specs.declared.config.Scheme.{Scheme}
use Rattle.cluster_types.specs.declared.entry.Input.TheVariants.{Open, Up, Down, Beat, Time}
use Rattle.cluster_types.specs.declared.entry.Entry.TheVariants.{Input}
use Rattle.cluster_defs.specs.declared.attempt.Attempt.{Attempt}
use Rattle.cluster_defs.specs.declared.attempt.Attempt.TheVariants.{Never, Running, EndedOk, EndedBadly, Lost, Declined, Withdrawn}
use Rattle.cluster_defs.specs.Words.{Id}
use Rattle.cluster_defs.specs.Engines.{engine_on}
use Rattle.cluster_defs.specs.declared.settled.Settled.{Settled}
use Rattle.cluster_defs.specs.Tasks.{Task, runs, lost, after_end}
use Rattle.cluster_defs.specs.Facts.{Facts}
use Rattle.cluster_defs.specs.Steps.{step}
use Rattle.cluster_defs.specs.Histories.{History, facts, Legal}
use Rattle.cluster_defs.specs.Outcomes.{number_of}
use Rattle.cluster_laws.proofs.Closed.{closed, Closed}
use Rattle.task_table.specs.Seen.{Seen, attempted, ended_on, lost_all, on_unsettled}
use Rattle.cluster_state.specs.Plain.{look, plain_of, opened, input_at, came_up, went_down, tasks_ended, engine_ended, beaten, passed}
use Rattle.cluster_state.proofs.Lists.{map_all, map_twice}
use Rattle.cluster_state.proofs.Pieces.{seen_from, look_is}
use Rattle.cluster_state.proofs.Decisions.{end_seen}

-- AN OPEN

idle_lost : (t : Task) (a : Attempt) → runs a ≡ false → lost a t ≡ t
idle_lost t Never h = refl
idle_lost t (Running n) h = cc
idle_lost t (EndedOk n) h = refl
idle_lost t (EndedBadly n) h = refl
idle_lost t (Lost n) h = refl
idle_lost t (Declined n) h = refl
idle_lost t (Withdrawn n) h = refl

open_look : (f : Facts) (moment : ℕ) (scheme : Scheme) (hwm misses : ℕ) → Closed f → (id : Id) → look (step f (Input (Open moment scheme hwm misses)) None) id ≡ on_unsettled lost_all (look f id)
open_look f moment scheme hwm misses is id =
    look_is (step f (Input (Open moment scheme hwm misses)) None) id ∙ ends ∙ sym (ap (on_unsettled lost_all) (look_is f id))
  where
    from : Task → Option Settled → Seen
    from t o = seen_from id (number_of f id) (f.request_of id) (f.body_of id) t (f.reply_of id) o (f.purged id)

    ends : from (lost (f.task id).last (f.task id)) (f.settled id) ≡ on_unsettled lost_all (from (f.task id) (f.settled id))
    ends = elim (f.settled id) as (λ o. f.settled id ≡ o → from (lost (f.task id).last (f.task id)) o ≡ on_unsettled lost_all (from (f.task id) o)) [
      | None ↦ λ _. (elim (runs (f.task id).last) as (λ b. runs (f.task id).last ≡ b → from (lost (f.task id).last (f.task id)) None ≡ cond b (attempted (lost (f.task id).last (f.task id)) (from (f.task id) None)) (from (f.task id) None)) [
        | true ↦ λ _. refl
        | false ↦ λ off. ap (λ t. from t None) (idle_lost (f.task id) (f.task id).last off)
      ]) refl
      | (Some s) ↦ λ some. ap (λ t. from t (Some s)) (idle_lost (f.task id) (f.task id).last (is.idle id (ap is_some some)))
    ] refl

pub open_plain : (h : History) (moment : ℕ) (scheme : Scheme) (hwm misses : ℕ) → Legal h → plain_of (facts (Input (Open moment scheme hwm misses) ∷ h)) ≡ opened moment scheme hwm misses (plain_of (facts h))
open_plain h moment scheme hwm misses legal =
    let f = facts h in
    let g = step f (Input (Open moment scheme hwm misses)) None in
    let tasks : map (look g) f.known ≡ map (on_unsettled lost_all) (map (look f) f.known) =
    map_all (look g) (λ i. on_unsettled lost_all (look f i)) f.known (open_look f moment scheme hwm misses (closed h legal)) ∙ sym (map_twice (on_unsettled lost_all) (look f) f.known) in
    rw tasks refl

-- A CONNECTION

up_look : (f : Facts) (conn : ℕ) (channel : Channel) (moment word : ℕ) (identity : List ℕ) (id : Id) → look (step f (Input (Up conn channel moment word identity)) None) id ≡ look f id
up_look f conn channel moment word identity id = look_is (step f (Input (Up conn channel moment word identity)) None) id ∙ sym (look_is f id)

pub up_plain : (h : History) (conn : ℕ) (channel : Channel) (moment word : ℕ) (identity : List ℕ) →
    plain_of (facts (Input (Up conn channel moment word identity) ∷ h)) ≡ came_up conn channel identity (input_at moment word (plain_of (facts h)))
up_plain h conn channel moment word identity =
    let f = facts h in
    let tasks : map (look (step f (Input (Up conn channel moment word identity)) None)) f.known ≡ map (look f) f.known =
    map_all (look (step f (Input (Up conn channel moment word identity)) None)) (look f) f.known (up_look f conn channel moment word identity) in
    rw tasks refl

-- what is seen of all ids, where an engine may have ended
pub ends_seen : (f g : Facts) (end : Option ℕ) → Closed f →
    ((id : Id) → look g id ≡ seen_from id (number_of f id) (f.request_of id) (f.body_of id) (after_end end (f.task id)) (f.reply_of id) (f.settled id) (f.purged id)) →
    map (look g) f.known ≡ tasks_ended end (map (look f) f.known)
ends_seen f g None is looks = map_all (look g) (look f) f.known (λ id. looks id ∙ sym (look_is f id))
ends_seen f g (Some n) is looks =
    map_all (look g) (λ i. on_unsettled (ended_on n) (look f i)) f.known (λ id. looks id ∙ end_seen f id n is) ∙ sym (map_twice (on_unsettled (ended_on n)) (look f) f.known)

pub down_plain : (h : History) (conn moment word : ℕ) → Legal h →
    plain_of (facts (Input (Down conn moment word) ∷ h))
    ≡ engine_ended (option_map (λ e. e.number) (engine_on (facts h).engines.live conn)) (went_down conn (input_at moment word (plain_of (facts h))))
down_plain h conn moment word legal =
    let f = facts h in
    let g = step f (Input (Down conn moment word)) None in
    let tasks : map (look g) f.known ≡ tasks_ended (option_map (λ e. e.number) (engine_on f.engines.live conn)) (map (look f) f.known) =
    ends_seen f g (option_map (λ e. e.number) (engine_on f.engines.live conn)) (closed h legal) (λ id. look_is g id) in
    rw tasks refl

-- BEATS AND MOMENTS

beat_look : (f : Facts) (moment word : ℕ) (id : Id) → look (step f (Input (Beat moment word)) None) id ≡ look f id
beat_look f moment word id = look_is (step f (Input (Beat moment word)) None) id ∙ sym (look_is f id)

pub beat_plain : (h : History) (moment word : ℕ) → plain_of (facts (Input (Beat moment word) ∷ h)) ≡ beaten (passed moment (input_at moment word (plain_of (facts h))))
beat_plain h moment word =
    let f = facts h in
    let tasks : map (look (step f (Input (Beat moment word)) None)) f.known ≡ map (look f) f.known =
    map_all (look (step f (Input (Beat moment word)) None)) (look f) f.known (beat_look f moment word) in
    rw tasks refl

time_look : (f : Facts) (moment word : ℕ) (id : Id) → look (step f (Input (Time moment word)) None) id ≡ look f id
time_look f moment word id = look_is (step f (Input (Time moment word)) None) id ∙ sym (look_is f id)

pub time_plain : (h : History) (moment word : ℕ) → plain_of (facts (Input (Time moment word) ∷ h)) ≡ passed moment (input_at moment word (plain_of (facts h)))
time_plain h moment word =
    let f = facts h in
    let tasks : map (look (step f (Input (Time moment word)) None)) f.known ≡ map (look f) f.known =
    map_all (look (step f (Input (Time moment word)) None)) (look f) f.known (time_look f moment word) in
    rw tasks refl
