-- The records of all tasks are numbered by their places, name no id twice, and have their outcomes.
use Rattle.std.proofs.Common.{◌≡◌, ℕ, zero, suc, ◌+◌, List, [], ◌∷◌, true, false, cond, not, refl, sym, ap, ◌∙◌, subst, arith, Option, Some, None, bytes_eq}
use Rattle.std.specs.Prelude.{slice_get, option_map}
use Rattle.std.specs.List.{position_or_len}
use Rattle.std.specs.Option.{is_some}
use Rattle.std.proofs.lemmas.Bool.{or_left, false_from_ne_true, both_ways, or_right}
use Rattle.cluster_types.specs.Records.{AreRecords}
use Rattle.cluster_types.specs.declared.record.Record.{Record}
use Rattle.cluster_types.specs.declared.verdict.Verdict.{Verdict}
use Rattle.cluster_types.specs.declared.verdict.Cause.{Cause}
use Rattle.cluster_types.specs.declared.entry.Input.{Input as InputType}
use Rattle.cluster_types.specs.declared.entry.Input.TheVariants.{Open, Up, Down, In, Beat, Time}
use Rattle.cluster_types.specs.declared.entry.Entry.{Entry}
use Rattle.cluster_types.specs.declared.entry.Entry.TheVariants.{Input, Hand, Settle, Lose}
use Rattle.cluster_defs.specs.Words.{Id, or_else, is_listed}
use Rattle.cluster_defs.specs.Engines.{engine_on, left_engine}
use Rattle.cluster_defs.specs.declared.settled.Settled.{Settled}
use Rattle.cluster_defs.specs.Tasks.{settled_as, engine_of, handed, after_reply, after_end}
use Rattle.cluster_defs.specs.Facts.{Facts, event_on, is_settled, is_direct_id}
use Rattle.cluster_defs.specs.Steps.{next}
use Rattle.cluster_defs.specs.Histories.{History, facts, Legal}
use Rattle.cluster_defs.specs.Outcomes.{number_of, outcome}
use Rattle.cluster_defs.specs.TaskRecords.{record_of, records_of}
use Rattle.cluster_defs.specs.Laws.{EachOnce}
use Rattle.cluster_defs.proofs.Options.{same_id, id_self, some_inj}
use Rattle.cluster_laws.proofs.Safe.{hand_open}
use Rattle.cluster_laws.proofs.Sound.{abort_engine, lost_engine, end_engine, reply_engine}
use Rattle.cluster_laws.proofs.Life.{get_map}
use Rattle.cluster_laws.proofs.Apart.{known_once}
use Rattle.cluster_laws.proofs.Held.{settled_answered}
use Rattle.cluster_defs.specs.Aborts.{aborted_by}

-- NUMBERS

at_listed : (ids : List Id) (k : ℕ) (id : Id) → slice_get ids k ≡ Some id → is_listed id ids ≡ true
at_listed [] k id h = cc
at_listed (i ∷ ids) zero id h = let same : i ≡ id = some_inj h in or_left _ _ (subst (λ x. bytes_eq x id ≡ true) (sym same) (id_self id))
at_listed (i ∷ ids) (suc k) id h = or_right _ _ (at_listed ids k id h)

-- an id that stands once, stands at its place
place_once : (ids : List Id) → EachOnce ids → (k : ℕ) (id : Id) → slice_get ids k ≡ Some id → position_or_len (λ i. bytes_eq i id) ids ≡ k
place_once [] once k id h = cc
place_once (i ∷ ids) once zero id h =
    let same : i ≡ id = some_inj h in
    let on : bytes_eq i id ≡ true = subst (λ x. bytes_eq x id ≡ true) (sym same) (id_self id) in
    ap (λ b. cond (not b) (1 + position_or_len (λ j. bytes_eq j id) ids) 0) on
place_once (i ∷ ids) once (suc k) id h =
    let off : bytes_eq i id ≡ false = false_from_ne_true _ (λ on. both_ways (is_listed i ids) once.0 (subst (λ x. is_listed x ids ≡ true) (sym (same_id i id on)) (at_listed ids k id h))) in
    let rest = place_once ids once.1 k id h in
    let moved : position_or_len (λ j. bytes_eq j id) (i ∷ ids) ≡ 1 + position_or_len (λ j. bytes_eq j id) ids = ap (λ b. cond (not b) (1 + position_or_len (λ j. bytes_eq j id) ids) 0) off in
    omega arith

number_is : (h : History) (k : ℕ) (id : Id) → slice_get (facts h).known k ≡ Some id → number_of (facts h) id ≡ k + 1
number_is h k id is = let at = place_once (facts h).known (known_once h) k id is in omega arith

-- THE RECORDS

some_map : {X Y : Type 0} (g : X → Y) (o : Option X) → is_some (option_map g o) ≡ is_some o
some_map g None = refl
some_map g (Some x) = refl

outcome_there : (f : Facts) (id : Id) → f.purged id ≡ false → is_some (outcome f id) ≡ true → is_some (cond (f.purged id) None (outcome f id)) ≡ true
outcome_there f id off h = rw off h

pub records_hold : (h : History) → Legal h → AreRecords (records_of (facts h))
records_hold h legal =
    let f = facts h in
    let number : (k : ℕ) (r : Record) → slice_get (records_of f) k ≡ Some r → (r.number ≡ k + 1) × (r.number ≡ number_of f r.id) =
    λ k r is. let at = get_map (record_of f) f.known k r is in
    (subst (λ (x : Record). x.number ≡ k + 1) at.2 (number_is h k at.0 at.1), subst (λ (x : Record). x.number ≡ number_of f x.id) at.2 refl) in
    record {
      numbers = λ k r is. (number k r is).0;
      ids = λ j k r s a b same.
          let x = number j r a in
          let y = number k s b in
          let one : r.number ≡ s.number = x.1 ∙ ap (number_of f) same ∙ sym y.1 in
          let left = x.0 in
          let right = y.0 in
          omega arith;
      outcomes = λ k r is settled off.
          let at = get_map (record_of f) f.known k r is in
          let own : is_some (option_map (λ (s : Settled). (s.verdict, s.cause)) (f.settled at.0)) ≡ true → f.purged at.0 ≡ false → is_some (cond (f.purged at.0) None (outcome f at.0)) ≡ true =
          λ s p. outcome_there f at.0 p (settled_answered h at.0 legal (sym (some_map (λ (x : Settled). (x.verdict, x.cause)) (f.settled at.0)) ∙ s)) in
          subst (λ (x : Record). is_some x.settled ≡ true → x.purged ≡ false → is_some x.outcome ≡ true) at.2 own settled off;
    }

-- SETTLED ENGINES

unfoldable pub Placed : Facts → Type 0
Placed f = (id : Id) (s : Settled) → f.settled id ≡ Some s → s.engine ≡ engine_of (f.task id).last

settle_placed : (f : Facts) (i id : Id) (v : Verdict) (c : Cause) (o : Option Settled) → f.settled id ≡ o → (s : Settled) → ((q : Settled) → f.settled id ≡ Some q → q.engine ≡ engine_of (f.task id).last) →
    or_else o (cond (bytes_eq i id) (Some (settled_as v c f.moment (f.task id))) None) ≡ Some s → s.engine ≡ engine_of (f.task id).last
settle_placed f i id v c (Some q) is s before h = before s (is ∙ h)
settle_placed f i id v c None is s before h =
    (elim (bytes_eq i id) as (λ b. cond b (Some (settled_as v c f.moment (f.task id))) None ≡ Some s → s.engine ≡ engine_of (f.task id).last) [
      | true ↦ λ k. let same : settled_as v c f.moment (f.task id) ≡ s = some_inj k in sym (ap (λ (x : Settled). x.engine) same)
      | false ↦ λ k. cc
    ]) h

some_settled : (f : Facts) (id : Id) (s : Settled) → f.settled id ≡ Some s → is_settled f id ≡ true
some_settled f id s is = ap is_some is

hand_placed : (f : Facts) (i id : Id) (n : ℕ) → is_settled f i ≡ false → is_settled f id ≡ true → engine_of (cond (bytes_eq i id) (handed n (f.task id)) (f.task id)).last ≡ engine_of (f.task id).last
hand_placed f i id n open_yet settled =
    elim (bytes_eq i id) as (λ b. bytes_eq i id ≡ b → engine_of (cond b (handed n (f.task id)) (f.task id)).last ≡ engine_of (f.task id).last) [
      | true ↦ λ same. absurd (both_ways (is_settled f id) (subst (λ x. is_settled f x ≡ false) (same_id i id same) open_yet) settled)
      | false ↦ λ _. refl
    ] refl

input_engine : (f : Facts) (input : InputType) (id : Id) → engine_of ((next f (Input input)).task id).last ≡ engine_of (f.task id).last
input_engine f (Open moment scheme hwm misses) id = lost_engine (f.task id).last (f.task id) refl
input_engine f (Up conn channel moment word identity) id = refl
input_engine f (Down conn moment word) id = end_engine (option_map (λ e. e.number) (engine_on f.engines.live conn)) (f.task id)
input_engine f (Beat moment word) id = refl
input_engine f (Time moment word) id = refl
input_engine f (In conn moment word m) id =
    let event = event_on f conn m in
    abort_engine (aborted_by f event) id (after_end (left_engine f.engines.live conn event) (after_reply f.engines.live conn id (is_direct_id f id) event (f.task id))) ∙ end_engine (left_engine f.engines.live conn event) (after_reply f.engines.live conn id (is_direct_id f id) event (f.task id)) ∙ reply_engine f.engines.live conn id (is_direct_id f id) event (f.task id)

placed_more : (older : History) (e : Entry) → Legal (e ∷ older) → Placed (facts older) → Placed (next (facts older) e)
unfolding Placed
placed_more older (Settle i v c) legal placed id s is = settle_placed (facts older) i id v c ((facts older).settled id) refl s (placed id) is
placed_more older (Hand i n) legal placed id s is =
    placed id s is ∙ sym (hand_placed (facts older) i id n (hand_open older i n legal) (some_settled (facts older) id s is))
placed_more older (Lose n) legal placed id s is = placed id s is ∙ sym (end_engine (Some n) ((facts older).task id))
placed_more older (Input input) legal placed id s is = placed id s is ∙ sym (input_engine (facts older) input id)

placed_all : (h : History) → Legal h → Placed (facts h)
unfolding Placed
placed_all [] legal id s is = cc
placed_all (e ∷ older) legal id s is = placed_more older e legal (placed_all older legal.1) id s is

pub settled_engine : (h : History) (id : Id) (s : Settled) → Legal h → (facts h).settled id ≡ Some s → s.engine ≡ engine_of ((facts h).task id).last
unfolding Placed
settled_engine h id s legal is = placed_all h legal id s is
