-- An id is settled at most once.
use Rattle.std.proofs.Common.{◌≡◌, ◌≤◌, ℕ, Bool, true, false, List, [], ◌∷◌, length, filter, cond, Option, Some, None, option_map, bytes_eq, if◌then◌else◌, arith, refl, sym, ap, subst, ◌∙◌}
use Rattle.std.proofs.lemmas.Slice.Eq.{bytes_eq-Decides}
use Rattle.std.specs.Prelude.{⊤}
use Rattle.std.specs.Option.{option_map_or}
use Rattle.std.specs.Result.{result_ok}
use Rattle.cluster_types.specs.declared.message.Message.{Message}
use Rattle.cluster_defs.specs.Reply.{read_status}
use Rattle.cluster_defs.specs.Texts.{submit_refused}
use Rattle.client_core.specs.declared.took.Took.{Took}
use Rattle.client_core.specs.declared.took.Took.TheVariants.{Settled, Other, Stranger}
use Rattle.client_core.specs.declared.answered.Answered.{Answered}
use Rattle.client_core.specs.declared.noted.Noted.{Noted}
use Rattle.client_core.specs.declared.stand.Stand.{Stand}
use Rattle.client_core.specs.declared.stand.Stand.TheVariants.{Unsettled, Settled as StandSettled}
use Rattle.client_core.specs.Answers.{answered}
use Rattle.client_core.specs.Clients.{Used, stand_in, settled_in, is_settled, is_unsettled, is_watched, with_stand, after_outcome}
use Rattle.client_core.specs.Noting.{note_of}
use Rattle.client_core.specs.Taking.{settled_by, took_for, took_under, type_in, task_in, took, used_after, took_all, settles, times_settled}
use Rattle.client_core.proofs.Outcomes.{stand_cond}

-- what settles an id is told where the id wasn't settled
abbrev pub Fits : Used → Took → Type 0
Fits used (Settled id ok) = settled_in used id ≡ Some false
Fits used Other = ⊤
Fits used Stranger = ⊤

by_status : (used : Used) (id : List ℕ) (status : Option Bool) → settled_in used id ≡ Some false → Fits used (settled_by id status)
by_status used id None h = tt
by_status used id (Some ok) h = h

unless_refused : (b : Bool) (used : Used) (t : Took) → Fits used t → Fits used (cond b Other t)
unless_refused true used t h = tt
unless_refused false used t h = h

by_id : (used : Used) (content msg_type id : List ℕ) (o : Option Bool) → settled_in used id ≡ o → Fits used (took_for content msg_type id o)
by_id used content msg_type id None h = tt
by_id used content msg_type id (Some true) h = tt
by_id used content msg_type id (Some false) h =
    unless_refused (bytes_eq msg_type submit_refused) used (settled_by id (result_ok (read_status content))) (by_status used id (result_ok (read_status content)) h)

by_parts : (used : Used) (content : List ℕ) (msg_type task : Option (List ℕ)) → Fits used (took_under used content msg_type task)
by_parts used content None task = tt
by_parts used content (Some msg_type) None = tt
by_parts used content (Some msg_type) (Some id) = by_id used content msg_type id (settled_in used id) refl

pub took_fits : (used : Used) (message : Message) → Fits used (took used message)
unfolding took
took_fits used message = by_parts used message.content (type_in message.header) (task_in message.parent)

pub settled_where : (used : Used) (t : Took) (message : Message) (id : List ℕ) (ok : Bool) → t ≡ took used message → t ≡ Settled id ok → settled_in used id ≡ Some false
settled_where used t message id ok h is = subst (Fits used) (sym h ∙ is) (took_fits used message)

-- a task that isn't settled is outstanding
pub outstanding_by : (o : Option Stand) → option_map is_settled o ≡ Some false → option_map_or is_unsettled o false ≡ true
outstanding_by None h = absurd (cc)
outstanding_by (Some (Unsettled watched)) h = refl
outstanding_by (Some (StandSettled kept)) h = absurd (cc)

-- an id that isn't settled after an outcome wasn't settled before it
kept : (b c : Bool) (s : Stand) (said : Option Noted) (o more : Option Stand) → (option_map is_settled more ≡ Some false → option_map is_settled o ≡ Some false)
    → option_map is_settled (cond b (cond c (Some (StandSettled said)) o) (cond c (Some s) more)) ≡ Some false → option_map is_settled (cond c (Some s) o) ≡ Some false
kept true true s said o more below h = absurd (cc)
kept true false s said o more below h = h
kept false true s said o more below h = h
kept false false s said o more below h = below h

unsettled_before : (used : Used) (id other : List ℕ) (said : Option Noted) → settled_in (with_stand used id (StandSettled said)) other ≡ Some false → settled_in used other ≡ Some false
unsettled_before [] id other said h = h
unsettled_before ((name, s) ∷ used) id other said h =
    let here = ap (option_map is_settled) (sym (stand_cond (bytes_eq id name) other ((name, StandSettled said) ∷ used) ((name, s) ∷ with_stand used id (StandSettled said)))) ∙ h in
    kept (bytes_eq id name) (bytes_eq other name) s said (stand_in used other) (stand_in (with_stand used id (StandSettled said)) other) (unsettled_before used id other said) here

pub before_outcome : (used : Used) (id other : List ℕ) (answer : Answered) (ok : Bool) → settled_in (after_outcome used id answer ok) other ≡ Some false → settled_in used other ≡ Some false
before_outcome used id other answer ok h = unsettled_before used id other (if is_watched used id then Some (note_of answer ok) else None) h

-- an outcome leaves its id settled
now : (b : Bool) (s : Stand) (said : Option Noted) (o more : Option Stand) → (option_map is_settled more ≡ Some false → ⊥)
    → option_map is_settled (cond b (cond b (Some (StandSettled said)) o) (cond b (Some s) more)) ≡ Some false → ⊥
now true s said o more below h = cc
now false s said o more below h = below h

settled_now : (used : Used) (id : List ℕ) (said : Option Noted) → settled_in (with_stand used id (StandSettled said)) id ≡ Some false → ⊥
settled_now [] id said h = cc
settled_now ((name, s) ∷ used) id said h =
    let here = ap (option_map is_settled) (sym (stand_cond (bytes_eq id name) id ((name, StandSettled said) ∷ used) ((name, s) ∷ with_stand used id (StandSettled said)))) ∙ h in
    now (bytes_eq id name) s said (stand_in used id) (stand_in (with_stand used id (StandSettled said)) id) (settled_now used id said) here

pub outcome_now : (used : Used) (id : List ℕ) (answer : Answered) (ok : Bool) → settled_in (after_outcome used id answer ok) id ≡ Some false → ⊥
outcome_now used id answer ok h = settled_now used id (if is_watched used id then Some (note_of answer ok) else None) h

pub apart : (xs ys : List ℕ) → (xs ≡ ys → ⊥) → bytes_eq xs ys ≡ false
apart xs ys differ = from (bytes_eq xs ys) refl
  where
    from : (b : Bool) → bytes_eq xs ys ≡ b → b ≡ false
    from true h = absurd (differ ((bytes_eq-Decides xs ys).0 h))
    from false h = refl

-- an id that is settled, or wasn't used, isn't settled again
never_step : (used : Used) (id : List ℕ) (message : Message) (messages : List Message) (t : Took) → Fits used t → (settled_in used id ≡ Some false → ⊥)
    → ((later : Used) → (settled_in later id ≡ Some false → ⊥) → times_settled id later messages ≡ 0)
    → length (filter (settles id) (t ∷ took_all (used_after used message t) messages)) ≡ 0
never_step used id message messages (Settled done ok) fits settled later =
    let differ = apart done id (λ same. settled (subst (λ i. settled_in used i ≡ Some false) same fits)) in
    rw differ (later (after_outcome used done (answered message.content) ok) (λ h. settled (before_outcome used done id (answered message.content) ok h)))
never_step used id message messages Other fits settled later = later used settled
never_step used id message messages Stranger fits settled later = later used settled

never : (messages : List Message) (used : Used) (id : List ℕ) → (settled_in used id ≡ Some false → ⊥) → times_settled id used messages ≡ 0
never [] used id settled = refl
never (message ∷ messages) used id settled =
    never_step used id message messages (took used message) (took_fits used message) settled (λ later h. never messages later id h)

once_step : (used : Used) (id : List ℕ) (message : Message) (messages : List Message) (t : Took) → Fits used t
    → ((later : Used) → times_settled id later messages ≤ 1)
    → length (filter (settles id) (t ∷ took_all (used_after used message t) messages)) ≤ 1
once_step used id message messages (Settled done ok) fits later = first (bytes_eq done id) refl
  where
    behind : Used
    behind = after_outcome used done (answered message.content) ok

    rest : List Took
    rest = took_all behind messages

    first : (b : Bool) → bytes_eq done id ≡ b → length (cond b (Settled done ok ∷ filter (settles id) rest) (filter (settles id) rest)) ≤ 1
    first true is =
        let same : done ≡ id = (bytes_eq-Decides done id).0 is in
        let none : length (filter (settles id) rest) ≡ 0 = never messages behind id (λ h. outcome_now used done (answered message.content) ok (subst (λ i. settled_in behind i ≡ Some false) (sym same) h)) in
        omega (arith, none)
    first false is = later behind
once_step used id message messages Other fits later = later used
once_step used id message messages Stranger fits later = later used

pub settled_once : (used : Used) (messages : List Message) (id : List ℕ) → times_settled id used messages ≤ 1
settled_once used [] id = omega arith
settled_once used (message ∷ messages) id = once_step used id message messages (took used message) (took_fits used message) (λ later. settled_once later messages id)
