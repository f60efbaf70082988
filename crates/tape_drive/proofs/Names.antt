-- What is sent about ids is about known ones.
use Rattle.std.proofs.Common.{◌≡◌, inl, inr, ℕ, List, [], ◌∷◌, ◌++◌, map, Bool, true, false, cond, not, ◌||◌, ◌&&◌, Option, Some, None, refl, ap, ◌∙◌, subst}
use Rattle.std.specs.Prelude.{filter, bytes_eq, is_none, nat_le, length}
use Rattle.std.specs.List.{AllByRecursion as Each}
use Rattle.std.proofs.lemmas.Bool.{or_left, or_right}
use Rattle.std.proofs.lemmas.List.Folds.{list_any-append}
use Rattle.cluster_types.specs.declared.message.Message.{Message}
use Rattle.cluster_types.specs.declared.event.Event.{Event}
use Rattle.cluster_types.specs.declared.event.Event.TheVariants.{Submit, Direct, Reply, Join, Leave, Pong, Purge, Resubmit, Abort, Ask}
use Rattle.cluster_types.specs.declared.out.Out.{Out}
use Rattle.cluster_types.specs.declared.out.Out.TheVariants.{Pass, Made}
use Rattle.cluster_types.specs.declared.entry.Input.TheVariants.{Open, Up, Down, In, Beat, Time}
use Rattle.cluster_types.specs.declared.entry.Entry.{Entry}
use Rattle.cluster_types.specs.declared.entry.Entry.TheVariants.{Input, Hand, Settle, Lose}
use Rattle.cluster_types.specs.Limits.{most_ids}
use Rattle.cluster_defs.specs.declared.acceptance.Acceptance.{Acceptance}
use Rattle.cluster_defs.specs.declared.acceptance.Acceptance.TheVariants as cases
use Rattle.cluster_defs.specs.declared.answer.Answer.{Answer}
use Rattle.cluster_defs.specs.declared.connection.Connection.{Connection}
use Rattle.cluster_defs.specs.declared.engine.Engine.{Engine}
use Rattle.cluster_defs.specs.Words.{Id, is_listed, begins_with}
use Rattle.cluster_defs.specs.Connections.{connection_on}
use Rattle.cluster_defs.specs.Engines.{conn_in, engine_named}
use Rattle.cluster_defs.specs.Facts.{Facts, event_in}
use Rattle.cluster_defs.specs.Acceptance.{Demand, reserved_front, is_repeat, acceptance_new, acceptance_open, acceptance, accepted, accepted_id}
use Rattle.cluster_defs.specs.Purges.{Copy, gone_or_unknown, copied_by, copied_ids}
use Rattle.cluster_defs.specs.Histories.{History, facts, Legal, place}
use Rattle.cluster_defs.specs.Outcomes.{hand_out, outcome}
use Rattle.cluster_defs.specs.Outs.{outs, pass_to, owner_conn, beat_out, answer_out, repeat_out, repeated, message_outs}
use Rattle.cluster_defs.specs.Lives.{Sends}
use Rattle.cluster_defs.specs.Queries.{answer_event, answer_type}
use Rattle.cluster_defs.proofs.Options.{id_self}
use Rattle.cluster_defs.proofs.Says.{due_says}
use Rattle.cluster_laws.proofs.Closed.{found_listed, listed_stays}
use Rattle.cluster_laws.proofs.Copies.{AllCopied, all_copied}
use Rattle.tape_drive.specs.Names.{IsKnown, IsAbout, IsAboutKnown}

-- LISTS

each_joined : (P : Out → Type 0) (xs ys : List Out) → Each P xs → Each P ys → Each P (xs ++ ys)
each_joined P [] ys h k = k
each_joined P (x ∷ xs) ys h k = (h.0, each_joined P xs ys h.1 k)

each_member : (P : Out → Type 0) (before after : List Out) (o : Out) → Each P (before ++ o ∷ after) → P o
each_member P [] after o all = all.0
each_member P (x ∷ before) after o all = each_member P before after o all.1

-- MESSAGES THAT ARE PASSED ON

abbrev AboutKnown : History → Entry → Out → Type 0
AboutKnown older e (Pass conn message) = IsAboutKnown older e message
AboutKnown older e (Made conn moment msg_id msg_type parent content buffers) = Unit {0}

passes : (older : History) (e : Entry) (id : Id) (conn : Option ℕ) (message : Option Message) → IsKnown (e ∷ older) id → ((m : Message) → message ≡ Some m → IsAbout older e id m) → Each (AboutKnown older e) (pass_to conn message)
passes older e id None message known about = tt
passes older e id (Some conn) None known about = tt
passes older e id (Some conn) (Some m) known about = ((id, known, about m refl), tt)

answers : (older : History) (e : Entry) (opens at conn moment : ℕ) (msg_type parent : List ℕ) (a : Option Answer) → Each (AboutKnown older e) (answer_out opens at conn moment msg_type parent a)
answers older e opens at conn moment msg_type parent None = tt
answers older e opens at conn moment msg_type parent (Some a) = (tt, tt)

beats : (older : History) (e : Entry) (opens at moment beat : ℕ) (live : List Engine) → Each (AboutKnown older e) (map (beat_out opens at moment beat) live)
beats older e opens at moment beat [] = tt
beats older e opens at moment beat (engine ∷ live) = (tt, beats older e opens at moment beat live)

-- a repeat is of a known id
again_known : (f : Facts) (d : Demand) (m : Message) (repeat : Bool) → acceptance f d m ≡ cases.Again repeat → is_listed d.submission.id f.known ≡ true
again_known f d m repeat =
    elim (begins_with reserved_front d.submission.id) as (λ b. cond b cases.Reserved (acceptance_open f d m) ≡ cases.Again repeat → is_listed d.submission.id f.known ≡ true) [
      | true ↦ λ is. cc
      | false ↦ not_reserved
    ]
  where
    none : acceptance_new f d m ≡ cases.Again repeat → ⊥
    none =
        elim (d.direct && is_none (engine_named f.engines.live m.target)) as (λ b. cond b cases.NoSuchEngine (cond (nat_le most_ids (length f.known)) cases.Full cases.Accepted) ≡ cases.Again repeat → ⊥) [
          | true ↦ λ is. cc
          | false ↦ elim (nat_le most_ids (length f.known)) as (λ b. cond b cases.Full cases.Accepted ≡ cases.Again repeat → ⊥) [
            | true ↦ λ is. cc
            | false ↦ λ is. cc
          ]
        ]

    not_reserved : acceptance_open f d m ≡ cases.Again repeat → is_listed d.submission.id f.known ≡ true
    not_reserved =
        elim (f.purged d.submission.id) as (λ b. cond b cases.Purged (cond (is_listed d.submission.id f.known) (cases.Again (is_repeat f d m)) (acceptance_new f d m)) ≡ cases.Again repeat → is_listed d.submission.id f.known ≡ true) [
          | true ↦ λ is. cc
          | false ↦ listed (is_listed d.submission.id f.known) refl
        ]
      where
        listed : (b : Bool) → is_listed d.submission.id f.known ≡ b → cond b (cases.Again (is_repeat f d m)) (acceptance_new f d m) ≡ cases.Again repeat → is_listed d.submission.id f.known ≡ true
        listed true on is = on
        listed false off is = absurd (none is)

repeats : (older : History) (e : Entry) (conn : ℕ) (id : Id) (a : Acceptance) → ((repeat : Bool) → a ≡ cases.Again repeat → IsKnown (e ∷ older) id) → Each (AboutKnown older e) (repeat_out (facts older) conn id a)
repeats older e conn id cases.Reserved known = tt
repeats older e conn id cases.Purged known = tt
repeats older e conn id (cases.Again false) known = tt
repeats older e conn id (cases.Again true) known = passes older e id (Some conn) (outcome (facts older) id) (known true refl) (λ m is. inr (inl is))
repeats older e conn id cases.NoSuchEngine known = tt
repeats older e conn id cases.Full known = tt
repeats older e conn id cases.Accepted known = tt

repeated_known : (older : History) (e : Entry) (conn : ℕ) (m : Message) (event : Event) → Each (AboutKnown older e) (repeated (facts older) conn m event)
repeated_known older e conn m (Submit s) =
    let d : Demand = record { direct = false; submission = s } in
    repeats older e conn s.id (acceptance (facts older) d m) (λ repeat is. listed_stays (facts older) e s.id (again_known (facts older) d m repeat is))
repeated_known older e conn m (Direct s) =
    let d : Demand = record { direct = true; submission = s } in
    repeats older e conn s.id (acceptance (facts older) d m) (λ repeat is. listed_stays (facts older) e s.id (again_known (facts older) d m repeat is))
repeated_known older e conn m (Reply name header ok declined) = tt
repeated_known older e conn m (Join uuid) = tt
repeated_known older e conn m Leave = tt
repeated_known older e conn m (Pong beat) = tt
repeated_known older e conn m (Purge all ids) = tt
repeated_known older e conn m (Resubmit ids) = tt
repeated_known older e conn m (Abort ids) = tt
repeated_known older e conn m (Ask query) = tt

message_known : (older : History) (e : Entry) (at conn moment : ℕ) (m : Message) (c : Option Connection) (event : Option Event) → Each (AboutKnown older e) (message_outs at (facts older) conn moment m c event)
message_known older e at conn moment m None event = tt
message_known older e at conn moment m (Some c) None = tt
message_known older e at conn moment m (Some c) (Some event) =
    let f = facts older in
    each_joined (AboutKnown older e) (answer_out f.opens at conn moment (answer_type c.channel m event) m.header (answer_event f conn c.channel m event)) (repeated f conn m event)
    (answers older e f.opens at conn moment (answer_type c.channel m event) m.header (answer_event f conn c.channel m event)) (repeated_known older e conn m event)

outs_known : (older : History) (e : Entry) → Legal (e ∷ older) → Each (AboutKnown older e) (outs (e ∷ older))
outs_known older (Input (Open moment scheme hwm misses)) legal = tt
outs_known older (Input (Up conn channel moment word identity)) legal = tt
outs_known older (Input (Down conn moment word)) legal = tt
outs_known older (Input (In conn moment word m)) legal =
    message_known older (Input (In conn moment word m)) (place (Input (In conn moment word m) ∷ older)) conn moment m (connection_on (facts older).connections conn) (event_in (facts older) (Input (In conn moment word m)))
outs_known older (Input (Beat moment word)) legal =
    beats older (Input (Beat moment word)) (facts older).opens (place (Input (Beat moment word) ∷ older)) moment _ (facts older).engines.live
outs_known older (Input (Time moment word)) legal = tt
outs_known older (Hand id n) legal =
    let says = due_says (facts older) (Hand id n) legal.0 in
    passes older (Hand id n) id (conn_in n (facts older).engines.live) (hand_out (facts older) id)
    (listed_stays (facts older) (Hand id n) id (found_listed says.listed.test (facts older).known id says.listed.found)) (λ m is. inl is)
outs_known older (Settle id verdict cause) legal =
    let says = due_says (facts older) (Settle id verdict cause) legal.0 in
    passes older (Settle id verdict cause) id (owner_conn (facts older) ((facts older).request_of id)) (outcome (facts (Settle id verdict cause ∷ older)) id)
    (listed_stays (facts older) (Settle id verdict cause) id (found_listed says.listed.test (facts older).known id says.listed.found)) (λ m is. inr (inr is))
outs_known older (Lose n) legal = tt

pub passes_are_known : (older : History) (e : Entry) (conn : ℕ) (message : Message) → Legal (e ∷ older) → Sends (e ∷ older) (Pass conn message) → IsAboutKnown older e message
passes_are_known older e conn message legal sends =
    each_member (AboutKnown older e) sends.0 sends.1 (Pass conn message) (subst (Each (AboutKnown older e)) sends.2 (outs_known older e legal))

-- ANSWERS

some_of : (known ids : List Id) (p : Id → Bool) → ((id : Id) → is_listed id ids ≡ true → is_listed id known ≡ true) → Each (λ id. is_listed id known ≡ true) (filter p ids)
some_of known [] p within = tt
some_of known (id ∷ ids) p within =
    let rest = some_of known ids p (λ i listed. within i (or_right (bytes_eq id i) (is_listed i ids) listed)) in
    elim (p id) as (λ b. Each (λ id. is_listed id known ≡ true) (cond b (id ∷ filter p ids) (filter p ids))) [
      | true ↦ (within id (or_left (bytes_eq id id) (is_listed id ids) (id_self id)), rest)
      | false ↦ rest
    ]

pub history_is_known : (history : History) → Each (IsKnown history) (filter (λ id. not ((facts history).purged id)) (facts history).known)
history_is_known history = some_of (facts history).known (facts history).known (λ id. not ((facts history).purged id)) (λ id listed. listed)

pub results_are_known : (history : History) (ids : List Id) → gone_or_unknown (facts history) ids ≡ [] → Each (IsKnown history) ids
results_are_known history [] none = tt
results_are_known history (id ∷ ids) none = by (results_are_known history ids) (is_listed id (facts history).known) refl ((facts history).purged id) none
  where
    by : (gone_or_unknown (facts history) ids ≡ [] → Each (IsKnown history) ids) → (b : Bool) → is_listed id (facts history).known ≡ b → (p : Bool) → cond (not b || p) (id ∷ gone_or_unknown (facts history) ids) (gone_or_unknown (facts history) ids) ≡ [] → Each (IsKnown history) (id ∷ ids)
    by rest true on true none = cc
    by rest true on false none = (on, rest none)
    by rest false off p none = cc

copies_known : (f new : Facts) (copies : List Copy) → AllCopied f copies → ((id : Id) → is_listed id (map (λ c. c.new) copies) ≡ true → is_listed id new.known ≡ true) →
    Each (λ c. (is_listed c.old f.known ≡ true) × (is_listed c.new new.known ≡ true)) copies
copies_known f new [] all made = tt
copies_known f new (c ∷ copies) all made = (
  (all.0.known, made c.new (or_left (bytes_eq c.new c.new) (is_listed c.new (map (λ (c : Copy). c.new) copies)) (id_self c.new))),
  copies_known f new copies all.1 (λ id listed. made id (or_right (bytes_eq c.new id) (is_listed id (map (λ (c : Copy). c.new) copies)) listed)),
)

pub copies_are_known : (older : History) (conn moment word : ℕ) (message : Message) (copies : List Copy) →
    copied_by (facts older) (event_in (facts older) (Input (In conn moment word message))) ≡ Some copies →
    Each (λ c. IsKnown older c.old × IsKnown (Input (In conn moment word message) ∷ older) c.new) copies
copies_are_known older conn moment word message copies is =
    copies_known f (facts (Input (In conn moment word message) ∷ older)) copies (all_copied f event copies is) (λ id listed.
    list_any-append (λ i. bytes_eq i id) (f.known ++ accepted_id (accepted f message event)) (copied_ids (copied_by f event))
    ∙ or_right _ _ (ap (λ (o : Option (List Copy)). is_listed id (copied_ids o)) is ∙ listed))
  where
    f : Facts
    f = facts older

    event : Option Event
    event = event_in (facts older) (Input (In conn moment word message))
