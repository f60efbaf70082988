-- What each entry of a legal history makes of the data.
use Rattle.std.proofs.Common.{◌≡◌, ℕ, List, ◌∷◌, ◌++◌, append-nil, refl, sym, ap, ◌∙◌, subst, Option, Some, None}
use Rattle.std.specs.Option.{is_some}
use Rattle.std.proofs.lemmas.Bool.{both_ways}
use Rattle.cluster_types.specs.declared.message.Message.{Message}
use Rattle.cluster_types.specs.declared.event.Event.{Event}
use Rattle.cluster_types.specs.declared.event.Event.TheVariants.{Submit, Direct, Reply, Join, Leave, Pong, Purge, Resubmit, Abort, Ask}
use Rattle.cluster_types.specs.declared.entry.Input.TheVariants.{Open, Up, Down, In, Beat, Time}
use Rattle.cluster_types.specs.declared.entry.Entry.{Entry}
use Rattle.cluster_types.specs.declared.entry.Entry.TheVariants.{Input, Hand, Settle, Lose}
use Rattle.cluster_defs.specs.Words.{Id}
use Rattle.cluster_defs.specs.Facts.{event_on, event_in}
use Rattle.cluster_defs.specs.Laws.{EachOnce}
use Rattle.cluster_defs.specs.Purges.{copied_by, copied_ids}
use Rattle.cluster_defs.specs.Steps.{step, changes}
use Rattle.cluster_defs.specs.Histories.{History, facts, Legal}
use Rattle.cluster_laws.proofs.Apart.{known_once}
use Rattle.cluster_laws.proofs.Closed.{closed}
use Rattle.cluster_state.specs.Plain.{Plain, plain_of, facts_in, told, noted, plain_after}
use Rattle.cluster_state.proofs.Decisions.{hand_plain, settle_plain, lose_plain}
use Rattle.cluster_state.proofs.Exact.{exact}
use Rattle.cluster_state.proofs.Inputs.{open_plain, up_plain, down_plain, beat_plain, time_plain}
use Rattle.cluster_state.proofs.Told.{ask_plain, leave_plain, pong_plain, join_plain, reply_plain}
use Rattle.cluster_state.proofs.Adding.{submit_plain, direct_plain}
use Rattle.cluster_state.proofs.Aborting.{abort_plain}
use Rattle.cluster_state.proofs.Dropping.{purge_plain}
use Rattle.cluster_state.proofs.Multiplying.{resubmit_plain}

-- the ids that are known after a resubmission stand once
known_again : (h : History) (conn moment word : ℕ) (m : Message) (ids : List Id) → event_on (facts h) conn m ≡ Some (Resubmit ids) →
    EachOnce ((facts h).known ++ copied_ids (copied_by (facts h) (Some (Resubmit ids))))
known_again h conn moment word m ids is =
    let f = facts h in
    let all : EachOnce (step f (Input (In conn moment word m)) (event_on f conn m)).known = known_once (Input (In conn moment word m) ∷ h) in
    let now : EachOnce (step f (Input (In conn moment word m)) (Some (Resubmit ids))).known = subst (λ e. EachOnce (step f (Input (In conn moment word m)) e).known) is all in
    subst (λ ks. EachOnce (ks ++ copied_ids (copied_by f (Some (Resubmit ids))))) (append-nil f.known) now

pub message_plain : (h : History) (conn moment word : ℕ) (m : Message) (event : Event) → Legal h → event_on (facts h) conn m ≡ Some event →
    plain_of (step (facts h) (Input (In conn moment word m)) (Some event)) ≡ noted (changes (facts h) conn m (Some event)) moment word (told (facts h) conn moment m event (plain_of (facts h)))
message_plain h conn moment word m (Submit s) legal is = submit_plain h conn moment word m s legal
message_plain h conn moment word m (Direct s) legal is = direct_plain h conn moment word m s legal
message_plain h conn moment word m (Reply name header ok declined) legal is = reply_plain (facts h) conn moment word m name header ok declined (closed h legal) (known_once h)
message_plain h conn moment word m (Join uuid) legal is = join_plain (facts h) conn moment word m uuid
message_plain h conn moment word m Leave legal is = leave_plain (facts h) conn moment word m (closed h legal)
message_plain h conn moment word m (Pong beat) legal is = pong_plain (facts h) conn moment word m beat
message_plain h conn moment word m (Purge all ids) legal is = purge_plain h conn moment word m all ids
message_plain h conn moment word m (Resubmit ids) legal is = resubmit_plain h conn moment word m ids legal (known_again h conn moment word m ids is)
message_plain h conn moment word m (Abort ids) legal is = abort_plain h conn moment word m ids
message_plain h conn moment word m (Ask query) legal is = ask_plain (facts h) conn moment word m query

-- ALL ENTRIES

pub after_is : (h : History) (e : Entry) → Legal (e ∷ h) → plain_of (facts (e ∷ h)) ≡ plain_after (facts h) e (event_in (facts h) e) (plain_of (facts h))
after_is h (Input (Open moment scheme hwm misses)) legal = open_plain h moment scheme hwm misses legal.1
after_is h (Input (Up conn channel moment word identity)) legal = up_plain h conn channel moment word identity
after_is h (Input (Down conn moment word)) legal = down_plain h conn moment word legal.1
after_is h (Input (Beat moment word)) legal = beat_plain h moment word
after_is h (Input (Time moment word)) legal = time_plain h moment word
after_is h (Hand id n) legal = hand_plain h id n
after_is h (Settle id v c) legal = settle_plain h id v c legal
after_is h (Lose n) legal = lose_plain h n legal
after_is h (Input (In conn moment word m)) legal = by (event_on (facts h) conn m) refl
  where
    by : (o : Option Event) → event_on (facts h) conn m ≡ o →
        plain_of (step (facts h) (Input (In conn moment word m)) (event_on (facts h) conn m)) ≡ plain_after (facts h) (Input (In conn moment word m)) (event_on (facts h) conn m) (plain_of (facts h))
    by None is = absurd (both_ways (is_some (event_on (facts h) conn m)) (ap is_some is) legal.0.1)
    by (Some event) is =
        ap (λ o. plain_of (step (facts h) (Input (In conn moment word m)) o)) is ∙ message_plain h conn moment word m event legal.1 is
        ∙ sym (ap (λ o. plain_after (facts h) (Input (In conn moment word m)) o (plain_of (facts h))) is)

-- the data of a legal history, once a legal entry is taken, are those of the longer one
pub taken_is : (h : History) (e : Entry) (old new : Plain) → Legal (e ∷ h) → old ≡ plain_of (facts h) → new ≡ plain_after (facts_in old) e (event_in (facts h) e) old → new ≡ plain_of (facts (e ∷ h))
taken_is h e old new legal stands is =
    let told : facts_in old ≡ facts h = ap facts_in stands ∙ exact h legal.1 in
    is ∙ ap (λ f. plain_after f e (event_in (facts h) e) old) told ∙ ap (plain_after (facts h) e (event_in (facts h) e)) stands ∙ sym (after_is h e legal)
