-- What an entry's note tells of it: all that decides what is let go.
use Rattle.std.proofs.Common.{◌≡◌, ℕ, List, [], Bool, true, false, cond, ◌&&◌, ◌||◌, length, Option, Some, None, refl, sym, ap}
use Rattle.std.specs.Option.{is_some}
use Rattle.cluster_types.specs.declared.message.Message.{Message}
use Rattle.cluster_types.specs.declared.event.Event.{Event}
use Rattle.cluster_types.specs.declared.event.Event.TheVariants.{Submit, Direct, Reply, Join, Leave, Pong, Purge, Resubmit, Abort, Ask}
use Rattle.cluster_types.specs.declared.entry.Input.TheVariants.{Open, Up, Down, In, Beat, Time}
use Rattle.cluster_types.specs.declared.entry.Entry.{Entry}
use Rattle.cluster_types.specs.declared.entry.Entry.TheVariants.{Input, Hand, Settle, Lose}
use Rattle.cluster_defs.specs.Words.{Id, once}
use Rattle.cluster_defs.specs.Tasks.{counts}
use Rattle.cluster_defs.specs.Facts.{Facts, event_on, event_in}
use Rattle.cluster_defs.specs.Acceptance.{Demand, acceptance, is_accepted, accepted}
use Rattle.cluster_defs.specs.Purges.{Copy, resubmitting, made, copied_by}
use Rattle.cluster_defs.specs.Steps.{changes}
use Rattle.cluster_defs.specs.Thin.{with_content, short_reply, thin_request, thin_reply, thin_entry, copies_of}
use Rattle.cluster_laws.proofs.Copies.{made_of}
use Rattle.database_text.specs.Notes.{note_as, note_of}
use Rattle.database_text.specs.Thinning.{thin_message, thin_as, copies_in}

-- WHAT A NOTE DOES, BY WHETHER THE ENTRY IS KEPT

same_message : (gone purged : Id → Bool) (n : ℕ) (event : Event) (m : Message) → thin_message gone purged (note_as n true (Some event)) m ≡ m → (b : Bool) → m ≡ thin_message gone purged (note_as n b (Some event)) m
same_message gone purged n event m none true = sym none
same_message gone purged n event m none false = refl

no_copies : (n : ℕ) (event : Event) → copies_in (note_as n true (Some event)) ≡ [] → (b : Bool) → [] ≡ copies_in (note_as n b (Some event))
no_copies n event none true = sym none
no_copies n event none false = refl

-- REQUESTS

asked : (gone purged : Id → Bool) (n : ℕ) (m : Message) (d : Demand) (event : Event) →
    thin_message gone purged (note_as n true (Some event)) m ≡ thin_request gone (Some d) m → (b : Bool) →
    thin_request gone (cond b (Some d) None) m
    ≡ thin_message gone purged (note_as n (is_some (cond b (Some d) None) || false || false || false || false || false || false || false) (Some event)) m
asked gone purged n m d event is true = sym is
asked gone purged n m d event is false = refl

-- REPLIES

answered : (gone purged : Id → Bool) (n : ℕ) (m : Message) (task header : Id) (ok declined : Bool) (b : Bool) →
    cond (purged task && b) (with_content (short_reply ok) m) m ≡ thin_message gone purged (note_as n b (Some (Reply task header ok declined))) m
answered gone purged n m task header ok declined true =
    elim (purged task) as (λ p. cond (p && true) (with_content (short_reply ok) m) m ≡ cond p (with_content (short_reply ok) m) m) [ true ↦ refl | false ↦ refl ]
answered gone purged n m task header ok declined false =
    elim (purged task) as (λ p. cond (p && false) (with_content (short_reply ok) m) m ≡ m) [ true ↦ refl | false ↦ refl ]

-- MESSAGES

message_is : (gone purged : Id → Bool) (f : Facts) (conn : ℕ) (m : Message) (o : Option Event) →
    thin_reply purged f conn o (thin_request gone (accepted f m o) m) ≡ thin_message gone purged (note_as (length f.known) (changes f conn m o) o) m
message_is gone purged f conn m None = refl
message_is gone purged f conn m (Some (Submit s)) =
    let d : Demand = record { direct = false; submission = s } in
    asked gone purged (length f.known) m d (Submit s) refl (is_accepted (acceptance f d m))
message_is gone purged f conn m (Some (Direct s)) =
    let d : Demand = record { direct = true; submission = s } in
    asked gone purged (length f.known) m d (Direct s) refl (is_accepted (acceptance f d m))
message_is gone purged f conn m (Some (Reply task header ok declined)) =
    answered gone purged (length f.known) m task header ok declined (counts f.engines.live conn header (f.task task))
message_is gone purged f conn m (Some (Join u)) = same_message gone purged (length f.known) (Join u) m refl (changes f conn m (Some (Join u)))
message_is gone purged f conn m (Some Leave) = same_message gone purged (length f.known) Leave m refl (changes f conn m (Some Leave))
message_is gone purged f conn m (Some (Pong b)) = same_message gone purged (length f.known) (Pong b) m refl (changes f conn m (Some (Pong b)))
message_is gone purged f conn m (Some (Purge all ids)) = same_message gone purged (length f.known) (Purge all ids) m refl (changes f conn m (Some (Purge all ids)))
message_is gone purged f conn m (Some (Resubmit ids)) = same_message gone purged (length f.known) (Resubmit ids) m refl (changes f conn m (Some (Resubmit ids)))
message_is gone purged f conn m (Some (Abort ids)) = same_message gone purged (length f.known) (Abort ids) m refl (changes f conn m (Some (Abort ids)))
message_is gone purged f conn m (Some (Ask q)) = same_message gone purged (length f.known) (Ask q) m refl (changes f conn m (Some (Ask q)))

resubmitted_is : (f : Facts) (ids : List Id) (o : Option (List Copy)) → made (resubmitting f (once ids)) ≡ o → copies_of o ≡ copies_in (note_as (length f.known) (is_some o || false || false) (Some (Resubmit ids)))
resubmitted_is f ids None is = refl
resubmitted_is f ids (Some copies) is = (made_of f (once ids) copies is).are

copies_are : (f : Facts) (conn : ℕ) (m : Message) (o : Option Event) → copies_of (copied_by f o) ≡ copies_in (note_as (length f.known) (changes f conn m o) o)
copies_are f conn m None = refl
copies_are f conn m (Some (Submit s)) = no_copies (length f.known) (Submit s) refl (changes f conn m (Some (Submit s)))
copies_are f conn m (Some (Direct s)) = no_copies (length f.known) (Direct s) refl (changes f conn m (Some (Direct s)))
copies_are f conn m (Some (Reply task header ok declined)) = no_copies (length f.known) (Reply task header ok declined) refl (changes f conn m (Some (Reply task header ok declined)))
copies_are f conn m (Some (Join u)) = no_copies (length f.known) (Join u) refl (changes f conn m (Some (Join u)))
copies_are f conn m (Some Leave) = no_copies (length f.known) Leave refl (changes f conn m (Some Leave))
copies_are f conn m (Some (Pong b)) = no_copies (length f.known) (Pong b) refl (changes f conn m (Some (Pong b)))
copies_are f conn m (Some (Purge all ids)) = no_copies (length f.known) (Purge all ids) refl (changes f conn m (Some (Purge all ids)))
copies_are f conn m (Some (Resubmit ids)) = resubmitted_is f ids (made (resubmitting f (once ids))) refl
copies_are f conn m (Some (Abort ids)) = no_copies (length f.known) (Abort ids) refl (changes f conn m (Some (Abort ids)))
copies_are f conn m (Some (Ask q)) = no_copies (length f.known) (Ask q) refl (changes f conn m (Some (Ask q)))

-- ENTRIES

-- the note of an entry tells what becomes of it, and which copies it makes
pub record Tells (f : Facts) (e : Entry) : Type 0 where
  pub thin : (gone purged : Id → Bool) → thin_entry gone purged f e (event_in f e) ≡ thin_as gone purged (note_of f e) e
  pub copies : copies_of (copied_by f (event_in f e)) ≡ copies_in (note_of f e)

pub tells : (f : Facts) (e : Entry) → Tells f e
tells f (Input (Open moment scheme hwm misses)) = record { thin = λ gone purged. refl; copies = refl }
tells f (Input (Up conn channel moment word identity)) = record { thin = λ gone purged. refl; copies = refl }
tells f (Input (Down conn moment word)) = record { thin = λ gone purged. refl; copies = refl }
tells f (Input (In conn moment word m)) = record {
  thin = λ gone purged. ap (λ n. Input (In conn moment word n)) (message_is gone purged f conn m (event_on f conn m));
  copies = copies_are f conn m (event_on f conn m);
}
tells f (Input (Beat moment word)) = record { thin = λ gone purged. refl; copies = refl }
tells f (Input (Time moment word)) = record { thin = λ gone purged. refl; copies = refl }
tells f (Hand id n) = record { thin = λ gone purged. refl; copies = refl }
tells f (Settle id v c) = record { thin = λ gone purged. refl; copies = refl }
tells f (Lose n) = record { thin = λ gone purged. refl; copies = refl }
