-- A thin entry does to the thin facts what the entry does to the facts, but for what is let go.
use Rattle.std.proofs.Common.{◌≡◌, ℕ, List, [], ◌∷◌, ◌++◌, Bool, false, cond, ◌||◌, refl, sym, ap, ◌∙◌, subst, Option, Some, None}
use Rattle.std.specs.Option.{option_and_then}
use Rattle.cluster_types.specs.declared.message.Message.{Message}
use Rattle.cluster_types.specs.declared.event.Event.{Event}
use Rattle.cluster_types.specs.declared.entry.Input.TheVariants.{Open, Up, Down, In, Beat, Time}
use Rattle.cluster_types.specs.declared.entry.Entry.{Entry}
use Rattle.cluster_types.specs.declared.entry.Entry.TheVariants.{Input, Hand, Settle, Lose}
use Rattle.cluster_defs.specs.Words.{Id, or_else}
use Rattle.cluster_defs.specs.Engines.{joined, left_engine}
use Rattle.cluster_defs.specs.Tasks.{after_reply, after_end, after_abort}
use Rattle.cluster_defs.specs.Facts.{Facts, event_on, event_in, is_direct_id}
use Rattle.cluster_defs.specs.Acceptance.{accepted, accepted_id, request_from, body_from}
use Rattle.cluster_defs.specs.Purges.{Copy, purged_by, drops, copied_by, copied_ids, copied_from, request_copied}
use Rattle.cluster_defs.specs.Steps.{step, next, engines_in, with_joined, reply_from, body_after, reply_after}
use Rattle.cluster_defs.specs.Histories.{History, facts}
use Rattle.cluster_defs.specs.Thin.{thin_request, thin_reply, thin_entry, thin_by, with_bodies}
use Rattle.cluster_laws.proofs.ThinEvent.{with_body}
use Rattle.cluster_laws.proofs.Thin.{Bodies, Replies, accepted_alike, changes_alike, Like, Thinned, thinned_self, thin_message}
use Rattle.cluster_defs.specs.Aborts.{aborted_by}

-- a copy of what isn't let go was made of what isn't
unfoldable pub Shut : (Id → Bool) → Option (List Copy) → Type 0
Shut gone copies = (id old : Id) → copied_from id copies ≡ Some old → gone id ≡ false → gone old ≡ false

-- the copies that an entry makes
abbrev pub copies_in : Facts → Entry → Option (List Copy)
copies_in f e = copied_by f (event_in f e)

-- the facts after a message, but for bodies and replies, don't change with the body of the message
next_alike : (f : Facts) (b : Bodies) (r : Replies) (content : List ℕ) (buffers : List (List ℕ)) (conn moment word : ℕ) (m : Message) (o : Option Event) →
    step (with_bodies f b r) (Input (In conn moment word (with_body content buffers m))) o
    ≡ with_bodies (step f (Input (In conn moment word m)) o)
    (λ id. body_after (with_bodies f b r) (Input (In conn moment word (with_body content buffers m))) o id)
    (λ id. reply_after (with_bodies f b r) (Input (In conn moment word (with_body content buffers m))) o id)
next_alike f b r content buffers conn moment word m o =
    let there = with_bodies f b r in
    let n : Message = with_body content buffers m in
    let acc = accepted_alike f b r content buffers m o in
    let chg = changes_alike f b r content buffers conn m o in
    λ i. record {
      begun = f.begun;
      opens = f.opens;
      scheme = f.scheme;
      hwm = f.hwm;
      misses = f.misses;
      now = f.now;
      moment = cond (chg i) moment f.moment;
      word = cond (chg i) word f.word;
      beats = f.beats;
      connections = f.connections;
      engines = engines_in f conn o;
      by_use = with_joined f.engines.next (joined f.engines conn o) f.by_use;
      known = f.known ++ accepted_id (acc i) ++ copied_ids (copied_by f o);
      request_of = λ id. or_else (f.request_of id) (or_else (request_from f conn moment m id (acc i)) (request_copied f moment id (copied_by f o)));
      body_of = λ id. body_after there (Input (In conn moment word n)) o id;
      task = λ id. after_abort (aborted_by f o) id (after_end (left_engine f.engines.live conn o) (after_reply f.engines.live conn id (is_direct_id f id) o (f.task id)));
      reply_of = λ id. reply_after there (Input (In conn moment word n)) o id;
      settled = f.settled;
      purged = λ id. f.purged id || drops id (purged_by f o);
    }

copy_same : (gone : Id → Bool) (f : Facts) (b : Bodies) → ((id : Id) → gone id ≡ false → b id ≡ f.body_of id) → (copies : Option (List Copy)) → Shut gone copies → (id : Id) → gone id ≡ false →
    option_and_then b (copied_from id copies) ≡ option_and_then f.body_of (copied_from id copies)
unfolding Shut
copy_same gone f b same copies shut id g = go (copied_from id copies) refl
  where
    go : (old : Option Id) → copied_from id copies ≡ old → option_and_then b old ≡ option_and_then f.body_of old
    go None is = refl
    go (Some old) is = same old (shut id old is g)

in_body : (gone : Id → Bool) (f : Facts) (b : Bodies) (r : Replies) (content : List ℕ) (buffers : List (List ℕ)) (m : Message) (o : Option Event) → ((id : Id) → gone id ≡ false → b id ≡ f.body_of id) →
    ((id : Id) → gone id ≡ false → body_from (with_body content buffers m) id (accepted f m o) ≡ body_from m id (accepted f m o)) → Shut gone (copied_by f o) → (id : Id) → gone id ≡ false →
    or_else (b id) (or_else (body_from (with_body content buffers m) id (accepted (with_bodies f b r) (with_body content buffers m) o)) (option_and_then b (copied_from id (copied_by f o))))
    ≡ or_else (f.body_of id) (or_else (body_from m id (accepted f m o)) (option_and_then f.body_of (copied_from id (copied_by f o))))
in_body gone f b r content buffers m o same reads shut id g =
    rw (accepted_alike f b r content buffers m o, reads id g, same id g, copy_same gone f b same (copied_by f o) shut id g) refl

-- with another body, of which what isn't let go is the same
body_like : (gone purged : Id → Bool) (f g : Facts) → Like gone purged f g → (conn moment word : ℕ) (m : Message) (o : Option Event) (content : List ℕ) (buffers : List (List ℕ)) →
    ((id : Id) → gone id ≡ false → body_from (with_body content buffers m) id (accepted f m o) ≡ body_from m id (accepted f m o)) →
    ((id : Id) → purged id ≡ false → (old : Option Message) → reply_from f conn (with_body content buffers m) id o old ≡ reply_from f conn m id o old) → Shut gone (copied_by f o) →
    Like gone purged (step f (Input (In conn moment word m)) o) (step g (Input (In conn moment word (with_body content buffers m))) o)
body_like gone purged f g like conn moment word m o content buffers body reply shut =
    let n : Message = with_body content buffers m in
    let there = with_bodies f like.bodies like.replies in
    record {
      bodies = λ id. body_after there (Input (In conn moment word n)) o id;
      replies = λ id. reply_after there (Input (In conn moment word n)) o id;
      is = ap (λ x. step x (Input (In conn moment word n)) o) like.is ∙ next_alike f like.bodies like.replies content buffers conn moment word m o;
      body = λ id g. in_body gone f like.bodies like.replies content buffers m o like.body body shut id g;
      reply = λ id p. reply id p (like.replies id) ∙ ap (reply_from f conn m id o) (like.reply id p);
    }

-- a message in place of another one, from which it differs in what is let go
pub in_like : (gone purged : Id → Bool) (f g : Facts) → Like gone purged f g → (conn moment word : ℕ) (m n : Message) (o : Option Event) → Thinned gone purged f conn m n o → Shut gone (copied_by f o) →
    Like gone purged (step f (Input (In conn moment word m)) o) (step g (Input (In conn moment word n)) o)
in_like gone purged f g like conn moment word m n o thinned shut =
    subst (λ x. Like gone purged (step f (Input (In conn moment word m)) o) (step g (Input (In conn moment word x)) o)) (sym thinned.is)
    (body_like gone purged f g like conn moment word m o thinned.content thinned.buffers
    (λ id k. subst (λ x. body_from x id (accepted f m o) ≡ body_from m id (accepted f m o)) thinned.is (thinned.body id k))
    (λ id k old. subst (λ x. reply_from f conn x id o old ≡ reply_from f conn m id o old) thinned.is (thinned.reply id k old)) shut)

-- an entry that is no message
rest_like : (gone purged : Id → Bool) (f g : Facts) (like : Like gone purged f g) (e : Entry) → next (with_bodies f like.bodies like.replies) e ≡ with_bodies (next f e) like.bodies like.replies →
    ((id : Id) → (next f e).body_of id ≡ f.body_of id) → ((id : Id) → (next f e).reply_of id ≡ f.reply_of id) → Like gone purged (next f e) (next g e)
rest_like gone purged f g like e is b r =
    record { bodies = like.bodies; replies = like.replies; is = ap (λ x. next x e) like.is ∙ is; body = λ id g. like.body id g ∙ sym (b id); reply = λ id p. like.reply id p ∙ sym (r id) }

-- the event of a message is the same in facts that are alike
pub event_there : (gone purged : Id → Bool) (f g : Facts) (like : Like gone purged f g) (conn : ℕ) (m : Message) → event_on g conn m ≡ event_on f conn m
event_there gone purged f g like conn m = ap (λ x. event_on x conn m) like.is

-- the thin entry does to the thin facts what the entry does to the facts
pub thin_like : (gone purged : Id → Bool) (f g : Facts) → Like gone purged f g → (e : Entry) → Shut gone (copies_in f e) → Like gone purged (next f e) (next g (thin_entry gone purged f e (event_in f e)))
thin_like gone purged f g like (Input (In conn moment word m)) shut =
    let o = event_on f conn m in
    let n = thin_reply purged f conn o (thin_request gone (accepted f m o) m) in
    let thinned = thin_message gone purged f conn m o refl in
    subst (λ p. Like gone purged (step f (Input (In conn moment word m)) o) (step g (Input (In conn moment word n)) p)) (sym (event_there gone purged f g like conn n ∙ thinned.event))
    (in_like gone purged f g like conn moment word m n o thinned shut)
thin_like gone purged f g like (Input (Open moment scheme hwm misses)) shut = rest_like gone purged f g like (Input (Open moment scheme hwm misses)) refl (λ id. refl) (λ id. refl)
thin_like gone purged f g like (Input (Up conn channel moment word identity)) shut = rest_like gone purged f g like (Input (Up conn channel moment word identity)) refl (λ id. refl) (λ id. refl)
thin_like gone purged f g like (Input (Down conn moment word)) shut = rest_like gone purged f g like (Input (Down conn moment word)) refl (λ id. refl) (λ id. refl)
thin_like gone purged f g like (Input (Beat moment word)) shut = rest_like gone purged f g like (Input (Beat moment word)) refl (λ id. refl) (λ id. refl)
thin_like gone purged f g like (Input (Time moment word)) shut = rest_like gone purged f g like (Input (Time moment word)) refl (λ id. refl) (λ id. refl)
thin_like gone purged f g like (Hand i n) shut = rest_like gone purged f g like (Hand i n) refl (λ id. refl) (λ id. refl)
thin_like gone purged f g like (Settle i v c) shut = rest_like gone purged f g like (Settle i v c) refl (λ id. refl) (λ id. refl)
thin_like gone purged f g like (Lose n) shut = rest_like gone purged f g like (Lose n) refl (λ id. refl) (λ id. refl)

-- so does the entry itself
pub same_like : (gone purged : Id → Bool) (f g : Facts) → Like gone purged f g → (e : Entry) → Shut gone (copies_in f e) → Like gone purged (next f e) (next g e)
same_like gone purged f g like (Input (In conn moment word m)) shut =
    let o = event_on f conn m in
    subst (λ p. Like gone purged (step f (Input (In conn moment word m)) o) (step g (Input (In conn moment word m)) p)) (sym (event_there gone purged f g like conn m))
    (in_like gone purged f g like conn moment word m m o (thinned_self gone purged f conn m o refl) shut)
same_like gone purged f g like (Input (Open moment scheme hwm misses)) shut = rest_like gone purged f g like (Input (Open moment scheme hwm misses)) refl (λ id. refl) (λ id. refl)
same_like gone purged f g like (Input (Up conn channel moment word identity)) shut = rest_like gone purged f g like (Input (Up conn channel moment word identity)) refl (λ id. refl) (λ id. refl)
same_like gone purged f g like (Input (Down conn moment word)) shut = rest_like gone purged f g like (Input (Down conn moment word)) refl (λ id. refl) (λ id. refl)
same_like gone purged f g like (Input (Beat moment word)) shut = rest_like gone purged f g like (Input (Beat moment word)) refl (λ id. refl) (λ id. refl)
same_like gone purged f g like (Input (Time moment word)) shut = rest_like gone purged f g like (Input (Time moment word)) refl (λ id. refl) (λ id. refl)
same_like gone purged f g like (Hand i n) shut = rest_like gone purged f g like (Hand i n) refl (λ id. refl) (λ id. refl)
same_like gone purged f g like (Settle i v c) shut = rest_like gone purged f g like (Settle i v c) refl (λ id. refl) (λ id. refl)
same_like gone purged f g like (Lose n) shut = rest_like gone purged f g like (Lose n) refl (λ id. refl) (λ id. refl)

-- no copy of what isn't let go is made of what is
unfoldable pub AllShut : (Id → Bool) → History → Type 0
AllShut gone [] = Unit {0}
AllShut gone (e ∷ older) = Shut gone (copies_in (facts older) e) × AllShut gone older

pub facts_thin : (gone purged : Id → Bool) (history : History) → AllShut gone history → Like gone purged (facts history) (facts (thin_by gone purged history))
unfolding AllShut
facts_thin gone purged [] shut = record { bodies = λ id. None; replies = λ id. None; is = refl; body = λ id g. refl; reply = λ id p. refl }
facts_thin gone purged (e ∷ older) shut = thin_like gone purged (facts older) _ (facts_thin gone purged older shut.1) e shut.0
