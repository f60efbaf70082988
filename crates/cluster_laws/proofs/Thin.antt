-- What goes with a purge is read by nothing that comes later: facts that differ in bodies and replies that are let go.
use Rattle.std.proofs.Common.{◌≡◌, ℕ, List, [], Bool, true, false, cond, ◌&&◌, refl, sym, ap, ◌∙◌, subst, Option, Some, None, Result, Ok, Err, bytes_eq}
use Rattle.std.specs.Option.{option_and_then}
use Rattle.cluster_types.specs.declared.config.Channel.{Channel}
use Rattle.cluster_types.specs.declared.message.Message.{Message}
use Rattle.cluster_types.specs.declared.event.Event.{Event}
use Rattle.cluster_types.specs.declared.event.Event.TheVariants.{Submit, Direct, Reply, Join, Leave, Pong, Purge, Resubmit, Abort, Ask}
use Rattle.cluster_types.specs.declared.event.Reason.{Reason}
use Rattle.cluster_defs.specs.Event.{event_of}
use Rattle.cluster_defs.specs.declared.acceptance.Acceptance.{Acceptance}
use Rattle.cluster_defs.specs.declared.acceptance.Acceptance.TheVariants.{Reserved, Purged, Again}
use Rattle.cluster_defs.specs.Words.{Id, is_listed, begins_with}
use Rattle.cluster_defs.specs.Connections.{channel_on}
use Rattle.cluster_defs.specs.Tasks.{counts}
use Rattle.cluster_defs.specs.Requests.{Body, body_of}
use Rattle.cluster_defs.specs.Facts.{Facts, meaning, event_on}
use Rattle.cluster_defs.specs.Acceptance.{Demand, demanded, reserved_front, is_repeat, acceptance_new, acceptance, is_accepted, accepted_as, accepted, body_from}
use Rattle.cluster_defs.specs.Steps.{changes, reply_from}
use Rattle.cluster_defs.specs.Thin.{no_content, short_reply, with_content, thin_request, thin_reply, with_bodies}
use Rattle.cluster_defs.proofs.Options.{same_id}
use Rattle.cluster_laws.proofs.ThinEvent.{with_body, is_demand, demand_event, reply_event_same}
use Rattle.cluster_types.proofs.Booleans.{and_left}

abbrev pub Bodies : Type 0
Bodies = Id → Option Body

abbrev pub Replies : Type 0
Replies = Id → Option Message

-- A MESSAGE WITH ANOTHER BODY IS ACCEPTED ALIKE

choice_alike : (a b c : Bool) (x y : Bool) (n : Acceptance) → is_accepted (cond a Reserved (cond b Purged (cond c (Again x) n))) ≡ is_accepted (cond a Reserved (cond b Purged (cond c (Again y) n)))
choice_alike true b c x y n = refl
choice_alike false true c x y n = refl
choice_alike false false true x y n = refl
choice_alike false false false x y n = refl

accepts_alike : (f : Facts) (b : Bodies) (r : Replies) (content : List ℕ) (buffers : List (List ℕ)) (m : Message) (d : Demand) →
    is_accepted (acceptance (with_bodies f b r) d (with_body content buffers m)) ≡ is_accepted (acceptance f d m)
accepts_alike f b r content buffers m d =
    choice_alike (begins_with reserved_front d.submission.id) (f.purged d.submission.id) (is_listed d.submission.id f.known) (is_repeat (with_bodies f b r) d (with_body content buffers m)) (is_repeat f d m) (acceptance_new f d m)

as_alike : (f : Facts) (b : Bodies) (r : Replies) (content : List ℕ) (buffers : List (List ℕ)) (m : Message) (d : Option Demand) →
    option_and_then (accepted_as (with_bodies f b r) (with_body content buffers m)) d ≡ option_and_then (accepted_as f m) d
as_alike f b r content buffers m None = refl
as_alike f b r content buffers m (Some d) = ap (λ x. cond x (Some d) None) (accepts_alike f b r content buffers m d)

pub accepted_alike : (f : Facts) (b : Bodies) (r : Replies) (content : List ℕ) (buffers : List (List ℕ)) (m : Message) (o : Option Event) →
    accepted (with_bodies f b r) (with_body content buffers m) o ≡ accepted f m o
accepted_alike f b r content buffers m o = as_alike f b r content buffers m (demanded o)

pub changes_alike : (f : Facts) (b : Bodies) (r : Replies) (content : List ℕ) (buffers : List (List ℕ)) (conn : ℕ) (m : Message) (o : Option Event) →
    changes (with_bodies f b r) conn (with_body content buffers m) o ≡ changes f conn m o
changes_alike f b r content buffers conn m o = rw (accepted_alike f b r content buffers m o) refl

-- FACTS THAT DIFFER IN WHAT IS LET GO

pub record Like (gone purged : Id → Bool) (f g : Facts) : Type 0 where
  pub bodies : Bodies
  pub replies : Replies
  pub is : g ≡ with_bodies f bodies replies
  pub body : (id : Id) → gone id ≡ false → bodies id ≡ f.body_of id
  pub reply : (id : Id) → purged id ≡ false → replies id ≡ f.reply_of id

-- a message that may differ in what is let go
pub record Thinned (gone purged : Id → Bool) (f : Facts) (conn : ℕ) (m n : Message) (o : Option Event) : Type 0 where
  pub content : List ℕ
  pub buffers : List (List ℕ)
  pub is : n ≡ with_body content buffers m
  pub event : event_on f conn n ≡ o
  pub body : (id : Id) → gone id ≡ false → body_from n id (accepted f m o) ≡ body_from m id (accepted f m o)
  pub reply : (id : Id) → purged id ≡ false → (old : Option Message) → reply_from f conn n id o old ≡ reply_from f conn m id o old

pub thinned_self : (gone purged : Id → Bool) (f : Facts) (conn : ℕ) (m : Message) (o : Option Event) → event_on f conn m ≡ o → Thinned gone purged f conn m m o
thinned_self gone purged f conn m o is = record { content = m.content; buffers = m.buffers; is = refl; event = is; body = λ id g. refl; reply = λ id p old. refl }

-- THE EVENT OF A THIN MESSAGE

-- a channel, and the event of a message on it
pub record Means (f : Facts) (conn : ℕ) (m : Message) (e : Event) : Type 0 where
  pub channel : Channel
  pub on : channel_on f.connections conn ≡ Some channel
  pub is : event_of channel m ≡ Ok e

ok_from : (m : Message) (channel : Channel) (r : Result Event Reason) (e : Event) → event_of channel m ≡ r → meaning m channel ≡ Some e → event_of channel m ≡ Ok e
ok_from m channel r e is h = is ∙ go r (ap some_of (sym is) ∙ h)
  where
    some_of : Result Event Reason → Option Event
    some_of (Ok x) = Some x
    some_of (Err x) = None

    go : (s : Result Event Reason) → some_of s ≡ Some e → s ≡ Ok e
    go (Ok x) k = let same : x ≡ e = cc in ap Ok same
    go (Err x) k = cc

means : (f : Facts) (conn : ℕ) (m : Message) (e : Event) → event_on f conn m ≡ Some e → Means f conn m e
means f conn m e h = go (channel_on f.connections conn) refl h
  where
    go : (c : Option Channel) → channel_on f.connections conn ≡ c → option_and_then (meaning m) c ≡ Some e → Means f conn m e
    go None is k = cc
    go (Some channel) is k = record { channel = channel; on = is; is = ok_from m channel (event_of channel m) e refl k }

means_back : (f : Facts) (conn : ℕ) (m : Message) (channel : Channel) (e : Event) → channel_on f.connections conn ≡ Some channel → event_of channel m ≡ Ok e → event_on f conn m ≡ Some e
means_back f conn m channel e on is = rw (on, is) refl

demand_thin : (f : Facts) (conn : ℕ) (m : Message) (content : List ℕ) (buffers : List (List ℕ)) (e : Event) → is_demand e ≡ true → event_on f conn m ≡ Some e → event_on f conn (with_body content buffers m) ≡ Some e
demand_thin f conn m content buffers e demand h =
    let at = means f conn m e h in
    means_back f conn (with_body content buffers m) at.channel e at.on (demand_event at.channel m content buffers e at.is demand)

reply_thin : (f : Facts) (conn : ℕ) (m : Message) (buffers : List (List ℕ)) (name id : Id) (ok declined : Bool) → event_on f conn m ≡ Some (Reply name id ok declined) → event_on f conn (with_body (short_reply ok) buffers m) ≡ Some (Reply name id ok declined)
reply_thin f conn m buffers name id ok declined h =
    let at = means f conn m (Reply name id ok declined) h in
    means_back f conn (with_body (short_reply ok) buffers m) at.channel _ at.on (reply_event_same at.channel m buffers name id ok declined at.is)

-- THE THIN MESSAGE

-- of a demand: its body goes where its id may go
choice_body : (gone : Id → Bool) (m : Message) (d : Demand) (id : Id) → gone id ≡ false → (b : Bool) → gone d.submission.id ≡ b → body_from (cond b (with_content no_content m) m) id (Some d) ≡ body_from m id (Some d)
choice_body gone m d id g false is = refl
choice_body gone m d id g true is =
    elim (bytes_eq d.submission.id id) as (λ k. bytes_eq d.submission.id id ≡ k → cond k (Some (body_of (with_content no_content m))) None ≡ cond k (Some (body_of m)) None) [
      | true ↦ λ same. let off : gone d.submission.id ≡ false = ap gone (same_id d.submission.id id same) ∙ g in cc
      | false ↦ λ _. refl
    ] refl

thin_demand : (gone purged : Id → Bool) (f : Facts) (conn : ℕ) (m : Message) (e : Event) → is_demand e ≡ true → event_on f conn m ≡ Some e → ((n : Message) (id : Id) (old : Option Message) → reply_from f conn n id (Some e) old ≡ old) → (a : Option Demand) → accepted f m (Some e) ≡ a → Thinned gone purged f conn m (thin_request gone a m) (Some e)
thin_demand gone purged f conn m e demand is none None at =
    record { content = m.content; buffers = m.buffers; is = refl; event = is; body = λ id g. refl; reply = λ id p old. refl }
thin_demand gone purged f conn m e demand is none (Some d) at = go (gone d.submission.id) refl
  where
    go : (b : Bool) → gone d.submission.id ≡ b → Thinned gone purged f conn m (cond b (with_content no_content m) m) (Some e)
    go true on = record {
      content = no_content;
      buffers = [];
      is = refl;
      event = demand_thin f conn m no_content [] e demand is;
      body = λ id g. subst (λ a. body_from (with_content no_content m) id a ≡ body_from m id a) (sym at) (choice_body gone m d id g true on);
      reply = λ id p old. none (with_content no_content m) id old ∙ sym (none m id old);
    }
    go false on = record { content = m.content; buffers = m.buffers; is = refl; event = is; body = λ id g. refl; reply = λ id p old. refl }

-- of a reply: its content goes where its id is purged
choice_reply : (purged : Id → Bool) (c : Id → Bool) (x y old : Option Message) (name id : Id) → purged id ≡ false → purged name ≡ true → cond (bytes_eq name id && c id) x old ≡ cond (bytes_eq name id && c id) y old
choice_reply purged c x y old name id off on =
    elim (bytes_eq name id) as (λ k. bytes_eq name id ≡ k → cond (k && c id) x old ≡ cond (k && c id) y old) [
      | true ↦ λ same. let also : purged name ≡ false = ap purged (same_id name id same) ∙ off in cc
      | false ↦ λ _. refl
    ] refl

thin_answer : (gone purged : Id → Bool) (f : Facts) (conn : ℕ) (m : Message) (name header : Id) (ok declined : Bool) → event_on f conn m ≡ Some (Reply name header ok declined) →
    Thinned gone purged f conn m (thin_reply purged f conn (Some (Reply name header ok declined)) m) (Some (Reply name header ok declined))
thin_answer gone purged f conn m name header ok declined is = go (purged name && counts f.engines.live conn header (f.task name)) refl
  where
    go : (b : Bool) → (purged name && counts f.engines.live conn header (f.task name)) ≡ b → Thinned gone purged f conn m (cond b (with_content (short_reply ok) m) m) (Some (Reply name header ok declined))
    go true on = record {
      content = short_reply ok;
      buffers = [];
      is = refl;
      event = reply_thin f conn m [] name header ok declined is;
      body = λ id g. refl;
      reply = λ id p old. choice_reply purged (λ i. counts f.engines.live conn header (f.task i)) _ _ old name id p (and_left _ _ on);
    }
    go false on = record { content = m.content; buffers = m.buffers; is = refl; event = is; body = λ id g. refl; reply = λ id p old. refl }

pub thin_message : (gone purged : Id → Bool) (f : Facts) (conn : ℕ) (m : Message) (o : Option Event) → event_on f conn m ≡ o → Thinned gone purged f conn m (thin_reply purged f conn o (thin_request gone (accepted f m o) m)) o
thin_message gone purged f conn m None is = thinned_self gone purged f conn m None is
thin_message gone purged f conn m (Some (Submit s)) is = thin_demand gone purged f conn m (Submit s) refl is (λ n id old. refl) (accepted f m (Some (Submit s))) refl
thin_message gone purged f conn m (Some (Direct s)) is = thin_demand gone purged f conn m (Direct s) refl is (λ n id old. refl) (accepted f m (Some (Direct s))) refl
thin_message gone purged f conn m (Some (Reply name header ok declined)) is = thin_answer gone purged f conn m name header ok declined is
thin_message gone purged f conn m (Some (Join u)) is = thinned_self gone purged f conn m (Some (Join u)) is
thin_message gone purged f conn m (Some Leave) is = thinned_self gone purged f conn m (Some Leave) is
thin_message gone purged f conn m (Some (Pong b)) is = thinned_self gone purged f conn m (Some (Pong b)) is
thin_message gone purged f conn m (Some (Purge all ids)) is = thinned_self gone purged f conn m (Some (Purge all ids)) is
thin_message gone purged f conn m (Some (Resubmit ids)) is = thinned_self gone purged f conn m (Some (Resubmit ids)) is
thin_message gone purged f conn m (Some (Abort ids)) is = thinned_self gone purged f conn m (Some (Abort ids)) is
thin_message gone purged f conn m (Some (Ask q)) is = thinned_self gone purged f conn m (Some (Ask q)) is
