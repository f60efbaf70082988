-- What the request of an id says that was accepted with a message.
use Rattle.std.proofs.Common.{◌≡◌, ℕ, List, [], ◌∷◌, ◌++◌, true, false, cond, refl, sym, ap, ◌∙◌, bytes_eq, Option, Some, None, Result, Ok, Err}
use Rattle.std.specs.Prelude.{find, option_map}
use Rattle.std.specs.Option.{option_and_then}
use Rattle.std.proofs.lemmas.Bool.{false_from_ne_true, both_ways, or_left, or_right}
use Rattle.std.proofs.lemmas.List.Folds.{list_any-append}
use Rattle.cluster_types.specs.declared.message.Message.{Message}
use Rattle.cluster_types.specs.declared.config.Channel.TheVariants.{Task}
use Rattle.cluster_types.specs.declared.event.Event.{Event}
use Rattle.cluster_types.specs.declared.event.Reason.{Reason}
use Rattle.cluster_types.specs.declared.event.Reason.TheVariants.{BadType}
use Rattle.cluster_types.specs.declared.entry.Input.TheVariants.{Open, Up, Down, In, Beat, Time}
use Rattle.cluster_types.specs.declared.entry.Entry.{Entry}
use Rattle.cluster_types.specs.declared.entry.Entry.TheVariants.{Input, Hand, Settle, Lose}
use Rattle.cluster_types.proofs.Booleans.{or_off_left, or_off_right}
use Rattle.cluster_defs.specs.declared.header.Header.{Header as HeaderType}
use Rattle.cluster_defs.specs.declared.content.SubmitMeta.{SubmitMeta}
use Rattle.cluster_defs.specs.Json.{Reading}
use Rattle.cluster_defs.specs.Header.{read_header}
use Rattle.cluster_defs.specs.Submit.{read_submit}
use Rattle.cluster_defs.specs.Event.{event_of, event_under, submitted, submission, is_request}
use Rattle.cluster_defs.specs.Words.{Id, is_listed}
use Rattle.cluster_defs.specs.Requests.{Request, is_direct}
use Rattle.cluster_defs.specs.Connections.{channel_on}
use Rattle.cluster_defs.specs.Facts.{Facts, meaning, event_on}
use Rattle.cluster_defs.specs.Acceptance.{Demand, demanded, accepted, accepted_as, accepted_id, acceptance, is_accepted, request_from, request_made, request_direct, request_submit}
use Rattle.cluster_defs.specs.Purges.{Copy, copied_by, copied_ids, copied_from}
use Rattle.cluster_defs.specs.Steps.{next}
use Rattle.cluster_defs.specs.Histories.{History, facts}
use Rattle.cluster_defs.proofs.Options.{then_some, if_some, id_self, some_inj}
use Rattle.cluster_laws.proofs.Closed.{listed_stays}
use Rattle.cluster_laws.proofs.Numbers.{accepted_says}

-- OF AN ID THAT ISN'T KNOWN THERE IS NO REQUEST

left_off : (xs ys : List Id) (id : Id) → is_listed id (xs ++ ys) ≡ false → is_listed id ys ≡ false
left_off xs ys id off = false_from_ne_true _ (λ on. both_ways (is_listed id (xs ++ ys)) off (list_any-append (λ i. bytes_eq i id) xs ys ∙ or_right _ _ on))

front_off : (xs ys : List Id) (id : Id) → is_listed id (xs ++ ys) ≡ false → is_listed id xs ≡ false
front_off xs ys id off = false_from_ne_true _ (λ on. both_ways (is_listed id (xs ++ ys)) off (list_any-append (λ i. bytes_eq i id) xs ys ∙ or_left _ _ on))

none_made : (f : Facts) (conn moment : ℕ) (m : Message) (id : Id) (d : Option Demand) → is_listed id (accepted_id d) ≡ false → request_from f conn moment m id d ≡ None
none_made f conn moment m id None h = refl
none_made f conn moment m id (Some d) h = rw (or_off_left (bytes_eq d.submission.id id) false h) refl

none_copied : (id : Id) (c : Option (List Copy)) → is_listed id (copied_ids c) ≡ false → copied_from id c ≡ None
none_copied id None h = refl
none_copied id (Some copies) h = ap (option_map (λ (c : Copy). c.old)) (in_list copies h)
  where
    in_list : (cs : List Copy) → is_listed id (copied_ids (Some cs)) ≡ false → find (λ (c : Copy). bytes_eq c.new id) cs ≡ None
    in_list [] k = refl
    in_list (c ∷ cs) k = rw (or_off_left (bytes_eq c.new id) _ k) (in_list cs (or_off_right (bytes_eq c.new id) _ k))

none_more : (f : Facts) (e : Entry) (id : Id) → f.request_of id ≡ None → is_listed id (next f e).known ≡ false → (next f e).request_of id ≡ None
none_more f (Hand i n) id none off = none
none_more f (Settle i v c) id none off = none
none_more f (Lose n) id none off = none
none_more f (Input (Open moment scheme hwm misses)) id none off = none
none_more f (Input (Up conn channel moment word identity)) id none off = none
none_more f (Input (Down conn moment word)) id none off = none
none_more f (Input (Beat moment word)) id none off = none
none_more f (Input (Time moment word)) id none off = none
none_more f (Input (In conn moment word m)) id none off =
    let event = event_on f conn m in
    let new = accepted_id (accepted f m event) in
    let copies = copied_ids (copied_by f event) in
    let not_copied = left_off (f.known ++ new) copies id off in
    let not_made = left_off f.known new id (front_off (f.known ++ new) copies id off) in
    rw (none, none_made f conn moment m id (accepted f m event) not_made, none_copied id (copied_by f event) not_copied) refl

unlisted_before : (f : Facts) (e : Entry) (id : Id) → is_listed id (next f e).known ≡ false → is_listed id f.known ≡ false
unlisted_before f e id off = false_from_ne_true _ (λ on. both_ways (is_listed id (next f e).known) off (listed_stays f e id on))

unknown_none : (h : History) (id : Id) → is_listed id (facts h).known ≡ false → (facts h).request_of id ≡ None
unknown_none [] id off = refl
unknown_none (e ∷ older) id off = none_more (facts older) e id (unknown_none older id (unlisted_before (facts older) e id off)) off

-- WHAT A MESSAGE DEMANDS

-- a demand for a task, with the dependencies that the metadata says
pub record Says (d : Demand) (meta : SubmitMeta) : Type 0 where
  pub direct : d.direct ≡ false
  pub waits : d.submission.after ≡ meta.after
  pub follows : d.submission.follow ≡ meta.follow

abbrev some_of : Result Event Reason → Option Event
some_of (Ok e) = Some e
some_of (Err r) = None

none_is : {X : Type 0} (x : X) → None ≡ Some x → ⊥
none_is x h = cc

true_is : true ≡ false → ⊥
true_is h = cc

submitted_says : (header : HeaderType) (meta : SubmitMeta) (d : Demand) (r : Reading SubmitMeta) → r ≡ Ok meta → demanded (Some (submitted header r)) ≡ Some d → Says d meta
submitted_says header meta d r is h =
    let at : ◌≡◌ {A = Option Demand} (Some (record { direct = false; submission = submission header meta })) (Some d) = ap (λ x. demanded (Some (submitted header x))) (sym is) ∙ h in
    let same = some_inj at in
    record { direct = ap (λ (x : Demand). x.direct) (sym same); waits = ap (λ (x : Demand). x.submission.after) (sym same); follows = ap (λ (x : Demand). x.submission.follow) (sym same) }

under_says : (m : Message) (meta : SubmitMeta) (d : Demand) (r : Reading HeaderType) → read_submit m.metadata ≡ Ok meta → demanded (some_of (event_under Task m r)) ≡ Some d → Says d meta
under_says m meta d (Err fault) read h = absurd (none_is d h)
under_says m meta d (Ok header) read h =
    (elim (is_request header.msg_type) as (λ b. demanded (some_of (cond b (Ok (submitted header (read_submit m.metadata))) (Err BadType))) ≡ Some d → Says d meta) [
      | true ↦ λ k. submitted_says header meta d (read_submit m.metadata) read k
      | false ↦ λ k. absurd (none_is d k)
    ]) h

-- on a connection for tasks a message means what its metadata says
task_says : (m : Message) (meta : SubmitMeta) (d : Demand) → read_submit m.metadata ≡ Ok meta → demanded (meaning m Task) ≡ Some d → Says d meta
unfolding event_of
task_says m meta d read h = under_says m meta d (read_header m.header) read h

demand_of : (f : Facts) (m : Message) (o : Option Event) (d : Demand) → accepted f m o ≡ Some d → demanded o ≡ Some d
demand_of f m o d h =
    let at = then_some (accepted_as f m) (demanded o) d h in
    let is = if_some (is_accepted (acceptance f at.0 m)) (Some at.0) d at.2 in
    at.1 ∙ is.1

pub accepted_task : (f : Facts) (conn : ℕ) (m : Message) (meta : SubmitMeta) (d : Demand) → channel_on f.connections conn ≡ Some Task → read_submit m.metadata ≡ Ok meta → accepted f m (event_on f conn m) ≡ Some d → Says d meta
accepted_task f conn m meta d on read h =
    task_says m meta d read (ap (λ c. demanded (option_and_then (meaning m) c)) (sym on) ∙ demand_of f m (event_on f conn m) d h)

-- THE REQUEST

-- a request for a task, with these dependencies
pub record RequestSays (r : Request) (meta : SubmitMeta) : Type 0 where
  pub direct : is_direct r ≡ false
  pub waits : r.after ≡ meta.after
  pub follows : r.follow ≡ meta.follow

made_says : (f : Facts) (conn moment : ℕ) (m : Message) (d : Demand) (meta : SubmitMeta) → Says d meta → RequestSays (request_made f conn moment m d) meta
made_says f conn moment m d meta says =
    (elim d.direct as (λ b. b ≡ false → RequestSays (cond b (request_direct f conn moment m d.submission) (request_submit f conn moment m d.submission)) meta) [
      | true ↦ λ k. absurd (true_is k)
      | false ↦ λ _. record { direct = refl; waits = says.waits; follows = says.follows }
    ]) says.direct

-- the request that an accepted demand makes
request_new : (f : Facts) (conn moment word : ℕ) (m : Message) (d : Demand) → f.request_of d.submission.id ≡ None → accepted f m (event_on f conn m) ≡ Some d →
    (next f (Input (In conn moment word m))).request_of d.submission.id ≡ Some (request_made f conn moment m d)
request_new f conn moment word m d none is = rw (none, is, id_self d.submission.id) refl

pub made : (older : History) (conn moment word : ℕ) (m : Message) (meta : SubmitMeta) (d : Demand) →
    channel_on (facts older).connections conn ≡ Some Task → read_submit m.metadata ≡ Ok meta → accepted (facts older) m (event_on (facts older) conn m) ≡ Some d →
    (r : Request) × (RequestSays r meta) × ((facts (Input (In conn moment word m) ∷ older)).request_of d.submission.id ≡ Some r)
made older conn moment word m meta d on read is =
    let f = facts older in
    let none = unknown_none older d.submission.id (accepted_says f m (event_on f conn m) d is).unlisted in
    (request_made f conn moment m d, made_says f conn moment m d meta (accepted_task f conn m meta d on read is), request_new f conn moment word m d none is)
