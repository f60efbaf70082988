-- Every known id is a name: a header's id is one, and so is the id of a copy.
use Rattle.std.proofs.Common.{◌≡◌, ℕ, ◌+◌, ◌<◌, ◌≤◌, List, [], ◌∷◌, ◌++◌, length, Bool, true, false, cond, refl, sym, ap, subst, arith, Option, Some, None, Result, Ok, Err, map}
use Rattle.std.specs.Prelude.{All, codes, decimal, nat_lt, nat_le, ◌==◌}
use Rattle.std.specs.List.{AllByRecursion as Each}
use Rattle.std.specs.Option.{option_and_then}
use Rattle.std.proofs.lemmas.Bool.{and_parts, ltb-true, leb-true, ltb-false}
use Rattle.std.proofs.lemmas.List.{length-append}
use Rattle.std.proofs.lemmas.List.Elements.{All-from_recursion}
use Rattle.std.proofs.lemmas.Fmt.{length-decimal-le}
use Rattle.serde_json.specs.Data.{Data}
use Rattle.serde_json.specs.Find.{get, as_str}
use Rattle.cluster_types.specs.Limits.{most_ids}
use Rattle.cluster_types.specs.declared.config.Channel.{Channel}
use Rattle.cluster_types.specs.declared.config.Channel.TheVariants.{Hub, Task, Mux, Engine}
use Rattle.cluster_types.specs.declared.message.Message.{Message}
use Rattle.cluster_types.specs.declared.event.Event.{Event}
use Rattle.cluster_types.specs.declared.event.Query.TheVariants.{Db}
use Rattle.cluster_types.specs.declared.event.Event.TheVariants.{Submit, Direct, Reply, Join as JoinEvent, Leave, Pong as PongEvent, Purge as PurgeEvent, Resubmit as ResubmitEvent, Abort as AbortEvent, Ask}
use Rattle.cluster_types.specs.declared.event.Reason.{Reason}
use Rattle.cluster_types.specs.declared.event.Reason.TheVariants.{BadType, NoTarget}
use Rattle.cluster_types.specs.declared.entry.Input.TheVariants.{Open, Up, Down, In, Beat, Time}
use Rattle.cluster_types.specs.declared.entry.Entry.{Entry}
use Rattle.cluster_types.specs.declared.entry.Entry.TheVariants.{Input, Hand, Settle, Lose}
use Rattle.cluster_defs.specs.declared.header.Header.{Header as HeaderType}
use Rattle.cluster_defs.specs.declared.content.SubmitMeta.{SubmitMeta}
use Rattle.cluster_defs.specs.declared.content.ReplyMeta.{ReplyMeta}
use Rattle.cluster_defs.specs.declared.content.HubContent.{HubContent}
use Rattle.cluster_defs.specs.declared.content.HubContent.TheVariants.{Connection as ConnectionContent, History as HistoryContent, Shutdown as ShutdownContent, Queue as QueueContent, Result as ResultContent, Purge as PurgeContent, Resubmit as ResubmitContent, Abort as AbortContent, Join, Pong}
use Rattle.cluster_defs.specs.declared.hub_request.RequestType.{RequestType}
use Rattle.cluster_defs.specs.declared.hub_request.RequestType.TheVariants.{Registration, Beat as BeatRequest}
use Rattle.cluster_defs.specs.Json.{Reading, reading_then, read_object}
use Rattle.cluster_defs.specs.Fields.{is_id, id_of, or_bad, id_from, text_from}
use Rattle.cluster_defs.specs.Header.{header_from, read_header}
use Rattle.cluster_defs.specs.Submit.{read_submit}
use Rattle.cluster_defs.specs.Reply.{read_reply}
use Rattle.cluster_defs.specs.Hub.{request_of, read_content}
use Rattle.cluster_defs.specs.Texts.{resubmit_id}
use Rattle.cluster_defs.specs.Event.{event_of, event_under, event_of_content, request_event, hub_request, hub_event, hub_meaning, is_db, submitted, mux_event, echo_event, replied, reply_event, engine_event, submission, direct_meta, is_request, is_leave, is_reply, is_registration, is_echo}
use Rattle.record_codec.specs.Spelling.{IsName}
use Rattle.cluster_defs.specs.Words.{Id}
use Rattle.cluster_defs.specs.Connections.{channel_on}
use Rattle.cluster_defs.specs.Facts.{Facts, meaning, event_on}
use Rattle.cluster_defs.specs.Acceptance.{Demand, demanded, accepted, accepted_as, accepted_id, acceptance, is_accepted}
use Rattle.cluster_defs.specs.Purges.{Copy, copies_from, copied_by, copied_ids}
use Rattle.cluster_defs.specs.Steps.{next}
use Rattle.cluster_defs.specs.Histories.{History, facts}
use Rattle.cluster_laws.proofs.Copies.{copies_of}

-- what each of two lists has, each of both has
pub each_append : {X : Type 0} (P : X → Type 0) (xs ys : List X) → Each P xs → Each P ys → Each P (xs ++ ys)
each_append P [] ys a b = b
each_append P (x ∷ xs) ys a b = (a.0, each_append P xs ys a.1 b)

-- READING

id_name : (text : List ℕ) → is_id text ≡ true → IsName text
id_name text h =
    let both = and_parts (nat_lt 0 (length text)) (nat_le (length text) 255) h in
    let some : 0 < length text = ltb-true 0 (length text) both.0 in
    let most : length text ≤ 255 = leb-true (length text) 255 both.1 in
    (some, omega arith)

abbrev IdNames : Reading (List ℕ) → Type 0
IdNames (Ok text) = IsName text
IdNames (Err fault) = Unit {0}

text_names : (field text : List ℕ) → IdNames (or_bad field (id_of (Some text)))
text_names field text =
    elim (is_id text) as (λ b. is_id text ≡ b → IdNames (or_bad field (cond b (Some text) None))) [
      | true ↦ λ is. id_name text is
      | false ↦ λ is. tt
    ] refl

found_names : (field : List ℕ) (o : Option (List ℕ)) → IdNames (or_bad field (id_of o))
found_names field None = tt
found_names field (Some text) = text_names field text

from_names : (field : List ℕ) (o : Option Data) → IdNames (id_from field o)
from_names field None = tt
from_names field (Some value) = found_names field (as_str value)

abbrev HeaderNames : Reading HeaderType → Type 0
HeaderNames (Ok header) = IsName header.msg_id
HeaderNames (Err fault) = Unit {0}

both_names : (session username : List ℕ) (first second : Reading (List ℕ)) → IdNames first →
    HeaderNames (reading_then first (λ msg_id. reading_then second (λ msg_type. Ok (record { msg_id = msg_id; msg_type = msg_type; session = session; username = username }))))
both_names session username (Err fault) second h = tt
both_names session username (Ok id) (Err fault) h = tt
both_names session username (Ok id) (Ok kind) h = h

object_names : (value : Reading Data) → HeaderNames (reading_then value header_from)
object_names (Err fault) = tt
object_names (Ok value) = both_names (text_from (get (codes "session") value)) (text_from (get (codes "username") value)) (id_from (codes "msg_id") (get (codes "msg_id") value)) (id_from (codes "msg_type") (get (codes "msg_type") value)) (from_names (codes "msg_id") (get (codes "msg_id") value))

header_names : (octets : List ℕ) → HeaderNames (read_header octets)
unfolding read_header
header_names octets = object_names (read_object octets)

-- EVENTS

abbrev Names : Event → Type 0
Names (Submit s) = IsName s.id
Names (Direct s) = IsName s.id
Names _ = Unit {0}

abbrev Said : Result Event Reason → Type 0
Said (Ok event) = Names event
Said (Err reason) = Unit {0}

content_names : (content : HubContent) → Names (event_of_content content)
content_names ConnectionContent = tt
content_names HistoryContent = tt
content_names ShutdownContent = tt
content_names (QueueContent targets verbose) = tt
content_names (ResultContent ids status_only) = tt
content_names (PurgeContent all ids) = tt
content_names (ResubmitContent ids) = tt
content_names (AbortContent ids) = tt
content_names (Join uuid) = tt
content_names (Pong beat) = tt

request_names : (content : Reading HubContent) → Names (request_event content)
request_names (Ok content) = content_names content
request_names (Err fault) = tt

hub_names : (content : List ℕ) (request : Option RequestType) → Names (hub_event content request)
hub_names content None = tt
hub_names content (Some request) = request_names (read_content request content)

choice_names : (b : Bool) (x y : Event) → Names x → Names y → Names (cond b x y)
choice_names true x y h k = h
choice_names false x y h k = k

meaning_names : (msg_type content : List ℕ) → Names (hub_meaning msg_type content)
meaning_names msg_type content = choice_names (is_db msg_type) (Ask (Db content)) (hub_event content (hub_request (request_of msg_type))) tt (hub_names content (hub_request (request_of msg_type)))

choice_said : (b : Bool) (x y : Result Event Reason) → Said x → Said y → Said (cond b x y)
choice_said true x y h k = h
choice_said false x y h k = k

submit_names : (header : HeaderType) → IsName header.msg_id → (meta : Reading SubmitMeta) → Names (submitted header meta)
submit_names header h (Ok meta) = h
submit_names header h (Err fault) = tt

mux_said : (header : HeaderType) → IsName header.msg_id → (target : List ℕ) → Said (mux_event header target)
mux_said header h target =
    choice_said (is_request header.msg_type) (cond (length target == 0) (Err NoTarget) (Ok (Direct (submission header direct_meta)))) (Err BadType)
    (choice_said (length target == 0) (Err NoTarget) (Ok (Direct (submission header direct_meta))) tt h) tt

echo_said : (content : Reading HubContent) → Said (echo_event content)
echo_said (Ok content) = content_names content
echo_said (Err fault) = tt

replied_said : (header : HeaderType) (meta : Reading ReplyMeta) → Said (replied header meta)
replied_said header (Ok meta) = tt
replied_said header (Err fault) = tt

engine_said : (header : HeaderType) (m : Message) → Said (engine_event header m)
engine_said header m =
    choice_said (is_registration (request_of header.msg_type)) (Ok (request_event (read_content Registration m.content)))
    (cond (is_echo (request_of header.msg_type)) (echo_event (read_content BeatRequest m.content)) (reply_event header m)) (request_names (read_content Registration m.content))
    (choice_said (is_echo (request_of header.msg_type)) (echo_event (read_content BeatRequest m.content)) (reply_event header m) (echo_said (read_content BeatRequest m.content))
    (choice_said (is_leave header.msg_type) (Ok Leave) (cond (is_reply header.msg_type) (replied header (read_reply m.parent m.metadata m.content)) (Err BadType)) tt
    (choice_said (is_reply header.msg_type) (replied header (read_reply m.parent m.metadata m.content)) (Err BadType) (replied_said header (read_reply m.parent m.metadata m.content)) tt)))

under_said : (channel : Channel) (m : Message) (header : Reading HeaderType) → HeaderNames header → Said (event_under channel m header)
under_said channel m (Err fault) h = tt
under_said Hub m (Ok header) h = meaning_names header.msg_type m.content
under_said Task m (Ok header) h = choice_said (is_request header.msg_type) (Ok (submitted header (read_submit m.metadata))) (Err BadType) (submit_names header h (read_submit m.metadata)) tt
under_said Mux m (Ok header) h = mux_said header h m.target
under_said Engine m (Ok header) h = engine_said header m

event_said : (channel : Channel) (m : Message) → Said (event_of channel m)
unfolding event_of
event_said channel m = under_said channel m (read_header m.header) (header_names m.header)

abbrev Told : Option Event → Type 0
Told (Some event) = Names event
Told None = Unit {0}

some_of : Result Event Reason → Option Event
some_of (Ok event) = Some event
some_of (Err reason) = None

told_of : (r : Result Event Reason) → Said r → Told (some_of r)
unfolding some_of
told_of (Ok event) h = h
told_of (Err reason) h = tt

meant : (m : Message) (channel : Channel) (r : Result Event Reason) → event_of channel m ≡ r → Said r → Told (meaning m channel)
unfolding event_of some_of
meant m channel r is h = subst Told (ap some_of (sym is)) (told_of r h)

on_names : (m : Message) (channel : Option Channel) → Told (option_and_then (meaning m) channel)
on_names m None = tt
on_names m (Some channel) = meant m channel (event_of channel m) refl (event_said channel m)

-- KNOWN IDS

abbrev DemandNames : Option Demand → Type 0
DemandNames (Some d) = IsName d.submission.id
DemandNames None = Unit {0}

demand_names : (event : Option Event) → Told event → DemandNames (demanded event)
demand_names None h = tt
demand_names (Some (Submit s)) h = h
demand_names (Some (Direct s)) h = h
demand_names (Some (Reply name header ok declined)) h = tt
demand_names (Some (JoinEvent uuid)) h = tt
demand_names (Some Leave) h = tt
demand_names (Some (PongEvent beat)) h = tt
demand_names (Some (PurgeEvent all ids)) h = tt
demand_names (Some (ResubmitEvent ids)) h = tt
demand_names (Some (AbortEvent ids)) h = tt
demand_names (Some (Ask query)) h = tt

accepted_one : (d : Demand) → IsName d.submission.id → (b : Bool) → Each IsName (accepted_id (cond b (Some d) None))
accepted_one d h true = (h, tt)
accepted_one d h false = tt

accepted_names : (f : Facts) (m : Message) (o : Option Demand) → DemandNames o → Each IsName (accepted_id (option_and_then (accepted_as f m) o))
accepted_names f m None h = tt
accepted_names f m (Some d) h = accepted_one d h (is_accepted (acceptance f d m))

number_name : (n : ℕ) → n ≤ most_ids → IsName (resubmit_id n)
unfolding resubmit_id
number_name n le =
    let digits : length (decimal n) ≤ 7 = length-decimal-le 7 n (omega arith) (omega arith) (omega arith) in
    let long : length (resubmit_id n) ≡ 9 + length (decimal n) = length-append (codes "resubmit:") (decimal n) in
    let some : 0 < 9 + length (decimal n) = omega arith in
    let most : 9 + length (decimal n) < 256 = omega (arith, digits) in
    (subst (λ k. 0 < k) (sym long) some, subst (λ k. k < 256) (sym long) most)

copy_names : (number : ℕ) (ids : List Id) → number + length ids ≤ most_ids + 1 → Each IsName (map (λ (c : Copy). c.new) (copies_from number ids))
copy_names number [] within = tt
copy_names number (old ∷ ids) within = (number_name number (omega arith), copy_names (number + 1) ids (omega arith))

copied_names : (f : Facts) (event : Option Event) (c : Option (List Copy)) → copied_by f event ≡ c → Each IsName (copied_ids c)
copied_names f event None is = tt
copied_names f event (Some made) is =
    let of = copies_of f event made is in
    let room : length f.known + length of.0 ≤ most_ids = ltb-false most_ids (length f.known + length of.0) of.1.fits in
    subst (λ x. Each IsName (map (λ (c : Copy). c.new) x)) (sym of.1.are) (copy_names (length f.known + 1) of.0 (omega arith))

in_names : (f : Facts) (m : Message) (event : Option Event) → Told event → Each IsName f.known → Each IsName (f.known ++ accepted_id (accepted f m event) ++ copied_ids (copied_by f event))
in_names f m event told before =
    each_append IsName (f.known ++ accepted_id (accepted f m event)) (copied_ids (copied_by f event))
    (each_append IsName f.known (accepted_id (accepted f m event)) before (accepted_names f m (demanded event) (demand_names event told)))
    (copied_names f event (copied_by f event) refl)

next_names : (f : Facts) (e : Entry) → Each IsName f.known → Each IsName (next f e).known
next_names f (Hand i n) before = before
next_names f (Settle i v c) before = before
next_names f (Lose n) before = before
next_names f (Input (Open moment scheme hwm misses)) before = before
next_names f (Input (Up conn channel moment word identity)) before = before
next_names f (Input (Down conn moment word)) before = before
next_names f (Input (Beat moment word)) before = before
next_names f (Input (Time moment word)) before = before
next_names f (Input (In conn moment word m)) before = in_names f m (event_on f conn m) (on_names m (channel_on f.connections conn)) before

pub each_names : (history : History) → Each IsName (facts history).known
each_names [] = tt
each_names (e ∷ older) = next_names (facts older) e (each_names older)

pub known_names : (history : History) → All IsName (facts history).known
known_names history = All-from_recursion IsName (facts history).known (each_names history)
