-- What a message means doesn't change with the contents that a purge lets go: of a request any content, of a reply all but its status.
use Rattle.std.proofs.Common.{◌≡◌, ℕ, List, Bool, true, false, cond, refl, ap, subst, Option, Some, None, Result, Ok, Err}
use Rattle.std.specs.Str.{is_utf8, chars}
use Rattle.std.specs.Prelude.{length, ◌==◌}
use Rattle.serde_json.proofs.OnLiterals.{serde_json_on_literals}
use Rattle.cluster_types.specs.declared.config.Channel.{Channel}
use Rattle.cluster_types.specs.declared.config.Channel.TheVariants.{Hub, Task, Mux, Engine}
use Rattle.cluster_types.specs.declared.message.Message.{Message}
use Rattle.cluster_types.specs.declared.event.Event.{Event}
use Rattle.cluster_types.specs.declared.event.Event.TheVariants.{Submit, Direct, Reply, Leave, Ask}
use Rattle.cluster_types.specs.declared.event.Query.TheVariants.{Db}
use Rattle.cluster_types.specs.declared.event.Reason.{Reason}
use Rattle.cluster_types.specs.declared.event.Reason.TheVariants.{BadHeader, BadType, NoTarget, BadReply}
use Rattle.cluster_defs.specs.declared.header.Header.{Header as HeaderType}
use Rattle.cluster_defs.specs.declared.content.SubmitMeta.{SubmitMeta}
use Rattle.cluster_defs.specs.declared.content.ReplyMeta.{ReplyMeta}
use Rattle.cluster_defs.specs.declared.content.HubContent.{HubContent}
use Rattle.cluster_defs.specs.declared.content.HubContent.TheVariants.{Connection as ConnectionContent, History as HistoryContent, Shutdown as ShutdownContent, Queue as QueueContent, Result as ResultContent, Purge as PurgeContent, Resubmit as ResubmitContent, Abort as AbortContent, Join, Pong}
use Rattle.cluster_defs.specs.declared.hub_request.RequestType.{RequestType}
use Rattle.cluster_defs.specs.declared.hub_request.RequestType.TheVariants.{Registration, Beat}
use Rattle.cluster_defs.specs.Json.{Reading, reading_then}
use Rattle.cluster_defs.specs.Header.{read_header}
use Rattle.cluster_defs.specs.Submit.{read_submit}
use Rattle.cluster_defs.specs.Reply.{read_reply, read_task, read_declined, read_status}
use Rattle.cluster_defs.specs.Hub.{request_of, read_content}
use Rattle.cluster_defs.specs.Event.{event_of, event_under, event_of_content as content_event, request_event, hub_request, hub_event, hub_meaning, is_db, submitted, task_event, mux_event, engine_event, reply_event, replied, echo_event, is_registration, is_echo, is_leave, is_reply, is_request, direct_meta, submission}
use Rattle.cluster_defs.specs.Thin.{short_reply}

-- a message with another content and other buffers
abbrev pub with_body : List ℕ → List (List ℕ) → Message → Message
with_body content buffers m = record m { content = content; buffers = buffers }

-- WHICH EVENTS THERE ARE

abbrev pub is_demand : Event → Bool
is_demand (Submit s) = true
is_demand (Direct s) = true
is_demand _ = false

abbrev pub is_answer : Event → Bool
is_answer (Reply task header ok declined) = true
is_answer _ = false

content_plain : (c : HubContent) → (is_demand (content_event c) ≡ false) × (is_answer (content_event c) ≡ false)
content_plain ConnectionContent = (refl, refl)
content_plain HistoryContent = (refl, refl)
content_plain ShutdownContent = (refl, refl)
content_plain (QueueContent targets verbose) = (refl, refl)
content_plain (ResultContent ids status_only) = (refl, refl)
content_plain (PurgeContent all ids) = (refl, refl)
content_plain (ResubmitContent ids) = (refl, refl)
content_plain (AbortContent ids) = (refl, refl)
content_plain (Join uuid) = (refl, refl)
content_plain (Pong beat) = (refl, refl)

asked_plain : (r : Reading HubContent) → (is_demand (request_event r) ≡ false) × (is_answer (request_event r) ≡ false)
asked_plain (Ok c) = content_plain c
asked_plain (Err fault) = (refl, refl)

hub_plain : (content : List ℕ) (r : Option RequestType) → (is_demand (hub_event content r) ≡ false) × (is_answer (hub_event content r) ≡ false)
hub_plain content None = (refl, refl)
hub_plain content (Some request) = asked_plain (read_content request content)

hub_meaning_plain : (msg_type content : List ℕ) → (is_demand (hub_meaning msg_type content) ≡ false) × (is_answer (hub_meaning msg_type content) ≡ false)
hub_meaning_plain msg_type content =
    elim (is_db msg_type) as (λ b. (is_demand (cond b (Ask (Db content)) (hub_event content (hub_request (request_of msg_type)))) ≡ false) × (is_answer (cond b (Ask (Db content)) (hub_event content (hub_request (request_of msg_type)))) ≡ false)) [
      | true ↦ (refl, refl)
      | false ↦ hub_plain content (hub_request (request_of msg_type))
    ]

ok_same : {A B : Type 0} (x y : A) → ◌≡◌ {A = Result A B} (Ok x) (Ok y) → x ≡ y
ok_same {A} {B} x y h = ap or_this h
  where
    or_this : Result A B → A
    or_this (Ok z) = z
    or_this (Err e) = x

clash : (test : Event → Bool) (x e : Event) → test x ≡ false → ◌≡◌ {A = Result Event Reason} (Ok x) (Ok e) → test e ≡ true → ⊥
clash test x e off is on =
    let same = ok_same x e is in
    let also : test e ≡ false = subst (λ y. test y ≡ false) same off in
    cc

never : (e : Event) (r : Reason) → ◌≡◌ {A = Result Event Reason} (Err r) (Ok e) → ⊥
never e r h = cc

-- A REQUEST'S CONTENT ISN'T READ

engine_demand : (header : HeaderType) (m : Message) (e : Event) → engine_event header m ≡ Ok e → is_demand e ≡ true → ⊥
engine_demand header m e h on =
    (elim (is_registration (request_of header.msg_type)) as (λ b. cond b (Ok (request_event (read_content Registration m.content))) (cond (is_echo (request_of header.msg_type)) (echo_event (read_content Beat m.content)) (reply_event header m)) ≡ Ok e → ⊥) [
      | true ↦ λ k. clash is_demand _ e ((asked_plain (read_content Registration m.content)).0) k on
      | false ↦ λ k. (elim (is_echo (request_of header.msg_type)) as (λ b. cond b (echo_event (read_content Beat m.content)) (reply_event header m) ≡ Ok e → ⊥) [
        | true ↦ λ l. echo (read_content Beat m.content) l
        | false ↦ λ l. (elim (is_leave header.msg_type) as (λ b. cond b (Ok Leave) (cond (is_reply header.msg_type) (replied header (read_reply m.parent m.metadata m.content)) (Err BadType)) ≡ Ok e → ⊥) [
          | true ↦ λ n. clash is_demand Leave e refl n on
          | false ↦ λ n. (elim (is_reply header.msg_type) as (λ b. cond b (replied header (read_reply m.parent m.metadata m.content)) (Err BadType) ≡ Ok e → ⊥) [
            | true ↦ λ o. answered (read_reply m.parent m.metadata m.content) o
            | false ↦ λ o. never e BadType o
          ]) n
        ]) l
      ]) k
    ]) h
  where
    echo : (r : Reading HubContent) → echo_event r ≡ Ok e → ⊥
    echo (Ok c) l = clash is_demand _ e ((content_plain c).0) l on
    echo (Err fault) l = never e BadReply l

    answered : (r : Reading ReplyMeta) → replied header r ≡ Ok e → ⊥
    answered (Ok meta) l = clash is_demand _ e refl l on
    answered (Err fault) l = never e BadReply l

under_demand : (channel : Channel) (m : Message) (content : List ℕ) (buffers : List (List ℕ)) (r : Reading HeaderType) (e : Event) → event_under channel m r ≡ Ok e → is_demand e ≡ true → event_under channel (with_body content buffers m) r ≡ Ok e
under_demand channel m content buffers (Err fault) e h on = absurd (never e BadHeader h)
under_demand Hub m content buffers (Ok header) e h on = absurd (clash is_demand _ e ((hub_meaning_plain header.msg_type m.content).0) h on)
under_demand Task m content buffers (Ok header) e h on = h
under_demand Mux m content buffers (Ok header) e h on = h
under_demand Engine m content buffers (Ok header) e h on = absurd (engine_demand header m e h on)

-- a Submit or Direct is the same whatever the content and the buffers
pub demand_event : (channel : Channel) (m : Message) (content : List ℕ) (buffers : List (List ℕ)) (e : Event) → event_of channel m ≡ Ok e → is_demand e ≡ true → event_of channel (with_body content buffers m) ≡ Ok e
unfolding event_of
demand_event channel m content buffers e h on = under_demand channel m content buffers (read_header m.header) e h on

-- OF A REPLY'S CONTENT THE STATUS IS READ

short_status : (ok : Bool) → read_status (short_reply ok) ≡ Ok ok
unfolding serde_json_on_literals is_utf8 chars read_status short_reply
short_status true = refl
short_status false = refl

reply_parts : (task id : List ℕ) (a b c d : Bool) (name header : List ℕ) → Reply task id a b ≡ Reply name header c d → a ≡ c
reply_parts task id a b c d name header h = ap ok_of h
  where
    ok_of : Event → Bool
    ok_of (Reply t i ok declined) = ok
    ok_of _ = a

replied_short : (header : HeaderType) (m : Message) (name id : List ℕ) (ok declined : Bool) → replied header (read_reply m.parent m.metadata m.content) ≡ Ok (Reply name id ok declined) →
    replied header (read_reply m.parent m.metadata (short_reply ok)) ≡ Ok (Reply name id ok declined)
replied_short header m name id ok declined h = at_task (read_task m.parent) h
  where
    at_status : (task : List ℕ) (out : Bool) (s : Reading Bool) → replied header (reading_then s (λ b. Ok (record { task = task; ok = b; declined = out }))) ≡ Ok (Reply name id ok declined) → replied header (reading_then (read_status (short_reply ok)) (λ b. Ok (record { task = task; ok = b; declined = out }))) ≡ Ok (Reply name id ok declined)
    at_status task out (Err fault) k = absurd (never _ BadReply k)
    at_status task out (Ok b) k =
        let same : b ≡ ok = reply_parts task header.msg_id b out ok declined name id (ok_same _ _ k) in
        rw (short_status ok) (subst (λ x. replied header (Ok (record { task = task; ok = x; declined = out })) ≡ Ok (Reply name id ok declined)) same k)

    at_declined : (task : List ℕ) (d : Reading Bool) → replied header (reading_then d (λ out. reading_then (read_status m.content) (λ b. Ok (record { task = task; ok = b; declined = out })))) ≡ Ok (Reply name id ok declined) → replied header (reading_then d (λ out. reading_then (read_status (short_reply ok)) (λ b. Ok (record { task = task; ok = b; declined = out })))) ≡ Ok (Reply name id ok declined)
    at_declined task (Err fault) k = absurd (never _ BadReply k)
    at_declined task (Ok out) k = at_status task out (read_status m.content) k

    at_task : (t : Reading (List ℕ)) → replied header (reading_then t (λ task. reading_then (read_declined m.metadata) (λ out. reading_then (read_status m.content) (λ b. Ok (record { task = task; ok = b; declined = out }))))) ≡ Ok (Reply name id ok declined) → replied header (reading_then t (λ task. reading_then (read_declined m.metadata) (λ out. reading_then (read_status (short_reply ok)) (λ b. Ok (record { task = task; ok = b; declined = out }))))) ≡ Ok (Reply name id ok declined)
    at_task (Err fault) k = absurd (never _ BadReply k)
    at_task (Ok task) k = at_declined task (read_declined m.metadata) k

engine_reply : (header : HeaderType) (m : Message) (buffers : List (List ℕ)) (name id : List ℕ) (ok declined : Bool) → engine_event header m ≡ Ok (Reply name id ok declined) →
    engine_event header (with_body (short_reply ok) buffers m) ≡ Ok (Reply name id ok declined)
engine_reply header m buffers name id ok declined h =
    let e = Reply name id ok declined in
    let n : Message = with_body (short_reply ok) buffers m in
    (elim (is_registration (request_of header.msg_type)) as (λ b. cond b (Ok (request_event (read_content Registration m.content))) (cond (is_echo (request_of header.msg_type)) (echo_event (read_content Beat m.content)) (reply_event header m)) ≡ Ok e → cond b (Ok (request_event (read_content Registration n.content))) (cond (is_echo (request_of header.msg_type)) (echo_event (read_content Beat n.content)) (reply_event header n)) ≡ Ok e) [
      | true ↦ λ k. absurd (clash is_answer _ e ((asked_plain (read_content Registration m.content)).1) k refl)
      | false ↦ λ k. (elim (is_echo (request_of header.msg_type)) as (λ b. cond b (echo_event (read_content Beat m.content)) (reply_event header m) ≡ Ok e → cond b (echo_event (read_content Beat n.content)) (reply_event header n) ≡ Ok e) [
        | true ↦ λ l. absurd (echo (read_content Beat m.content) l)
        | false ↦ λ l. (elim (is_leave header.msg_type) as (λ b. cond b (Ok Leave) (cond (is_reply header.msg_type) (replied header (read_reply m.parent m.metadata m.content)) (Err BadType)) ≡ Ok e → cond b (Ok Leave) (cond (is_reply header.msg_type) (replied header (read_reply n.parent n.metadata n.content)) (Err BadType)) ≡ Ok e) [
          | true ↦ λ o. o
          | false ↦ λ o. (elim (is_reply header.msg_type) as (λ b. cond b (replied header (read_reply m.parent m.metadata m.content)) (Err BadType) ≡ Ok e → cond b (replied header (read_reply n.parent n.metadata n.content)) (Err BadType) ≡ Ok e) [
            | true ↦ λ q. replied_short header m name id ok declined q
            | false ↦ λ q. q
          ]) o
        ]) l
      ]) k
    ]) h
  where
    echo : (r : Reading HubContent) → echo_event r ≡ Ok (Reply name id ok declined) → ⊥
    echo (Ok c) l = clash is_answer _ _ ((content_plain c).1) l refl
    echo (Err fault) l = never _ BadReply l

task_reply : (header : HeaderType) (metadata : List ℕ) (e : Event) → task_event header metadata ≡ Ok e → is_answer e ≡ true → ⊥
task_reply header metadata e h on =
    (elim (is_request header.msg_type) as (λ b. cond b (Ok (submitted header (read_submit metadata))) (Err BadType) ≡ Ok e → ⊥) [
      | true ↦ λ k. plain (read_submit metadata) k
      | false ↦ λ k. never e BadType k
    ]) h
  where
    plain : (r : Reading SubmitMeta) → ◌≡◌ {A = Result Event Reason} (Ok (submitted header r)) (Ok e) → ⊥
    plain (Ok meta) k = clash is_answer _ e refl k on
    plain (Err fault) k = clash is_answer _ e refl k on

mux_reply : (header : HeaderType) (target : List ℕ) (e : Event) → mux_event header target ≡ Ok e → is_answer e ≡ true → ⊥
mux_reply header target e h on =
    (elim (is_request header.msg_type) as (λ b. cond b (cond (length target == 0) (Err NoTarget) (Ok (Direct (submission header direct_meta)))) (Err BadType) ≡ Ok e → ⊥) [
      | true ↦ λ k. (elim (length target == 0) as (λ b. cond b (Err NoTarget) (Ok (Direct (submission header direct_meta))) ≡ Ok e → ⊥) [
        | true ↦ λ l. never e NoTarget l
        | false ↦ λ l. clash is_answer _ e refl l on
      ]) k
      | false ↦ λ k. never e BadType k
    ]) h

under_reply : (channel : Channel) (m : Message) (buffers : List (List ℕ)) (r : Reading HeaderType) (name id : List ℕ) (ok declined : Bool) → event_under channel m r ≡ Ok (Reply name id ok declined) →
    event_under channel (with_body (short_reply ok) buffers m) r ≡ Ok (Reply name id ok declined)
under_reply channel m buffers (Err fault) name id ok declined h = absurd (never _ BadHeader h)
under_reply Hub m buffers (Ok header) name id ok declined h = absurd (clash is_answer _ _ ((hub_meaning_plain header.msg_type m.content).1) h refl)
under_reply Task m buffers (Ok header) name id ok declined h = absurd (task_reply header m.metadata _ h refl)
under_reply Mux m buffers (Ok header) name id ok declined h = absurd (mux_reply header m.target _ h refl)
under_reply Engine m buffers (Ok header) name id ok declined h = engine_reply header m buffers name id ok declined h

-- a Reply is the same with its status alone
pub reply_event_same : (channel : Channel) (m : Message) (buffers : List (List ℕ)) (name id : List ℕ) (ok declined : Bool) → event_of channel m ≡ Ok (Reply name id ok declined) →
    event_of channel (with_body (short_reply ok) buffers m) ≡ Ok (Reply name id ok declined)
unfolding event_of
reply_event_same channel m buffers name id ok declined h = under_reply channel m buffers (read_header m.header) name id ok declined h
