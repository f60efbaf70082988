-- What each message makes of the data.
use Rattle.std.proofs.Common.{◌≡◌, ℕ, List, [], append-nil, map, Bool, true, false, cond, ◌||◌, refl, sym, ap, ◌∙◌, subst, bytes_eq, Option, Some, None}
use Rattle.std.specs.Prelude.{if◌then◌else◌}
use Rattle.std.proofs.lemmas.Bool.{false_from_ne_true, both_ways}
use Rattle.cluster_types.specs.declared.message.Message.{Message}
use Rattle.cluster_types.specs.declared.event.Query.{Query}
use Rattle.cluster_types.specs.declared.event.Event.{Event}
use Rattle.cluster_types.specs.declared.event.Event.TheVariants.{Reply, Join, Leave, Pong, Ask}
use Rattle.cluster_types.specs.declared.entry.Input.TheVariants.{In}
use Rattle.cluster_types.specs.declared.entry.Entry.TheVariants.{Input}
use Rattle.cluster_defs.specs.Words.{Id}
use Rattle.cluster_defs.specs.Laws.{EachOnce}
use Rattle.cluster_defs.specs.Engines.{joined, left_engine, echoed, with_engine}
use Rattle.cluster_defs.specs.Tasks.{counts, ending, after_reply, after_end}
use Rattle.cluster_defs.specs.Requests.{parts_of}
use Rattle.cluster_defs.specs.Facts.{Facts, is_direct_id}
use Rattle.cluster_defs.specs.Acceptance.{accepted}
use Rattle.cluster_defs.specs.Aborts.{aborted_by}
use Rattle.cluster_defs.specs.Purges.{purged_by, copied_by}
use Rattle.cluster_defs.specs.Steps.{step, changes, engines_in, with_joined, reply_from}
use Rattle.cluster_defs.specs.Outcomes.{number_of}
use Rattle.cluster_defs.proofs.Options.{or_else-None, same_id, id_self}
use Rattle.cluster_laws.proofs.Closed.{Closed, home_idle}
use Rattle.task_table.specs.Seen.{replied_with, changed}
use Rattle.cluster_state.specs.Plain.{Plain, look, plain_of, told, noted, engine_ended, joined_by, echoed_by, replied_by}
use Rattle.cluster_state.proofs.Lists.{changed_one, map_all}
use Rattle.cluster_state.proofs.Pieces.{seen_from, look_is}
use Rattle.cluster_state.proofs.Inputs.{ends_seen}
use Rattle.cluster_types.proofs.Booleans.{or_false}
use Rattle.cluster_types.proofs.Options.{none_of}

-- the facts after a message that makes no task, lets none go and takes none back
abbrev pub after_quiet : Facts → ℕ → ℕ → ℕ → Message → Option Event → Facts
after_quiet f conn moment word m event = record f {
  moment = if changes f conn m event then moment else f.moment;
  word = if changes f conn m event then word else f.word;
  engines = engines_in f conn event;
  by_use = with_joined f.engines.next (joined f.engines conn event) f.by_use;
  task = λ id. after_end (left_engine f.engines.live conn event) (after_reply f.engines.live conn id (is_direct_id f id) event (f.task id));
  reply_of = λ id. reply_from f conn m id event (f.reply_of id);
}

quiet : (f : Facts) (conn moment word : ℕ) (m : Message) (event : Option Event) → accepted f m event ≡ None → copied_by f event ≡ None → purged_by f event ≡ None → aborted_by f event ≡ [] →
    step f (Input (In conn moment word m)) event ≡ after_quiet f conn moment word m event
quiet f conn moment word m event no_task no_copy no_purge no_abort =
    let known = known_same in
    let request = λ (id : Id). request_same id in
    let body = λ (id : Id). body_same id in
    let task = λ (id : Id). task_same id in
    let gone = λ (id : Id). purged_same id in
    λ i. record (step f (Input (In conn moment word m)) event) {
      known = known i;
      request_of = λ id. request id i;
      body_of = λ id. body id i;
      task = λ id. task id i;
      purged = λ id. gone id i;
    }
  where
    known_same : (step f (Input (In conn moment word m)) event).known ≡ f.known
    known_same = rw (no_task, no_copy, append-nil f.known, append-nil f.known) refl

    request_same : (id : Id) → (step f (Input (In conn moment word m)) event).request_of id ≡ f.request_of id
    request_same id = rw (no_task, no_copy) (or_else-None (f.request_of id))

    body_same : (id : Id) → (step f (Input (In conn moment word m)) event).body_of id ≡ f.body_of id
    body_same id = rw (no_task, no_copy) (or_else-None (f.body_of id))

    task_same : (id : Id) → (step f (Input (In conn moment word m)) event).task id ≡ (after_quiet f conn moment word m event).task id
    task_same id = rw no_abort refl

    purged_same : (id : Id) → (step f (Input (In conn moment word m)) event).purged id ≡ f.purged id
    purged_same id = rw no_purge (or_false (f.purged id))

-- the moment and the word, where they are noted
pub noted_is : (b : Bool) (moment word : ℕ) (p : Plain) → record p { moment = cond b moment p.moment; word = cond b word p.word } ≡ noted b moment word p
noted_is true moment word p = refl
noted_is false moment word p = refl

-- ASK

pub ask_plain : (f : Facts) (conn moment word : ℕ) (m : Message) (query : Query) →
    plain_of (step f (Input (In conn moment word m)) (Some (Ask query))) ≡ noted (changes f conn m (Some (Ask query))) moment word (told f conn moment m (Ask query) (plain_of f))
ask_plain f conn moment word m query =
    let g = after_quiet f conn moment word m (Some (Ask query)) in
    let tasks : map (look g) f.known ≡ map (look f) f.known = map_all (look g) (look f) f.known (λ id. look_is g id ∙ sym (look_is f id)) in
    ap plain_of (quiet f conn moment word m (Some (Ask query)) refl refl refl refl) ∙ rw tasks refl

-- LEAVE

pub leave_plain : (f : Facts) (conn moment word : ℕ) (m : Message) → Closed f →
    plain_of (step f (Input (In conn moment word m)) (Some Leave)) ≡ noted (changes f conn m (Some Leave)) moment word (told f conn moment m Leave (plain_of f))
leave_plain f conn moment word m is =
    let g = after_quiet f conn moment word m (Some Leave) in
    let end = left_engine f.engines.live conn (Some Leave) in
    let tasks = ends_seen f g end is (λ id. look_is g id) in
    ap plain_of (quiet f conn moment word m (Some Leave) refl refl refl refl) ∙ rw tasks refl
    ∙ noted_is (changes f conn m (Some Leave)) moment word (engine_ended end (plain_of f))

-- PONG

pub pong_plain : (f : Facts) (conn moment word : ℕ) (m : Message) (beat : ℕ) →
    plain_of (step f (Input (In conn moment word m)) (Some (Pong beat))) ≡ noted (changes f conn m (Some (Pong beat))) moment word (told f conn moment m (Pong beat) (plain_of f))
pong_plain f conn moment word m beat =
    let g = after_quiet f conn moment word m (Some (Pong beat)) in
    let tasks : map (look g) f.known ≡ map (look f) f.known = map_all (look g) (look f) f.known (λ id. look_is g id ∙ sym (look_is f id)) in
    ap plain_of (quiet f conn moment word m (Some (Pong beat)) refl refl refl refl) ∙ rw tasks refl
    ∙ noted_is (changes f conn m (Some (Pong beat))) moment word (echoed_by conn (echoed f.engines.live conn f.beats (Some (Pong beat))) (plain_of f))

-- JOIN

joined_is : (f : Facts) (conn : ℕ) (o : Option (List ℕ)) →
    record (plain_of f) { engines = with_engine conn f.beats o f.engines; by_use = with_joined f.engines.next o f.by_use } ≡ joined_by conn o (plain_of f)
joined_is f conn None = refl
joined_is f conn (Some uuid) = refl

pub join_plain : (f : Facts) (conn moment word : ℕ) (m : Message) (uuid : List ℕ) →
    plain_of (step f (Input (In conn moment word m)) (Some (Join uuid))) ≡ noted (changes f conn m (Some (Join uuid))) moment word (told f conn moment m (Join uuid) (plain_of f))
join_plain f conn moment word m uuid =
    let event = Some (Join uuid) in
    let g = after_quiet f conn moment word m (Some (Join uuid)) in
    let tasks : map (look g) f.known ≡ map (look f) f.known = map_all (look g) (look f) f.known (λ id. look_is g id ∙ sym (look_is f id)) in
    ap plain_of (quiet f conn moment word m (Some (Join uuid)) refl refl refl refl) ∙ rw tasks refl
    ∙ noted_is (changes f conn m (Some (Join uuid))) moment word (record (plain_of f) { engines = engines_in f conn (Some (Join uuid)); by_use = with_joined f.engines.next (joined f.engines conn (Some (Join uuid))) f.by_use })
    ∙ ap (noted (changes f conn m (Some (Join uuid))) moment word) (joined_is f conn (joined f.engines conn (Some (Join uuid))))

-- REPLY

reply_other : (f : Facts) (conn moment word : ℕ) (m : Message) (name : Id) (header : List ℕ) (ok declined : Bool) (id : Id) → bytes_eq name id ≡ false →
    look (after_quiet f conn moment word m (Some (Reply name header ok declined))) id ≡ look f id
reply_other f conn moment word m name header ok declined id off =
    look_is (after_quiet f conn moment word m (Some (Reply name header ok declined))) id ∙ rw off (sym (look_is f id))

-- a reply that counts is for a task that isn't settled
counts_open : (f : Facts) (conn : ℕ) (header : List ℕ) (name : Id) → Closed f → counts f.engines.live conn header (f.task name) ≡ true → f.settled name ≡ None
counts_open f conn header name is on =
    none_of (f.settled name) (false_from_ne_true _ (λ some. both_ways (counts f.engines.live conn header (f.task name)) (home_idle f.engines.live (f.task name).last conn _ (is.idle name some)) on))

reply_here : (f : Facts) (conn moment word : ℕ) (m : Message) (name : Id) (header : List ℕ) (ok declined : Bool) → Closed f → counts f.engines.live conn header (f.task name) ≡ true →
    look (after_quiet f conn moment word m (Some (Reply name header ok declined))) name ≡ replied_with header (ending (is_direct_id f name) ok declined) (parts_of m) (look f name)
reply_here f conn moment word m name header ok declined is on =
    let none = counts_open f conn header name is on in
    let change = replied_with header (ending (is_direct_id f name) ok declined) (parts_of m) in
    let before : look f name ≡ seen_from name (number_of f name) (f.request_of name) (f.body_of name) (f.task name) (f.reply_of name) None (f.purged name) =
    subst (λ o. look f name ≡ seen_from name (number_of f name) (f.request_of name) (f.body_of name) (f.task name) (f.reply_of name) o (f.purged name)) none (look_is f name) in
    let g = after_quiet f conn moment word m (Some (Reply name header ok declined)) in
    let here : seen_from name (number_of f name) (f.request_of name) (f.body_of name) (g.task name) (g.reply_of name) (f.settled name) (f.purged name)
    ≡ change (seen_from name (number_of f name) (f.request_of name) (f.body_of name) (f.task name) (f.reply_of name) None (f.purged name)) =
    rw (id_self name, on, none) refl in
    look_is g name ∙ here ∙ sym (ap change before)

-- a reply that doesn't count changes nothing
reply_off : (f : Facts) (conn moment word : ℕ) (m : Message) (name : Id) (header : List ℕ) (ok declined : Bool) → counts f.engines.live conn header (f.task name) ≡ false → (id : Id) →
    look (after_quiet f conn moment word m (Some (Reply name header ok declined))) id ≡ look f id
reply_off f conn moment word m name header ok declined off id =
    elim (bytes_eq name id) as (λ b. bytes_eq name id ≡ b → look (after_quiet f conn moment word m (Some (Reply name header ok declined))) id ≡ look f id) [
      | true ↦ λ same. look_is (after_quiet f conn moment word m (Some (Reply name header ok declined))) id
          ∙ rw (same, subst (λ j. counts f.engines.live conn header (f.task j) ≡ false) (same_id name id same) off) (sym (look_is f id))
      | false ↦ λ other. reply_other f conn moment word m name header ok declined id other
    ] refl

reply_tasks : (f : Facts) (conn moment word : ℕ) (m : Message) (name : Id) (header : List ℕ) (ok declined : Bool) → Closed f → EachOnce f.known →
    record (plain_of f) { tasks = map (look (after_quiet f conn moment word m (Some (Reply name header ok declined)))) f.known } ≡ told f conn moment m (Reply name header ok declined) (plain_of f)
reply_tasks f conn moment word m name header ok declined is once =
    elim (counts f.engines.live conn header (f.task name)) as (λ b. counts f.engines.live conn header (f.task name) ≡ b →
    record (plain_of f) { tasks = map (look (after_quiet f conn moment word m (Some (Reply name header ok declined)))) f.known } ≡ replied_by b name header (ending (is_direct_id f name) ok declined) (parts_of m) (plain_of f)) [
      | true ↦ λ on.
          let g = after_quiet f conn moment word m (Some (Reply name header ok declined)) in
          let change = replied_with header (ending (is_direct_id f name) ok declined) (parts_of m) in
          let tasks : map (look g) f.known ≡ changed name change (map (look f) f.known) =
          changed_one f g change name f.known once (reply_other f conn moment word m name header ok declined) (reply_here f conn moment word m name header ok declined is on) in
          rw tasks refl
      | false ↦ λ off.
          let g = after_quiet f conn moment word m (Some (Reply name header ok declined)) in
          let tasks : map (look g) f.known ≡ map (look f) f.known = map_all (look g) (look f) f.known (reply_off f conn moment word m name header ok declined off) in
          rw tasks refl
    ] refl

pub reply_plain : (f : Facts) (conn moment word : ℕ) (m : Message) (name : Id) (header : List ℕ) (ok declined : Bool) → Closed f → EachOnce f.known →
    plain_of (step f (Input (In conn moment word m)) (Some (Reply name header ok declined)))
    ≡ noted (changes f conn m (Some (Reply name header ok declined))) moment word (told f conn moment m (Reply name header ok declined) (plain_of f))
reply_plain f conn moment word m name header ok declined is once =
    let event = Some (Reply name header ok declined) in
    ap plain_of (quiet f conn moment word m (Some (Reply name header ok declined)) refl refl refl refl)
    ∙ noted_is (changes f conn m (Some (Reply name header ok declined))) moment word (record (plain_of f) { tasks = map (look (after_quiet f conn moment word m (Some (Reply name header ok declined)))) f.known })
    ∙ ap (noted (changes f conn m (Some (Reply name header ok declined))) moment word) (reply_tasks f conn moment word m name header ok declined is once)
