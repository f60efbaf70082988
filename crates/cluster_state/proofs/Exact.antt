-- The data of a legal history tell all that is read off it.
use Rattle.std.proofs.Common.{◌≡◌, List, [], ◌∷◌, map, Bool, true, false, cond, ◌||◌, refl, sym, ap, bytes_eq, Some, None}
use Rattle.std.specs.Option.{option_and_then}
use Rattle.std.proofs.lemmas.Bool.{false_from_ne_true, both_ways}
use Rattle.cluster_defs.specs.Words.{Id, is_listed}
use Rattle.cluster_defs.specs.Tasks.{new_task}
use Rattle.cluster_defs.specs.Facts.{Facts}
use Rattle.cluster_defs.specs.Histories.{History, facts, Legal}
use Rattle.cluster_defs.proofs.Options.{same_id}
use Rattle.cluster_laws.proofs.Closed.{closed, Closed}
use Rattle.task_table.specs.Seen.{Seen, seen_in}
use Rattle.cluster_state.specs.Plain.{look, plain_of, facts_in}
use Rattle.cluster_state.proofs.Blank.{blank}
use Rattle.cluster_types.proofs.Options.{none_of}

-- what is seen of an id is what the history says of it, where it is known
pub seen_is : (f : Facts) (ids : List Id) (id : Id) → seen_in (map (look f) ids) id ≡ cond (is_listed id ids) (Some (look f id)) None
seen_is f [] id = refl
seen_is f (i ∷ ids) id =
    elim (bytes_eq i id) as (λ b. bytes_eq i id ≡ b → cond b (Some (look f i)) (seen_in (map (look f) ids) id) ≡ cond (b || is_listed id ids) (Some (look f id)) None) [
      | true ↦ λ same. ap (λ j. Some (look f j)) (same_id i id same)
      | false ↦ λ _. seen_is f ids id
    ] refl

ids_are : (f : Facts) (ids : List Id) → map (λ (t : Seen). t.row.id) (map (look f) ids) ≡ ids
ids_are f [] = refl
ids_are f (i ∷ ids) = ap (λ is. i ∷ is) (ids_are f ids)

pub unsettled : (f : Facts) (id : Id) → Closed f → is_listed id f.known ≡ false → f.settled id ≡ None
unsettled f id is off = none_of (f.settled id) (false_from_ne_true _ (λ on. both_ways (is_listed id f.known) off (is.listed id on)))

pub unpurged : (f : Facts) (id : Id) → Closed f → is_listed id f.known ≡ false → f.purged id ≡ false
unpurged f id is off = false_from_ne_true _ (λ on. both_ways (is_listed id f.known) off (is.listed id (is.purged id on)))

request_is : (f : Facts) (id : Id) → (is_listed id f.known ≡ false → f.request_of id ≡ None) → (facts_in (plain_of f)).request_of id ≡ f.request_of id
request_is f id none = rw (seen_is f f.known id) (by (is_listed id f.known) none)
  where
    by : (b : Bool) → (b ≡ false → f.request_of id ≡ None) → option_and_then (λ (t : Seen). t.request) (cond b (Some (look f id)) None) ≡ f.request_of id
    by true h = refl
    by false h = sym (h refl)

body_is : (f : Facts) (id : Id) → (is_listed id f.known ≡ false → f.body_of id ≡ None) → (facts_in (plain_of f)).body_of id ≡ f.body_of id
body_is f id none = rw (seen_is f f.known id) (by (is_listed id f.known) none)
  where
    by : (b : Bool) → (b ≡ false → f.body_of id ≡ None) → option_and_then (λ (t : Seen). t.body) (cond b (Some (look f id)) None) ≡ f.body_of id
    by true h = refl
    by false h = sym (h refl)

reply_is : (f : Facts) (id : Id) → (is_listed id f.known ≡ false → f.reply_of id ≡ None) → (facts_in (plain_of f)).reply_of id ≡ f.reply_of id
reply_is f id none = rw (seen_is f f.known id) (by (is_listed id f.known) none)
  where
    by : (b : Bool) → (b ≡ false → f.reply_of id ≡ None) → option_and_then (λ (t : Seen). t.reply) (cond b (Some (look f id)) None) ≡ f.reply_of id
    by true h = refl
    by false h = sym (h refl)

settled_is : (f : Facts) (id : Id) → (is_listed id f.known ≡ false → f.settled id ≡ None) → (facts_in (plain_of f)).settled id ≡ f.settled id
settled_is f id none = rw (seen_is f f.known id) (by (is_listed id f.known) none)
  where
    by : (b : Bool) → (b ≡ false → f.settled id ≡ None) → option_and_then (λ (t : Seen). t.settled) (cond b (Some (look f id)) None) ≡ f.settled id
    by true h = refl
    by false h = sym (h refl)

task_is : (f : Facts) (id : Id) → (is_listed id f.known ≡ false → f.task id ≡ new_task) → (facts_in (plain_of f)).task id ≡ f.task id
task_is f id none =
    elim (is_listed id f.known) as (λ b. is_listed id f.known ≡ b → (facts_in (plain_of f)).task id ≡ f.task id) [
      | true ↦ λ on. rw (seen_is f f.known id, on) refl
      | false ↦ λ off. rw (seen_is f f.known id, off) (sym (none off))
    ] refl

purged_is : (f : Facts) (id : Id) → (is_listed id f.known ≡ false → f.purged id ≡ false) → (facts_in (plain_of f)).purged id ≡ f.purged id
purged_is f id none =
    elim (is_listed id f.known) as (λ b. is_listed id f.known ≡ b → (facts_in (plain_of f)).purged id ≡ f.purged id) [
      | true ↦ λ on. rw (seen_is f f.known id, on) refl
      | false ↦ λ off. rw (seen_is f f.known id, off) (sym (none off))
    ] refl

pub exact : (h : History) → Legal h → facts_in (plain_of (facts h)) ≡ facts h
exact h legal =
    let f = facts h in
    let is = closed h legal in
    let ids = ids_are f f.known in
    let request = λ (id : Id). request_is f id (λ off. (blank h id legal off).request) in
    let body = λ (id : Id). body_is f id (λ off. (blank h id legal off).body) in
    let task = λ (id : Id). task_is f id (λ off. (blank h id legal off).task) in
    let reply = λ (id : Id). reply_is f id (λ off. (blank h id legal off).reply) in
    let settled = λ (id : Id). settled_is f id (unsettled f id is) in
    let gone = λ (id : Id). purged_is f id (unpurged f id is) in
    λ i. record {
      begun = f.begun;
      opens = f.opens;
      scheme = f.scheme;
      hwm = f.hwm;
      misses = f.misses;
      now = f.now;
      moment = f.moment;
      word = f.word;
      beats = f.beats;
      connections = f.connections;
      engines = f.engines;
      by_use = f.by_use;
      known = ids i;
      request_of = λ id. request id i;
      body_of = λ id. body id i;
      task = λ id. task id i;
      reply_of = λ id. reply id i;
      settled = λ id. settled id i;
      purged = λ id. gone id i;
    }
