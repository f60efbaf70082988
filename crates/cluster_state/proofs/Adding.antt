-- What accepted requests make of the data.
use Rattle.std.proofs.Common.{◌≡◌, ℕ, ◌+◌, List, [], ◌∷◌, ◌++◌, append-nil, map, length, Bool, true, false, cond, not, ◌||◌, refl, sym, ap, ◌∙◌, bytes_eq, Option, Some, None, arith}
use Rattle.std.specs.Prelude.{is_some, if◌then◌else◌, suc}
use Rattle.std.specs.List.{position_or_len}
use Rattle.std.proofs.lemmas.List.{map-append, length-map}
use Rattle.cluster_types.specs.declared.message.Message.{Message}
use Rattle.cluster_types.specs.declared.event.Submission.{Submission}
use Rattle.cluster_types.specs.declared.event.Event.{Event}
use Rattle.cluster_types.specs.declared.event.Event.TheVariants.{Submit, Direct}
use Rattle.cluster_types.specs.declared.entry.Input.TheVariants.{In}
use Rattle.cluster_types.specs.declared.entry.Entry.TheVariants.{Input}
use Rattle.cluster_defs.specs.Words.{Id, or_else, is_listed}
use Rattle.cluster_defs.specs.Requests.{body_of}
use Rattle.cluster_defs.specs.Facts.{Facts}
use Rattle.cluster_defs.specs.Acceptance.{Demand, accepted, accepted_id, request_made, request_from, body_from}
use Rattle.cluster_defs.specs.Steps.{step, changes}
use Rattle.cluster_defs.specs.Histories.{History, facts, Legal}
use Rattle.cluster_defs.specs.Outcomes.{number_of}
use Rattle.cluster_defs.proofs.Options.{or_else-None, id_self}
use Rattle.cluster_laws.proofs.Closed.{closed, requested, Requested}
use Rattle.cluster_laws.proofs.Held.{bodied, Bodied}
use Rattle.cluster_laws.proofs.Numbers.{accepted_says}
use Rattle.task_table.specs.Seen.{begun}
use Rattle.cluster_state.specs.Plain.{look, plain_of, told, noted, accepted_by}
use Rattle.cluster_state.proofs.Lists.{map_listed}
use Rattle.cluster_state.proofs.Pieces.{look_is}
use Rattle.cluster_state.proofs.Blank.{blank}
use Rattle.cluster_state.proofs.Exact.{unsettled, unpurged}
use Rattle.cluster_state.proofs.Told.{noted_is}
use Rattle.cluster_types.proofs.Booleans.{or_false}

-- PLACES

one_of : (a b : Bool) → (a || b) ≡ true → a ≡ false → b ≡ true
one_of true b h k = cc
one_of false b h k = h

-- a listed id keeps its place where ids are added
pub place_front : (id : Id) (xs ys : List Id) → is_listed id xs ≡ true → position_or_len (λ i. bytes_eq i id) (xs ++ ys) ≡ position_or_len (λ i. bytes_eq i id) xs
place_front id [] ys h = cc
place_front id (x ∷ xs) ys h =
    elim (bytes_eq x id) as (λ b. bytes_eq x id ≡ b → cond (not b) (1 + position_or_len (λ i. bytes_eq i id) (xs ++ ys)) 0 ≡ cond (not b) (1 + position_or_len (λ i. bytes_eq i id) xs) 0) [
      | true ↦ λ _. refl
      | false ↦ λ off. ap (λ n. 1 + n) (place_front id xs ys (one_of (bytes_eq x id) _ h off))
    ] refl

-- an id that isn't listed gets the next place
pub place_back : (id : Id) (xs ys : List Id) → is_listed id xs ≡ false → position_or_len (λ i. bytes_eq i id) (xs ++ id ∷ ys) ≡ length xs
place_back id [] ys h = rw (id_self id) refl
place_back id (x ∷ xs) ys h =
    let off : bytes_eq x id ≡ false = left_off (bytes_eq x id) _ h in
    let rest : position_or_len (λ i. bytes_eq i id) (xs ++ id ∷ ys) ≡ length xs = place_back id xs ys (right_off (bytes_eq x id) _ h) in
    let step : position_or_len (λ i. bytes_eq i id) (x ∷ xs ++ id ∷ ys) ≡ 1 + position_or_len (λ i. bytes_eq i id) (xs ++ id ∷ ys) = rw off refl in
    omega (arith, step, rest)
  where
    left_off : (a b : Bool) → (a || b) ≡ false → a ≡ false
    left_off true b k = cc
    left_off false b k = refl

    right_off : (a b : Bool) → (a || b) ≡ false → b ≡ false
    right_off true b k = cc
    right_off false b k = k

-- what is there stays
pub kept_first : {X : Type 0} (o p : Option X) → is_some o ≡ true → or_else o p ≡ o
kept_first None p h = cc
kept_first (Some x) p h = refl

-- AN ACCEPTED REQUEST

abbrev pub after_accepted : Facts → ℕ → ℕ → ℕ → Message → Option Event → Option Demand → Facts
after_accepted f conn moment word m event o = record f {
  moment = if changes f conn m event then moment else f.moment;
  word = if changes f conn m event then word else f.word;
  known = f.known ++ accepted_id o;
  request_of = λ id. or_else (f.request_of id) (request_from f conn moment m id o);
  body_of = λ id. or_else (f.body_of id) (body_from m id o);
}

submit_step : (f : Facts) (conn moment word : ℕ) (m : Message) (s : Submission) →
    step f (Input (In conn moment word m)) (Some (Submit s)) ≡ after_accepted f conn moment word m (Some (Submit s)) (accepted f m (Some (Submit s)))
submit_step f conn moment word m s =
    let o = accepted f m (Some (Submit s)) in
    let known : f.known ++ accepted_id o ++ [] ≡ f.known ++ accepted_id o = append-nil (f.known ++ accepted_id o) in
    let request = λ (id : Id). ap (or_else (f.request_of id)) (or_else-None (request_from f conn moment m id o)) in
    let body = λ (id : Id). ap (or_else (f.body_of id)) (or_else-None (body_from m id o)) in
    let gone = λ (id : Id). or_false (f.purged id) in
    λ i. record (after_accepted f conn moment word m (Some (Submit s)) o) {
      known = known i;
      request_of = λ id. request id i;
      body_of = λ id. body id i;
      purged = λ id. gone id i;
    }

direct_step : (f : Facts) (conn moment word : ℕ) (m : Message) (s : Submission) →
    step f (Input (In conn moment word m)) (Some (Direct s)) ≡ after_accepted f conn moment word m (Some (Direct s)) (accepted f m (Some (Direct s)))
direct_step f conn moment word m s =
    let o = accepted f m (Some (Direct s)) in
    let known : f.known ++ accepted_id o ++ [] ≡ f.known ++ accepted_id o = append-nil (f.known ++ accepted_id o) in
    let request = λ (id : Id). ap (or_else (f.request_of id)) (or_else-None (request_from f conn moment m id o)) in
    let body = λ (id : Id). ap (or_else (f.body_of id)) (or_else-None (body_from m id o)) in
    let gone = λ (id : Id). or_false (f.purged id) in
    λ i. record (after_accepted f conn moment word m (Some (Direct s)) o) {
      known = known i;
      request_of = λ id. request id i;
      body_of = λ id. body id i;
      purged = λ id. gone id i;
    }

-- a known id looks as before
old_look : (f : Facts) (conn moment word : ℕ) (m : Message) (event : Option Event) (d : Demand) (id : Id) → is_some (f.request_of id) ≡ true → is_some (f.body_of id) ≡ true → is_listed id f.known ≡ true →
    look (after_accepted f conn moment word m event (Some d)) id ≡ look f id
old_look f conn moment word m event d id request body listed =
    let at : number_of (after_accepted f conn moment word m event (Some d)) id ≡ number_of f id = ap suc (place_front id f.known (d.submission.id ∷ []) listed) in
    look_is (after_accepted f conn moment word m event (Some d)) id
    ∙ rw (at, kept_first (f.request_of id) (request_from f conn moment m id (Some d)) request, kept_first (f.body_of id) (body_from m id (Some d)) body) refl
    ∙ sym (look_is f id)

-- the new one is begun
new_look : (h : History) (conn moment word : ℕ) (m : Message) (event : Option Event) (d : Demand) → Legal h → is_listed d.submission.id (facts h).known ≡ false →
    look (after_accepted (facts h) conn moment word m event (Some d)) d.submission.id
    ≡ begun d.submission.id (length (facts h).known + 1) (request_made (facts h) conn moment m d) (body_of m)
new_look h conn moment word m event d legal off =
    let f = facts h in
    let id = d.submission.id in
    let none = blank h id legal off in
    let g = after_accepted f conn moment word m event (Some d) in
    let at : number_of g id ≡ length f.known + 1 = let p = place_back id f.known [] off in omega (arith, p) in
    let open_yet : f.settled id ≡ None = unsettled f id (closed h legal) off in
    let unpurged_yet : f.purged id ≡ false = unpurged f id (closed h legal) off in
    let request : g.request_of id ≡ Some (request_made f conn moment m d) = rw (none.request, id_self id) refl in
    let body : g.body_of id ≡ Some (body_of m) = rw (none.body, id_self id) refl in
    look_is g id ∙ rw (at, request, body, none.task, none.reply, open_yet, unpurged_yet) refl

pub has_request : (h : History) (id : Id) → is_listed id (facts h).known ≡ true → is_some ((facts h).request_of id) ≡ true
unfolding Requested
has_request h id listed = requested h id listed

pub has_body : (h : History) (id : Id) → is_listed id (facts h).known ≡ true → is_some ((facts h).body_of id) ≡ true
unfolding Bodied
has_body h id listed = bodied h id listed

accepted_tasks : (h : History) (conn moment word : ℕ) (m : Message) (event : Option Event) (o : Option Demand) → Legal h → accepted (facts h) m event ≡ o →
    record (plain_of (facts h)) { tasks = map (look (after_accepted (facts h) conn moment word m event o)) ((facts h).known ++ accepted_id o) }
    ≡ accepted_by o (request_made (facts h) conn moment m) (body_of m) (plain_of (facts h))
accepted_tasks h conn moment word m event None legal is =
    let f = facts h in
    let g = after_accepted f conn moment word m event None in
    let same = λ (id : Id) (listed : is_listed id f.known ≡ true).
    look_is g id ∙ rw (ap suc (place_front id f.known [] listed), or_else-None (f.request_of id), or_else-None (f.body_of id)) refl ∙ sym (look_is f id) in
    let tasks : map (look g) (f.known ++ []) ≡ map (look f) f.known = ap (map (look g)) (append-nil f.known) ∙ map_listed (look g) (look f) f.known same in
    rw tasks refl
accepted_tasks h conn moment word m event (Some d) legal is =
    let f = facts h in
    let g = after_accepted f conn moment word m event (Some d) in
    let off = (accepted_says f m event d is).unlisted in
    let front : map (look g) f.known ≡ map (look f) f.known =
    map_listed (look g) (look f) f.known (λ id listed. old_look f conn moment word m event d id (has_request h id listed) (has_body h id listed) listed) in
    let count : length (map (look f) f.known) ≡ length f.known = length-map f.known (look f) in
    let tasks : map (look g) (f.known ++ d.submission.id ∷ []) ≡ map (look f) f.known ++ begun d.submission.id (length (map (look f) f.known) + 1) (request_made f conn moment m d) (body_of m) ∷ [] =
    map-append (look g) f.known (d.submission.id ∷ []) ∙ rw (front, new_look h conn moment word m event d legal off, count) refl in
    rw tasks refl

pub submit_plain : (h : History) (conn moment word : ℕ) (m : Message) (s : Submission) → Legal h →
    plain_of (step (facts h) (Input (In conn moment word m)) (Some (Submit s))) ≡ noted (changes (facts h) conn m (Some (Submit s))) moment word (told (facts h) conn moment m (Submit s) (plain_of (facts h)))
submit_plain h conn moment word m s legal =
    let f = facts h in
    let o = accepted f m (Some (Submit s)) in
    let b = changes f conn m (Some (Submit s)) in
    ap plain_of (submit_step f conn moment word m s)
    ∙ noted_is b moment word (record (plain_of f) { tasks = map (look (after_accepted f conn moment word m (Some (Submit s)) o)) (f.known ++ accepted_id o) })
    ∙ ap (noted b moment word) (accepted_tasks h conn moment word m (Some (Submit s)) o legal refl)

pub direct_plain : (h : History) (conn moment word : ℕ) (m : Message) (s : Submission) → Legal h →
    plain_of (step (facts h) (Input (In conn moment word m)) (Some (Direct s))) ≡ noted (changes (facts h) conn m (Some (Direct s))) moment word (told (facts h) conn moment m (Direct s) (plain_of (facts h)))
direct_plain h conn moment word m s legal =
    let f = facts h in
    let o = accepted f m (Some (Direct s)) in
    let b = changes f conn m (Some (Direct s)) in
    ap plain_of (direct_step f conn moment word m s)
    ∙ noted_is b moment word (record (plain_of f) { tasks = map (look (after_accepted f conn moment word m (Some (Direct s)) o)) (f.known ++ accepted_id o) })
    ∙ ap (noted b moment word) (accepted_tasks h conn moment word m (Some (Direct s)) o legal refl)
