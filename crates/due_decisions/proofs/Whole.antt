-- The decision that the data say is due is the one that is due after the history.
use Rattle.std.proofs.Common.{◌≡◌, ap, ◌∙◌, ℕ, zero, suc, List, [], ◌∷◌, map, Bool, true, false, cond, not, ◌&&◌, ◌||◌, refl, Option, Some, None}
use Rattle.std.specs.Prelude.{find, filter, count_by, slice_get, option_map}
use Rattle.std.specs.List.{list_any}
use Rattle.std.specs.Option.{is_some, option_and_then}
use Rattle.cluster_types.specs.declared.verdict.Verdict.TheVariants.{Failed}
use Rattle.cluster_types.specs.declared.verdict.Cause.{Cause}
use Rattle.cluster_types.specs.declared.entry.Entry.TheVariants.{Settle}
use Rattle.cluster_defs.specs.declared.attempt.Attempt.{Attempt}
use Rattle.cluster_defs.specs.declared.attempt.Attempt.TheVariants.{Never, Running, EndedOk, EndedBadly, Lost, Declined, Withdrawn}
use Rattle.cluster_defs.specs.Words.{Id, is_empty}
use Rattle.cluster_defs.specs.Engines.{lists_number}
use Rattle.cluster_defs.specs.declared.settled.Settled.{Settled}
use Rattle.cluster_defs.specs.Tasks.{runs, runs_at}
use Rattle.cluster_defs.specs.Facts.{Facts, nothing_yet, is_settled, is_direct_id}
use Rattle.cluster_defs.specs.Histories.{History, facts, Legal}
use Rattle.cluster_defs.specs.Scheduling.{due, settle_due, fail_due, direct_due, hand_due, settle_as, verdict, is_final, rests, failing_as, failing_id, ready_for, hand_to, leaves_room, load, may_run_as, may_run, excludes, is_live, candidates, engine_for, pick, has_room as room_left}
use Rattle.cluster_defs.proofs.Counts.{count_by-cons}
use Rattle.cluster_laws.proofs.Closed.{closed}
use Rattle.task_table.specs.Seen.{Seen}
use Rattle.cluster_state.specs.Plain.{look, tasks_of, plain_of}
use Rattle.cluster_state.proofs.Exact.{exact}
use Rattle.due_decisions.specs.declared.rooms.Room.{Room}
use Rattle.due_decisions.specs.Table.{settled_in, alone, final_at, settle_of, settle_in, failing_in, fail_of, fail_in, direct_of, direct_in, loads, load_in, rooms_in, fits, rooms_for, picked, hand_of, hand_in, due_in}
use Rattle.due_decisions.proofs.Lists.{map_map, filter_map, filter_filter}
use Rattle.cluster_types.proofs.Lists.{same_filter, same_map}

-- LISTS OF WHAT IS SEEN

map_cases : {Y : Type 0} (at : Id → Seen) (q : Seen → Bool) (k : Seen → Option Y) (g : Id → Option Y) (b : Bool) (i : Id) (o : Option Seen) (p : Option Id) → k (at i) ≡ g i → option_and_then k o ≡ option_and_then g p → option_and_then k (cond b (Some (at i)) o) ≡ option_and_then g (cond b (Some i) p)
map_cases at q k g true i o p here rest = here
map_cases at q k g false i o p here rest = rest

then_map : {Y : Type 0} (at : Id → Seen) (q : Seen → Bool) (p : Id → Bool) (k : Seen → Option Y) (g : Id → Option Y) → ((i : Id) → q (at i) ≡ p i) → ((i : Id) → k (at i) ≡ g i) → (ids : List Id) → option_and_then k (find q (map at ids)) ≡ option_and_then g (find p ids)
then_map at q p k g tests gives [] = refl
then_map at q p k g tests gives (i ∷ ids) =
    ap (λ b. option_and_then k (cond b (Some (at i)) (find q (map at ids)))) (tests i)
    ∙ map_cases at q k g (p i) i (find q (map at ids)) (find p ids) (gives i) (then_map at q p k g tests gives ids)

count_map : (at : Id → Seen) (q : Seen → Bool) (p : Id → Bool) → ((i : Id) → q (at i) ≡ p i) → (ids : List Id) → count_by q (map at ids) ≡ count_by p ids
count_map at q p same [] = refl
count_map at q p same (i ∷ ids) = rw (count_by-cons q (at i) (map at ids), count_by-cons p i ids, same i, count_map at q p same ids) refl

get_map : (at : ℕ → Room) → ((n : ℕ) → (at n).engine ≡ n) → (ns : List ℕ) (k : ℕ) → option_map (λ (r : Room). r.engine) (slice_get (map at ns) k) ≡ slice_get ns k
get_map at is [] k = refl
get_map at is (n ∷ ns) zero = ap (λ m. Some m) (is n)
get_map at is (n ∷ ns) (suc k) = get_map at is ns k

some_or : {X : Type 0} (b : Bool) (x : X) (xs : List X) (any : Bool) → any ≡ not (is_empty xs) → (b || any) ≡ not (is_empty (cond b (x ∷ xs) xs))
some_or true x xs any e = refl
some_or false x xs any e = e

any_filter : {X : Type 0} (p : X → Bool) (xs : List X) → list_any p xs ≡ not (is_empty (filter p xs))
any_filter p [] = refl
any_filter p (x ∷ xs) = some_or (p x) x (filter p xs) (list_any p xs) (any_filter p xs)

empty_map : {X Y : Type 0} (f : X → Y) (xs : List X) → is_empty (map f xs) ≡ is_empty xs
empty_map f [] = refl
empty_map f (x ∷ xs) = refl

-- WHAT THE TABLE OF A HISTORY SAYS

-- the table tells how each id was settled, and what is settled doesn't run
record Told (f : Facts) : Type 0 where
  settled : settled_in (tasks_of f) ≡ f.settled
  idle : (id : Id) → is_settled f id ≡ true → runs (f.task id).last ≡ false

settle_same : (f : Facts) → settle_in (tasks_of f) ≡ settle_due f
settle_same f = then_map (look f) final_at (is_final f) settle_of (λ id. settle_as id (verdict f id)) (λ id. refl) (λ id. refl) f.known

direct_same : (f : Facts) → direct_in (tasks_of f) ≡ direct_due f
direct_same f = then_map (look f) (λ t. is_some (ready_for (alone t) t.row.id)) (λ id. is_some (ready_for f id)) direct_of (λ id. hand_to id (ready_for f id)) (λ id. refl) (λ id. refl) f.known

failing_with : Facts → Id → (Id → Option Settled) → Option Cause
failing_with f id s = cond (rests f id) (failing_as (record nothing_yet { now = f.now; engines = record { live = f.engines.live; next = 0 }; task = λ _. f.task id; settled = s }) id (f.request_of id)) None

failing_same : (f : Facts) → Told f → (id : Id) → failing_in (tasks_of f) f.engines.live f.now (look f id) ≡ failing_id f id
unfolding failing_with
failing_same f is id = ap (failing_with f id) is.settled

fail_same : (f : Facts) → Told f → fail_in (tasks_of f) f.engines.live f.now ≡ fail_due f
fail_same f is =
    let ts = tasks_of f in
    then_map (look f) (λ t. is_some (failing_in ts f.engines.live f.now t)) (λ id. is_some (failing_id f id)) (fail_of ts f.engines.live f.now) (λ id. option_map (λ cause. Settle id Failed cause) (failing_id f id))
    (λ id. ap is_some (failing_same f is id)) (λ id. ap (option_map (λ cause. Settle id Failed cause)) (failing_same f is id)) f.known

-- THE ROOMS

load_cases : (n : ℕ) (a : Attempt) (over other : Bool) → (over ≡ true → runs a ≡ false) → (not over && (runs_at n a && other)) ≡ (runs_at n a && other)
load_cases n a false other idle = refl
load_cases n (Running m) true other idle = let none : true ≡ false = idle refl in cc
load_cases n Never true other idle = refl
load_cases n (EndedOk m) true other idle = refl
load_cases n (EndedBadly m) true other idle = refl
load_cases n (Lost m) true other idle = refl
load_cases n (Declined m) true other idle = refl
load_cases n (Withdrawn m) true other idle = refl

load_same : (f : Facts) → Told f → (n : ℕ) → load_in (tasks_of f) n ≡ load f n
load_same f is n =
    count_map (look f) (loads n) (λ id. runs_at n (f.task id).last && not (is_direct_id f id))
    (λ id. load_cases n (f.task id).last (is_settled f id) (not (is_direct_id f id)) (is.idle id)) f.known

room_of : Facts → ℕ → Room
room_of f n = record { engine = n; load = load f n }

rooms_same : (f : Facts) → Told f → rooms_in (tasks_of f) f.engines.live f.hwm f.by_use ≡ map (room_of f) (filter (λ n. room_left f n && is_live f n) f.by_use)
unfolding room_of
rooms_same f is =
    let ns = filter (λ n. lists_number n f.engines.live) f.by_use in
    ap (filter (λ (r : Room). leaves_room f.hwm r.load)) (same_map (λ n. record { engine = n; load = load_in (tasks_of f) n }) (room_of f) (λ n. ap (λ l. let r : Room = record { engine = n; load = l } in r) (load_same f is n)) ns)
    ∙ filter_map (λ (r : Room). leaves_room f.hwm r.load) (room_of f) ns
    ∙ ap (map (room_of f)) (filter_filter (λ n. room_left f n) (λ n. lists_number n f.engines.live) f.by_use)

fits_with : Facts → Id → ℕ → (Id → Option Settled) → Bool
fits_with f id n s = rests f id && may_run_as (record nothing_yet { task = λ _. f.task id; settled = s }) id n (f.request_of id) && not (excludes f id n)

fits_same : (f : Facts) → Told f → (id : Id) (n : ℕ) → fits (tasks_of f) (look f id) n ≡ (rests f id && may_run_as f id n (f.request_of id) && not (excludes f id n))
unfolding fits_with
fits_same f is id n = ap (fits_with f id n) is.settled

turn : (a b l e r : Bool) → (a && b && e && (r && l)) ≡ (a && b && l && e && r)
turn true true true true true = refl
turn true true true true false = refl
turn true true true false r = refl
turn true true false true true = refl
turn true true false true false = refl
turn true true false false r = refl
turn true false l e r = off l e r
  where
    off : (l e r : Bool) → (false && e && (r && l)) ≡ (false && l && e && r)
    off l e r = refl
turn false b l e r = refl

rooms_for_same : (f : Facts) → Told f → (id : Id) → rooms_for (tasks_of f) (rooms_in (tasks_of f) f.engines.live f.hwm f.by_use) (look f id) ≡ map (room_of f) (candidates f id)
unfolding room_of
rooms_for_same f is id =
    let ts = tasks_of f in
    let test = λ (n : ℕ). fits ts (look f id) n in
    let ms = λ (n : ℕ). room_left f n && is_live f n in
    ap (λ rs. rooms_for ts rs (look f id)) (rooms_same f is)
    ∙ filter_map (λ (r : Room). fits ts (look f id) r.engine) (room_of f) (filter ms f.by_use)
    ∙ ap (map (room_of f)) (filter_filter test ms f.by_use
    ∙ same_filter (λ n. test n && ms n) (may_run f id)
    (λ n. ap (λ b. b && ms n) (fits_same f is id n) ∙ turn (rests f id) (may_run_as f id n (f.request_of id)) (is_live f n) (not (excludes f id n)) (room_left f n)) f.by_use)

picked_same : (f : Facts) (cs : List ℕ) → picked f.scheme f.word (map (room_of f) cs) ≡ slice_get cs (pick f.scheme (map (load f) cs) f.word)
unfolding room_of
picked_same f cs =
    get_map (room_of f) (λ n. refl) cs (pick f.scheme (map (λ (r : Room). r.load) (map (room_of f) cs)) f.word)
    ∙ ap (λ ls. slice_get cs (pick f.scheme ls f.word)) (map_map (λ (r : Room). r.load) (room_of f) cs)

hand_same : (f : Facts) → Told f → hand_in (tasks_of f) (rooms_in (tasks_of f) f.engines.live f.hwm f.by_use) f.scheme f.word ≡ hand_due f
hand_same f is =
    let ts = tasks_of f in
    let rooms = rooms_in ts f.engines.live f.hwm f.by_use in
    then_map (look f) (λ t. list_any (λ r. fits ts t r.engine) rooms) (λ id. not (is_empty (candidates f id))) (hand_of ts rooms f.scheme f.word) (λ id. hand_to id (engine_for f id))
    (λ id. any_filter (λ (r : Room). fits ts (look f id) r.engine) rooms ∙ ap (λ rs. not (is_empty rs)) (rooms_for_same f is id) ∙ ap not (empty_map (room_of f) (candidates f id)))
    (λ id. ap (λ rs. hand_to id (picked f.scheme f.word rs)) (rooms_for_same f is id) ∙ ap (hand_to id) (picked_same f (candidates f id))) f.known

-- ALL

pub due_same : (h : History) → Legal h → due_in (plain_of (facts h)) ≡ due (facts h)
due_same h legal =
    let f = facts h in
    let is : Told f = record { settled = ap (λ (g : Facts). g.settled) (exact h legal); idle = (closed h legal).idle } in
    rw (settle_same f, fail_same f is, direct_same f, hand_same f is) refl
