-- What is counted beside the tasks is how many ids a queue reply has.
use Rattle.std.proofs.Common.{◌≡◌, ℕ, ◌+◌, List, [], ◌∷◌, length, map, Bool, true, false, cond, not, ◌&&◌, refl, sym, ap, ◌∙◌, subst, Option, Some, None, arith}
use Rattle.std.specs.Prelude.{count_by, filter, option_map, IfSome, ◌==◌}
use Rattle.std.specs.Option.{is_some}
use Rattle.std.specs.Global.{Vec}
use Rattle.std.proofs.lemmas.List.Sums.{sum_by-cons}
use Rattle.cluster_types.specs.declared.record.Record.{Record}
use Rattle.cluster_defs.specs.declared.attempt.Attempt.{Attempt}
use Rattle.cluster_defs.specs.declared.attempt.Attempt.TheVariants.{Never, Running, EndedOk, EndedBadly, Lost, Declined}
use Rattle.cluster_defs.specs.Words.{Id, is_number}
use Rattle.cluster_defs.specs.Tasks.{runs, runs_at, engine_of}
use Rattle.cluster_defs.specs.Facts.{Facts, is_settled, is_direct_id}
use Rattle.cluster_defs.specs.Histories.{History, facts, Legal}
use Rattle.cluster_defs.specs.TaskRecords.{record_of}
use Rattle.cluster_defs.specs.RecordAnswers.{ids_where, waits_in, runs_in, finished_in, queue_in}
use Rattle.cluster_laws.proofs.Closed.{closed}
use Rattle.place_sets.specs.Counts.{count_of, hits}
use Rattle.hub_queries.specs.declared.lengths.Lengths.{Lengths}
use Rattle.hub_queries.specs.Lengths.{lengths_of}
use Rattle.task_table.specs.Seen.{Seen}
use Rattle.cluster_state.specs.Plain.{Plain, look, tasks_of}
use Rattle.task_table.specs.Loading.{loads, load_in, Counted}
use Rattle.task_table.specs.Tallying.{direct_class, finished_class, waiting_class, tally_in, Told, AllTold}
use Rattle.task_table.specs.declared.tallies.Tallies.{Tallies}
use Rattle.entry_outs.specs.Reached.{Reached}
use Rattle.entry_outs.specs.Shown.{LoadsShown}
use Rattle.cluster_types.proofs.Booleans.{and_true, and_false}
use Rattle.cluster_laws.proofs.RecordsTell.{runs_there}

-- A COUNT AND A LIST

rows : List Seen → List Record
rows ts = map (λ t. t.row) ts

one_more : (b : Bool) (r : Record) (rs : List Record) (n : ℕ) → n ≡ length (map (λ (s : Record). s.id) rs) → cond b 1 0 + n ≡ length (map (λ (s : Record). s.id) (cond b (r ∷ rs) rs))
one_more true r rs n is = omega (arith, is)
one_more false r rs n is = omega (arith, is)

-- how many tasks pass a test of their records is how many ids are listed
pub listed : (q : Record → Bool) (ts : List Seen) → count_by (λ t. q t.row) ts ≡ length (ids_where q (map (λ t. t.row) ts))
listed q [] = refl
listed q (t ∷ ts) =
    sum_by-cons (λ u. cond (q u.row) 1 0) t ts ∙ one_more (q t.row) t.row (filter q (map (λ u. u.row) ts)) (count_by (λ u. q u.row) ts) (listed q ts)

-- CLASSES OF RECORDS

on_number : (a b : Bool) (o : Option ℕ) (n : ℕ) → hits (cond (a && b) o None) n ≡ ((a && is_number n o) && b)
on_number true true (Some m) n = sym (and_true (m == n))
on_number true true None n = refl
on_number true false o n = sym (and_false (is_number n o))
on_number false b o n = refl

at_none : (b : Bool) → hits (cond b (Some 0) None) 0 ≡ b
at_none true = refl
at_none false = refl

pub directs_listed : (ts : List Seen) (n : ℕ) → tally_in direct_class ts n ≡ length (queue_in (map (λ t. t.row) ts) n).queue
directs_listed ts n = (λ i. count_by (λ t. on_number t.row.running t.row.direct t.row.engine n i) ts) ∙ listed (λ r. runs_in n r && r.direct) ts

pub finished_listed : (ts : List Seen) (n : ℕ) → tally_in finished_class ts n ≡ length (queue_in (map (λ t. t.row) ts) n).completed
finished_listed ts n = (λ i. count_by (λ t. on_number (is_some t.row.settled) (not t.row.purged) t.row.engine n i) ts) ∙ listed (λ r. finished_in n r && not r.purged) ts

pub waiting_listed : (ts : List Seen) → tally_in waiting_class ts 0 ≡ length (ids_where waits_in (map (λ t. t.row) ts))
waiting_listed ts = (λ i. count_by (λ t. at_none (waits_in t.row) i) ts) ∙ listed waits_in ts

-- COUNTS THAT ARE KEPT

-- a count of a class
pub count_told : (class : Seen → Option ℕ) (ts : List Seen) (o : Option (Vec ℕ)) (n many : ℕ) → Told class ts o → Some many ≡ option_map (λ counts. count_of counts.items n) o → many ≡ tally_in class ts n
count_told class ts None n many told is = cc
count_told class ts (Some counts) n many told is = let same : many ≡ count_of counts.items n = cc in same ∙ told n

pub count_loads : (ts : List Seen) (o : Option (Vec ℕ)) (n many : ℕ) → Counted ts o → Some many ≡ option_map (λ counts. count_of counts.items n) o → many ≡ load_in ts n
count_loads ts None n many told is = cc
count_loads ts (Some counts) n many told is = let same : many ≡ count_of counts.items n = cc in same ∙ told n

pub waiting_kept : (ts : List Seen) (o : Option (Vec ℕ)) (result : Option ℕ) → Told waiting_class ts o → result ≡ option_map (λ counts. count_of counts.items 0) o → IfSome result (λ n. n ≡ length (ids_where waits_in (map (λ t. t.row) ts)))
waiting_kept ts o None told is = tt
waiting_kept ts o (Some many) told is = count_told waiting_class ts o 0 many told is ∙ waiting_listed ts

pub queue_kept : (ts : List Seen) (tallies : Tallies) (n : ℕ) (lengths : Lengths) → AllTold ts tallies → LoadsShown ts
    → Some lengths.queue ≡ option_map (λ counts. count_of counts.items n) tallies.directs
    → Some lengths.completed ≡ option_map (λ counts. count_of counts.items n) tallies.finished
    → Some lengths.tasks ≡ option_map (λ counts. count_of counts.items n) tallies.loads
    → lengths ≡ lengths_of (queue_in (map (λ t. t.row) ts) n)
queue_kept ts tallies n lengths told shown queue completed tasks =
    let one = count_told direct_class ts tallies.directs n lengths.queue told.directs queue ∙ directs_listed ts n in
    let two = count_told finished_class ts tallies.finished n lengths.completed told.finished completed ∙ finished_listed ts n in
    let three = count_loads ts tallies.loads n lengths.tasks told.loads tasks ∙ shown n in
    λ i. record { queue = one i; completed = two i; tasks = three i }

-- LOADS

idle_there : (n : ℕ) (a : Attempt) → runs a ≡ false → runs_at n a ≡ false
idle_there n a idle = sym (runs_there n a) ∙ ap (λ b. b && is_number n (engine_of a)) idle

open_or_idle : (s a d : Bool) → (s ≡ true → a ≡ false) → (not s && (a && d)) ≡ (a && d)
open_or_idle true a d idle = sym (ap (λ b. b && d) (idle refl))
open_or_idle false a d idle = refl

load_shown : (f : Facts) (id : Id) (n : ℕ) → (is_settled f id ≡ true → runs (f.task id).last ≡ false) → loads n (look f id) ≡ (runs_in n (record_of f id) && not (record_of f id).direct)
load_shown f id n idle =
    open_or_idle (is_some (f.settled id)) (runs_at n (f.task id).last) (not (is_direct_id f id)) (λ on. idle_there n (f.task id).last (idle on))
    ∙ ap (λ b. b && not (is_direct_id f id)) (sym (runs_there n (f.task id).last))

loads_same : (f : Facts) (n : ℕ) → ((id : Id) → is_settled f id ≡ true → runs (f.task id).last ≡ false) → (ids : List Id)
    → load_in (map (look f) ids) n ≡ count_by (λ t. runs_in n t.row && not t.row.direct) (map (look f) ids)
loads_same f n idle [] = refl
loads_same f n idle (id ∷ ids) =
    sum_by-cons (λ t. cond (loads n t) 1 0) (look f id) (map (look f) ids)
    ∙ ap (λ b. cond b 1 0 + load_in (map (look f) ids) n) (load_shown f id n (idle id))
    ∙ ap (λ m. cond (runs_in n (record_of f id) && not (record_of f id).direct) 1 0 + m) (loads_same f n idle ids)
    ∙ sym (sum_by-cons (λ t. cond (runs_in n t.row && not t.row.direct) 1 0) (look f id) (map (look f) ids))

shown_then : (h : History) → Legal h → LoadsShown (tasks_of (facts h))
shown_then h legal = λ n. loads_same (facts h) n (closed h legal).idle (facts h).known ∙ listed (λ r. runs_in n r && not r.direct) (tasks_of (facts h))

pub loads_shown : (p : Plain) → Reached p → LoadsShown p.tasks
loads_shown p r = subst (λ q. LoadsShown q.tasks) (sym r.is) (shown_then r.history r.legal)
