-- Each decision leaves less to decide.
use Rattle.std.proofs.Common.{◌≡◌, ℕ, ◌<◌, length, Bool, true, false, cond, not, refl, ap, arith, Option, Some, None, bytes_eq}
use Rattle.std.specs.Prelude.{count_by, ◌==◌}
use Rattle.std.specs.Option.{is_some}
use Rattle.std.proofs.lemmas.Bool.{eq-eqb, not_from_false}
use Rattle.std.proofs.lemmas.List.Sums.{count_by-le-length}
use Rattle.cluster_types.specs.declared.verdict.Verdict.{Verdict}
use Rattle.cluster_types.specs.declared.verdict.Cause.{Cause}
use Rattle.cluster_types.specs.declared.entry.Entry.{Entry}
use Rattle.cluster_types.specs.declared.entry.Entry.TheVariants.{Input, Hand, Settle, Lose}
use Rattle.cluster_defs.specs.Words.{Id, or_else}
use Rattle.cluster_defs.specs.Tasks.{settled_as, Task, handed, runs}
use Rattle.cluster_defs.specs.Facts.{Facts, is_settled}
use Rattle.cluster_defs.specs.Steps.{next}
use Rattle.cluster_defs.specs.Scheduling.{due, open_work}
use Rattle.cluster_defs.proofs.Options.{id_self}
use Rattle.cluster_defs.proofs.Counts.{count_lt, filter_lt, outweighs}
use Rattle.cluster_defs.proofs.Says.{Found, SaysLose, Says, due_says, hand_rests}

lose_falls : (f : Facts) (n : ℕ) → SaysLose f n → open_work (next f (Lose n)) < open_work f
lose_falls f n says =
    let off : not (says.engine.number == n) ≡ false = ap not (eq-eqb _ _ says.is) in
    let fewer = filter_lt _ (λ e. not (e.number == n)) f.engines.live says.engine says.found off in
    outweighs _ _ (length f.known) _ (count_by (λ id. not (runs (f.task id).last)) f.known) (count_by (λ id. not (is_settled f id)) f.known) fewer (count_by-le-length _ f.known)

only_adds : {X : Type 0} (o p : Option X) → not (is_some (or_else o p)) ≡ true → not (is_some o) ≡ true
only_adds None p h = refl
only_adds (Some x) p h = cc

settled_now : {X : Type 0} (o : Option X) (b : Bool) (x : X) → b ≡ true → not (is_some (or_else o (cond b (Some x) None))) ≡ false
settled_now None true x h = refl
settled_now None false x h = cc
settled_now (Some y) b x h = refl

settle_falls : (f : Facts) (id : Id) (v : Verdict) (cause : Cause) → Found f id → is_settled f id ≡ false → open_work (next f (Settle id v cause)) < open_work f
settle_falls f id v cause listed open_yet =
    let fewer = count_lt listed.test (λ i. not (is_some (or_else (f.settled i) (cond (bytes_eq id i) (Some (settled_as v cause f.moment (f.task i))) None)))) (λ i. not (is_settled f i))
    (λ i. only_adds (f.settled i) _) f.known id listed.found (settled_now (f.settled id) (bytes_eq id id) _ (id_self id)) (not_from_false _ open_yet) in
    omega (arith, fewer)

runs_later : (b : Bool) (n : ℕ) (t : Task) → not (runs (cond b (handed n t) t).last) ≡ true → not (runs t.last) ≡ true
runs_later true n t h = cc
runs_later false n t h = h

runs_now : (b : Bool) (n : ℕ) (t : Task) → b ≡ true → not (runs (cond b (handed n t) t).last) ≡ false
runs_now true n t h = refl
runs_now false n t h = cc

hand_falls : (f : Facts) (id : Id) (n : ℕ) → Found f id → runs (f.task id).last ≡ false → open_work (next f (Hand id n)) < open_work f
hand_falls f id n listed waits =
    let now = runs_now (bytes_eq id id) n (f.task id) (id_self id) in
    let fewer = count_lt listed.test (λ i. not (runs (cond (bytes_eq id i) (handed n (f.task i)) (f.task i)).last)) (λ i. not (runs (f.task i).last))
    (λ i. runs_later (bytes_eq id i) n (f.task i)) f.known id listed.found now (not_from_false _ waits) in
    omega (arith, fewer)

falls : (f : Facts) (d : Entry) → Says f d → open_work (next f d) < open_work f
falls f (Lose n) says = lose_falls f n says
falls f (Settle id v c) says = settle_falls f id v c says.listed says.open_yet
falls f (Hand id n) says = hand_falls f id n says.listed (hand_rests f id n says).1
falls f (Input i) says = absurd says

pub due_falls : (f : Facts) (d : Entry) → due f ≡ Some d → open_work (next f d) < open_work f
due_falls f d e = falls f d (due_says f d e)
