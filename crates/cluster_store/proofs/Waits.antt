-- The outs that wait, after a step, a flush and a take.
use Rattle.std.proofs.Common.{◌≡◌, ⊎_elim, ℕ, suc, ◌+◌, ◌-◌, ◌<◌, ◌≤◌, List, [], ◌∷◌, ◌++◌, length, drop, append_assoc, Bool, true, false, cond, refl, sym, ap, ◌∙◌, subst, arith, Some, map}
use Rattle.std.specs.Prelude.{nat_le, ◌==◌, if◌then◌else◌}
use Rattle.std.specs.List.{list_all}
use Rattle.std.proofs.lemmas.Bool.{le-leb, lt-leb, leb-true, and_parts, and_from}
use Rattle.std.proofs.lemmas.List.{length-append, length-map, map-append, drop-append-le}
use Rattle.std.proofs.lemmas.List.Elements.{filter-append}
use Rattle.std.proofs.lemmas.List.Folds.{list_all-append}
use Rattle.cluster_types.specs.declared.out.Out.{Out}
use Rattle.cluster_types.specs.declared.entry.Input.{Input as InputType}
use Rattle.cluster_types.specs.declared.entry.Input.TheVariants.{Open, Up, Down, In, Beat, Time}
use Rattle.cluster_types.specs.declared.entry.Entry.{Entry}
use Rattle.cluster_types.specs.declared.entry.Entry.TheVariants.{Input, Hand, Settle, Lose}
use Rattle.cluster_defs.specs.Scheduling.{due, is_kept}
use Rattle.cluster_defs.specs.Histories.{History, facts}
use Rattle.cluster_defs.specs.Outs.{outs, conn_of, outs_on, outs_from}
use Rattle.cluster_defs.specs.Lives.{Sending, kept_end, sendings, sendings_to, is_open, told_after}
use Rattle.cluster_defs.specs.Runs.{Decided}
use Rattle.cluster_defs.proofs.Says.{due_says}
use Rattle.cluster_core.specs.Steps.{kept_from, kept_one}
use Rattle.cluster_core.proofs.Growing.{due_kept, kept_more, kept_first, outs_more, outs_first}
use Rattle.cluster_store.specs.declared.waiting.Waiting.{Waiting}
use Rattle.cluster_store.specs.Queues.{waiting_of, waits}
use Rattle.cluster_store.specs.Held.{judged, judged_by, told_of, IsWaiting, need_after}
use Rattle.cluster_store.proofs.Fits.{length_more}
use Rattle.cluster_store.proofs.Stepping.{Step}

-- SENDINGS

pub sendings_more : (e : Entry) (older : History) (conn : ℕ) → is_open e ≡ false → sendings_to (e ∷ older) conn ≡ sendings_to older conn ++ sendings (e ∷ older) (outs_on conn (outs (e ∷ older)))
sendings_more (Input (Open moment scheme hwm misses)) older conn off = cc
sendings_more (Input (Up c channel moment word identity)) older conn off = refl
sendings_more (Input (Down c moment word)) older conn off = refl
sendings_more (Input (In c moment word m)) older conn off = refl
sendings_more (Input (Beat moment word)) older conn off = refl
sendings_more (Input (Time moment word)) older conn off = refl
sendings_more (Hand id n) older conn off = refl
sendings_more (Settle id v c) older conn off = refl
sendings_more (Lose n) older conn off = refl

pub due_no_open : (h : History) (d : Entry) → due (facts h) ≡ Some d → is_open d ≡ false
due_no_open h (Input input) is = absurd (due_says (facts h) (Input input) is)
due_no_open h (Hand id n) is = refl
due_no_open h (Settle id v c) is = refl
due_no_open h (Lose n) is = refl

-- outs, each of which may be handed out or not
abbrev pub mark_of : Bool → Out → Out × Bool
mark_of b o = (o, b)

abbrev pub marked : Bool → List Out → List (Out × Bool)
marked b outs = map (mark_of b) outs

abbrev pub with_mark : Out → Bool → List (Out × Bool) → List (Out × Bool)
with_mark o b marks = mark_of b o ∷ marks

pub joined : {X : Type 0} (a b c d : List X) → a ≡ c → b ≡ d → a ++ b ≡ c ++ d
joined {X} a b c d p q = ap (λ (x : List X). x ++ b) p ∙ ap (λ (x : List X). c ++ x) q

pub judged_sendings : (mark : ℕ) (h : History) (os : List Out) (b : Bool) → nat_le (kept_end h) mark ≡ b → map (judged_by mark) (sendings h os) ≡ marked b os
judged_sendings mark h [] b is = refl
judged_sendings mark h (o ∷ os) b is =
    ap (λ c. with_mark o c (map (judged_by mark) (sendings h os))) is ∙ ap (with_mark o b) (judged_sendings mark h os b is)

pub judged_waits : (mark need : ℕ) (os : List Out) (b : Bool) → nat_le need mark ≡ b → map (judged mark) (waits need os) ≡ marked b os
judged_waits mark need [] b is = refl
judged_waits mark need (o ∷ os) b is =
    ap (λ c. with_mark o c (map (judged mark) (waits need os))) is ∙ ap (with_mark o b) (judged_waits mark need os b is)

-- what entries after a history send to a connection, behind what was sent before, each with whether it may be handed out
pub record Sent (mark : ℕ) (old : History) (base : List Sending) (b : Bool) (conn : ℕ) (new : History) : Type 0 where
  pub added : List Sending
  pub are : sendings_to new conn ≡ base ++ added
  pub judged_so : map (judged_by mark) added ≡ marked b (outs_on conn (outs_from (length old) new))

sent_first : (mark : ℕ) (old : History) (b : Bool) (conn : ℕ) (e : Entry) → is_open e ≡ false → nat_le (kept_end (e ∷ old)) mark ≡ b → Sent mark old (sendings_to old conn) b conn (e ∷ old)
sent_first mark old b conn e off is = record {
  added = sendings (e ∷ old) (outs_on conn (outs (e ∷ old)));
  are = sendings_more e old conn off;
  judged_so = judged_sendings mark (e ∷ old) (outs_on conn (outs (e ∷ old))) b is ∙ ap (λ (os : List Out). marked b (outs_on conn os)) (sym (outs_first e old));
}

-- an Open sends nothing, and what was sent before is no more
sent_open : (mark : ℕ) (old : History) (b : Bool) (conn : ℕ) (e : Entry) → is_open e ≡ true → Sent mark old [] b conn (e ∷ old)
sent_open mark old b conn (Input (Open moment scheme hwm misses)) on = record {
  added = [];
  are = refl;
  judged_so = ap (λ (os : List Out). marked b (outs_on conn os)) (sym (outs_first (Input (Open moment scheme hwm misses)) old));
}
sent_open mark old b conn (Input (Up c channel moment word identity)) on = cc
sent_open mark old b conn (Input (Down c moment word)) on = cc
sent_open mark old b conn (Input (In c moment word m)) on = cc
sent_open mark old b conn (Input (Beat moment word)) on = cc
sent_open mark old b conn (Input (Time moment word)) on = cc
sent_open mark old b conn (Hand id n) on = cc
sent_open mark old b conn (Settle id v c) on = cc
sent_open mark old b conn (Lose n) on = cc

-- what was sent before an entry, and is still counted after it
abbrev pub sent_before : History → Entry → ℕ → List Sending
sent_before old e conn = if is_open e then [] else sendings_to old conn

sent_input : (mark : ℕ) (old : History) (b : Bool) (conn : ℕ) (e : Entry) → nat_le (kept_end (e ∷ old)) mark ≡ b → Sent mark old (sent_before old e conn) b conn (e ∷ old)
sent_input mark old b conn e is =
    elim (is_open e) as (λ o. is_open e ≡ o → Sent mark old (cond o [] (sendings_to old conn)) b conn (e ∷ old)) [
      | true ↦ λ on. sent_open mark old b conn e on
      | false ↦ λ off. sent_first mark old b conn e off is
    ] refl

sent_more : (mark : ℕ) (old : History) (base : List Sending) (b : Bool) (conn : ℕ) (e : Entry) (new : History) → length old ≤ length new → is_open e ≡ false → nat_le (kept_end (e ∷ new)) mark ≡ b → Sent mark old base b conn new → Sent mark old base b conn (e ∷ new)
sent_more mark old base b conn e new le off is s =
    let here = outs_on conn (outs (e ∷ new)) in
    record {
      added = s.added ++ sendings (e ∷ new) here;
      are = sendings_more e new conn off ∙ ap (λ (xs : List Sending). xs ++ sendings (e ∷ new) here) s.are ∙ append_assoc base s.added (sendings (e ∷ new) here);
      judged_so = map-append (judged_by mark) s.added (sendings (e ∷ new) here) ∙ joined _ _ _ _ s.judged_so (judged_sendings mark (e ∷ new) here b is)
          ∙ sym (map-append (mark_of b) (outs_on conn (outs_from (length old) new)) here)
          ∙ ap (marked b) (sym (filter-append (λ (o : Out). conn_of o == conn) (outs_from (length old) new) (outs (e ∷ new)))) ∙ ap (λ (os : List Out). marked b (outs_on conn os)) (sym (outs_more (length old) e new le));
    }

-- WHAT IS KEPT OF A STEP

kept_all : (old : History) (input : InputType) (ds : List Entry) → Decided (Input input ∷ old) ds → is_kept (facts old) (Input input) ≡ true → kept_end (ds ++ Input input ∷ old) ≡ length (ds ++ Input input ∷ old)
kept_all old input [] each on = ap (λ b. cond b (suc (length old)) (kept_end old)) on
kept_all old input (d ∷ ds) each on =
    let below = ds ++ Input input ∷ old in
    ap (λ b. cond b (suc (length below)) (kept_end below)) (due_kept (facts below) d each.0)

sent_kept : (mark : ℕ) (old : History) (conn : ℕ) (input : InputType) (ds : List Entry) → mark ≤ length old → is_kept (facts old) (Input input) ≡ true → Decided (Input input ∷ old) ds → Sent mark old (sent_before old (Input input) conn) false conn (ds ++ Input input ∷ old)
sent_kept mark old conn input [] le on each =
    sent_input mark old false conn (Input input) (ap (λ n. nat_le n mark) (kept_all old input [] each on) ∙ lt-leb (suc (length old)) mark (omega (arith, le)))
sent_kept mark old conn input (d ∷ ds) le on each =
    let below = ds ++ Input input ∷ old in
    let more = length_more ds (Input input ∷ old) in
    sent_more mark old (sent_before old (Input input) conn) false conn d below (omega (arith, more)) (due_no_open below d each.0)
    (ap (λ n. nat_le n mark) (kept_all old input (d ∷ ds) each on) ∙ lt-leb (suc (length below)) mark (omega (arith, le, more)))
    (sent_kept mark old conn input ds le on each.1)

-- whether a list is empty
abbrev pub is_nil : {X : Type 0} → List X → Bool
is_nil [] = true
is_nil (x ∷ xs) = false

append_some : {X : Type 0} (xs ys : List X) → is_nil xs ≡ false → is_nil (xs ++ ys) ≡ false
append_some [] ys h = cc
append_some (x ∷ xs) ys h = refl

pub kept_some : (old : History) (input : InputType) (ds : List Entry) → is_kept (facts old) (Input input) ≡ true → is_nil (kept_from (length old) (ds ++ Input input ∷ old)) ≡ false
kept_some old input [] on = ap is_nil (kept_first (Input input) old) ∙ ap (λ b. is_nil (kept_one b (Input input))) on
kept_some old input (d ∷ ds) on =
    let below = ds ++ Input input ∷ old in
    let more = length_more ds (Input input ∷ old) in
    ap is_nil (kept_more (length old) d below (omega (arith, more))) ∙ append_some (kept_from (length old) below) (kept_one (is_kept (facts below) d) d) (kept_some old input ds on)

-- A STEP

-- what a step sends and needs: all of it waits for the step's end, or for what was needed before
pub record Stepped (mark : ℕ) (old : History) (input : InputType) (new : History) (next : ℕ) : Type 0 where
  pub free : Bool
  pub sent : (conn : ℕ) → Sent mark old (sent_before old (Input input) conn) free conn new
  pub need_is : nat_le next mark ≡ free
  pub end_is : nat_le (kept_end new) mark ≡ free
  pub fits : next ≤ length new

need_some : (need size : ℕ) (es : List Entry) → is_nil es ≡ false → need_after need es size ≡ size
need_some need size [] some = cc
need_some need size (e ∷ es) some = refl

stepped_kept : (mark need : ℕ) (old : History) (input : InputType) (ds : List Entry) → Decided (Input input ∷ old) ds → mark ≤ length old → is_kept (facts old) (Input input) ≡ true →
    Stepped mark old input (ds ++ Input input ∷ old) (need_after need (kept_from (length old) (ds ++ Input input ∷ old)) (length (ds ++ Input input ∷ old)))
stepped_kept mark need old input ds each le on =
    let size = length (ds ++ Input input ∷ old) in
    let is : need_after need (kept_from (length old) (ds ++ Input input ∷ old)) size ≡ size = need_some need size (kept_from (length old) (ds ++ Input input ∷ old)) (kept_some old input ds on) in
    let more = length_more ds (Input input ∷ old) in
    let above : mark < length (ds ++ Input input ∷ old) = omega (arith, le, more) in
    subst (Stepped mark old input (ds ++ Input input ∷ old)) (sym is) (record {
      free = false;
      sent = λ conn. sent_kept mark old conn input ds le on each;
      need_is = lt-leb (length (ds ++ Input input ∷ old)) mark above;
      end_is = ap (λ n. nat_le n mark) (kept_all old input ds each on) ∙ lt-leb (length (ds ++ Input input ∷ old)) mark above;
      fits = omega arith;
    })

stepped_alone : (mark need : ℕ) (old : History) (input : InputType) → nat_le need mark ≡ nat_le (kept_end old) mark → need ≤ length old → is_kept (facts old) (Input input) ≡ false →
    Stepped mark old input (Input input ∷ old) (need_after need (kept_from (length old) (Input input ∷ old)) (suc (length old)))
stepped_alone mark need old input need_is need_fits off =
    let none : kept_from (length old) (Input input ∷ old) ≡ [] = kept_first (Input input) old ∙ ap (λ b. kept_one b (Input input)) off in
    let is : need_after need (kept_from (length old) (Input input ∷ old)) (suc (length old)) ≡ need = ap (λ (es : List Entry). need_after need es (suc (length old))) none in
    let end : kept_end (Input input ∷ old) ≡ kept_end old = ap (λ b. cond b (suc (length old)) (kept_end old)) off in
    subst (Stepped mark old input (Input input ∷ old)) (sym is) (record {
      free = nat_le need mark;
      sent = λ conn. sent_input mark old (nat_le need mark) conn (Input input) (ap (λ n. nat_le n mark) end ∙ sym need_is);
      need_is = refl;
      end_is = ap (λ n. nat_le n mark) end ∙ sym need_is;
      fits = omega (arith, need_fits);
    })

pub stepped : (mark need : ℕ) (old : History) (input : InputType) (new : History) → Step old input new → mark ≤ length old → nat_le need mark ≡ nat_le (kept_end old) mark → need ≤ length old → Stepped mark old input new (need_after need (kept_from (length old) new) (length new))
stepped mark need old input new s le need_is need_fits =
    ⊎_elim
    (λ on. subst (λ (h : History). Stepped mark old input h (need_after need (kept_from (length old) h) (length h))) (sym s.appended) (stepped_kept mark need old input s.decisions s.each_due le on))
    (λ alone. subst (λ (h : History). Stepped mark old input h (need_after need (kept_from (length old) h) (length h))) (sym alone.1) (stepped_alone mark need old input need_is need_fits alone.0))
    s.kinds

-- THE OUTS THAT WAIT AFTER IT

-- the outs that wait for one connection, of all that were sent to it
pub record WaitsAt (mark n : ℕ) (ss : List Sending) (ws : List Waiting) : Type 0 where
  pub fits : length ws ≤ length ss
  pub same : map (judged mark) ws ≡ map (judged_by mark) (drop (length ss - length ws) ss)
  pub needs : list_all (λ w. nat_le w.need n) ws ≡ true

pub at_of : (h : History) (mark need : ℕ) (left : ℕ → List Waiting) → IsWaiting h mark need left → (c : ℕ) → WaitsAt mark (length h) (sendings_to h c) (left c)
at_of h mark need left w c = record { fits = w.fits c; same = w.same c; needs = w.needs c }

need_more : (ws : List Waiting) (n m : ℕ) → n ≤ m → list_all (λ w. nat_le w.need n) ws ≡ true → list_all (λ w. nat_le w.need m) ws ≡ true
need_more [] n m le all = refl
need_more (w ∷ ws) n m le all =
    let both = and_parts (nat_le w.need n) (list_all (λ w. nat_le w.need n) ws) all in
    let here = leb-true w.need n both.0 in
    and_from _ _ (le-leb w.need m (omega (arith, le, here))) (need_more ws n m le both.1)

need_waits : (need n : ℕ) (os : List Out) → need ≤ n → list_all (λ w. nat_le w.need n) (waits need os) ≡ true
need_waits need n [] le = refl
need_waits need n (o ∷ os) le = and_from _ _ (le-leb need n le) (need_waits need n os le)

-- the same outs behind both
both_longer : (mark n m next : ℕ) (b : Bool) (ss added : List Sending) (ws : List Waiting) (os : List Out) → WaitsAt mark n ss ws → n ≤ m → next ≤ m → nat_le next mark ≡ b → map (judged_by mark) added ≡ marked b os →
    WaitsAt mark m (ss ++ added) (ws ++ waits next os) × (length (ss ++ added) - length (ws ++ waits next os) ≡ length ss - length ws)
both_longer mark n m next b ss added ws os at longer fits need_is same =
    let more = waits next os in
    let le = at.fits in
    let x : length (ss ++ added) ≡ length ss + length added = length-append ss added in
    let y : length (ws ++ more) ≡ length ws + length more = length-append ws more in
    let z : length added ≡ length more = sym (length-map added (judged_by mark)) ∙ ap length same ∙ length-map os (mark_of b) ∙ sym (length-map os (waiting_of next)) in
    let told : length (ss ++ added) - length (ws ++ more) ≡ length ss - length ws = omega (arith, x, y, z, le) in
    let within : length ss - length ws ≤ length ss = omega arith in (
      record {
        fits = omega (arith, x, y, z, le);
        same = map-append (judged mark) ws more ∙ joined _ _ _ _ at.same (judged_waits mark next os b need_is ∙ sym same) ∙ sym (map-append (judged_by mark) (drop (length ss - length ws) ss) added)
            ∙ ap (map (judged_by mark)) (sym (drop-append-le (length ss - length ws) ss added within) ∙ ap (λ k. drop k (ss ++ added)) (sym told));
        needs = list_all-append _ ws more ∙ and_from _ _ (need_more ws n m longer at.needs) (need_waits next m os fits);
      },
      told,
    )

-- what is left of what waited: nothing after an Open
abbrev pub left_before : (ℕ → List Waiting) → Entry → ℕ → List Waiting
left_before left e conn = if is_open e then [] else left conn

before_at : (old : History) (mark need : ℕ) (left : ℕ → List Waiting) (e : Entry) → IsWaiting old mark need left → (conn : ℕ) → WaitsAt mark (length old) (sent_before old e conn) (left_before left e conn)
before_at old mark need left e w conn =
    elim (is_open e) as (λ o. WaitsAt mark (length old) (cond o [] (sendings_to old conn)) (cond o [] (left conn))) [
      | true ↦ record { fits = omega arith; same = refl; needs = refl }
      | false ↦ at_of old mark need left w conn
    ]

-- how many outs to a connection were taken, before the outs of a step
abbrev told_before : (ℕ → List Waiting) → History → Entry → ℕ → ℕ
told_before left old e conn = length (sent_before old e conn) - length (left_before left e conn)

step_at : (mark need : ℕ) (old : History) (input : InputType) (new : History) (next : ℕ) (left : ℕ → List Waiting) (ws : List Waiting) (conn : ℕ) → length old ≤ length new → IsWaiting old mark need left → Stepped mark old input new next →
    ws ≡ left_before left (Input input) conn ++ waits next (outs_on conn (outs_from (length old) new)) →
    WaitsAt mark (length new) (sendings_to new conn) ws × (length (sendings_to new conn) - length ws ≡ told_before left old (Input input) conn)
step_at mark need old input new next left ws conn longer w s are =
    let sent = s.sent conn in
    let at = both_longer mark (length old) (length new) next s.free (sent_before old (Input input) conn) sent.added (left_before left (Input input) conn) (outs_on conn (outs_from (length old) new))
    (before_at old mark need left (Input input) w conn) longer s.fits s.need_is sent.judged_so in
    subst (λ (ss : List Sending). WaitsAt mark (length new) ss ws × (length ss - length ws ≡ told_before left old (Input input) conn)) (sym sent.are)
    (subst (λ (vs : List Waiting). WaitsAt mark (length new) (sent_before old (Input input) conn ++ sent.added) vs × (length (sent_before old (Input input) conn ++ sent.added) - length vs ≡ told_before left old (Input input) conn)) (sym are) at)

pub waiting_after : (mark need : ℕ) (old : History) (input : InputType) (new : History) (next : ℕ) (left left' : ℕ → List Waiting) → length old ≤ length new → IsWaiting old mark need left → Stepped mark old input new next →
    ((conn : ℕ) → left' conn ≡ left_before left (Input input) conn ++ waits next (outs_on conn (outs_from (length old) new))) → IsWaiting new mark next left'
waiting_after mark need old input new next left left' longer w s are = record {
  fits = λ conn. (step_at mark need old input new next left (left' conn) conn longer w s (are conn)).0.fits;
  same = λ conn. (step_at mark need old input new next left (left' conn) conn longer w s (are conn)).0.same;
  needs = λ conn. (step_at mark need old input new next left (left' conn) conn longer w s (are conn)).0.needs;
  need_is = s.need_is ∙ sym s.end_is;
  need_fits = s.fits;
}

told_apart : (left : ℕ → List Waiting) (old : History) (e : Entry) (conn : ℕ) → told_before left old e conn ≡ told_after e (told_of left old) conn
told_apart left old (Input (Open moment scheme hwm misses)) conn = refl
told_apart left old (Input (Up c channel moment word identity)) conn = refl
told_apart left old (Input (Down c moment word)) conn = refl
told_apart left old (Input (In c moment word m)) conn = refl
told_apart left old (Input (Beat moment word)) conn = refl
told_apart left old (Input (Time moment word)) conn = refl
told_apart left old (Hand id n) conn = refl
told_apart left old (Settle id v c) conn = refl
told_apart left old (Lose n) conn = refl

-- as many outs to a connection were taken as before, none after an Open
pub told_stays : (mark need : ℕ) (old : History) (input : InputType) (new : History) (next : ℕ) (left left' : ℕ → List Waiting) → length old ≤ length new → IsWaiting old mark need left → Stepped mark old input new next →
    ((conn : ℕ) → left' conn ≡ left_before left (Input input) conn ++ waits next (outs_on conn (outs_from (length old) new))) → (conn : ℕ) → told_of left' new conn ≡ told_after (Input input) (told_of left old) conn
told_stays mark need old input new next left left' longer w s are conn =
    (step_at mark need old input new next left (left' conn) conn longer w s (are conn)).1 ∙ told_apart left old (Input input) conn
