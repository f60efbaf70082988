-- All that was ever sent, over all crashes, belongs to one legal history.
use Rattle.std.proofs.Common.{◌≡◌, ℕ, zero, suc, ◌≤◌, List, [], ◌∷◌, ◌++◌, length, map, append_assoc, length-append, true, false, cond, Bool, refl, sym, ap, ◌∙◌, subst, arith, Some, ◌⊎◌, inl, inr, ⊎_elim}
use Rattle.std.specs.Prelude.{slice_get, filter, ◌==◌}
use Rattle.std.proofs.lemmas.Bool.{cases_lt}
use Rattle.cluster_types.specs.declared.entry.Input.TheVariants.{Open, Up, Down, In, Beat, Time}
use Rattle.cluster_types.specs.declared.entry.Entry.{Entry}
use Rattle.cluster_types.specs.declared.entry.Entry.TheVariants.{Input, Hand, Settle, Lose}
use Rattle.cluster_defs.specs.Scheduling.{is_kept}
use Rattle.cluster_defs.specs.Histories.{History, facts, Legal, kept}
use Rattle.cluster_defs.specs.Outs.{outs, outs_on, conn_of}
use Rattle.cluster_defs.specs.Lives.{World, Sending, IsFront, kept_end, sendings, sendings_to, Sends, Move, May, moved_by, world, Life, Belongs}
use Rattle.cluster_defs.specs.Lives.Move.{Grow, Flush, Send, Crash}
use Rattle.cluster_defs.proofs.Options.{some_inj}
use Rattle.cluster_laws.proofs.Kept.{kept_legal, kept_own}

-- FRONTS

front_legal : (front history : History) → IsFront front history → Legal history → Legal front
front_legal front history is legal = go is.0 (subst Legal is.1 legal)
  where
    go : (later : List Entry) → Legal (later ++ front) → Legal front
    go [] legal = legal
    go (e ∷ later) legal = go later legal.1

front_trans : (a b c : History) → IsFront a b → IsFront b c → IsFront a c
front_trans a b c ab bc = (bc.0 ++ ab.0, bc.1 ∙ ap (λ x. bc.0 ++ x) ab.1 ∙ sym (append_assoc bc.0 ab.0 a))

-- what is kept of a front is a front of what is kept
kept_later : (later : List Entry) (front : History) → IsFront (kept front) (kept (later ++ front))
kept_later [] front = ([], refl)
kept_later (e ∷ later) front =
    let below = kept_later later front in
    elim (is_kept (facts (later ++ front)) e) as (λ b. IsFront (kept front) (cond b (e ∷ kept (later ++ front)) (kept (later ++ front)))) [
      | true ↦ (e ∷ below.0, ap (λ x. e ∷ x) below.1)
      | false ↦ below
    ]

kept_front : (front history : History) → IsFront front history → IsFront (kept front) (kept history)
kept_front front history is = subst (λ h. IsFront (kept front) (kept h)) (sym is.1) (kept_later is.0 front)

-- where nothing behind a front is kept, both keep the same
kept_before : (later : List Entry) (front : History) → kept_end (later ++ front) ≤ length front → kept (later ++ front) ≡ kept front
kept_before [] front le = refl
kept_before (e ∷ later) front le =
    (elim (is_kept (facts (later ++ front)) e) as (λ b. cond b (suc (length (later ++ front))) (kept_end (later ++ front)) ≤ length front → cond b (e ∷ kept (later ++ front)) (kept (later ++ front)) ≡ kept front) [
      | true ↦ λ over. let long = length-append later front in absurd (omega arith)
      | false ↦ λ within. kept_before later front within
    ]) le

-- of two fronts of one list, one is a front of the other
two_fronts : (x y : List Entry) (a b : History) → x ++ a ≡ y ++ b → length a ≤ length b → IsFront a b
two_fronts [] [] a b same le = ([], sym same)
two_fronts (e ∷ x) [] a b same le = (e ∷ x, sym same)
two_fronts [] (d ∷ y) a b same le = let long : length a ≡ suc (length (y ++ b)) = ap length same in let also = length-append y b in absurd (omega arith)
two_fronts (e ∷ x) (d ∷ y) a b same le = two_fronts x y a b (cc) le

-- WHAT IS SENT IS AN OUT OF ITS HISTORY

-- an element at a place of a list stands between two parts of it
between : {X : Type 0} (xs : List X) (k : ℕ) (x : X) → slice_get xs k ≡ Some x → (before : List X) × (after : List X) × (xs ≡ before ++ x ∷ after)
between [] k x h = cc
between (y ∷ ys) zero x h = let same : y ≡ x = cc in ([], ys, ap (λ z. z ∷ ys) same)
between (y ∷ ys) (suc k) x h = let rest = between ys k x h in (y ∷ rest.0, rest.1, ap (λ zs. y ∷ zs) rest.2)

get_append : {X : Type 0} (xs ys : List X) (k : ℕ) (x : X) → slice_get (xs ++ ys) k ≡ Some x → (slice_get xs k ≡ Some x) ⊎ ((j : ℕ) × (slice_get ys j ≡ Some x))
get_append [] ys k x h = inr (k, h)
get_append (z ∷ xs) ys zero x h = inl h
get_append (z ∷ xs) ys (suc k) x h = get_append xs ys k x h

pub get_map : {X Y : Type 0} (g : X → Y) (xs : List X) (k : ℕ) (y : Y) → slice_get (map g xs) k ≡ Some y → (x : X) × (slice_get xs k ≡ Some x) × (g x ≡ y)
get_map g [] k y h = cc
get_map g (x ∷ xs) zero y h = (x, refl, some_inj h)
get_map g (x ∷ xs) (suc k) y h = get_map g xs k y h

at_filter : {X : Type 0} (x : X) (kept_of xs : List X) (y : X) → ((k : ℕ) → slice_get kept_of k ≡ Some y → (j : ℕ) × (slice_get xs j ≡ Some y)) → (k : ℕ) → slice_get (x ∷ kept_of) k ≡ Some y → (j : ℕ) × (slice_get (x ∷ xs) j ≡ Some y)
at_filter x kept_of xs y later zero h = (0, h)
at_filter x kept_of xs y later (suc k) h = let at = later k h in (suc at.0, at.1)

get_filter : {X : Type 0} (p : X → Bool) (xs : List X) (y : X) (k : ℕ) → slice_get (filter p xs) k ≡ Some y → (j : ℕ) × (slice_get xs j ≡ Some y)
get_filter p [] y k h = cc
get_filter {X} p (x ∷ xs) y k h =
    (elim (p x) as (λ b. slice_get (cond b (x ∷ filter p xs) (filter p xs)) k ≡ Some y → (j : ℕ) × (slice_get (x ∷ xs) j ≡ Some y)) [
      | true ↦ λ is. at_filter x (filter p xs) xs y (λ i. get_filter p xs y i) k is
      | false ↦ λ is. let at = get_filter p xs y k is in (suc at.0, at.1)
    ]) h

-- what a sending says: its history is a front, and it is an out of the newest entry there
abbrev Says : History → Sending → Type 0
Says h s = IsFront s.0 h × Sends s.0 s.1

one_more : (e : Entry) (h : History) (s : Sending) → Says h s → Says (e ∷ h) s
one_more e h s says = ((e ∷ says.0.0, ap (λ x. e ∷ x) says.0.1), says.1)

newest : (h : History) (conn k : ℕ) (s : Sending) → slice_get (sendings h (outs_on conn (outs h))) k ≡ Some s → Says h s
newest h conn k s is =
    let at = get_map (λ o. (h, o)) (outs_on conn (outs h)) k s is in
    let there = get_filter (λ o. conn_of o == conn) (outs h) at.0 k at.1 in
    let own : Says h (h, at.0) = (([], refl), between (outs h) there.0 at.0 there.1) in
    subst (Says h) at.2 own

sent_step : (e : Entry) (older : History) (conn k : ℕ) (s : Sending) → ((i : ℕ) → slice_get (sendings_to older conn) i ≡ Some s → Says older s) →
    slice_get (sendings_to older conn ++ sendings (e ∷ older) (outs_on conn (outs (e ∷ older)))) k ≡ Some s → Says (e ∷ older) s
sent_step e older conn k s before is =
    ⊎_elim (λ h. one_more e older s (before k h)) (λ h. newest (e ∷ older) conn h.0 s h.1)
    (get_append (sendings_to older conn) (sendings (e ∷ older) (outs_on conn (outs (e ∷ older)))) k s is)

sent_says : (h : History) (conn k : ℕ) (s : Sending) → slice_get (sendings_to h conn) k ≡ Some s → Says h s
sent_says [] conn k s is = cc
sent_says (Input (Open moment scheme hwm misses) ∷ older) conn k s is = cc
sent_says (Input (Up c channel moment word identity) ∷ older) conn k s is = sent_step (Input (Up c channel moment word identity)) older conn k s (λ i. sent_says older conn i s) is
sent_says (Input (Down c moment word) ∷ older) conn k s is = sent_step (Input (Down c moment word)) older conn k s (λ i. sent_says older conn i s) is
sent_says (Input (In c moment word m) ∷ older) conn k s is = sent_step (Input (In c moment word m)) older conn k s (λ i. sent_says older conn i s) is
sent_says (Input (Beat moment word) ∷ older) conn k s is = sent_step (Input (Beat moment word)) older conn k s (λ i. sent_says older conn i s) is
sent_says (Input (Time moment word) ∷ older) conn k s is = sent_step (Input (Time moment word)) older conn k s (λ i. sent_says older conn i s) is
sent_says (Hand id n ∷ older) conn k s is = sent_step (Hand id n) older conn k s (λ i. sent_says older conn i s) is
sent_says (Settle id v c ∷ older) conn k s is = sent_step (Settle id v c) older conn k s (λ i. sent_says older conn i s) is
sent_says (Lose n ∷ older) conn k s is = sent_step (Lose n) older conn k s (λ i. sent_says older conn i s) is

-- WHAT IS SAFE

-- what is safe of a sent out: each front that a crash may leave has what was kept when it was sent
unfoldable pub Safe : World → History → Type 0
Safe w at = (front : History) → IsFront front w.history → w.mark ≤ length front → IsFront (kept at) (kept front)

unfoldable pub AllSafe : World → List Sending → Type 0
AllSafe w [] = Unit {0}
AllSafe w (s ∷ sent) = Legal s.0 × Sends s.0 s.1 × Safe w s.0 × AllSafe w sent

all_more : (w v : World) → ((at : History) → Safe w at → Safe v at) → (sent : List Sending) → AllSafe w sent → AllSafe v sent
unfolding AllSafe
all_more w v more [] all = tt
all_more w v more (s ∷ sent) all = (all.0, all.1, more s.0 all.2, all_more w v more sent all.3)

-- a front of a longer history is all of it, or a front of the rest
front_cases : (e : Entry) (older front : History) (later : List Entry) → e ∷ older ≡ later ++ front → (front ≡ e ∷ older) ⊎ IsFront front older
front_cases e older front [] same = inl (sym same)
front_cases e older front (d ∷ later) same = inr (later, cc)

grow_safe : (w : World) (e : Entry) → w.mark ≤ length w.history → (at : History) → Safe w at → Safe (moved_by w (Grow e)) at
unfolding Safe
grow_safe w e marked at safe front is long =
    ⊎_elim (λ all. subst (λ h. IsFront (kept at) (kept h)) (sym all) (front_trans _ _ _ (safe w.history ([], refl) marked) (kept_later (e ∷ []) w.history)))
    (λ rest. safe front rest long) (front_cases e w.history front is.0 is.1)

flush_safe : (w : World) (left : History) → w.mark ≤ length left → (at : History) → Safe w at → Safe (moved_by w (Flush left)) at
unfolding Safe
flush_safe w left le at safe front is long = safe front is (omega arith)

-- only the whole is as long as the whole
whole : (front history : History) → IsFront front history → length history ≤ length front → front ≡ history
whole front history is long = go is.0 is.1
  where
    go : (later : List Entry) → history ≡ later ++ front → front ≡ history
    go [] same = sym same
    go (e ∷ later) same = let size : length history ≡ suc (length (later ++ front)) = ap length same in let also = length-append later front in absurd (omega arith)

crash_safe : (w : World) (left : History) → IsFront left w.history → w.mark ≤ length left → (at : History) → Safe w at → Safe (moved_by w (Crash left)) at
unfolding Safe
crash_safe w left there marked at safe front is long =
    let all = whole front (kept left) is long in
    subst (λ h. IsFront (kept at) h) (sym (ap kept all ∙ kept_own left)) (safe left there marked)

-- what is sent once all that was kept up to it is safe, is safe
send_safe : (w : World) (at : History) → IsFront at w.history → kept_end at ≤ w.mark → Safe w at
unfolding Safe
send_safe w at is end front fits long =
    ⊎_elim
    (λ shorter. let beyond = two_fronts fits.0 is.0 front at (sym fits.1 ∙ is.1) (omega arith) in
    let few : kept_end (beyond.0 ++ front) ≤ length front = subst (λ h. kept_end h ≤ length front) beyond.1 (omega arith) in
    let same : kept at ≡ kept front = ap kept beyond.1 ∙ kept_before beyond.0 front few in
    ([], sym same))
    (λ within. kept_front at front (two_fronts is.0 fits.0 at front (sym is.1 ∙ fits.1) within))
    (cases_lt (length front) (length at))

front_length : (front history : History) → IsFront front history → length front ≤ length history
front_length front history is = let size : length history ≡ length (is.0 ++ front) = ap length is.1 in let also = length-append is.0 front in omega arith

pub record Good (w : World) : Type 0 where
  pub legal : Legal w.history
  pub marked : w.mark ≤ length w.history
  pub safe : AllSafe w w.sent

told_safe : (w : World) (more : List Sending) (told : ℕ → ℕ) (at : History) → Safe w at → Safe (record w { sent = more; told = told }) at
unfolding Safe
told_safe w more told at safe = safe

good_more : (w : World) (m : Move) → May w m → Good w → Good (moved_by w m)
unfolding AllSafe
good_more w (Grow e) may good = let le = good.marked in record { legal = (may.0, good.legal); marked = omega arith; safe = all_more w _ (grow_safe w e good.marked) w.sent good.safe }
good_more w (Flush left) may good = record { legal = good.legal; marked = front_length left w.history may.0.0; safe = all_more w _ (flush_safe w left may.0.1) w.sent good.safe }
good_more w (Send conn s) may good =
    let says = sent_says w.history conn (w.told conn) s may.0 in
    record {
      legal = good.legal;
      marked = good.marked;
      safe = (front_legal s.0 w.history says.0 good.legal, says.1, told_safe w _ _ s.0 (send_safe w s.0 says.0 may.1), all_more w _ (λ at safe. told_safe w _ _ at safe) w.sent good.safe);
    }
good_more w (Crash left) may good =
    record { legal = kept_legal left (front_legal left w.history may.0.0 good.legal); marked = omega arith; safe = all_more w _ (crash_safe w left may.0.0 may.0.1) w.sent good.safe }

pub good : (moves : List Move) → Life moves → Good (world moves)
unfolding AllSafe
good [] life = record { legal = tt; marked = omega arith; safe = tt }
good (m ∷ moves) life = good_more (world moves) m life.0 (good moves life.1)

belongs : (w : World) → w.mark ≤ length w.history → (sent : List Sending) → AllSafe w sent → Belongs w.history sent
unfolding AllSafe Safe
belongs w le [] all = tt
belongs w le (s ∷ sent) all = (all.0, all.1, all.2 w.history ([], refl) le, belongs w le sent all.3)

pub life_legal : (moves : List Move) → Life moves → Legal (world moves).history
life_legal moves life = (good moves life).legal

pub life_belongs : (moves : List Move) → Life moves → Belongs (world moves).history (world moves).sent
life_belongs moves life = let g = good moves life in belongs (world moves) g.marked (world moves).sent g.safe
