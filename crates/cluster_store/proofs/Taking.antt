-- The outs that wait, once all is safe, and after a take.
use Rattle.std.proofs.Common.{◌≡◌, ℕ, zero, suc, ◌+◌, ◌-◌, ◌≤◌, List, [], ◌∷◌, ◌++◌, length, drop, Bool, true, false, cond, not, ◌||◌, refl, sym, ap, ◌∙◌, subst, arith, Option, Some, None, map}
use Rattle.std.specs.Prelude.{nat_le, slice_get, ◌==◌}
use Rattle.std.specs.List.{list_all}
use Rattle.std.proofs.lemmas.Bool.{le-leb, leb-true, and_parts, and_from, eqb-true, eqb-false}
use Rattle.std.proofs.lemmas.List.{drop-drop}
use Rattle.std.proofs.lemmas.List.Folds.{list_all-append}
use Rattle.cluster_types.specs.declared.out.Out.{Out}
use Rattle.cluster_types.specs.declared.entry.Input.TheVariants.{Open, Up, Down, In, Beat, Time}
use Rattle.cluster_types.specs.declared.entry.Entry.{Entry}
use Rattle.cluster_types.specs.declared.entry.Entry.TheVariants.{Input, Hand, Settle, Lose}
use Rattle.cluster_defs.specs.Scheduling.{is_kept}
use Rattle.cluster_defs.specs.Histories.{History, facts}
use Rattle.cluster_defs.specs.Outs.{outs, outs_on}
use Rattle.cluster_defs.specs.Lives.{Sending, kept_end, sendings, sendings_to}
use Rattle.cluster_store.specs.declared.waiting.Waiting.{Waiting}
use Rattle.cluster_store.specs.declared.taken.Taken.TheVariants.{Out as Hands, NothingYet, Closed}
use Rattle.cluster_store.specs.Queues.{released, after, handed, is_none_left}
use Rattle.cluster_store.specs.Stores.{answer, told_by}
use Rattle.cluster_store.specs.Held.{judged, judged_by, told_of, IsWaiting}
use Rattle.cluster_store.proofs.Waits.{marked, with_mark, WaitsAt, at_of}

-- ONCE ALL IS SAFE

firsts : (mark : ℕ) (ws : List Waiting) → map (λ (p : Out × Bool). p.0) (map (judged mark) ws) ≡ map (λ (w : Waiting). w.out) ws
firsts mark [] = refl
firsts mark (w ∷ ws) = ap (λ (xs : List Out). w.out ∷ xs) (firsts mark ws)

pub firsts_by : (mark : ℕ) (ss : List Sending) → map (λ (p : Out × Bool). p.0) (map (judged_by mark) ss) ≡ map (λ (s : Sending). s.1) ss
firsts_by mark [] = refl
firsts_by mark (s ∷ ss) = ap (λ (xs : List Out). s.1 ∷ xs) (firsts_by mark ss)

all_open : (n : ℕ) (ws : List Waiting) → list_all (λ w. nat_le w.need n) ws ≡ true → map (judged n) ws ≡ marked true (map (λ (w : Waiting). w.out) ws)
all_open n [] all = refl
all_open n (w ∷ ws) all =
    let both = and_parts (nat_le w.need n) (list_all (λ w. nat_le w.need n) ws) all in
    ap (λ c. with_mark w.out c (map (judged n) ws)) both.0 ∙ ap (with_mark w.out true) (all_open n ws both.1)

all_open_by : (n : ℕ) (ss : List Sending) → list_all (λ s. nat_le (kept_end s.0) n) ss ≡ true → map (judged_by n) ss ≡ marked true (map (λ (s : Sending). s.1) ss)
all_open_by n [] all = refl
all_open_by n (s ∷ ss) all =
    let both = and_parts (nat_le (kept_end s.0) n) (list_all (λ s. nat_le (kept_end s.0) n) ss) all in
    ap (λ c. with_mark s.1 c (map (judged_by n) ss)) both.0 ∙ ap (with_mark s.1 true) (all_open_by n ss both.1)

pub end_fits : (h : History) → kept_end h ≤ length h
end_fits [] = omega arith
end_fits (e ∷ older) =
    let le = end_fits older in
    elim (is_kept (facts older) e) as (λ b. cond b (suc (length older)) (kept_end older) ≤ suc (length older)) [
      | true ↦ omega arith
      | false ↦ omega (arith, le)
    ]

ends_more : (ss : List Sending) (n m : ℕ) → n ≤ m → list_all (λ s. nat_le (kept_end s.0) n) ss ≡ true → list_all (λ s. nat_le (kept_end s.0) m) ss ≡ true
ends_more [] n m le all = refl
ends_more (s ∷ ss) n m le all =
    let both = and_parts (nat_le (kept_end s.0) n) (list_all (λ s. nat_le (kept_end s.0) n) ss) all in
    let here = leb-true (kept_end s.0) n both.0 in
    and_from _ _ (le-leb (kept_end s.0) m (omega (arith, le, here))) (ends_more ss n m le both.1)

ends_here : (h : History) (os : List Out) (n : ℕ) → kept_end h ≤ n → list_all (λ s. nat_le (kept_end s.0) n) (sendings h os) ≡ true
ends_here h [] n le = refl
ends_here h (o ∷ os) n le = and_from _ _ (le-leb (kept_end h) n le) (ends_here h os n le)

ends_of : (e : Entry) (older : History) (conn : ℕ) → list_all (λ s. nat_le (kept_end s.0) (length older)) (sendings_to older conn) ≡ true →
    list_all (λ s. nat_le (kept_end s.0) (suc (length older))) (sendings_to older conn ++ sendings (e ∷ older) (outs_on conn (outs (e ∷ older)))) ≡ true
ends_of e older conn before =
    list_all-append _ (sendings_to older conn) (sendings (e ∷ older) (outs_on conn (outs (e ∷ older))))
    ∙ and_from _ _ (ends_more (sendings_to older conn) (length older) (suc (length older)) (omega arith) before) (ends_here (e ∷ older) (outs_on conn (outs (e ∷ older))) (suc (length older)) (end_fits (e ∷ older)))

pub ends_within : (h : History) (conn : ℕ) → list_all (λ s. nat_le (kept_end s.0) (length h)) (sendings_to h conn) ≡ true
ends_within [] conn = refl
ends_within (Input (Open moment scheme hwm misses) ∷ older) conn = refl
ends_within (Input (Up c channel moment word identity) ∷ older) conn = ends_of (Input (Up c channel moment word identity)) older conn (ends_within older conn)
ends_within (Input (Down c moment word) ∷ older) conn = ends_of (Input (Down c moment word)) older conn (ends_within older conn)
ends_within (Input (In c moment word m) ∷ older) conn = ends_of (Input (In c moment word m)) older conn (ends_within older conn)
ends_within (Input (Beat moment word) ∷ older) conn = ends_of (Input (Beat moment word)) older conn (ends_within older conn)
ends_within (Input (Time moment word) ∷ older) conn = ends_of (Input (Time moment word)) older conn (ends_within older conn)
ends_within (Hand id n ∷ older) conn = ends_of (Hand id n) older conn (ends_within older conn)
ends_within (Settle id v c ∷ older) conn = ends_of (Settle id v c) older conn (ends_within older conn)
ends_within (Lose n ∷ older) conn = ends_of (Lose n) older conn (ends_within older conn)

all_drop : {X : Type 0} (p : X → Bool) (n : ℕ) (xs : List X) → list_all p xs ≡ true → list_all p (drop n xs) ≡ true
all_drop p zero xs all = all
all_drop p (suc n) [] all = refl
all_drop p (suc n) (x ∷ xs) all = all_drop p n xs (and_parts (p x) (list_all p xs) all).1

-- a flush lets all go
pub flushed : (h : History) (mark need : ℕ) (left : ℕ → List Waiting) → IsWaiting h mark need left → IsWaiting h (length h) need left
flushed h mark need left w = record {
  fits = w.fits;
  same = λ conn.
      let rest = drop (told_of left h conn) (sendings_to h conn) in
      let outs_same : map (λ (w : Waiting). w.out) (left conn) ≡ map (λ (s : Sending). s.1) rest = sym (firsts mark (left conn)) ∙ ap (map (λ (p : Out × Bool). p.0)) (w.same conn) ∙ firsts_by mark rest in
      all_open (length h) (left conn) (w.needs conn) ∙ ap (marked true) outs_same
      ∙ sym (all_open_by (length h) rest (all_drop _ (told_of left h conn) (sendings_to h conn) (ends_within h conn)));
  needs = w.needs;
  need_is = le-leb need (length h) w.need_fits ∙ sym (le-leb (kept_end h) (length h) (end_fits h));
  need_fits = w.need_fits;
}

-- A TAKE

abbrev pub first_of : {X : Type 0} → List X → Option X
first_of [] = None
first_of (x ∷ xs) = Some x

pub get_first : {X : Type 0} (xs : List X) (n : ℕ) → slice_get xs n ≡ first_of (drop n xs)
get_first [] zero = refl
get_first [] (suc n) = refl
get_first (x ∷ xs) zero = refl
get_first (x ∷ xs) (suc n) = get_first xs n

abbrev first_or : {X : Type 0} → X → List X → X
first_or d [] = d
first_or d (x ∷ xs) = x

abbrev rest_of : {X : Type 0} → List X → List X
rest_of [] = []
rest_of (x ∷ xs) = xs

-- what a take hands out, and what a call answers where it hands out none
pub answers_some : (live : Bool) (mark : ℕ) (ws : List Waiting) (ss : List Sending) (out : Out) → map (judged mark) ws ≡ map (judged_by mark) ss → released mark ws ≡ Some out → answer live mark (first_of ss) ≡ Hands out
answers_some live mark [] ss out same is = cc
answers_some live mark (w ∷ ws) [] out same is = cc
answers_some live mark (w ∷ ws) (s ∷ ss) out same is =
    let first : judged mark w ≡ judged_by mark s = ap (first_or (judged mark w)) same in
    subst (λ (p : Out × Bool). cond p.1 (Hands p.0) NothingYet ≡ Hands out) first (hands (nat_le w.need mark) is)
  where
    hands : (b : Bool) → cond b (Some w.out) None ≡ Some out → cond b (Hands w.out) NothingYet ≡ Hands out
    hands true h = let same_out : w.out ≡ out = cc in ap (λ (o : Out). Hands o) same_out
    hands false h = cc

pub answers_none : (live : Bool) (mark : ℕ) (ws : List Waiting) (ss : List Sending) → map (judged mark) ws ≡ map (judged_by mark) ss → released mark ws ≡ None → answer live mark (first_of ss) ≡ cond (live || not (is_none_left (after mark ws))) NothingYet Closed
answers_none live mark [] [] same is = elim live as (λ b. cond b NothingYet Closed ≡ cond (b || false) NothingYet Closed) [
  | true ↦ refl
  | false ↦ refl
]
answers_none live mark [] (s ∷ ss) same is = cc
answers_none live mark (w ∷ ws) [] same is = cc
answers_none live mark (w ∷ ws) (s ∷ ss) same is =
    let first : judged mark w ≡ judged_by mark s = ap (first_or (judged mark w)) same in
    subst (λ (p : Out × Bool). cond p.1 (Hands p.0) NothingYet ≡ cond (live || not (is_none_left (after mark (w ∷ ws)))) NothingYet Closed) first (waits_on (nat_le w.need mark) refl is)
  where
    either : (b : Bool) → (b || true) ≡ true
    either true = refl
    either false = refl

    waits_on : (b : Bool) → nat_le w.need mark ≡ b → cond b (Some w.out) None ≡ None → cond b (Hands w.out) NothingYet ≡ cond (live || not (is_none_left (cond (nat_le w.need mark) ws (w ∷ ws)))) NothingYet Closed
    waits_on true at h = cc
    waits_on false at h =
        sym (ap (λ c. cond (live || not (is_none_left (cond c ws (w ∷ ws)))) NothingYet Closed) at ∙ ap (λ c. cond c NothingYet Closed) (either live))

rest_map : {X Y : Type 0} (f : X → Y) (xs : List X) → rest_of (map f xs) ≡ map f (drop 1 xs)
rest_map f [] = refl
rest_map f (x ∷ xs) = refl

taken_one : (mark n : ℕ) (ss : List Sending) (w : Waiting) (ws : List Waiting) → WaitsAt mark n ss (w ∷ ws) → WaitsAt mark n ss ws
taken_one mark n ss w ws at =
    let le = at.fits in
    let next : (length ss - suc (length ws)) + 1 ≡ length ss - length ws = omega (arith, le) in
    record {
      fits = omega (arith, le);
      same = ap rest_of at.same ∙ rest_map (judged_by mark) (drop (length ss - suc (length ws)) ss) ∙ ap (map (judged_by mark)) (drop-drop 1 (length ss - suc (length ws)) ss ∙ ap (λ k. drop k ss) next);
      needs = (and_parts (nat_le w.need n) (list_all (λ w. nat_le w.need n) ws) at.needs).1;
    }

pub taken_at : (mark n : ℕ) (ss : List Sending) (ws : List Waiting) → WaitsAt mark n ss ws → WaitsAt mark n ss (after mark ws)
taken_at mark n ss [] at = at
taken_at mark n ss (w ∷ ws) at = (elim (nat_le w.need mark) as (λ b. WaitsAt mark n ss (cond b ws (w ∷ ws))) [
  | true ↦ taken_one mark n ss w ws at
  | false ↦ at
])

-- how many were taken then
some_taken : (mark : ℕ) (ss : List Sending) (ws : List Waiting) (out : Out) → length ws ≤ length ss → released mark ws ≡ Some out → length ss - length (after mark ws) ≡ suc (length ss - length ws)
some_taken mark ss [] out le is = cc
some_taken mark ss (w ∷ ws) out le is =
    (elim (nat_le w.need mark) as (λ b. cond b (Some w.out) None ≡ Some out → length ss - length (cond b ws (w ∷ ws)) ≡ suc (length ss - suc (length ws))) [
      | true ↦ λ h. omega (arith, le)
      | false ↦ λ h. cc
    ]) is

none_taken : (mark : ℕ) (ws : List Waiting) → released mark ws ≡ None → after mark ws ≡ ws
none_taken mark [] is = refl
none_taken mark (w ∷ ws) is =
    (elim (nat_le w.need mark) as (λ b. cond b (Some w.out) None ≡ None → cond b ws (w ∷ ws) ≡ w ∷ ws) [
      | true ↦ λ h. cc
      | false ↦ λ h. refl
    ]) is

-- a take from one connection leaves the others
left_at : (h : History) (mark need conn : ℕ) (left left' : ℕ → List Waiting) → IsWaiting h mark need left → ((c : ℕ) → left' c ≡ cond (conn == c) (after mark (left c)) (left c)) → (c : ℕ) → WaitsAt mark (length h) (sendings_to h c) (left' c)
left_at h mark need conn left left' w are c =
    subst (WaitsAt mark (length h) (sendings_to h c)) (sym (are c))
    (elim (conn == c) as (λ b. WaitsAt mark (length h) (sendings_to h c) (cond b (after mark (left c)) (left c))) [
      | true ↦ taken_at mark (length h) (sendings_to h c) (left c) (at_of h mark need left w c)
      | false ↦ at_of h mark need left w c
    ])

pub waiting_taken : (h : History) (mark need conn : ℕ) (left left' : ℕ → List Waiting) → IsWaiting h mark need left → ((c : ℕ) → left' c ≡ cond (conn == c) (after mark (left c)) (left c)) → IsWaiting h mark need left'
waiting_taken h mark need conn left left' w are = record {
  fits = λ c. (left_at h mark need conn left left' w are c).fits;
  same = λ c. (left_at h mark need conn left left' w are c).same;
  needs = λ c. (left_at h mark need conn left left' w are c).needs;
  need_is = w.need_is;
  need_fits = w.need_fits;
}

pub told_some : (h : History) (mark need conn : ℕ) (left left' : ℕ → List Waiting) (out : Out) → IsWaiting h mark need left → ((c : ℕ) → left' c ≡ cond (conn == c) (after mark (left c)) (left c)) → released mark (left conn) ≡ Some out →
    (c : ℕ) → told_of left' h c ≡ told_by (Hands out) conn (told_of left h) c
told_some h mark need conn left left' out w are is c =
    ap (λ (ws : List Waiting). length (sendings_to h c) - length ws) (are c) ∙ by (c == conn) refl (conn == c) refl
  where
    by : (b : Bool) → (c == conn) ≡ b → (d : Bool) → (conn == c) ≡ d → length (sendings_to h c) - length (cond d (after mark (left c)) (left c)) ≡ cond b (suc (told_of left h c)) (told_of left h c)
    by true on true off = some_taken mark (sendings_to h c) (left c) out (w.fits c) (subst (λ k. released mark (left k) ≡ Some out) (eqb-true conn c off) is)
    by false on false off = refl
    by true on false off = absurd (eqb-false conn c off (sym (eqb-true c conn on)))
    by false on true off = absurd (eqb-false c conn on (sym (eqb-true conn c off)))

pub told_none : (h : History) (mark need conn : ℕ) (left left' : ℕ → List Waiting) → ((c : ℕ) → left' c ≡ cond (conn == c) (after mark (left c)) (left c)) → released mark (left conn) ≡ None →
    (c : ℕ) → told_of left' h c ≡ told_of left h c
told_none h mark need conn left left' are is c =
    ap (λ (ws : List Waiting). length (sendings_to h c) - length ws) (are c ∙ by (conn == c) refl)
  where
    by : (b : Bool) → (conn == c) ≡ b → cond b (after mark (left c)) (left c) ≡ left c
    by true on = subst (λ k. after mark (left k) ≡ left k) (eqb-true conn c on) (none_taken mark (left conn) is)
    by false on = refl

-- what a take answers, and how many were taken then
pub answers : (live : Bool) (mark : ℕ) (ws : List Waiting) (ss : List Sending) → map (judged mark) ws ≡ map (judged_by mark) ss → answer live mark (first_of ss) ≡ handed live (is_none_left (after mark ws)) (released mark ws)
answers live mark ws ss same = by (released mark ws) refl
  where
    by : (o : Option Out) → released mark ws ≡ o → answer live mark (first_of ss) ≡ handed live (is_none_left (after mark ws)) o
    by (Some out) is = answers_some live mark ws ss out same is
    by None is = answers_none live mark ws ss same is

none_more : (b : Bool) (conn : ℕ) (t : ℕ → ℕ) (c : ℕ) → t c ≡ told_by (cond b NothingYet Closed) conn t c
none_more true conn t c = elim (c == conn) as (λ d. t c ≡ cond d (t c) (t c)) [
  | true ↦ refl
  | false ↦ refl
]
none_more false conn t c = elim (c == conn) as (λ d. t c ≡ cond d (t c) (t c)) [
  | true ↦ refl
  | false ↦ refl
]

pub told_taken : (h : History) (mark need conn : ℕ) (left left' : ℕ → List Waiting) (live none : Bool) → IsWaiting h mark need left → ((c : ℕ) → left' c ≡ cond (conn == c) (after mark (left c)) (left c)) →
    (c : ℕ) → told_of left' h c ≡ told_by (handed live none (released mark (left conn))) conn (told_of left h) c
told_taken h mark need conn left left' live none w are c = by (released mark (left conn)) refl
  where
    by : (o : Option Out) → released mark (left conn) ≡ o → told_of left' h c ≡ told_by (handed live none o) conn (told_of left h) c
    by (Some out) is = told_some h mark need conn left left' out w are is c
    by None is = told_none h mark need conn left left' are is c ∙ none_more (live || not none) conn (told_of left h) c
