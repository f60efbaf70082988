-- The steps of a list, made again.
use Rattle.std.proofs.Common.{◌≡◌, inl, inr, ⊎_elim, ℕ, zero, suc, ◌+◌, ◌-◌, ◌<◌, ◌≤◌, List, [], ◌∷◌, ◌++◌, length, take, drop, reverse, append_assoc, append-nil, true, false, cond, refl, sym, ap, ◌∙◌, subst, arith, Some, None}
use Rattle.std.specs.Prelude.{All, slice_get}
use Rattle.std.specs.List.{AllByRecursion as Each}
use Rattle.std.proofs.lemmas.List.{length-drop, reverse-append, take_all}
use Rattle.std.proofs.lemmas.List.Elements.{All-from_recursion}
use Rattle.cluster_types.specs.declared.entry.Input.{Input as InputType}
use Rattle.cluster_types.specs.declared.entry.Entry.{Entry}
use Rattle.cluster_types.specs.declared.entry.Entry.TheVariants.{Input, Hand, Settle, Lose}
use Rattle.cluster_defs.specs.Scheduling.{due, Allowed, is_kept}
use Rattle.cluster_defs.specs.Histories.{History, facts, Legal, kept, decide_all}
use Rattle.cluster_defs.specs.Runs.{Decided}
use Rattle.cluster_defs.proofs.Says.{due_says}
use Rattle.cluster_core.specs.Steps.{CoreView, PlanView, IsPlan, kept_from, kept_one}
use Rattle.cluster_core.proofs.Growing.{due_allowed, due_kept, kept_more, kept_first}
use Rattle.cluster_core.proofs.Plans.{below}
use Rattle.task_journal.specs.declared.fault.OpenFault.TheVariants.{Damaged}
use Rattle.task_journal.specs.Journal.{last_of, holding}
use Rattle.cluster_store.specs.Openings.{MayStand, Rests, IsFirstBad, IsCut, IsFit}
use Rattle.cluster_store.specs.Remaking.{IsDecision, IsRemade, Refuses}
use Rattle.cluster_store.proofs.Fits.{length_more}
use Rattle.cluster_store.proofs.Stepping.{Step, step_of}
use Rattle.cluster_store.proofs.Waits.{is_nil, kept_some}
use Rattle.cluster_types.proofs.Lists.{front_at}

-- LISTS

pub turned : (e : Entry) (es : List Entry) (h : History) → reverse (e ∷ es) ++ h ≡ reverse es ++ e ∷ h
turned e es h = ap (λ (xs : List Entry). xs ++ h) (reverse-append (e ∷ []) es) ∙ append_assoc (reverse es) (e ∷ []) h

pub record Item {X : Type 0} (xs : List X) (n : ℕ) : Type 0 where
  pub item : X
  pub is : slice_get xs n ≡ Some item

pub item_at : {X : Type 0} (xs : List X) (n : ℕ) → n < length xs → Item xs n
item_at [] n lt = absurd (omega (arith, lt))
item_at (x ∷ xs) zero lt = record { item = x; is = refl }
item_at (x ∷ xs) (suc n) lt = let rest = item_at xs n (omega (arith, lt)) in record { item = rest.item; is = rest.is }

-- DECISIONS IN TURN

-- each decision is the due one after those before it
abbrev pub InTurn : History → List Entry → Type 0
InTurn h [] = Unit {0}
InTurn h (d ∷ ds) = (due (facts h) ≡ Some d) × InTurn (d ∷ h) ds

turn_more : (h : History) (ds : List Entry) (d : Entry) → InTurn h ds → due (facts (reverse ds ++ h)) ≡ Some d → InTurn h (ds ++ d ∷ [])
turn_more h [] d each is = (is, tt)
turn_more h (e ∷ ds) d each is = (each.0, turn_more (e ∷ h) ds d each.1 (ap (λ (x : History). due (facts x)) (sym (turned e ds h)) ∙ is))

pub reverse_twice : (xs : List Entry) → reverse (reverse xs) ≡ xs
reverse_twice [] = refl
reverse_twice (x ∷ xs) = ap reverse (reverse-append (x ∷ []) xs) ∙ reverse-append (reverse xs) (x ∷ []) ∙ ap (λ (ys : List Entry). x ∷ ys) (reverse_twice xs)

pub in_turn : (h : History) (ds : List Entry) → Decided h ds → InTurn h (reverse ds)
in_turn h [] each = tt
in_turn h (d ∷ ds) each =
    subst (InTurn h) (sym (reverse-append (d ∷ []) ds))
    (turn_more h (reverse ds) d (in_turn h ds each.1) (ap (λ (xs : List Entry). due (facts (xs ++ h))) (reverse_twice ds) ∙ each.0))

is_decision : (h : History) (d : Entry) → due (facts h) ≡ Some d → IsDecision d
is_decision h (Input input) is = absurd (due_says (facts h) (Input input) is)
is_decision h (Hand id n) is = tt
is_decision h (Settle id v c) is = tt
is_decision h (Lose n) is = tt

each_decision : (h : History) (ds : List Entry) → InTurn h ds → Each IsDecision ds
each_decision h [] each = tt
each_decision h (d ∷ ds) each = (is_decision h d each.0, each_decision (d ∷ h) ds each.1)

pub decisions_are : (h : History) (ds : List Entry) → InTurn h ds → All IsDecision ds
decisions_are h ds each = All-from_recursion IsDecision ds (each_decision h ds each)

-- a history that may go on, with one more entry
pub one_stands : (h : History) (e : Entry) → MayStand h [] → Allowed (facts h) e → is_kept (facts h) e ≡ true → MayStand (e ∷ h) []
one_stands h e s allowed on = record {
  legal = (allowed, s.legal);
  all_kept = ap (λ b. cond b (e ∷ kept h) (kept h)) on ∙ ap (λ (xs : History). e ∷ xs) s.all_kept;
}

pub moved : (h : History) (e : Entry) (es : List Entry) → MayStand (e ∷ h) es → MayStand h (e ∷ es)
moved h e es s = record {
  legal = subst Legal (sym (turned e es h)) s.legal;
  all_kept = subst (λ (x : History). kept x ≡ x) (sym (turned e es h)) s.all_kept;
}

pub back : (h : History) (e : Entry) (es : List Entry) → MayStand h (e ∷ es) → MayStand (e ∷ h) es
back h e es s = record {
  legal = subst Legal (turned e es h) s.legal;
  all_kept = subst (λ (x : History). kept x ≡ x) (turned e es h) s.all_kept;
}

-- the first of the decisions may stand
pub run_stands : (h : History) (ds : List Entry) (n : ℕ) → InTurn h ds → MayStand h [] → MayStand h (take n ds)
run_stands h ds zero each s = s
run_stands h [] (suc n) each s = s
run_stands h (d ∷ ds) (suc n) each s =
    moved h d (take n ds) (run_stands (d ∷ h) ds n each.1 (one_stands h d s (due_allowed (facts h) d each.0) (due_kept (facts h) d each.0)))

-- and the next one is due behind them
pub next_due : (h : History) (ds : List Entry) (n : ℕ) (d : Entry) → InTurn h ds → slice_get ds n ≡ Some d → due (facts (reverse (take n ds) ++ h)) ≡ Some d
next_due h [] zero d each is = cc
next_due h [] (suc n) d each is = cc
next_due h (e ∷ ds) zero d each is = let same : e ≡ d = cc in each.0 ∙ ap (λ (x : Entry). Some x) same
next_due h (e ∷ ds) (suc n) d each is = ap (λ (x : History). due (facts x)) (turned e (take n ds) h) ∙ next_due (e ∷ h) ds n d each.1 is

-- what may stand at the end of a list is allowed there
last_allowed : (h : History) (es : List Entry) (e : Entry) → MayStand h (es ++ e ∷ []) → Allowed (facts (reverse es ++ h)) e
last_allowed h es e s =
    let whole : reverse (es ++ e ∷ []) ++ h ≡ e ∷ (reverse es ++ h) = ap (λ (xs : List Entry). xs ++ h) (reverse-append es (e ∷ [])) in
    (subst Legal whole s.legal).0

-- an entry that is allowed where a decision is due is this decision
allowed_due : (h : History) (e d : Entry) → due (facts h) ≡ Some d → Allowed (facts h) e → e ≡ d
allowed_due h (Input input) d is allowed = absurd (let none : None ≡ Some d = sym allowed.0 ∙ is in cc)
allowed_due h (Hand id n) d is allowed = let same : Some (Hand id n) ≡ Some d = sym allowed ∙ is in cc
allowed_due h (Settle id v c) d is allowed = let same : Some (Settle id v c) ≡ Some d = sym allowed ∙ is in cc
allowed_due h (Lose n) d is allowed = let same : Some (Lose n) ≡ Some d = sym allowed ∙ is in cc

-- behind a front of the decisions another entry than the next one may not stand
pub differs : (h : History) (ds behind : List Entry) (n : ℕ) → InTurn h ds → n < length ds → n < length behind → take n ds ≡ take n behind → (slice_get behind n ≡ slice_get ds n → ⊥) → MayStand h (take (suc n) behind) → ⊥
differs h ds behind n each more there same other s =
    let d = item_at ds n more in
    let e = item_at behind n there in
    let is : due (facts (reverse (take n behind) ++ h)) ≡ Some d.item = ap (λ (xs : List Entry). due (facts (reverse xs ++ h))) (sym same) ∙ next_due h ds n d.item each d.is in
    let allowed = last_allowed h (take n behind) e.item (subst (MayStand h) (front_at behind n e.item e.is) s) in
    other (e.is ∙ ap (λ (x : Entry). Some x) (allowed_due (reverse (take n behind) ++ h) e.item d.item is allowed) ∙ sym d.is)

-- and they don't rest
pub goes_on : (h : History) (ds behind : List Entry) (n : ℕ) → InTurn h ds → n < length ds → take n ds ≡ take n behind → Rests h (take n behind) → ⊥
goes_on h ds behind n each more same rests =
    let d = item_at ds n more in
    let is : due (facts (reverse (take n behind) ++ h)) ≡ Some d.item = ap (λ (xs : List Entry). due (facts (reverse xs ++ h))) (sym same) ∙ next_due h ds n d.item each d.is in
    let none : Some d.item ≡ None = sym is ∙ rests in
    cc

-- A STEP

-- all of a step whose input is kept
kept_step : (h : History) (input : InputType) (ds : List Entry) → Decided (Input input ∷ h) ds → is_kept (facts h) (Input input) ≡ true → kept_from (length h) (ds ++ Input input ∷ h) ≡ Input input ∷ reverse ds
kept_step h input [] each on = kept_first (Input input) h ∙ ap (λ b. kept_one b (Input input)) on
kept_step h input (d ∷ ds) each on =
    let below = ds ++ Input input ∷ h in
    let more = length_more ds (Input input ∷ h) in
    kept_more (length h) d below (omega (arith, more)) ∙ ap (λ b. kept_from (length h) below ++ kept_one b d) (due_kept (facts below) d each.0)
    ∙ ap (λ (xs : List Entry). xs ++ d ∷ []) (kept_step h input ds each.1 on) ∙ ap (λ (xs : List Entry). Input input ∷ xs) (sym (reverse-append (d ∷ []) ds))

-- the step of an input, by what is kept of it
pub record Kept (h : History) (input : InputType) (decisions : List Entry) (new : History) : Type 0 where
  pub on : is_kept (facts h) (Input input) ≡ true
  pub each : InTurn (Input input ∷ h) decisions
  pub is : new ≡ reverse decisions ++ Input input ∷ h

not_nil : {X : Type 0} (x : X) (xs : List X) → x ∷ xs ≡ [] → ⊥
not_nil x xs is = cc

pub some_kept : (h : History) (input : InputType) (k : Entry) (decisions : List Entry) (new : History) → due (facts h) ≡ None → new ≡ decide_all (Input input ∷ h) → k ∷ decisions ≡ kept_from (length h) new → Kept h input decisions new
some_kept h input k decisions new rests is kept_is =
    let s : Step h input new = subst (Step h input) (sym is) (step_of h input rests) in
    ⊎_elim
    (λ on.
    let all : k ∷ decisions ≡ Input input ∷ reverse s.decisions = kept_is ∙ ap (kept_from (length h)) s.appended ∙ kept_step h input s.decisions s.each_due on in
    let same : decisions ≡ reverse s.decisions = cc in
    record {
      on = on;
      each = subst (InTurn (Input input ∷ h)) (sym same) (in_turn (Input input ∷ h) s.decisions s.each_due);
      is = s.appended ∙ ap (λ (xs : List Entry). xs ++ Input input ∷ h) (sym (ap reverse same ∙ reverse_twice s.decisions));
    })
    (λ alone. absurd (not_nil k decisions (kept_is ∙ ap (kept_from (length h)) alone.1 ∙ kept_first (Input input) h ∙ ap (λ b. kept_one b (Input input)) alone.0)))
    s.kinds

-- an input of which nothing is kept may not stand
pub none_kept : (h : History) (input : InputType) (new : History) → due (facts h) ≡ None → new ≡ decide_all (Input input ∷ h) → kept_from (length h) new ≡ [] → kept h ≡ h → MayStand h (Input input ∷ []) → ⊥
none_kept h input new rests is none all s =
    let step : Step h input new = subst (Step h input) (sym is) (step_of h input rests) in
    ⊎_elim
    (λ on. let some : true ≡ false = ap is_nil (sym (ap (kept_from (length h)) (sym step.appended) ∙ none)) ∙ kept_some h input step.decisions on in cc)
    (λ alone.
    let short : kept (Input input ∷ h) ≡ h = ap (λ b. cond b (Input input ∷ kept h) (kept h)) alone.0 ∙ all in
    let long : length h ≡ suc (length h) = ap length (sym short ∙ s.all_kept) in
    absurd (omega (arith, long)))
    step.kinds

-- an input that may not come may not stand
pub not_allowed : (h : History) (e : Entry) → (Allowed (facts h) e → ⊥) → MayStand h (e ∷ []) → ⊥
not_allowed h e refused s = refused s.legal.0

-- a decision may not stand where none is due
pub none_is_due : (h : History) (d : Entry) → IsDecision d → due (facts h) ≡ None → Allowed (facts h) d → ⊥
none_is_due h (Input input) is none allowed = is
none_is_due h (Hand id n) is none allowed = let some : None ≡ Some (Hand id n) = sym none ∙ allowed in cc
none_is_due h (Settle id v c) is none allowed = let some : None ≡ Some (Settle id v c) = sym none ∙ allowed in cc
none_is_due h (Lose n) is none allowed = let some : None ≡ Some (Lose n) = sym none ∙ allowed in cc

-- THE ANSWERS

pub first_bad : (h : History) (e : Entry) (es : List Entry) → MayStand h [] → (MayStand h (e ∷ []) → ⊥) → IsFirstBad h (e ∷ es) 0
first_bad h e es s refused = record { within = omega arith; front = s; not = refused }

pub step_bad : (h : History) (input : InputType) (decisions behind : List Entry) (new : History) (n : ℕ) → MayStand h [] → Allowed (facts h) (Input input) → Kept h input decisions new → n < length decisions → n < length behind → take n decisions ≡ take n behind →
    (slice_get behind n ≡ slice_get decisions n → ⊥) → IsFirstBad h (Input input ∷ behind) (suc n)
step_bad h input decisions behind new n s allowed k more there same other =
    let here = one_stands h (Input input) s allowed k.on in
    record {
      within = omega (arith, there);
      front = moved h (Input input) (take n behind) (subst (MayStand (Input input ∷ h)) same (run_stands (Input input ∷ h) decisions n k.each here));
      not = λ all. differs (Input input ∷ h) decisions behind n k.each more there same other (back h (Input input) (take (suc n) behind) all);
    }

pub step_cut : (h : History) (input : InputType) (decisions behind : List Entry) (new : History) (n : ℕ) → MayStand h [] → Allowed (facts h) (Input input) → Kept h input decisions new → n < length decisions → n ≡ length behind → take n decisions ≡ take n behind →
    IsCut h (Input input ∷ behind)
step_cut h input decisions behind new n s allowed k more all same =
    let here = one_stands h (Input input) s allowed k.on in
    let whole : take n behind ≡ behind = take_all n behind (omega (arith, all)) in
    record {
      all = moved h (Input input) behind (subst (MayStand (Input input ∷ h)) (same ∙ whole) (run_stands (Input input ∷ h) decisions n k.each here));
      not = λ rests. goes_on (Input input ∷ h) decisions behind n k.each more same
          (ap (λ (xs : List Entry). due (facts (reverse xs ++ Input input ∷ h))) whole ∙ ap (λ (x : History). due (facts x)) (sym (turned (Input input) behind h)) ∙ rests);
    }

pub step_made : (h : History) (input : InputType) (decisions behind : List Entry) (new : History) (n : ℕ) → MayStand h [] → Allowed (facts h) (Input input) → Kept h input decisions new → due (facts new) ≡ None → n ≡ length decisions → n ≤ length behind → take n decisions ≡ take n behind →
    IsRemade h new (Input input ∷ behind) (suc n)
step_made h input decisions behind new n s allowed k rests all within same =
    let here = one_stands h (Input input) s allowed k.on in
    let whole : take n decisions ≡ decisions = take_all n decisions (omega (arith, all)) in
    let list : reverse (Input input ∷ take n behind) ++ h ≡ new = turned (Input input) (take n behind) h ∙ ap (λ (xs : List Entry). reverse xs ++ Input input ∷ h) (sym same ∙ whole) ∙ sym k.is in
    record {
      some = omega arith;
      within = omega (arith, within);
      history = sym list;
      stands = moved h (Input input) (take n behind) (subst (MayStand (Input input ∷ h)) same (run_stands (Input input ∷ h) decisions n k.each here));
      rests = ap (λ (x : History). due (facts x)) list ∙ rests;
    }

-- what is kept of a plan, and that its input is allowed
pub plan_keeps : (core : CoreView) (p : PlanView) (h : History) (input : InputType) → IsPlan core p → core.history ≡ h → p.input ≡ input → p.kept ≡ kept_from (length h) (decide_all (Input input ∷ h))
plan_keeps core p h input plan same is =
    plan.grown.kept_are ∙ ap (kept_from (length core.history)) plan.all ∙ ap (λ (x : History). kept_from (length x) (decide_all (Input p.input ∷ x))) same ∙ ap (λ i. kept_from (length h) (decide_all (Input i ∷ h))) is

pub plan_allows : (core : CoreView) (p : PlanView) (h : History) (input : InputType) → IsPlan core p → core.history ≡ h → p.input ≡ input → Allowed (facts h) (Input input)
plan_allows core p h input plan same is =
    let here : Legal (Input p.input ∷ core.history) = below (reverse p.decisions) (Input p.input ∷ core.history) plan.grown.stands.legal in
    subst (λ i. Allowed (facts h) (Input i)) is (subst (λ (x : History). Allowed (facts x) (Input p.input)) same here.0)

pub none_there : {X : Type 0} (xs : List X) → length xs < 1 → xs ≡ []
none_there [] lt = refl
none_there (x ∷ xs) lt = absurd (omega (arith, lt))

-- all but the first of what is kept, with a plan for a core
pub step_kept : (core : CoreView) (p : PlanView) (h : History) (input : InputType) (xs : List Entry) → IsPlan core p → core.history ≡ h → p.input ≡ input → due (facts h) ≡ None → xs ≡ p.kept → 0 < length xs →
    Kept h input (take (length xs - 1) (drop 1 xs)) (decide_all (Input input ∷ h))
step_kept core p h input [] plan same is rests kept_is some = absurd (omega (arith, some))
step_kept core p h input (x ∷ xs) plan same is rests kept_is some =
    let all : take (length (x ∷ xs) - 1) xs ≡ xs = take_all (length (x ∷ xs) - 1) xs (omega arith) in
    subst (λ (ys : List Entry). Kept h input ys (decide_all (Input input ∷ h))) (sym all)
    (some_kept h input x xs (decide_all (Input input ∷ h)) rests refl (kept_is ∙ plan_keeps core p h input plan same is))

-- A WHOLE LIST

-- the last of so many items
pub last_get : (xs : List ℕ) (n p : ℕ) → length xs ≡ suc n → slice_get xs n ≡ Some p → last_of xs ≡ Some p
last_get [] n p long is = cc
last_get (x ∷ []) zero p long is = is
last_get (x ∷ []) (suc n) p long is = cc
last_get (x ∷ (y ∷ ys)) zero p long is = absurd (omega (arith, long))
last_get (x ∷ (y ∷ ys)) (suc n) p long is = last_get (y ∷ ys) n p (omega (arith, long)) is

pub refused_bad : (entries : List Entry) (places : List ℕ) (n place : ℕ) → IsFirstBad [] entries n → slice_get places n ≡ Some place → Refuses (holding entries places) (Damaged place)
refused_bad entries places n place bad is = inl (n, bad, is)

pub refused_cut : (entries : List Entry) (places : List ℕ) (place : ℕ) → length places ≡ length entries + 1 → IsCut [] entries → slice_get places (length entries) ≡ Some place → Refuses (holding entries places) (Damaged place)
refused_cut entries places place long cut is = inr (cut, last_get places (length entries) place (omega (arith, long)) is)

-- a list from a place on, as a slice of so many items
pub rest_is : (made : ℕ) (list : List Entry) → take (length list - made) (drop made list) ≡ drop made list
rest_is made list = let long = length-drop made list in take_all (length list - made) (drop made list) (omega (arith, long))

-- behind entries that were made, the rest of a list
split : (made : ℕ) (list : List Entry) (n : ℕ) → made ≤ length list → take (made + n) list ≡ take made list ++ take n (drop made list)
split zero list n le = let same : 0 + n ≡ n = omega arith in ap (λ k. take k list) same
split (suc made) [] n le = absurd (omega (arith, le))
split (suc made) (e ∷ es) n le =
    let more : suc made + n ≡ suc (made + n) = omega arith in
    ap (λ k. take k (e ∷ es)) more ∙ ap (λ (xs : List Entry). e ∷ xs) (split made es n (omega (arith, le)))

behind : (made : ℕ) (list : List Entry) (n : ℕ) → made ≤ length list → reverse (take n (drop made list)) ++ (reverse (take made list) ++ []) ≡ reverse (take (made + n) list) ++ []
behind made list n le =
    sym (append_assoc (reverse (take n (drop made list))) (reverse (take made list)) [])
    ∙ ap (λ (xs : List Entry). xs ++ []) (sym (ap reverse (split made list n le) ∙ reverse-append (take made list) (take n (drop made list))))

-- how far a list is made
pub record IsSoFar (made : ℕ) (list : List Entry) (history : History) : Type 0 where
  pub within : made ≤ length list
  pub is : history ≡ reverse (take made list) ++ []
  pub stands : MayStand [] (take made list)
  pub rests : Rests [] (take made list)

pub so_far_none : (list : List Entry) (history : History) → history ≡ [] → IsSoFar 0 list history
so_far_none list history none = record {
  within = omega arith;
  is = none;
  stands = record { legal = tt; all_kept = refl };
  rests = refl;
}

pub so_far_stands : (made : ℕ) (list : List Entry) (history : History) → IsSoFar made list history → MayStand history []
so_far_stands made list history s = subst (λ (h : History). MayStand h []) (sym s.is) (record { legal = s.stands.legal; all_kept = s.stands.all_kept })

pub so_far_rests : (made : ℕ) (list : List Entry) (history : History) → IsSoFar made list history → Rests history []
so_far_rests made list history s = ap (λ (h : History). due (facts h)) s.is ∙ s.rests

over : (made : ℕ) (list : List Entry) (history : History) (n : ℕ) → IsSoFar made list history → MayStand history (take n (drop made list)) → MayStand [] (take (made + n) list)
over made list history n s stands =
    let same : reverse (take n (drop made list)) ++ history ≡ reverse (take (made + n) list) ++ [] = ap (λ (h : History). reverse (take n (drop made list)) ++ h) s.is ∙ behind made list n s.within in
    record { legal = subst Legal same stands.legal; all_kept = subst (λ (h : History). kept h ≡ h) same stands.all_kept }

back_over : (made : ℕ) (list : List Entry) (history : History) (n : ℕ) → IsSoFar made list history → MayStand [] (take (made + n) list) → MayStand history (take n (drop made list))
back_over made list history n s stands =
    let same : reverse (take n (drop made list)) ++ history ≡ reverse (take (made + n) list) ++ [] = ap (λ (h : History). reverse (take n (drop made list)) ++ h) s.is ∙ behind made list n s.within in
    record { legal = subst Legal (sym same) stands.legal; all_kept = subst (λ (h : History). kept h ≡ h) (sym same) stands.all_kept }

pub so_far_more : (made : ℕ) (list : List Entry) (old new : History) (n : ℕ) → IsSoFar made list old → IsRemade old new (drop made list) n → IsSoFar (made + n) list new
so_far_more made list old new n s r =
    let long = length-drop made list in
    let within = s.within in
    let less = r.within in
    let same : reverse (take n (drop made list)) ++ old ≡ reverse (take (made + n) list) ++ [] = ap (λ (h : History). reverse (take n (drop made list)) ++ h) s.is ∙ behind made list n s.within in
    record {
      within = omega (arith, long, within, less);
      is = r.history ∙ same;
      stands = over made list old n s r.stands;
      rests = ap (λ (h : History). due (facts h)) (sym same) ∙ r.rests;
    }

pub so_far_bad : (made : ℕ) (list : List Entry) (history : History) (n : ℕ) → IsSoFar made list history → IsFirstBad history (drop made list) n → IsFirstBad [] list (made + n)
so_far_bad made list history n s b =
    let long = length-drop made list in
    let within = s.within in
    let less = b.within in
    let next : made + suc n ≡ suc (made + n) = omega arith in
    record {
      within = omega (arith, long, within, less);
      front = over made list history n s b.front;
      not = λ stands. b.not (back_over made list history (suc n) s (subst (λ k. MayStand [] (take k list)) (sym next) stands));
    }

pub so_far_cut : (made : ℕ) (list : List Entry) (history : History) → IsSoFar made list history → IsCut history (drop made list) → IsCut [] list
so_far_cut made list history s c =
    let long = length-drop made list in
    let within = s.within in
    let n = length (drop made list) in
    let whole : take (made + length (drop made list)) list ≡ list = take_all (made + length (drop made list)) list (omega (arith, long, within)) in
    let rest : take (length (drop made list)) (drop made list) ≡ drop made list = take_all (length (drop made list)) (drop made list) (omega arith) in
    let same : reverse (drop made list) ++ history ≡ reverse list ++ [] =
    ap (λ (xs : List Entry). reverse xs ++ history) (sym rest) ∙ ap (λ (h : History). reverse (take (length (drop made list)) (drop made list)) ++ h) s.is ∙ behind made list (length (drop made list)) s.within
    ∙ ap (λ (xs : List Entry). reverse xs ++ []) whole in
    record {
      all = record { legal = subst Legal same c.all.legal; all_kept = subst (λ (h : History). kept h ≡ h) same c.all.all_kept };
      not = λ rests. c.not (ap (λ (h : History). due (facts h)) same ∙ rests);
    }

pub so_far_whole : (made : ℕ) (list : List Entry) (history : History) → IsSoFar made list history → length list ≤ made → IsFit list × (history ≡ reverse list)
so_far_whole made list history s all =
    let whole : take made list ≡ list = take_all made list all in
    ((subst (MayStand []) whole s.stands, subst (Rests []) whole s.rests), s.is ∙ append-nil (reverse (take made list)) ∙ ap reverse whole)
