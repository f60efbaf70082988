-- A step of a history, and what becomes of the parts of it that a store keeps.
use Rattle.std.proofs.Common.{◌≡◌, ◌⊎◌, inl, inr, ℕ, suc, ◌+◌, ◌-◌, ◌<◌, ◌≤◌, List, [], ◌∷◌, ◌++◌, length, drop, reverse, append_assoc, append-nil, Bool, true, false, cond, refl, sym, ap, ◌∙◌, subst, arith, None, ⊎_elim}
use Rattle.std.proofs.lemmas.Bool.{lt-ltb, cases_lt}
use Rattle.std.proofs.lemmas.List.{length-append, drop_all, reverse-append}
use Rattle.cluster_types.specs.declared.entry.Input.{Input as InputType}
use Rattle.cluster_types.specs.declared.entry.Entry.{Entry}
use Rattle.cluster_types.specs.declared.entry.Entry.TheVariants.{Input}
use Rattle.cluster_defs.specs.Scheduling.{due, Allowed, is_kept}
use Rattle.cluster_defs.specs.Histories.{History, facts, Legal, kept, decide_all}
use Rattle.cluster_defs.specs.Runs.{Decided}
use Rattle.cluster_defs.proofs.Decide.{decide_all_none}
use Rattle.cluster_laws.proofs.Kept.{not_kept_same}
use Rattle.cluster_core.specs.Steps.{kept_from, kept_one}
use Rattle.cluster_core.proofs.Growing.{due_allowed, kept_more, kept_first}
use Rattle.cluster_store.specs.Stores.{up_to, written}
use Rattle.cluster_store.proofs.Fits.{decides_to, length_more}

-- an input with the decisions after it: all of them are kept, or the input stands alone and isn't
pub record Step (old : History) (input : InputType) (new : History) : Type 0 where
  pub decisions : List Entry
  pub appended : new ≡ decisions ++ Input input ∷ old
  pub each_due : Decided (Input input ∷ old) decisions
  pub kinds : (is_kept (facts old) (Input input) ≡ true) ⊎ ((is_kept (facts old) (Input input) ≡ false) × (new ≡ Input input ∷ old) × (decisions ≡ []))

kinds_of : (old : History) (input : InputType) (b : Bool) → is_kept (facts old) (Input input) ≡ b → due (facts old) ≡ None → Step old input (decide_all (Input input ∷ old))
kinds_of old input true on rests = let to = decides_to (Input input ∷ old) in record { decisions = to.decisions; appended = to.appended; each_due = to.each_due; kinds = inl on }
kinds_of old input false off rests =
    let none : due (facts (Input input ∷ old)) ≡ None = ap due (not_kept_same (facts old) (Input input) off) ∙ rests in
    record { decisions = []; appended = decide_all_none (Input input ∷ old) none; each_due = tt; kinds = inr (off, decide_all_none (Input input ∷ old) none, refl) }

pub step_of : (old : History) (input : InputType) → due (facts old) ≡ None → Step old input (decide_all (Input input ∷ old))
step_of old input rests = kinds_of old input (is_kept (facts old) (Input input)) refl rests

pub step_longer : (old : History) (input : InputType) (new : History) → Step old input new → length old < length new
step_longer old input new s =
    let more = length_more s.decisions (Input input ∷ old) in
    let long : length new ≡ length (s.decisions ++ Input input ∷ old) = ap length s.appended in
    omega (arith, more, long)

-- LEGAL

decided_legal : (h : History) (ds : List Entry) → Decided h ds → Legal h → Legal (ds ++ h)
decided_legal h [] each legal = legal
decided_legal h (d ∷ ds) each legal = (due_allowed (facts (ds ++ h)) d each.0, decided_legal h ds each.1 legal)

pub step_legal : (old : History) (input : InputType) (new : History) → Step old input new → Allowed (facts old) (Input input) → Legal old → Legal new
step_legal old input new s allowed legal = subst Legal (sym s.appended) (decided_legal (Input input ∷ old) s.decisions s.each_due (allowed, legal))

-- WHAT IS KEPT

-- all kept entries from a place on are those from there to another, and those from that one on
kept_behind : (at : ℕ) (old : History) (e : Entry) (ds : List Entry) → at ≤ length old → kept_from at (ds ++ e ∷ old) ≡ kept_from at old ++ kept_from (length old) (ds ++ e ∷ old)
kept_behind at old e [] le = kept_more at e old le ∙ ap (λ (xs : List Entry). kept_from at old ++ xs) (sym (kept_first e old))
kept_behind at old e (d ∷ ds) le =
    let below = ds ++ e ∷ old in
    let more = length_more ds (e ∷ old) in
    let here : length old ≤ length below = omega (arith, more) in
    kept_more at d below (omega (arith, le, here)) ∙ ap (λ (xs : List Entry). xs ++ kept_one (is_kept (facts below) d) d) (kept_behind at old e ds le)
    ∙ append_assoc (kept_from at old) (kept_from (length old) below) (kept_one (is_kept (facts below) d) d)
    ∙ ap (λ (xs : List Entry). kept_from at old ++ xs) (sym (kept_more (length old) d below here))

pub step_keeps : (at : ℕ) (old : History) (input : InputType) (new : History) → Step old input new → at ≤ length old → kept_from at new ≡ kept_from at old ++ kept_from (length old) new
step_keeps at old input new s le =
    subst (λ h. kept_from at h ≡ kept_from at old ++ kept_from (length old) h) (sym s.appended) (kept_behind at old (Input input) s.decisions le)

-- the front of a history stays when it grows
pub front_stays : (at : ℕ) (later old : History) → at ≤ length old → up_to at (later ++ old) ≡ up_to at old
front_stays at later old le =
    let size : length (later ++ old) - at ≡ length later + (length old - at) = (let long = length-append later old in omega (arith, long, le)) in
    ap (λ n. drop n (later ++ old)) size ∙ past later old (length old - at)
  where
    past : (xs ys : List Entry) (n : ℕ) → drop (length xs + n) (xs ++ ys) ≡ drop n ys
    past [] ys n = let same : length {A = Entry} [] + n ≡ n = omega arith in ap (λ k. drop k ys) same
    past (x ∷ xs) ys n = let more : length (x ∷ xs) + n ≡ suc (length xs + n) = omega arith in ap (λ k. drop k (x ∷ (xs ++ ys))) more ∙ past xs ys n

pub step_front : (at : ℕ) (old : History) (input : InputType) (new : History) → Step old input new → at ≤ length old → up_to at new ≡ up_to at old
step_front at old input new s le =
    subst (λ h. up_to at h ≡ up_to at old) (sym s.appended) (ap (up_to at) (joined s.decisions (Input input) old) ∙ front_stays at (s.decisions ++ Input input ∷ []) old le)
  where
    joined : (xs : List Entry) (x : Entry) (ys : List Entry) → xs ++ x ∷ ys ≡ (xs ++ x ∷ []) ++ ys
    joined xs x ys = sym (append_assoc xs (x ∷ []) ys)

-- the whole history is its front with as many entries
pub whole_front : (h : History) → up_to (length h) h ≡ h
whole_front h = let none : length h - length h ≡ 0 = omega arith in ap (λ n. drop n h) none

pub none_behind : (h : History) → kept_from (length h) h ≡ []
none_behind [] = refl
none_behind (e ∷ older) =
    ap (λ b. cond b [] (kept_from (suc (length older)) older ++ kept_one (is_kept (facts older) e) e)) (lt-ltb (length older) (suc (length older)) (omega arith))

-- a journal that holds what is kept of a front, and then the rest, holds what is kept of all
pub all_written : (at : ℕ) (h : History) → at ≤ length h → written (up_to at h) ++ kept_from at h ≡ written h
all_written at [] le = ap (λ (xs : History). written xs ++ []) (drop_all (0 - at) [] (omega arith))
all_written at (e ∷ older) le = ⊎_elim (λ lt. let within : at ≤ length older = omega (arith, lt) in inside at e older within (all_written at older within)) (λ ge. outside at e older (omega (arith, ge, le))) (cases_lt at (suc (length older)))
  where
    outside : (at : ℕ) (e : Entry) (older : History) → at ≡ suc (length older) → written (up_to at (e ∷ older)) ++ kept_from at (e ∷ older) ≡ written (e ∷ older)
    outside at e older is =
        subst (λ n. written (up_to n (e ∷ older)) ++ kept_from n (e ∷ older) ≡ written (e ∷ older)) (sym is)
        (ap (λ xs. written xs ++ kept_from (suc (length older)) (e ∷ older)) (whole_front (e ∷ older)) ∙ ap (λ (xs : List Entry). written (e ∷ older) ++ xs) (none_behind (e ∷ older)) ∙ append-nil (written (e ∷ older)))

    one : (b : Bool) (e : Entry) (older : History) → written older ++ kept_one b e ≡ reverse (cond b (e ∷ kept older) (kept older))
    one true e older = sym (reverse-append (e ∷ []) (kept older))
    one false e older = append-nil (written older)

    inside : (at : ℕ) (e : Entry) (older : History) → at ≤ length older → written (up_to at older) ++ kept_from at older ≡ written older → written (up_to at (e ∷ older)) ++ kept_from at (e ∷ older) ≡ written (e ∷ older)
    inside at e older le below =
        ap (λ xs. written xs ++ kept_from at (e ∷ older)) (front_stays at (e ∷ []) older le)
        ∙ ap (λ (xs : List Entry). written (up_to at older) ++ xs) (kept_more at e older le)
        ∙ sym (append_assoc (written (up_to at older)) (kept_from at older) (kept_one (is_kept (facts older) e) e))
        ∙ ap (λ (xs : List Entry). xs ++ kept_one (is_kept (facts older) e) e) below
        ∙ one (is_kept (facts older) e) e older
