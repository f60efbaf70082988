-- Which entries the first step and the first batch take.
use Rattle.std.proofs.Common.{◌≡◌, ℕ, suc, ◌+◌, ◌<◌, ◌≤◌, Bool, true, false, List, [], ◌∷◌, ◌++◌, length, get_or, take, drop, refl, sym, ap, subst, ◌∙◌, arith, length-append}
use Rattle.std.specs.Prelude.{All, if◌then◌else◌}
use Rattle.std.proofs.lemmas.Bool.{le-leb, lt-leb}
use Rattle.std.proofs.lemmas.Grind.{flat_map-append}
use Rattle.std.proofs.lemmas.List.{take_more, take_all, drop_all, drop-drop}
use Rattle.std.proofs.lemmas.List.Elements.{All-head, All-tail}
use Rattle.std.proofs.Math.Seq.{drop-cons, take-add}
use Rattle.cluster_types.specs.declared.entry.Entry.{Entry}
use Rattle.record_codec.specs.Spelling.{spelling}
use Rattle.record_codec.specs.Records.{spellings}
use Rattle.journal_standby.specs.Steps.{is_input, steps_from, steps, IsShortStep, HasShortSteps}
use Rattle.journal_standby.specs.Batches.{most_octets, has_room, batches_from, batches_of, batches}

-- ---- the first step

-- so many entries are in the first step, and those behind them may be
abbrev pub StepTakes : List Entry → ℕ → Type 0
StepTakes list place = steps list ≡ steps_from (take place list) (drop place list)

pub step_one : (list : List Entry) → 0 < length list → StepTakes list 1
step_one [] lt = absurd (omega arith)
step_one (e ∷ es) lt = refl

module _ (list : List Entry) (place : ℕ) (e : Entry) (lt : place < length list) (at : e ≡ get_or list place e) where
  next : drop place list ≡ e ∷ drop (place + 1) list
  next =
      let step : suc place ≡ place + 1 = omega arith in
      drop-cons list place e lt ∙ ap (λ (x : Entry). x ∷ drop (suc place) list) (sym at) ∙ ap (λ (n : ℕ). e ∷ drop n list) step

  front : take (place + 1) list ≡ take place list ++ e ∷ []
  front = take_more list place e lt ∙ ap (λ (x : Entry). take place list ++ x ∷ []) (sym at)

  turned : StepTakes list place → (b : Bool) → is_input e ≡ b → steps list ≡ (if b then take place list ∷ steps_from (e ∷ []) (drop (place + 1) list) else steps_from (take place list ++ e ∷ []) (drop (place + 1) list))
  turned so_far b is =
      so_far ∙ ap (λ (es : List Entry). steps_from (take place list) es) next
      ∙ ap (λ (b : Bool). if b then take place list ∷ steps_from (e ∷ []) (drop (place + 1) list) else steps_from (take place list ++ e ∷ []) (drop (place + 1) list)) is

  -- another entry goes into it
  pub step_more : StepTakes list place → is_input e ≡ false → StepTakes list (place + 1)
  step_more so_far not = turned so_far false not ∙ ap (λ (es : List Entry). steps_from es (drop (place + 1) list)) (sym front)

  -- the next one doesn't
  pub step_ends : StepTakes list place → is_input e ≡ true → steps list ≡ take place list ∷ steps (drop place list)
  step_ends so_far is = turned so_far true is ∙ ap (λ (es : List Entry). take place list ∷ steps es) (sym next)

-- no entry is left
pub step_all : (list : List Entry) (place : ℕ) → length list ≤ place → StepTakes list place → steps list ≡ take (length list) list ∷ steps (drop (length list) list)
step_all list place le so_far =
    let all : take place list ≡ list = take_all place list le in
    let whole : take (length list) list ≡ list = take_all (length list) list (omega arith) in
    let none : drop place list ≡ [] = drop_all place list le in
    let nothing : drop (length list) list ≡ [] = drop_all (length list) list (omega arith) in
    rw (so_far, all, whole, none, nothing) refl

-- ---- the first batch

-- so many entries are in the first batch, and the steps behind them may be
abbrev pub BatchTakes : List Entry → ℕ → Type 0
BatchTakes list place = batches list ≡ batches_from (take place list) (steps (drop place list))

pub batch_one : (list : List Entry) (n : ℕ) → steps list ≡ take n list ∷ steps (drop n list) → BatchTakes list n
batch_one list n is = ap batches_of is

-- the first step of short ones, and those behind it
pub short_step : (list : List Entry) (n : ℕ) → steps list ≡ take n list ∷ steps (drop n list) → HasShortSteps list → IsShortStep (take n list)
short_step list n is short = All-head IsShortStep (take n list) (steps (drop n list)) (subst (λ (s : List (List Entry)). All IsShortStep s) is short)

pub short_behind : (list : List Entry) (n : ℕ) → steps list ≡ take n list ∷ steps (drop n list) → HasShortSteps list → HasShortSteps (drop n list)
short_behind list n is short = All-tail IsShortStep (take n list) (steps (drop n list)) (subst (λ (s : List (List Entry)). All IsShortStep s) is short)

-- the next step has so many entries
module _ (list : List Entry) (place n : ℕ) (is : steps (drop place list) ≡ take n (drop place list) ∷ steps (drop n (drop place list))) where
  longer : take (place + n) list ≡ take place list ++ take n (drop place list)
  longer = take-add place n list

  behind : drop n (drop place list) ≡ drop (place + n) list
  behind = drop-drop n place list

  pub size_of_both : length (spellings (take (place + n) list)) ≡ length (spellings (take place list)) + length (spellings (take n (drop place list)))
  size_of_both =
      ap (λ (es : List Entry). length (spellings es)) longer ∙ ap length (flat_map-append spelling (take place list) (take n (drop place list)))
      ∙ length-append (spellings (take place list)) (spellings (take n (drop place list)))

  chosen : BatchTakes list place → (b : Bool) → has_room (take place list) (take n (drop place list)) ≡ b →
      batches list ≡ (if b then batches_from (take place list ++ take n (drop place list)) (steps (drop n (drop place list))) else take place list ∷ batches_from (take n (drop place list)) (steps (drop n (drop place list))))
  chosen so_far b room =
      so_far ∙ ap (λ (s : List (List Entry)). batches_from (take place list) s) is
      ∙ ap (λ (b : Bool). if b then batches_from (take place list ++ take n (drop place list)) (steps (drop n (drop place list))) else take place list ∷ batches_from (take n (drop place list)) (steps (drop n (drop place list)))) room

  -- it goes into the batch
  pub batch_more : BatchTakes list place → length (spellings (take (place + n) list)) ≤ most_octets → BatchTakes list (place + n)
  batch_more so_far le =
      let yes : has_room (take place list) (take n (drop place list)) ≡ true = le-leb _ _ (rw (sym (ap (λ (es : List Entry). length (spellings es)) longer)) le) in
      chosen so_far true yes ∙ ap (λ (es : List Entry). batches_from es (steps (drop n (drop place list)))) (sym longer) ∙ ap (λ (es : List Entry). batches_from (take (place + n) list) (steps es)) behind

  -- it doesn't
  pub batch_ends : BatchTakes list place → most_octets < length (spellings (take (place + n) list)) → batches list ≡ take place list ∷ batches (drop place list)
  batch_ends so_far gt =
      let not : has_room (take place list) (take n (drop place list)) ≡ false = lt-leb _ _ (rw (sym (ap (λ (es : List Entry). length (spellings es)) longer)) gt) in
      chosen so_far false not ∙ ap (λ (s : List (List Entry)). take place list ∷ batches_of s) (sym is)

  pub short_further : HasShortSteps (drop place list) → HasShortSteps (drop (place + n) list)
  short_further short = subst (λ (es : List Entry). HasShortSteps es) behind (short_behind (drop place list) n is short)

-- no step is left
pub batch_all : (list : List Entry) (place : ℕ) → length list ≤ place → BatchTakes list place → batches list ≡ take place list ∷ batches (drop place list)
batch_all list place le so_far =
    let none : drop place list ≡ [] = drop_all place list le in
    so_far ∙ ap (λ (es : List Entry). batches_from (take place list) (steps es)) none ∙ ap (λ (es : List Entry). take place list ∷ batches es) (sym none)
