-- A step that is served: it is taken where no outs wait, and written at once.
use Rattle.std.proofs.Common.{◌≡◌, ◌⊎◌, inl, inr, ◌^◌, ℕ, ◌-◌, ◌≤◌, List, [], ◌∷◌, ◌++◌, length, drop, map, true, false, refl, sym, ap, ◌∙◌, subst, arith, None}
use Rattle.std.proofs.lemmas.List.{drop_all}
use Rattle.cluster_types.specs.declared.entry.Input.{Input as InputType}
use Rattle.cluster_types.specs.declared.entry.Entry.{Entry}
use Rattle.cluster_types.specs.declared.entry.Entry.TheVariants.{Input}
use Rattle.cluster_defs.specs.Scheduling.{Allowed}
use Rattle.cluster_defs.specs.Histories.{History, facts, decide_all}
use Rattle.cluster_defs.specs.Outs.{outs_on, outs_from}
use Rattle.cluster_defs.specs.Lives.{sendings_to}
use Rattle.cluster_core.specs.Steps.{kept_from}
use Rattle.cluster_core.specs.declared.size.HistorySize.{HistorySize}
use Rattle.cluster_core.specs.Size.{size_since, is_past}
use Rattle.record_codec.specs.Records.{spellings}
use Rattle.cluster_store.specs.declared.fault.StepError.{StepError}
use Rattle.cluster_store.specs.declared.fault.StepError.TheVariants.{Reopen, HistoryFull, BatchFull, OutOfMemory}
use Rattle.cluster_store.specs.declared.waiting.Waiting.{Waiting}
use Rattle.cluster_store.specs.Queues.{waits}
use Rattle.cluster_store.specs.Stores.{up_to, written, IsRefused, IsRefusedFor, IsTooLong}
use Rattle.disk_model.specs.Crashes.{LeavesOnly}
use Rattle.task_journal.specs.Journal.{StandsFor}
use Rattle.task_journal.specs.Settled.{Outcome}
use Rattle.cluster_store.specs.Held.{judged, judged_by, IsHeld, told_of, need_after}
use Rattle.cluster_store.proofs.Holding.{Grown, held_after, held_flushed, batch_completes, flush_moment, none_left}
use Rattle.cluster_store.proofs.Stepping.{step_of, step_keeps, whole_front}
use Rattle.cluster_store.proofs.Waits.{left_before}

-- the outs that wait may be let go
pub let_go : (h : History) (mark need : ℕ) (left left' : ℕ → List Waiting) (batch : List Entry) → IsHeld h mark need left batch → ((c : ℕ) → left' c ≡ []) → IsHeld h mark need left' batch
let_go h mark need left left' batch held none =
    subst (λ (l : ℕ → List Waiting). IsHeld h mark need l batch) (λ i c. sym (none c) i)
    (record {
      legal = held.legal;
      rests = held.rests;
      mark_fits = held.mark_fits;
      mark_rests = held.mark_rests;
      waiting = record { fits = λ c. omega arith; same = λ c. nothing_waits c; needs = λ c. refl; need_is = held.waiting.need_is; need_fits = held.waiting.need_fits };
      batch_is = held.batch_is;
    })
  where
    nobody : List Waiting
    nobody = []

    nothing_waits : (c : ℕ) → map (judged mark) nobody ≡ map (judged_by mark) (drop (length (sendings_to h c) - length nobody) (sendings_to h c))
    nothing_waits c = ap (map (judged_by mark)) (sym (drop_all (length (sendings_to h c) - 0) (sendings_to h c) (omega arith)))

pub all_told : (h : History) (left : ℕ → List Waiting) (c : ℕ) → left c ≡ [] → told_of left h c ≡ length (sendings_to h c)
all_told h left c none = let same : length (sendings_to h c) - length (left c) ≡ length (sendings_to h c) - 0 = ap (λ (ws : List Waiting). length (sendings_to h c) - length ws) none in omega (arith, same)

-- a step that was taken into a batch
pub record Taken (old : History) (need : ℕ) (batch : List Entry) (input : InputType) (new : History) (kept : List Entry) (size need' : ℕ) (batch' : List Entry) : Type 0 where
  pub history : new ≡ decide_all (Input input ∷ old)
  pub allowed : Allowed (facts old) (Input input)
  pub kept_are : kept ≡ kept_from (length old) new
  pub size_is : size ≡ length new
  pub need_is : need' ≡ need_after need kept size
  pub batch_is : batch' ≡ batch ++ kept_from (length old) new

pub served_held : (old : History) (mark need : ℕ) (left : ℕ → List Waiting) (batch : List Entry) (input : InputType) (new : History) (kept : List Entry) (size need' : ℕ) (batch' : List Entry) →
    IsHeld old mark need left batch → ((c : ℕ) → told_of left old c ≡ length (sendings_to old c)) → Taken old need batch input new kept size need' batch' → IsHeld new mark need' left batch' × (up_to mark new ≡ up_to mark old)
served_held old mark need left batch input new kept size need' batch' held calm t =
    let left' : ℕ → List Waiting = λ c. left_before left (Input input) c ++ waits need' (outs_on c (outs_from (length old) new)) in
    let grown : Grown old mark need left batch input new need' left' batch' = record {
      history = t.history;
      allowed = t.allowed;
      need_is = t.need_is ∙ ap (λ (es : List Entry). need_after need es size) t.kept_are ∙ ap (need_after need (kept_from (length old) new)) t.size_is;
      left_is = λ c. refl;
      batch_is = t.batch_is;
    } in
    let after = held_after old mark need left batch input new need' left' batch' held grown in
    (let_go new mark need' left' left batch' after.0 (none_left old mark need left batch held calm), after.2)

-- why a step is refused that a batch doesn't take
pub refused_for : (mark : ℕ) (limit : HistorySize) (new : History) (es : List Entry) (error : StepError) → es ≡ kept_from mark new → IsRefusedFor limit new es error → IsRefused false mark limit new error
refused_for mark limit new es Reopen same why = absurd why
refused_for mark limit new es (HistoryFull entries bytes) same why = (refl, why.0, why.1)
refused_for mark limit new es BatchFull same why = (refl, why.0, subst (λ (xs : List Entry). 2 ^ 32 ≤ length (spellings xs)) same why.1)
refused_for mark limit new es OutOfMemory same why = refl

-- what is kept of a step stands behind the batch
pub all_kept : (old : History) (mark need : ℕ) (left : ℕ → List Waiting) (batch : List Entry) (input : InputType) → IsHeld old mark need left batch →
    batch ++ kept_from (length old) (decide_all (Input input ∷ old)) ≡ kept_from mark (decide_all (Input input ∷ old))
all_kept old mark need left batch input held =
    ap (λ (es : List Entry). es ++ kept_from (length old) (decide_all (Input input ∷ old))) held.batch_is
    ∙ sym (step_keeps mark old input (decide_all (Input input ∷ old)) (step_of old input held.rests) held.mark_fits)

pub never_long : (old : History) (mark need : ℕ) (left : ℕ → List Waiting) (batch : List Entry) (input : InputType) → IsHeld old mark need left batch →
    (2 ^ 32 ≤ length (spellings (batch ++ kept_from (length old) (decide_all (Input input ∷ old)))) → ⊥) → IsTooLong mark (decide_all (Input input ∷ old)) → ⊥
never_long old mark need left batch input held short long = short (subst (λ (es : List Entry). 2 ^ 32 ≤ length (spellings es)) (sym (all_kept old mark need left batch input held)) long)

-- what the disk holds when the batch was written
pub holds_all : (octets : List ℕ) (old new : History) (mark need' size : ℕ) (left : ℕ → List Waiting) (batch' : List Entry) → IsHeld new mark need' left batch' → up_to mark new ≡ up_to mark old → size ≡ length new →
    StandsFor octets (written (up_to mark old) ++ batch') → StandsFor octets (written (up_to size new))
holds_all octets old new mark need' size left batch' held front size_is stands =
    subst (StandsFor octets)
    (ap (λ (h : History). written h ++ batch') (sym front) ∙ batch_completes new mark need' left batch' held ∙ sym (ap written (ap (λ n. up_to n new) size_is ∙ whole_front new))) stands

pub held_written : (new : History) (mark need' size : ℕ) (left : ℕ → List Waiting) (batch' now : List Entry) → IsHeld new mark need' left batch' → size ≡ length new → now ≡ [] → IsHeld new size need' left now
held_written new mark need' size left batch' now held size_is none =
    subst (λ n. IsHeld new n need' left now) (sym size_is) (subst (λ (b : List Entry). IsHeld new (length new) need' left b) (sym none) (held_flushed new mark need' left batch' held))

-- what a crash in a step leaves
pub serve_moment : {D : Type 0} (content : D → List ℕ) (moment : D → ℕ) (image_since : D → ℕ → List ℕ → Type 0) (before after : D) (old new : History) (input : InputType) (mark need' : ℕ) (left : ℕ → List Waiting) (batch' : List Entry) →
    IsHeld new mark need' left batch' → up_to mark new ≡ up_to mark old → new ≡ decide_all (Input input ∷ old) → StandsFor (content before) (written (up_to mark old)) →
    ((list : List Entry) → StandsFor (content before) list → LeavesOnly moment image_since before after (Outcome list batch')) →
    LeavesOnly moment image_since before after (λ c. StandsFor c (written (up_to mark old)) ⊎ StandsFor c (written (decide_all (Input input ∷ old))))
serve_moment content moment image_since before after old new input mark need' left batch' held front is stands leaves =
    subst (λ (h : History). LeavesOnly moment image_since before after (λ c. StandsFor c (written (up_to mark old)) ⊎ StandsFor c (written h))) is
    (flush_moment content moment image_since before after new mark need' left batch' held (subst (λ (h : History). StandsFor (content before) (written h)) (sym front) stands) leaves (written (up_to mark old)) stands)
