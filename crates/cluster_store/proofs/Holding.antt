-- What a store keeps to, after a step, a flush and a take.
use Rattle.std.proofs.Common.{◌≡◌, ◌⊎◌, inl, inr, ⊎_elim, ◌^◌, Err, ℕ, ◌-◌, ◌≤◌, List, [], ◌∷◌, ◌++◌, length, drop, true, false, cond, refl, sym, ap, ◌∙◌, subst, arith, None, map}
use Rattle.std.specs.Prelude.{nat_le, ◌==◌, Result}
use Rattle.std.proofs.lemmas.Bool.{le-leb}
use Rattle.std.proofs.lemmas.List.{drop_all}
use Rattle.cluster_types.specs.declared.out.Out.{Out}
use Rattle.cluster_types.specs.declared.entry.Input.{Input as InputType}
use Rattle.cluster_types.specs.declared.entry.Input.TheVariants.{Open, Up, Down, In, Beat, Time}
use Rattle.cluster_types.specs.declared.entry.Entry.{Entry}
use Rattle.cluster_types.specs.declared.entry.Entry.TheVariants.{Input}
use Rattle.cluster_defs.specs.Scheduling.{due, Allowed}
use Rattle.cluster_defs.specs.Histories.{History, facts, Legal, decide_all}
use Rattle.cluster_defs.specs.Outs.{outs_on, outs_from}
use Rattle.cluster_defs.specs.Lives.{kept_end, sendings_to, told_after, is_open}
use Rattle.cluster_core.specs.Steps.{CoreView, PlanView, IsPlan, kept_from}
use Rattle.cluster_core.proofs.Plans.{decide_all_rests}
use Rattle.cluster_core.specs.declared.size.HistorySize.{HistorySize}
use Rattle.cluster_core.specs.Size.{size_since, is_past}
use Rattle.cluster_state.specs.Plain.{InTime}
use Rattle.record_codec.specs.Records.{spellings}
use Rattle.record_codec.specs.Spelling.{IsWithinLimits}
use Rattle.cluster_store.specs.declared.fault.StepError.{StepError}
use Rattle.cluster_store.specs.declared.fault.StepError.TheVariants.{Reopen, HistoryFull, BatchFull, OutOfMemory}
use Rattle.cluster_store.specs.declared.waiting.Waiting.{Waiting}
use Rattle.cluster_store.specs.Queues.{waits, after}
use Rattle.cluster_store.specs.Stores.{up_to, written, of_batch, IsRefused, IsRefusedFor}
use Rattle.cluster_store.specs.Held.{judged, judged_by, IsHeld, told_of, need_after}
use Rattle.disk_model.specs.Crashes.{LeavesOnly}
use Rattle.task_journal.specs.Journal.{StandsFor}
use Rattle.task_journal.specs.Settled.{Outcome}
use Rattle.task_journal.specs.declared.fault.ExtendFault.{ExtendFault}
use Rattle.task_journal.specs.declared.fault.ExtendFault.TheVariants as extends
use Rattle.cluster_store.proofs.Images.{weakened}
use Rattle.cluster_store.proofs.Opens.{same_stands}
use Rattle.cluster_store.proofs.Remade.{plan_keeps, plan_allows}
use Rattle.cluster_store.proofs.Stepping.{Step, step_of, step_longer, step_legal, step_keeps, step_front, whole_front, none_behind, all_written}
use Rattle.cluster_store.proofs.Waits.{Stepped, stepped, left_before, waiting_after, told_stays}
use Rattle.cluster_store.proofs.Taking.{end_fits, flushed, waiting_taken}

-- A STEP

pub record Grown (old : History) (mark need : ℕ) (left : ℕ → List Waiting) (batch : List Entry) (input : InputType) (new : History) (need' : ℕ) (left' : ℕ → List Waiting) (batch' : List Entry) : Type 0 where
  pub history : new ≡ decide_all (Input input ∷ old)
  pub allowed : Allowed (facts old) (Input input)
  pub need_is : need' ≡ need_after need (kept_from (length old) new) (length new)
  pub left_is : (c : ℕ) → left' c ≡ left_before left (Input input) c ++ waits need' (outs_on c (outs_from (length old) new))
  pub batch_is : batch' ≡ batch ++ kept_from (length old) new

pub held_after : (old : History) (mark need : ℕ) (left : ℕ → List Waiting) (batch : List Entry) (input : InputType) (new : History) (need' : ℕ) (left' : ℕ → List Waiting) (batch' : List Entry) →
    IsHeld old mark need left batch → Grown old mark need left batch input new need' left' batch' → IsHeld new mark need' left' batch' × ((c : ℕ) → told_of left' new c ≡ told_after (Input input) (told_of left old) c) × (up_to mark new ≡ up_to mark old)
held_after old mark need left batch input new need' left' batch' held g =
    let step : Step old input new = subst (Step old input) (sym g.history) (step_of old input held.rests) in
    let longer = step_longer old input new step in
    let fits = held.mark_fits in
    let w = held.waiting in
    let s : Stepped mark old input new need' = subst (Stepped mark old input new) (sym g.need_is) (stepped mark need old input new step held.mark_fits w.need_is w.need_fits) in
    let front : up_to mark new ≡ up_to mark old = step_front mark old input new step held.mark_fits in (
      record {
        legal = step_legal old input new step g.allowed held.legal;
        rests = ap (λ (h : History). due (facts h)) g.history ∙ decide_all_rests (Input input ∷ old);
        mark_fits = omega (arith, fits, longer);
        mark_rests = ap (λ (h : History). due (facts h)) front ∙ held.mark_rests;
        waiting = waiting_after mark need old input new need' left left' (omega (arith, longer)) w s g.left_is;
        batch_is = g.batch_is ∙ ap (λ (es : List Entry). es ++ kept_from (length old) new) held.batch_is ∙ sym (step_keeps mark old input new step held.mark_fits);
      },
      told_stays mark need old input new need' left left' (omega (arith, longer)) w s g.left_is,
      front,
    )

-- A FLUSH

pub held_flushed : (h : History) (mark need : ℕ) (left : ℕ → List Waiting) (batch : List Entry) → IsHeld h mark need left batch → IsHeld h (length h) need left []
held_flushed h mark need left batch held = record {
  legal = held.legal;
  rests = held.rests;
  mark_fits = omega arith;
  mark_rests = ap (λ (x : History). due (facts x)) (whole_front h) ∙ held.rests;
  waiting = flushed h mark need left held.waiting;
  batch_is = sym (none_behind h);
}

-- what is safe, and then the batch, is all that is kept
pub batch_completes : (h : History) (mark need : ℕ) (left : ℕ → List Waiting) (batch : List Entry) → IsHeld h mark need left batch → written (up_to mark h) ++ batch ≡ written h
batch_completes h mark need left batch held = ap (λ (es : List Entry). written (up_to mark h) ++ es) held.batch_is ∙ all_written mark h held.mark_fits

-- what a crash leaves while a batch is written
pub flush_moment : {D : Type 0} (content : D → List ℕ) (moment : D → ℕ) (image_since : D → ℕ → List ℕ → Type 0) (old new : D) (h : History) (mark need : ℕ) (left : ℕ → List Waiting) (batch : List Entry) → IsHeld h mark need left batch →
    StandsFor (content old) (written (up_to mark h)) → ((list : List Entry) → StandsFor (content old) list → LeavesOnly moment image_since old new (Outcome list batch)) → (list : List Entry) → StandsFor (content old) list →
    LeavesOnly moment image_since old new (λ c. StandsFor c list ⊎ StandsFor c (written h))
flush_moment content moment image_since old new h mark need left batch held safe leaves list stands =
    let all : list ++ batch ≡ written h = ap (λ (es : List Entry). es ++ batch) (same_stands (content old) list (written (up_to mark h)) stands safe) ∙ batch_completes h mark need left batch held in
    weakened moment image_since old new (Outcome list batch) (λ c. StandsFor c list ⊎ StandsFor c (written h)) (leaves list stands) (λ c either. ⊎_elim (λ a. inl a) (λ b. inr (subst (StandsFor c) all b)) either)

-- A TAKE

pub held_taken : (h : History) (mark need conn : ℕ) (left left' : ℕ → List Waiting) (batch : List Entry) → IsHeld h mark need left batch → ((c : ℕ) → left' c ≡ cond (conn == c) (after mark (left c)) (left c)) → IsHeld h mark need left' batch
held_taken h mark need conn left left' batch held are = record {
  legal = held.legal;
  rests = held.rests;
  mark_fits = held.mark_fits;
  mark_rests = held.mark_rests;
  waiting = waiting_taken h mark need conn left left' held.waiting are;
  batch_is = held.batch_is;
}

-- the same outs, by another queue
pub held_same : (h : History) (mark need : ℕ) (left left' : ℕ → List Waiting) (batch batch' : List Entry) → IsHeld h mark need left batch → ((c : ℕ) → left' c ≡ left c) → batch' ≡ batch → IsHeld h mark need left' batch'
held_same h mark need left left' batch batch' held are is = subst (λ (b : List Entry). IsHeld h mark need left' b) (sym is) (subst (λ (l : ℕ → List Waiting). IsHeld h mark need l batch) (λ i c. sym (are c) i) held)

-- A BEGINNING

abbrev nobody : List Waiting
nobody = []

pub held_first : (h : History) (left : ℕ → List Waiting) → Legal h → due (facts h) ≡ None → ((c : ℕ) → left c ≡ []) → IsHeld h (length h) (length h) left []
held_first h left legal rests none =
    subst (λ (l : ℕ → List Waiting). IsHeld h (length h) (length h) l []) (λ i c. sym (none c) i)
    (record {
      legal = legal;
      rests = rests;
      mark_fits = omega arith;
      mark_rests = ap (λ (x : History). due (facts x)) (whole_front h) ∙ rests;
      waiting = record { fits = λ c. omega arith; same = λ c. nothing_waits c; needs = λ c. refl; need_is = both_fit; need_fits = omega arith };
      batch_is = sym (none_behind h);
    })
  where
    nothing_waits : (c : ℕ) → map (judged (length h)) nobody ≡ map (judged_by (length h)) (drop (length (sendings_to h c) - length nobody) (sendings_to h c))
    nothing_waits c = ap (map (judged_by (length h))) (sym (drop_all (length (sendings_to h c) - 0) (sendings_to h c) (omega arith)))

    both_fit : nat_le (length h) (length h) ≡ nat_le (kept_end h) (length h)
    both_fit = le-leb (length h) (length h) (omega arith) ∙ sym (le-leb (kept_end h) (length h) (end_fits h))

-- where all outs to each connection were taken, none waits
pub none_left : (h : History) (mark need : ℕ) (left : ℕ → List Waiting) (batch : List Entry) → IsHeld h mark need left batch → ((c : ℕ) → told_of left h c ≡ length (sendings_to h c)) → (c : ℕ) → left c ≡ []
none_left h mark need left batch held all c =
    let fits = held.waiting.fits c in
    let taken = all c in
    by (left c) (omega (arith, fits, taken))
  where
    by : (ws : List Waiting) → length ws ≡ 0 → ws ≡ []
    by [] none = refl
    by (w ∷ ws) none = cc

-- an input within the limits is in time
pub fits_in_time : (input : InputType) → IsWithinLimits (Input input) → InTime (Input input)
fits_in_time (Open moment scheme hwm misses) fits = fits
fits_in_time (Up conn channel moment word identity) fits = fits.0
fits_in_time (Down conn moment word) fits = fits
fits_in_time (In conn moment word m) fits = fits.0
fits_in_time (Beat moment word) fits = fits
fits_in_time (Time moment word) fits = fits

-- A STEP, AS THE CODE TAKES IT

-- what is kept behind the mark after a step
pub all_behind : (core : CoreView) (p : PlanView) (old : History) (mark need : ℕ) (left : ℕ → List Waiting) (batch : List Entry) (input : InputType) → IsHeld old mark need left batch → IsPlan core p → core.history ≡ old → p.input ≡ input →
    batch ++ p.kept ≡ kept_from mark (decide_all (Input input ∷ old))
all_behind core p old mark need left batch input held plan same is =
    ap (λ (es : List Entry). batch ++ es) (plan_keeps core p old input plan same is)
    ∙ ap (λ (es : List Entry). es ++ kept_from (length old) (decide_all (Input input ∷ old))) held.batch_is
    ∙ sym (step_keeps mark old input (decide_all (Input input ∷ old)) (step_of old input held.rests) held.mark_fits)

before_is : (left : ℕ → List Waiting) (e : Entry) (c : ℕ) → (is_open e ≡ true → left c ≡ []) → left c ≡ left_before left e c
before_is left e c none = elim (is_open e) as (λ b. is_open e ≡ b → left c ≡ cond b [] (left c)) [
  | true ↦ λ on. none on
  | false ↦ λ off. refl
] refl

-- a plan that was applied, with all that was done for it
pub record Done (core : CoreView) (p : PlanView) (old : History) (need : ℕ) (left : ℕ → List Waiting) (batch : List Entry) (input : InputType) (new : History) (outs : List Out) (kept : List Entry) (size need' : ℕ) (left' : ℕ → List Waiting) (batch' : List Entry) : Type 0 where
  pub plan : IsPlan core p
  pub same : core.history ≡ old
  pub is : p.input ≡ input
  pub calm : is_open (Input input) ≡ true → (c : ℕ) → told_of left old c ≡ length (sendings_to old c)
  pub history : new ≡ decide_all (Input p.input ∷ core.history)
  pub outs_are : outs ≡ outs_from (length core.history) new
  pub kept_are : kept ≡ kept_from (length core.history) new
  pub size_is : size ≡ length new
  pub need_is : need' ≡ need_after need kept size
  pub left_is : (c : ℕ) → left' c ≡ left c ++ waits need' (outs_on c outs)
  pub batch_is : batch' ≡ batch ++ p.kept

pub grown : (core : CoreView) (p : PlanView) (old : History) (mark need : ℕ) (left : ℕ → List Waiting) (batch : List Entry) (input : InputType) (new : History) (outs : List Out) (kept : List Entry) (size need' : ℕ) (left' : ℕ → List Waiting) (batch' : List Entry) →
    IsHeld old mark need left batch → Done core p old need left batch input new outs kept size need' left' batch' → Grown old mark need left batch input new need' left' batch'
grown core p old mark need left batch input new outs kept size need' left' batch' held d =
    let history : new ≡ decide_all (Input input ∷ old) = d.history ∙ ap (λ (x : History). decide_all (Input p.input ∷ x)) d.same ∙ ap (λ i. decide_all (Input i ∷ old)) d.is in
    record {
      history = history;
      allowed = plan_allows core p old input d.plan d.same d.is;
      need_is = d.need_is ∙ ap (λ (es : List Entry). need_after need es size) (d.kept_are ∙ ap (λ (x : History). kept_from (length x) new) d.same) ∙ ap (need_after need (kept_from (length old) new)) d.size_is;
      left_is = λ c. d.left_is c ∙ ap (λ (os : List Out). left c ++ waits need' (outs_on c os)) (d.outs_are ∙ ap (λ (x : History). outs_from (length x) new) d.same)
          ∙ ap (λ (ws : List Waiting). ws ++ waits need' (outs_on c (outs_from (length old) new))) (before_is left (Input input) c (λ opens. none_left old mark need left batch held (d.calm opens) c));
      batch_is = d.batch_is ∙ ap (λ (es : List Entry). batch ++ es) (plan_keeps core p old input d.plan d.same d.is ∙ ap (kept_from (length old)) (sym history));
    }

abbrev pub refused : StepError → Result (Unit {0}) StepError
refused error = Err error

-- why a step is refused whose memory wasn't taken
pub refused_memory : (mark : ℕ) (limit : HistorySize) (new : History) (es : List Entry) (error : StepError) → es ≡ kept_from mark new → is_past limit (size_since new) ≡ false →
    (refused error ≡ refused BatchFull → 2 ^ 32 ≤ length (spellings es)) → (error ≡ BatchFull) ⊎ (error ≡ OutOfMemory) → IsRefused false mark limit new error
refused_memory mark limit new es Reopen same fits long either = ⊎_elim (λ is. cc) (λ is. cc) either
refused_memory mark limit new es (HistoryFull entries bytes) same fits long either = ⊎_elim (λ is. cc) (λ is. cc) either
refused_memory mark limit new es BatchFull same fits long either = (refl, fits, subst (λ (xs : List Entry). 2 ^ 32 ≤ length (spellings xs)) same (long refl))
refused_memory mark limit new es OutOfMemory same fits long either = refl

abbrev pub unkept : ExtendFault → Result (Unit {0}) ExtendFault
unkept fault = Err fault

-- why a step is refused whose kept entries don't go into the batch
pub refused_batch : (limit : HistorySize) (new : History) (es batch : List Entry) (fault : ExtendFault) (error : StepError) → error ≡ of_batch fault → es ≡ batch → is_past limit (size_since new) ≡ false →
    (unkept fault ≡ unkept extends.TooLong → 2 ^ 32 ≤ length (spellings es)) → IsRefusedFor limit new batch error
refused_batch limit new es batch fault error is same fits long = subst (IsRefusedFor limit new batch) (sym is) (by fault long)
  where
    by : (f : ExtendFault) → (unkept f ≡ unkept extends.TooLong → 2 ^ 32 ≤ length (spellings es)) → IsRefusedFor limit new batch (of_batch f)
    by extends.TooLong long = (fits, subst (λ (xs : List Entry). 2 ^ 32 ≤ length (spellings xs)) same (long refl))
    by extends.OutOfMemory long = tt
