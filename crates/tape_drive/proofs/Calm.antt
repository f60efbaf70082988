-- A store on which no outs wait, behind a step.
use Rattle.std.proofs.Common.{◌≡◌, ◌⊎◌, inl, inr, ⊎_elim, ℕ, ◌<◌, ◌^◌, List, [], ◌∷◌, length, Bool, true, false, cond, Option, Some, None, refl, sym, ap, ◌∙◌, subst}
use Rattle.std.specs.Prelude.{◌&&◌}
use Rattle.cluster_types.specs.declared.event.Event.{Event}
use Rattle.cluster_types.specs.declared.entry.Input.{Input as InputType}
use Rattle.cluster_types.specs.declared.entry.Entry.TheVariants.{Input}
use Rattle.cluster_types.specs.declared.out.Out.{Out}
use Rattle.cluster_defs.specs.Facts.{event_in}
use Rattle.cluster_defs.specs.Scheduling.{may_take}
use Rattle.cluster_defs.specs.Histories.{History, facts, decide_all}
use Rattle.cluster_defs.specs.Lives.{is_open, sendings_to}
use Rattle.cluster_defs.specs.Outs.{outs_from}
use Rattle.cluster_core.specs.declared.size.HistorySize.{HistorySize}
use Rattle.cluster_core.specs.Size.{size_since, is_past}
use Rattle.cluster_store.specs.declared.fault.ServeError.{ServeError}
use Rattle.cluster_store.specs.declared.fault.ServeError.TheVariants.{Step, DiskFault}
use Rattle.cluster_store.specs.Stores.{StoreView, told, up_to, written, HasServed, IsLeft, IsTooLong}
use Rattle.cluster_store.proofs.Stepping.{whole_front}
use Rattle.task_journal.specs.Journal.{StandsFor}
use Rattle.tape_drive.specs.declared.steps.Stepped.{Stepped}
use Rattle.tape_drive.specs.declared.steps.Stepped.TheVariants.{Sends, Full}
use Rattle.tape_drive.specs.Steps.{IsCalm, may_come, stepped, step_outs, overfull, made, made_as, behind_as, history_behind}
use Rattle.tape_drive.specs.Served.{IsOnWay, HoldsSome}
use Rattle.tape_drive.proofs.Short.{short_enough}

pub calm_served : {D : Type 0} (old new : StoreView D) (h : History) → IsCalm old → HasServed old h new → ((c : ℕ) → told new c ≡ length (sendings_to new.history c)) → IsCalm new
calm_served old new h calm s all = record {
  told_all = all;
  safe = λ fine. s.mark ∙ ap length (sym s.history_is);
  short = subst (λ (l : HistorySize). l.bytes < 2 ^ 32) (sym s.limits) calm.short;
}

pub calm_left : {D : Type 0} (old new : StoreView D) (h : History) (e : ServeError) → IsCalm old → IsLeft old h new e → ((c : ℕ) → told new c ≡ length (sendings_to new.history c)) → IsCalm new
calm_left old new h (Step error) calm left all = record {
  told_all = all;
  safe = λ fine. left.mark ∙ calm.safe (sym left.failed ∙ fine) ∙ ap length (sym left.history_is);
  short = subst (λ (l : HistorySize). l.bytes < 2 ^ 32) (sym left.limits) calm.short;
}
calm_left old new h DiskFault calm left all = record {
  told_all = all;
  safe = λ fine. absurd (different (sym left.failed ∙ fine));
  short = subst (λ (l : HistorySize). l.bytes < 2 ^ 32) (sym left.limits) calm.short;
}
  where
    different : true ≡ false → ⊥
    different is = cc

pub limits_left : {D : Type 0} (old new : StoreView D) (h : History) (e : ServeError) → IsLeft old h new e → new.limits ≡ old.limits
limits_left old new h (Step error) left = left.limits
limits_left old new h DiskFault left = left.limits

-- WHAT A STEP COMES TO

pub may_is : (h : History) (input : InputType) (event : Option Event) → event ≡ event_in (facts h) (Input input) → may_take (facts h) input event ≡ true → may_come h input ≡ true
may_is h input event is may = ap (may_take (facts h) input) (sym is) ∙ may

pub not_over : (limits : HistorySize) (h : History) (input : InputType) → may_come h input ≡ true → is_past limits (size_since (decide_all (Input input ∷ h))) ≡ false → overfull limits h input ≡ None
not_over limits h input may fits = rw (may, fits) refl

pub over : (limits : HistorySize) (h : History) (input : InputType) → may_come h input ≡ true → is_past limits (size_since (decide_all (Input input ∷ h))) ≡ true → overfull limits h input ≡ Some (size_since (decide_all (Input input ∷ h)))
over limits h input may fits = rw (may, fits) refl

pub stepped_is : (h : History) (input : InputType) → may_come h input ≡ true → stepped h input ≡ decide_all (Input input ∷ h)
stepped_is h input may = rw may refl

pub behind_is : (limits : HistorySize) (h new : History) (input : InputType) → may_come h input ≡ true → is_past limits (size_since (decide_all (Input input ∷ h))) ≡ false → new ≡ decide_all (Input input ∷ h) → new ≡ history_behind limits h input
behind_is limits h new input may fits is = is ∙ sym (ap (λ (o : Option HistorySize). behind_as o h (stepped h input)) (not_over limits h input may fits) ∙ stepped_is h input may)

pub made_is : (limits : HistorySize) (h : History) (input : InputType) (outs : List Out) → may_come h input ≡ true → is_past limits (size_since (decide_all (Input input ∷ h))) ≡ false → outs ≡ outs_from (length h) (decide_all (Input input ∷ h)) → Sends outs ≡ made limits h input
made_is limits h input outs may fits is =
    ap Sends (is ∙ ap (outs_from (length h)) (sym (stepped_is h input may))) ∙ sym (ap (λ (o : Option HistorySize). made_as o (step_outs h input)) (not_over limits h input may fits))

pub full_is : (limits : HistorySize) (h : History) (input : InputType) (size : HistorySize) → may_come h input ≡ true → is_past limits (size_since (decide_all (Input input ∷ h))) ≡ true → size ≡ size_since (decide_all (Input input ∷ h)) → Full size ≡ made limits h input
full_is limits h input size may past is = ap Full is ∙ sym (ap (λ (o : Option HistorySize). made_as o (step_outs h input)) (over limits h input may past))

pub full_behind : (limits : HistorySize) (h new : History) (input : InputType) → may_come h input ≡ true → is_past limits (size_since (decide_all (Input input ∷ h))) ≡ true → new ≡ h → new ≡ history_behind limits h input
full_behind limits h new input may past is = is ∙ sym (ap (λ (o : Option HistorySize). behind_as o h (stepped h input)) (over limits h input may past))

-- a step that was taken is on the way
pub taken_way : (limits : HistorySize) (h new : History) (input : InputType) → may_come h input ≡ true → is_past limits (size_since (decide_all (Input input ∷ h))) ≡ false → new ≡ decide_all (Input input ∷ h) → IsOnWay limits h (input ∷ []) new
taken_way limits h new input may fits is = inr (not_over limits h input may fits, is ∙ sym (stepped_is h input may))

-- what a crash in a step leaves
pub holds_either : {D : Type 0} (v : StoreView D) (input : InputType) (c : List ℕ) → IsCalm v → v.failed ≡ false → may_come v.history input ≡ true → is_past v.limits (size_since (decide_all (Input input ∷ v.history))) ≡ false →
    StandsFor c (written (up_to v.mark v.history)) ⊎ StandsFor c (written (decide_all (Input input ∷ v.history))) → HoldsSome (IsOnWay v.limits v.history (input ∷ [])) c
holds_either v input c calm fine may fits either =
    ⊎_elim
    (λ a. record { history = v.history; has = inl refl; stands = subst (λ (h : History). StandsFor c (written h)) (ap (λ n. up_to n v.history) (calm.safe fine) ∙ whole_front v.history) a })
    (λ b. record { history = decide_all (Input input ∷ v.history); has = taken_way v.limits v.history (decide_all (Input input ∷ v.history)) input may fits refl; stands = b })
    either

-- no batch is too long
pub never_long : {D : Type 0} (v : StoreView D) (input : InputType) → IsCalm v → v.failed ≡ false → is_open (Input input) ≡ false → is_past v.limits (size_since (decide_all (Input input ∷ v.history))) ≡ false → IsTooLong v.mark (decide_all (Input input ∷ v.history)) → ⊥
never_long v input calm fine not_open fits long =
    short_enough v.limits input v.history not_open calm.short fits (subst (λ n. IsTooLong n (decide_all (Input input ∷ v.history))) (calm.safe fine) long)
