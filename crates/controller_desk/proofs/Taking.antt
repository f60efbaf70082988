-- A store for a desk, behind a step that was taken.
use Rattle.std.proofs.Common.{◌≡◌, ℕ, ◌+◌, ◌≤◌, ◌<◌, ◌^◌, ◌∷◌, length, false, sym, ap, ◌∙◌, subst, arith}
use Rattle.cluster_types.specs.declared.config.Scheme.{Scheme}
use Rattle.cluster_types.specs.declared.entry.Input.{Input as InputType}
use Rattle.cluster_types.specs.declared.entry.Input.TheVariants.{Open}
use Rattle.cluster_types.specs.declared.entry.Entry.TheVariants.{Input}
use Rattle.cluster_defs.specs.Histories.{History, facts, decide_all}
use Rattle.cluster_defs.specs.Lives.{is_open}
use Rattle.cluster_core.specs.declared.size.HistorySize.{HistorySize}
use Rattle.cluster_core.specs.Size.{since_open, size_since, is_past}
use Rattle.cluster_store.specs.Stores.{StoreView, Becomes, told, IsTaken, IsTooLong}
use Rattle.cluster_store.proofs.Fits.{decides_to}
use Rattle.controller_desk.specs.Calls.{behind, HasStepped}
use Rattle.controller_desk.specs.Ups.{ups, numbered, ups_after, HasNextNumber, IsSet}
use Rattle.controller_desk.proofs.Numbers.{no_inputs, same_ups, ups_behind, numbered_behind, begun_behind, counts_first, counts_all, counted_within}
use Rattle.controller_desk.proofs.Short.{short_enough}

-- no batch is too long
pub never_long : {D : Type 0} (v : StoreView D) (input : InputType) → IsSet v → is_open (Input input) ≡ false → is_past v.limits (size_since (behind v.history input)) ≡ false → IsTooLong v.mark (behind v.history input) → ⊥
never_long v input set off fits long =
    let to = decides_to (Input input ∷ v.history) in
    let some = no_inputs (Input input ∷ v.history) to.decisions to.each_due in
    let all = counts_all v.mark to.decisions (Input input ∷ v.history) some (counts_first v.mark input v.history off set.safe) in
    let le : length (behind v.history input) ≤ v.mark + length (since_open (behind v.history input)) =
    subst (λ (h : History). length h ≤ v.mark + length (since_open h)) (sym to.appended) all.all in
    short_enough v.limits v.mark (behind v.history input) set.bytes fits le long

pub has_stepped : {D : Type 0} (old : StoreView D) (input : InputType) (new : StoreView D) → Becomes old (behind old.history input) (told old) old.fulls new → IsTaken old.failed old.mark old.limits (behind old.history input) → HasStepped old input new
has_stepped old input new becomes taken =
    let to = decides_to (Input input ∷ old.history) in record {
      becomes = becomes;
      decisions = to.decisions;
      list = becomes.history_is ∙ to.appended;
      no_inputs = no_inputs (Input input ∷ old.history) to.decisions to.each_due;
      working = taken.0;
      within = taken.1;
    }

pub ups_stepped : {D : Type 0} (old : StoreView D) (input : InputType) (new : StoreView D) → is_open (Input input) ≡ false → HasStepped old input new → ups new.history ≡ ups_after input (ups old.history)
ups_stepped old input new off s = ap ups s.list ∙ (same_ups s.decisions (Input input ∷ old.history) s.no_inputs).same ∙ ups_behind input old.history off

pub set_stepped : {D : Type 0} (old : StoreView D) (input : InputType) (new : StoreView D) → is_open (Input input) ≡ false → HasNextNumber old.history input → IsSet old → HasStepped old input new → IsSet new
set_stepped old input new off next set s =
    let same = same_ups s.decisions (Input input ∷ old.history) s.no_inputs in
    let all = counts_all old.mark s.decisions (Input input ∷ old.history) s.no_inputs (counts_first old.mark input old.history off set.safe) in
    record {
      entries = subst (λ (l : HistorySize). l.entries + 1 < 2 ^ 32) (sym s.becomes.limits) set.entries;
      bytes = subst (λ (l : HistorySize). l.bytes < 2 ^ 32) (sym s.becomes.limits) set.bytes;
      begun = ap (λ (h : History). (facts h).begun) s.list ∙ same.begun ∙ begun_behind input old.history set.begun;
      safe = subst (λ (m : ℕ). length new.history ≤ m + length (since_open new.history)) (sym s.becomes.mark) (subst (λ (h : History). length h ≤ old.mark + length (since_open h)) (sym s.list) all.all);
      numbers = ap numbered s.list ∙ same.numbers ∙ numbered_behind input old.history next set.numbers;
      counted = subst (λ (l : HistorySize). ups new.history ≤ l.entries) (sym s.becomes.limits)
          (counted_within old.limits new.history set.entries (ap (λ (h : History). is_past old.limits (size_since h)) s.becomes.history_is ∙ s.within));
    }

-- a store whose history, mark and limits stay
pub set_stays : {D : Type 0} (old new : StoreView D) → new.history ≡ old.history → new.limits ≡ old.limits → new.mark ≡ old.mark → IsSet old → IsSet new
set_stays old new history limits mark set = record {
  entries = subst (λ (l : HistorySize). l.entries + 1 < 2 ^ 32) (sym limits) set.entries;
  bytes = subst (λ (l : HistorySize). l.bytes < 2 ^ 32) (sym limits) set.bytes;
  begun = ap (λ (h : History). (facts h).begun) history ∙ set.begun;
  safe = subst (λ (h : History). length h ≤ new.mark + length (since_open h)) (sym history) (subst (λ (m : ℕ). length old.history ≤ m + length (since_open old.history)) (sym mark) set.safe);
  numbers = ap numbered history ∙ set.numbers;
  counted = subst (λ (l : HistorySize). ups new.history ≤ l.entries) (sym limits) (subst (λ (h : History). ups h ≤ old.limits.entries) (sym history) set.counted);
}

-- a store that was just opened
pub set_opened : {D : Type 0} (v : StoreView D) (base : History) (moment : ℕ) (scheme : Scheme) (hwm misses : ℕ) → v.history ≡ decide_all (Input (Open moment scheme hwm misses) ∷ base) → v.mark ≡ length v.history →
    v.limits.entries + 1 < 2 ^ 32 → v.limits.bytes < 2 ^ 32 → IsSet v × (ups v.history ≡ 0)
set_opened v base moment scheme hwm misses is mark entries bytes =
    let to = decides_to (Input (Open moment scheme hwm misses) ∷ base) in
    let same = same_ups to.decisions (Input (Open moment scheme hwm misses) ∷ base) (no_inputs (Input (Open moment scheme hwm misses) ∷ base) to.decisions to.each_due) in
    let list = is ∙ to.appended in
    let none : ups v.history ≡ 0 = ap ups list ∙ same.same in (
      record {
        entries = entries;
        bytes = bytes;
        begun = ap (λ (h : History). (facts h).begun) list ∙ same.begun;
        safe = omega (arith, mark);
        numbers = ap numbered list ∙ same.numbers;
        counted = omega (arith, none);
      },
      none,
    )
