-- Histories that steps come to, and what they leave of a disk.
use Rattle.std.proofs.Common.{◌≡◌, ◌⊎◌, inl, inr, ⊎_elim, ℕ, ◌≤◌, List, [], ◌∷◌, length, Bool, true, false, Option, Some, None, refl, sym, ap, ◌∙◌, subst, arith}
use Rattle.cluster_types.specs.declared.entry.Input.{Input as InputType}
use Rattle.cluster_defs.specs.Histories.{History}
use Rattle.cluster_core.specs.declared.size.HistorySize.{HistorySize}
use Rattle.cluster_store.specs.Stores.{written}
use Rattle.cluster_store.proofs.Images.{chained, weakened}
use Rattle.disk_model.specs.Crashes.{LeavesOnly}
use Rattle.task_journal.specs.Journal.{StandsFor}
use Rattle.tape_drive.specs.Steps.{stepped, overfull, behind_as, history_behind}
use Rattle.tape_drive.specs.Served.{IsOnWay, HoldsSome, IsTouched}

pub way_here : (limits : HistorySize) (h : History) (inputs : List InputType) → IsOnWay limits h inputs h
way_here limits h [] = refl
way_here limits h (i ∷ is) = inl refl

way_at : (limits : HistorySize) (h : History) (inputs : List InputType) (at : History) → at ≡ h → IsOnWay limits h inputs at
way_at limits h inputs at is = subst (IsOnWay limits h inputs) (sym is) (way_here limits h inputs)

-- what one step comes to, all may come to
pub way_front : (limits : HistorySize) (h : History) (input : InputType) (rest : List InputType) (at : History) → IsOnWay limits h (input ∷ []) at → IsOnWay limits h (input ∷ rest) at
way_front limits h input rest at way = ⊎_elim (λ same. inl same) (λ more. inr (more.0, way_at limits (stepped h input) rest at more.1)) way

-- where the step was made, what the others come to
pub way_on : (limits : HistorySize) (h : History) (input : InputType) (rest : List InputType) (new at : History) → overfull limits h input ≡ None → new ≡ history_behind limits h input → IsOnWay limits new rest at → IsOnWay limits h (input ∷ rest) at
way_on limits h input rest new at none is way =
    let made : new ≡ stepped h input = is ∙ ap (λ (o : Option HistorySize). behind_as o h (stepped h input)) none in
    inr (none, subst (λ (x : History). IsOnWay limits x rest at) made way)

-- the history behind a step is on the way
pub way_behind : (limits : HistorySize) (h : History) (input : InputType) (new : History) → new ≡ history_behind limits h input → IsOnWay limits h (input ∷ []) new
way_behind limits h input new is = by (overfull limits h input) refl is
  where
    by : (o : Option HistorySize) → overfull limits h input ≡ o → new ≡ behind_as o h (stepped h input) → IsOnWay limits h (input ∷ []) new
    by None none is = inr (none, is)
    by (Some size) full is = inl is

-- DISKS

pub holds_more : {P Q : History → Type 0} (c : List ℕ) → ((h : History) → P h → Q h) → HoldsSome P c → HoldsSome Q c
holds_more c go holds = record { history = holds.history; has = go holds.history holds.has; stands = holds.stands }

pub never_touched : {D : Type 0} (moment : D → ℕ) (image : D → List ℕ → Type 0) (image_since : D → ℕ → List ℕ → Type 0) (disk : D) (P : List ℕ → Type 0) → IsTouched moment image image_since disk disk false P
never_touched moment image image_since disk P = record { any_moment = inl refl; left = λ is. cc }

pub touched_more : {D : Type 0} (moment : D → ℕ) (image : D → List ℕ → Type 0) (image_since : D → ℕ → List ℕ → Type 0) (old new : D) (failed : Bool) (P Q : List ℕ → Type 0) →
    IsTouched moment image image_since old new failed P → ((c : List ℕ) → P c → Q c) → IsTouched moment image image_since old new failed Q
touched_more moment image image_since old new failed P Q t go = record {
  any_moment = ⊎_elim (λ same. inl same) (λ leaves. inr (weakened moment image_since old new P Q leaves go)) t.any_moment;
  left = λ is c now. go c (t.left is c now);
}

-- one run of calls and another
pub touched_on : {D : Type 0} (moment : D → ℕ) (image : D → List ℕ → Type 0) (image_since : D → ℕ → List ℕ → Type 0) → ((disk : D) (t u : ℕ) (c : List ℕ) → t ≤ u → u ≤ moment disk → image_since disk u c → image_since disk t c) →
    (old mid new : D) (before failed : Bool) (P Q : List ℕ → Type 0) → IsTouched moment image image_since old mid before P → IsTouched moment image image_since mid new failed Q → ((c : List ℕ) → Q c → P c) → IsTouched moment image image_since old new failed P
touched_on moment image image_since widens old mid new before failed P Q first then go = record {
  any_moment =
      ⊎_elim
      (λ same. subst (λ d. (new ≡ d) ⊎ LeavesOnly moment image_since d new P) same
      (⊎_elim (λ still. inl still) (λ leaves. inr (weakened moment image_since mid new Q P leaves go)) then.any_moment))
      (λ earlier. ⊎_elim (λ still. inr (subst (λ d. LeavesOnly moment image_since old d P) (sym still) earlier))
      (λ leaves. inr (chained moment image_since widens old mid new P Q P earlier leaves (λ c p. p) go)) then.any_moment)
      first.any_moment;
  left = λ is c now. go c (then.left is c now);
}

-- the images of now are among those since a call began
pub left_now : {D : Type 0} (moment : D → ℕ) (image : D → List ℕ → Type 0) (image_since : D → ℕ → List ℕ → Type 0) → ((disk : D) (t : ℕ) (c : List ℕ) → t ≤ moment disk → image disk c → image_since disk t c) →
    (old new : D) (failed : Bool) (P Q : List ℕ → Type 0) → LeavesOnly moment image_since old new P → ((c : List ℕ) → P c → Q c) → IsTouched moment image image_since old new failed Q
left_now moment image image_since counts_now old new failed P Q leaves go = record {
  any_moment = inr (weakened moment image_since old new P Q leaves go);
  left = λ is c now. go c (leaves.each c (counts_now new (moment old) c leaves.later now));
}
