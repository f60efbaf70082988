-- What a crash leaves of a disk that no call has touched.
use Rattle.std.proofs.Common.{◌≤◌, inl, inr, ⊎_elim, ℕ, List, subst, sym, arith}
use Rattle.cluster_types.specs.declared.entry.Entry.{Entry}
use Rattle.disk_model.specs.Crashes.{Only, LeavesOnly}
use Rattle.task_journal.specs.Journal.{StandsFor}
use Rattle.task_journal.specs.Settled.{Outcome}

pub untouched : {D : Type 0} (content : D → List ℕ) (image : D → List ℕ → Type 0) (moment : D → ℕ) (image_since : D → ℕ → List ℕ → Type 0) →
    ((disk : D) (c : List ℕ) → image_since disk (moment disk) c → image disk c) → (disk : D) → Only (content disk) (image disk) → (list batch : List Entry) → StandsFor (content disk) list →
    LeavesOnly moment image_since disk disk (Outcome list batch)
untouched content image moment image_since only_now disk only list batch stands = record {
  later = omega arith;
  each = λ c since. inl (subst (λ (d : List ℕ). StandsFor d list) (sym (only c (only_now disk c since))) stands);
  keeps = λ t c le past. past;
  before = λ t c le since. inl since;
}

-- a run of calls and then another
pub chained : {D : Type 0} (moment : D → ℕ) (image_since : D → ℕ → List ℕ → Type 0) → ((disk : D) (t u : ℕ) (c : List ℕ) → t ≤ u → u ≤ moment disk → image_since disk u c → image_since disk t c) →
    (old mid new : D) (P Q R : List ℕ → Type 0) → LeavesOnly moment image_since old mid P → LeavesOnly moment image_since mid new Q → ((c : List ℕ) → P c → R c) → ((c : List ℕ) → Q c → R c) → LeavesOnly moment image_since old new R
chained moment image_since widens old mid new P Q R first then p q = record {
  later = omega (arith, first.later, then.later);
  each = λ c since. ⊎_elim (λ told. p c (first.each c told)) (λ now. q c (then.each c now)) (then.before (moment old) c first.later since);
  keeps = λ t c le since. then.keeps t c (omega (arith, le, first.later)) (first.keeps t c le since);
  before = λ t c le since.
      ⊎_elim (λ past. ⊎_elim (λ told. inl told) (λ now. inr (then.keeps (moment old) c first.later now)) (first.before t c le past))
      (λ now. inr (widens new (moment old) (moment mid) c first.later then.later now)) (then.before t c (omega (arith, le, first.later)) since);
}

-- fewer images, more that may come of them
pub weakened : {D : Type 0} (moment : D → ℕ) (image_since : D → ℕ → List ℕ → Type 0) (old new : D) (P R : List ℕ → Type 0) → LeavesOnly moment image_since old new P → ((c : List ℕ) → P c → R c) → LeavesOnly moment image_since old new R
weakened moment image_since old new P R only p = record { later = only.later; each = λ c since. p c (only.each c since); keeps = only.keeps; before = only.before }
