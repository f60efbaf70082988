-- How a run of calls goes on: what a crash may leave at each moment of it.
use Rattle.std.proofs.Common.{◌≤◌, inl, inr, ⊎_elim, ℕ, List, arith}
use Rattle.disk_model.specs.Crashes.{NoMore, Elapses, LeavesOnly}
use Rattle.task_journal.specs.Reads.{OnlyReads}

-- a crash at any moment since old leaves a content that has P, and so does one now
pub record Going {D : Type 0} (moment : D → ℕ) (image : D → List ℕ → Type 0) (image_since : D → ℕ → List ℕ → Type 0) (old new : D) (P : List ℕ → Type 0) : Type 0 where
  pub leaves : LeavesOnly moment image_since old new P
  pub now : (c : List ℕ) → image new c → P c

-- what has P has Q
pub weaker : {D : Type 0} (moment : D → ℕ) (image_since : D → ℕ → List ℕ → Type 0) (old new : D) {P Q : List ℕ → Type 0} → ((c : List ℕ) → P c → Q c) → LeavesOnly moment image_since old new P → LeavesOnly moment image_since old new Q
weaker moment image_since old new more leaves = record { later = leaves.later; each = λ c since. more c (leaves.each c since); keeps = leaves.keeps; before = leaves.before }

module _ {D : Type 0} (moment : D → ℕ) (image : D → List ℕ → Type 0) (image_since : D → ℕ → List ℕ → Type 0)
    (counts : (disk : D) (t : ℕ) (c : List ℕ) → t ≤ moment disk → image disk c → image_since disk t c)
    (widens : (disk : D) (t u : ℕ) (c : List ℕ) → t ≤ u → u ≤ moment disk → image_since disk u c → image_since disk t c) where
  -- before the first call
  pub starts : (old : D) (P : List ℕ → Type 0) → ((c : List ℕ) → image_since old (moment old) c → image old c) → ((c : List ℕ) → image old c → P c) → Going moment image image_since old old P
  starts old P only here = record {
    leaves = record { later = omega arith; each = λ c since. here c (only c since); keeps = λ t c le since. since; before = λ t c le since. inl since };
    now = here;
  }

  -- one call more, after which an image has P
  pub goes : (old mid new : D) (P : List ℕ → Type 0) → Going moment image image_since old mid P → Elapses (moment mid) (moment new) (image_since mid) (image_since new) (image new) → ((c : List ℕ) → image new c → P c) → Going moment image image_since old new P
  goes old mid new P so_far time here = record {
    leaves = record {
      later = omega (arith, so_far.leaves.later, time.later);
      each = λ c since. ⊎_elim (so_far.leaves.each c) (here c) (time.nothing_else (moment old) c so_far.leaves.later since);
      keeps = λ t c le since. time.keeps t c (omega (arith, le, so_far.leaves.later)) (so_far.leaves.keeps t c le since);
      before = λ t c le since.
          ⊎_elim (λ past. ⊎_elim (λ told. inl told) (λ now. inr (time.keeps (moment old) c so_far.leaves.later now)) (so_far.leaves.before t c le past))
          (λ now. inr (counts new (moment old) c (omega (arith, so_far.leaves.later, time.later)) now)) (time.nothing_else t c (omega (arith, le, so_far.leaves.later)) since);
    };
    now = here;
  }

  -- one call more, which adds no image
  pub stays : (old mid new : D) (P : List ℕ → Type 0) → Going moment image image_since old mid P → Elapses (moment mid) (moment new) (image_since mid) (image_since new) (image new) → NoMore (image mid) (image new) → Going moment image image_since old new P
  stays old mid new P so_far time images = goes old mid new P so_far time (λ c now. so_far.now c (images c now))

  -- calls that change nothing
  pub reads : (content : D → List ℕ) (faults : D → ℕ) (old mid new : D) (P : List ℕ → Type 0) → Going moment image image_since old mid P → OnlyReads content image moment image_since faults mid new → Going moment image image_since old new P
  reads content faults old mid new P so_far only = record {
    leaves = record {
      later = omega (arith, so_far.leaves.later, only.later);
      each = λ c since. ⊎_elim (so_far.leaves.each c) (so_far.now c) (only.since (moment old) c so_far.leaves.later since);
      keeps = λ t c le since. only.keeps t c (omega (arith, le, so_far.leaves.later)) (so_far.leaves.keeps t c le since);
      before = λ t c le since.
          ⊎_elim (λ past. ⊎_elim (λ told. inl told) (λ now. inr (only.keeps (moment old) c so_far.leaves.later now)) (so_far.leaves.before t c le past))
          (λ now. inr (only.keeps (moment old) c so_far.leaves.later (counts mid (moment old) c so_far.leaves.later now))) (only.since t c (omega (arith, le, so_far.leaves.later)) since);
    };
    now = λ c now. so_far.now c (only.images c now);
  }

  -- a run of calls of which this is known, and then another
  pub joined : (old mid new : D) (P Q : List ℕ → Type 0) → Going moment image image_since old mid P → LeavesOnly moment image_since mid new Q → ((c : List ℕ) → Q c → P c) → LeavesOnly moment image_since old new P
  joined old mid new P Q so_far then within = record {
    later = omega (arith, so_far.leaves.later, then.later);
    each = λ c since. ⊎_elim (so_far.leaves.each c) (λ now. within c (then.each c now)) (then.before (moment old) c so_far.leaves.later since);
    keeps = λ t c le since. then.keeps t c (omega (arith, le, so_far.leaves.later)) (so_far.leaves.keeps t c le since);
    before = λ t c le since.
        ⊎_elim (λ past. ⊎_elim (λ told. inl told) (λ now. inr (then.keeps (moment old) c so_far.leaves.later now)) (so_far.leaves.before t c le past))
        (λ now. inr (widens new (moment old) (moment mid) c so_far.leaves.later then.later now)) (then.before t c (omega (arith, le, so_far.leaves.later)) since);
  }
