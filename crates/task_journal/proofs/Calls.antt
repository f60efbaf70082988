-- Calls of a disk that change nothing, one after another.
use Rattle.std.proofs.Common.{◌≡◌, inl, inr, ⊎_elim, refl, ℕ, ◌≤◌, List, ◌∙◌, arith}
use Rattle.cluster_types.specs.Causes.{Rose}
use Rattle.disk_model.specs.Crashes.{NoMore, Elapses}
use Rattle.task_journal.specs.Reads.{OnlyReads}

-- one call, by what the trait says of it
pub only_reads : {D : Type 0} (content : D → List ℕ) (image : D → List ℕ → Type 0) (moment : D → ℕ) (image_since : D → ℕ → List ℕ → Type 0) (faults : D → ℕ) (old new : D)
    → content new ≡ content old → NoMore (image old) (image new) → Elapses (moment old) (moment new) (image_since old) (image_since new) (image new) → faults old ≤ faults new
    → OnlyReads content image moment image_since faults old new
only_reads content image moment image_since faults old new same images time counted = record {
  same = same;
  images = images;
  later = time.later;
  keeps = time.keeps;
  since = λ t c le since. ⊎_elim (λ past. inl past) (λ now. inr (images c now)) (time.nothing_else t c le since);
  counted = counted;
}

-- no call
pub none_reads : {D : Type 0} (content : D → List ℕ) (image : D → List ℕ → Type 0) (moment : D → ℕ) (image_since : D → ℕ → List ℕ → Type 0) (faults : D → ℕ) (old : D) → OnlyReads content image moment image_since faults old old
none_reads content image moment image_since faults old = record { same = refl; images = λ c now. now; later = omega arith; keeps = λ t c le since. since; since = λ t c le since. inl since; counted = omega arith }

-- calls after other calls
pub reads_joined : {D : Type 0} {content : D → List ℕ} {image : D → List ℕ → Type 0} {moment : D → ℕ} {image_since : D → ℕ → List ℕ → Type 0} {faults : D → ℕ} {old mid new : D}
    → OnlyReads content image moment image_since faults old mid → OnlyReads content image moment image_since faults mid new → OnlyReads content image moment image_since faults old new
reads_joined {moment = moment} {old = old} {mid = mid} first second = record {
  same = second.same ∙ first.same;
  images = λ c now. first.images c (second.images c now);
  later = omega (arith, first.later, second.later);
  keeps = λ t c le since. second.keeps t c (omega (arith, le, first.later)) (first.keeps t c le since);
  since = λ t c le since. ⊎_elim (λ past. first.since t c le past) (λ now. inr (first.images c now)) (second.since t c (omega (arith, le, first.later)) since);
  counted = omega (arith, first.counted, second.counted);
}

pub rose_later : (before mid now : ℕ) → before ≤ mid → Rose mid now → Rose before now
rose_later before mid now le rose = omega (arith, le, rose)
