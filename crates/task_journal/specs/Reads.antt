-- Calls of a disk that change nothing.
use Rattle.std.specs.Prelude.{◌≡◌, ◌≤◌, ◌⊎◌, ℕ, List}
use Rattle.disk_model.specs.Crashes.{NoMore}

-- the disk holds the same, and a crash leaves no more than it might have left before
pub record OnlyReads {D : Type 0} (content : D → List ℕ) (image : D → List ℕ → Type 0) (moment : D → ℕ) (image_since : D → ℕ → List ℕ → Type 0) (faults : D → ℕ) (old new : D) : Type 0 where
  pub same : content new ≡ content old
  pub images : NoMore (image old) (image new)
  pub later : moment old ≤ moment new
  pub keeps : (t : ℕ) (c : List ℕ) → t ≤ moment old → image_since old t c → image_since new t c
  pub since : (t : ℕ) (c : List ℕ) → t ≤ moment old → image_since new t c → image_since old t c ⊎ image old c
  pub counted : faults old ≤ faults new
