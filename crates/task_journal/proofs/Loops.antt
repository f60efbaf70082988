-- What is found in parts, and where.
use Rattle.std.proofs.Common.{◌≡◌, ℕ, zero, suc, ◌+◌, ◌≤◌, List, [], ◌∷◌, ◌++◌, length, take, Result, Ok, Err, Option, Some, refl, sym, ap, ◌∙◌, append_assoc, arith}
use Rattle.std.specs.Prelude.{◌==◌, if◌then◌else◌}
use Rattle.task_journal.specs.declared.fault.OpenFault.{OpenFault}
use Rattle.task_journal.specs.declared.fault.OpenFault.TheVariants.{NotAJournal, Damaged, DiskFault, OutOfMemory}
use Rattle.task_journal.specs.declared.found.Found.{Found}
use Rattle.edges.specs.Difference.{difference}
use Rattle.task_journal.specs.Journal.{nothing, behind, with_front, Fails, last_of}

pub behind_behind : (a b c : Found) → behind a (behind b c) ≡ behind (behind a b) c
behind_behind a b c = rw (append_assoc a.entries b.entries c.entries, append_assoc a.places b.places c.places) refl

pub regroup : (front some : Found) (read : Result Found OpenFault) → with_front front (with_front some read) ≡ with_front (behind front some) read
regroup front some (Ok found) = ap (λ (f : Found). Ok f) (behind_behind front some found)
regroup front some (Err e) = refl

pub none_before : (read : Result Found OpenFault) → with_front nothing read ≡ read
none_before (Ok found) = refl
none_before (Err e) = refl

pub fails_along : {Y : Type 0} (e : OpenFault) (read other : Result Y OpenFault) → read ≡ other → Fails e read → Fails e other
fails_along (NotAJournal place) read other is fails = sym is ∙ fails
fails_along (Damaged place) read other is fails = sym is ∙ fails
fails_along DiskFault read other is fails = tt
fails_along OutOfMemory read other is fails = tt

pub last_push : (xs : List ℕ) (x : ℕ) → last_of (xs ++ x ∷ []) ≡ Some x
last_push [] x = refl
last_push (y ∷ []) x = refl
last_push (y ∷ (z ∷ zs)) x = last_push (z ∷ zs) x

-- the head is seen in a front that is as long
pub difference_take : (at n : ℕ) (head xs : List ℕ) → length head ≤ n → difference at head (take n xs) ≡ difference at head xs
difference_take at n [] xs le = refl
difference_take at zero (x ∷ head) xs le = absurd (omega arith)
difference_take at (suc n) (x ∷ head) [] le = refl
difference_take at (suc n) (x ∷ head) (y ∷ xs) le = ap (λ (o : Option ℕ). if x == y then o else Some at) (difference_take (at + 1) n head xs (omega arith))
