-- What was found, and what is still to come.
use Rattle.std.proofs.Common.{◌≡◌, ℕ, List, [], ◌∷◌, ◌++◌, Result, Ok, Err, Some, refl, sym, ap, ◌∙◌}
use Rattle.std.proofs.lemmas.List.{append-nil}
use Rattle.task_journal.specs.declared.fault.OpenFault.{OpenFault}
use Rattle.task_journal.specs.declared.fault.OpenFault.TheVariants.{NotAJournal, Damaged, DiskFault, OutOfMemory}
use Rattle.task_journal.specs.declared.found.Found.{Found}
use Rattle.task_journal.specs.declared.cursor.Placed.{Placed}
use Rattle.task_journal.specs.Journal.{◌>>=◌, behind, with_front, one, Fails}
use Rattle.task_journal.specs.Cursor.{shut}
use Rattle.task_journal.proofs.Loops.{regroup, fails_along}

pub bind_fails : {X Y : Type 0} (e : OpenFault) (read : Result X OpenFault) (next : X → Result Y OpenFault) → Fails e read → Fails e (read >>= next)
bind_fails (NotAJournal place) read next fails = rw fails refl
bind_fails (Damaged place) read next fails = rw fails refl
bind_fails DiskFault read next fails = tt
bind_fails OutOfMemory read next fails = tt

-- one entry more was found
pub found_more : (found : Found) (placed : Placed) (old new total : Result Found OpenFault) → with_front found old ≡ total → old ≡ with_front (one placed.entry placed.place) new → with_front (behind found (one placed.entry placed.place)) new ≡ total
found_more found placed old new total so_far next =
    sym (regroup found (one placed.entry placed.place) new) ∙ ap (λ (r : Result Found OpenFault). with_front found r) (sym next) ∙ so_far

-- nothing was still to come but the place of a closed gate
pub found_all : (found : Found) (gate : ℕ) (old total : Result Found OpenFault) → with_front found old ≡ total → old ≡ Ok (shut gate) → total ≡ Ok (record { entries = found.entries; places = found.places ++ gate ∷ [] })
found_all found gate old total so_far last =
    sym so_far ∙ ap (λ (r : Result Found OpenFault). with_front found r) last ∙ rw (append-nil found.entries) refl

-- a fault of what was still to come is one of all
pub found_fails : (e : OpenFault) (found : Found) (old total : Result Found OpenFault) → with_front found old ≡ total → Fails e old → Fails e total
found_fails e found old total so_far fails = fails_along e (with_front found old) total so_far (bind_fails e old (λ more. Ok (behind found more)) fails)
