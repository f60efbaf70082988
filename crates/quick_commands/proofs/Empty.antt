-- A disk without octets stands for no entries, and is never refused as damaged.
use Rattle.std.proofs.Common.{◌≡◌, ℕ, List, [], ◌∷◌, Ok, Err, inl, inr, refl, sym, ap, ◌∙◌, subst, arith}
use Rattle.std.specs.Prelude.{Result}
use Rattle.cluster_types.specs.declared.entry.Entry.{Entry}
use Rattle.cluster_store.specs.Openings.{WhyNot, IsRefusedAt}
use Rattle.task_journal.specs.declared.fault.OpenFault.{OpenFault}
use Rattle.task_journal.specs.declared.fault.OpenFault.TheVariants.{NotAJournal, Damaged, DiskFault, OutOfMemory}
use Rattle.task_journal.specs.declared.found.Found.{Found}
use Rattle.task_journal.specs.Journal.{journal, holding, StandsFor}
use Rattle.quick_commands.specs.declared.fault.WorkError.TheVariants.{NotEmpty}
use Rattle.quick_commands.specs.Ends.{error_of}

empty_journal : journal [] ≡ Ok (holding [] (0 ∷ []))
unfolding journal
empty_journal = refl

abbrev found_in : Result Found OpenFault → Found
found_in (Ok found) = found
found_in (Err e) = holding [] []

pub stands_for_none : (list : List Entry) → StandsFor [] list → list ≡ []
stands_for_none list h = sym (ap (λ (read : Result Found OpenFault). (found_in read).entries) (sym empty_journal ∙ h.1))

not_bad : (found : Found) (place : ℕ) → found ≡ holding [] (0 ∷ []) → IsRefusedAt found place → ⊥
not_bad found place is refused = subst (λ (f : Found). IsRefusedAt f place → ⊥) (sym is) refuses refused
  where
    refuses : IsRefusedAt (holding [] (0 ∷ [])) place → ⊥
    refuses (inl bad) = omega (arith, bad.1.within)
    refuses (inr cut) = cut.0.not refl

pub never_damaged : (why : OpenFault) (place : ℕ) → WhyNot [] why → error_of why ≡ NotEmpty place → ⊥
never_damaged (NotAJournal at) place why is = let e : Ok (holding [] (0 ∷ [])) ≡ Err (NotAJournal at) = sym empty_journal ∙ why in cc
never_damaged (Damaged at) place (inl why) is = let e : Ok (holding [] (0 ∷ [])) ≡ Err (Damaged at) = sym empty_journal ∙ why in cc
never_damaged (Damaged at) place (inr why) is = not_bad why.0 at (sym (ap found_in (sym empty_journal ∙ why.1))) why.2
never_damaged DiskFault place why is = cc
never_damaged OutOfMemory place why is = cc
