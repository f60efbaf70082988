-- What a disk stands for, and what a cluster goes on from.
use Rattle.std.proofs.Common.{◌≡◌, List, ℕ, Result, Ok, Err, inl, inr, reverse, subst, sym, ap, ◌∙◌}
use Rattle.std.proofs.lemmas.List.{append-nil}
use Rattle.cluster_types.specs.declared.entry.Entry.{Entry}
use Rattle.cluster_defs.specs.Histories.{History, Legal}
use Rattle.cluster_store.specs.Openings.{IsFit}
use Rattle.task_journal.specs.declared.fault.OpenFault.{OpenFault}
use Rattle.task_journal.specs.declared.found.Found.{Found}
use Rattle.task_journal.specs.declared.fault.OpenFault.TheVariants.{NotAJournal, Damaged}
use Rattle.task_journal.specs.Journal.{StandsFor, holding}
use Rattle.database_text.specs.Texts.{IsDamaged}

pub found_is : (a b : Found) → ◌≡◌ {A = Result Found OpenFault} (Ok a) (Ok b) → a ≡ b
found_is a b e = cc

ok_is_no_fault : (found : Found) (fault : OpenFault) → ◌≡◌ {A = Result Found OpenFault} (Ok found) (Err fault) → ⊥
ok_is_no_fault found fault e = cc

-- a disk that stands for a list isn't refused
pub whole_undamaged : (octets : List ℕ) (list : List Entry) (place : ℕ) → StandsFor octets list → IsDamaged octets place → ⊥
whole_undamaged octets list place stands (inl e) = ok_is_no_fault (holding list stands.0) (NotAJournal place) (sym stands.1 ∙ e)
whole_undamaged octets list place stands (inr e) = ok_is_no_fault (holding list stands.0) (Damaged place) (sym stands.1 ∙ e)

-- a list that a cluster goes on from is that of a legal history
pub fit_legal : (list : List Entry) → IsFit list → Legal (reverse list)
fit_legal list fit = subst (λ (h : History). Legal h) (append-nil (reverse list)) fit.0.legal
