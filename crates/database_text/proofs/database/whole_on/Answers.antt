use Rattle.std.proofs.Common.{subst, inl, inr}
use Rattle.task_journal.specs.declared.fault.OpenFault.{OpenFault}
use Rattle.task_journal.specs.Journal.{Fails, journal}
use Rattle.database_text.proofs.database.whole_on.Goals as goal

pub returns-in-Err-clause-damaged : goal.returns-in-Err-clause-damaged
returns-in-Err-clause-damaged g c told place is =
    let read = journal (g.D.Disk.content c.args.disk.now) in
    elim (c.ending_at.ensures.damaged place is) [
      | inl e ↦ inl (subst (λ (f : OpenFault). Fails f read) e (c.in-Err.ensures.fault told))
      | inr e ↦ inr (subst (λ (f : OpenFault). Fails f read) e (c.in-Err.ensures.fault told))
    ]
