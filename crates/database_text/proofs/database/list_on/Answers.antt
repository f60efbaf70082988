use Rattle.std.proofs.Common.{subst, inl, inr}
use Rattle.cluster_store.specs.Openings.{WhyNot}
use Rattle.task_journal.specs.declared.fault.OpenFault.{OpenFault}
use Rattle.database_text.proofs.database.list_on.Goals as goal

pub returns-in-Err-clause-damaged : goal.returns-in-Err-clause-damaged
returns-in-Err-clause-damaged g c told place is =
    let content = g.D.Disk.content c.args.disk.now in
    elim (c.ending_at.ensures.damaged place is) [
      | inl e ↦ inl (subst (λ (f : OpenFault). WhyNot content f) e (c.in-Err.ensures.refused told))
      | inr e ↦ inr (subst (λ (f : OpenFault). WhyNot content f) e (c.in-Err.ensures.refused told))
    ]
