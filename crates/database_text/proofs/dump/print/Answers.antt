use Rattle.std.proofs.Common.{subst, inl, inr}
use Rattle.task_journal.specs.declared.fault.OpenFault.{OpenFault}
use Rattle.task_journal.specs.Journal.{Fails, journal}
use Rattle.database_text.proofs.dump.print.Goals as goal

pub returns-in-Err-Unread-clause-damaged : goal.returns-in-Err-Unread-clause-damaged
returns-in-Err-Unread-clause-damaged g c told place is =
    let read = journal (g.D.Disk.content c.args.disk.now) in
    let fails : Fails c.in-Err-Unread.fault read = c.in-Err-Unread.ensures.fault told c.in-Err-Unread.fault (cc) in
    elim (c.ending_at.ensures.damaged place is) [
      | inl e ↦ inl (subst (λ (f : OpenFault). Fails f read) e fails)
      | inr e ↦ inr (subst (λ (f : OpenFault). Fails f read) e fails)
    ]
