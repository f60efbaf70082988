use Rattle.std.proofs.Common.{◌≡◌, sym, ap, subst}
use Rattle.task_journal.specs.Journal.{StandsFor}
use Rattle.task_journal.specs.Settled.{Held}
use Rattle.task_journal.proofs.Making.{stands_alike}
use Rattle.task_journal.proofs.journal.Journal.open.Goals as goal

pub returns-in-Ok-clause-stands : goal.returns-in-Ok-clause-stands
returns-in-Ok-clause-stands g c = λ told.
    let disk : c.at.result.disk ≡ c.prepare.new.disk = ap (λ (h : Held g.row.D.Denot). h.disk) c.at.ensures in
    let stands = stands_alike (g.D.Disk.content c.prepare.new.disk) (g.D.Disk.content c.args.disk) c.in-Ok.found (c.in-Ok.ensures.same told) (c.in-Ok.ensures.value told) in
    subst (λ (d : g.row.D.Denot). StandsFor (g.D.Disk.content d) c.in-Ok.found.entries) (sym disk) stands
