use Rattle.std.proofs.Common.{◌≡◌, sym, ap, subst}
use Rattle.disk_model.specs.Crashes.{LeavesOnly}
use Rattle.task_journal.specs.Journal.{StandsFor}
use Rattle.task_journal.specs.Settled.{Held}
use Rattle.task_journal.proofs.journal.Journal.trim.Goals as goal

pub returns-in-Ok-clause-any_moment : goal.returns-in-Ok-clause-any_moment
returns-in-Ok-clause-any_moment g c = λ told open_now list stands.
    let disk : c.self.inside.disk ≡ c.args.self.now.disk = ap (λ (h : Held g.row.D.Denot). h.disk) c.self.view_is in
    let before = subst (λ (d : g.row.D.Denot). StandsFor (g.D.Disk.content d) list) (sym disk) stands in
    subst (λ (d : g.row.D.Denot). LeavesOnly g.D.Disk.moment g.D.Disk.image_since d c.trim.new.disk (λ f. StandsFor f list)) disk (c.in-Ok.ensures.any_moment told list before)

pub returns-in-Err-clause-any_moment : goal.returns-in-Err-clause-any_moment
returns-in-Err-clause-any_moment g c = λ told open_now list stands.
    let disk : c.self.inside.disk ≡ c.args.self.now.disk = ap (λ (h : Held g.row.D.Denot). h.disk) c.self.view_is in
    let before = subst (λ (d : g.row.D.Denot). StandsFor (g.D.Disk.content d) list) (sym disk) stands in
    subst (λ (d : g.row.D.Denot). LeavesOnly g.D.Disk.moment g.D.Disk.image_since d c.trim.new.disk (λ f. StandsFor f list)) disk (c.in-Err.ensures.any_moment told list before)
