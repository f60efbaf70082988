use Rattle.std.proofs.Common.{◌≡◌, ◌∙◌, ◌⊎◌, sym, ap, subst}
use Rattle.cluster_defs.specs.Histories.{History}
use Rattle.disk_model.specs.Crashes.{LeavesOnly}
use Rattle.task_journal.specs.Journal.{StandsFor}
use Rattle.cluster_store.specs.Openings.{opened}
use Rattle.cluster_store.specs.Stores.{Becomes, written}
use Rattle.cluster_store.proofs.Opens.{ok_of}
use Rattle.cluster_store.proofs.store.Store.begin.Goals as goal

pub returns-then-is_err-2-clause-any_moment_err : goal.returns-then-is_err-2-clause-any_moment_err
returns-then-is_err-2-clause-any_moment_err g c =
    let step : Becomes c.in-Ok.store (opened c.args.config c.args.moment c.in-Ok.store.history) (λ x. 0) c.in-Ok.store.fulls c.open_step.new.self =
    ok_of c.open_step.result (Becomes c.in-Ok.store (opened c.args.config c.args.moment c.in-Ok.store.history) (λ x. 0) c.in-Ok.store.fulls c.open_step.new.self) (sym c.is_err.ensures.value ∙ c.if-is_err.false) c.open_step.ensures.ok in
    let disk : c.open_step.new.self.disk ≡ c.args.journal.disk = step.disk ∙ c.in-Ok.ensures.journal.0 in
    let fine = step.failed ∙ c.in-Ok.ensures.journal.1 ∙ c.requires.working in
    let history : c.open_step.new.self.history ≡ opened c.args.config c.args.moment c.args.core.history = step.history_is ∙ ap (opened c.args.config c.args.moment) c.in-Ok.ensures.history.0 in
    λ tells is.
    subst (λ (d : g.row.D.Denot). LeavesOnly g.D.Disk.moment g.D.Disk.image_since c.args.journal.disk d (λ x. StandsFor x (written c.args.core.history) ⊎ StandsFor x (written (opened c.args.config c.args.moment c.args.core.history))))
    (sym c.close-then-is_err-2.ensures)
    (subst (λ (d : g.row.D.Denot). LeavesOnly g.D.Disk.moment g.D.Disk.image_since d c.flush.new.self.disk (λ x. StandsFor x (written c.args.core.history) ⊎ StandsFor x (written (opened c.args.config c.args.moment c.args.core.history)))) disk
    (subst (λ (h : History). LeavesOnly g.D.Disk.moment g.D.Disk.image_since c.open_step.new.self.disk c.flush.new.self.disk (λ x. StandsFor x (written c.args.core.history) ⊎ StandsFor x (written h))) history
    (c.flush.ensures.any_moment tells fine (written c.args.core.history) (subst (λ (d : g.row.D.Denot). StandsFor (g.D.Disk.content d) (written c.args.core.history)) (sym disk) (c.requires.holds tells)))))

pub returns-clause-any_moment : goal.returns-clause-any_moment
returns-clause-any_moment g c =
    let step : Becomes c.in-Ok.store (opened c.args.config c.args.moment c.in-Ok.store.history) (λ x. 0) c.in-Ok.store.fulls c.open_step.new.self =
    ok_of c.open_step.result (Becomes c.in-Ok.store (opened c.args.config c.args.moment c.in-Ok.store.history) (λ x. 0) c.in-Ok.store.fulls c.open_step.new.self) (sym c.is_err.ensures.value ∙ c.if-is_err.false) c.open_step.ensures.ok in
    let disk : c.open_step.new.self.disk ≡ c.args.journal.disk = step.disk ∙ c.in-Ok.ensures.journal.0 in
    let fine = step.failed ∙ c.in-Ok.ensures.journal.1 ∙ c.requires.working in
    λ tells.
    subst (λ (d : g.row.D.Denot). LeavesOnly g.D.Disk.moment g.D.Disk.image_since d c.flush.new.self.disk (λ x. StandsFor x (written c.args.core.history) ⊎ StandsFor x (written c.flush.new.self.history))) disk
    (subst (λ (h : History). LeavesOnly g.D.Disk.moment g.D.Disk.image_since c.open_step.new.self.disk c.flush.new.self.disk (λ x. StandsFor x (written c.args.core.history) ⊎ StandsFor x (written h))) (sym c.flush.ensures.history)
    (c.flush.ensures.any_moment tells fine (written c.args.core.history) (subst (λ (d : g.row.D.Denot). StandsFor (g.D.Disk.content d) (written c.args.core.history)) (sym disk) (c.requires.holds tells))))
