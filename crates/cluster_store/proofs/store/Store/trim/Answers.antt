use Rattle.std.proofs.Common.{◌≡◌, ◌∙◌, false, sym, ap, subst}
use Rattle.disk_model.specs.Crashes.{LeavesOnly}
use Rattle.task_journal.specs.Journal.{StandsFor}
use Rattle.cluster_store.specs.Stores.{StoreView, up_to, written}
use Rattle.cluster_store.proofs.Trimmed.{on_done, was_fine}
use Rattle.cluster_store.proofs.store.Store.trim.Goals as goal

pub invariant_of-self : goal.invariant_of-self
invariant_of-self g c =
    let inv = c.self.invariant in
    let s = c.self.inside in
    let list = written (up_to s.mark s.core.history) in (
      inv.0,
      λ working told.
          let done = sym c.trim.ensures.failed ∙ working in
          on_done c.trim.result (c.trim.ensures.stands told) done list (inv.1 (was_fine c.trim.result s.journal.failed c.trim.ensures.reopen done) told),
    )

pub returns-clause-any_moment : goal.returns-clause-any_moment
returns-clause-any_moment g c =
    subst (λ (v : StoreView g.row.D.Denot). g.D.Disk.tells → v.failed ≡ false → LeavesOnly g.D.Disk.moment g.D.Disk.image_since v.disk c.trim.new.self.disk (λ x. StandsFor x (written (up_to v.mark v.history)))) c.self.view_is
    (λ told fine. c.trim.ensures.any_moment told fine (written (up_to c.self.inside.mark c.self.inside.core.history)) (c.self.invariant.1 fine told))
