use Rattle.std.proofs.Common.{◌≡◌, ◌∙◌, ◌⊎◌, List, length, false, sym, ap, subst}
use Rattle.std.proofs.lemmas.List.{length-reverse}
use Rattle.cluster_types.specs.declared.entry.Entry.{Entry}
use Rattle.disk_model.specs.Crashes.{LeavesOnly}
use Rattle.task_journal.specs.Journal.{StandsFor}
use Rattle.cluster_store.specs.Held.{IsHeld}
use Rattle.cluster_store.specs.Queues.{left_at}
use Rattle.cluster_store.specs.Stores.{StoreView, up_to, written}
use Rattle.cluster_store.proofs.Holding.{held_flushed, batch_completes, flush_moment}
use Rattle.cluster_store.proofs.Stepping.{whole_front}
use Rattle.cluster_store.proofs.store.Store.flush.Goals as goal

pub returns-in_err-write_batch-clause-any_moment : goal.returns-in_err-write_batch-clause-any_moment
returns-in_err-write_batch-clause-any_moment g c =
    subst (λ (v : StoreView g.row.D.Denot). g.D.Disk.tells → v.failed ≡ false → (list : List Entry) → StandsFor (g.D.Disk.content v.disk) list →
    LeavesOnly g.D.Disk.moment g.D.Disk.image_since v.disk c.write_batch.new.journal.disk (λ x. StandsFor x list ⊎ StandsFor x (written v.history))) c.self.view_is
    (λ tells fine. flush_moment g.D.Disk.content g.D.Disk.moment g.D.Disk.image_since c.self.inside.journal.disk c.write_batch.new.journal.disk c.self.inside.core.history c.self.inside.mark c.self.inside.need (left_at c.self.inside.queues)
    c.self.inside.batch c.self.invariant.0 (c.self.invariant.1 fine tells) (c.in_err-write_batch.ensures.any_moment tells fine))

pub invariant_of-self-2 : goal.invariant_of-self-2
invariant_of-self-2 g c =
    let h = c.self.inside.core.history in
    let size : length c.history.result.now ≡ length c.self.inside.core.history = sym (length-reverse c.history.result.now) ∙ ap length c.history.ensures.is in
    let front : up_to (length c.history.result.now) c.self.inside.core.history ≡ c.self.inside.core.history = ap (λ n. up_to n c.self.inside.core.history) size ∙ whole_front c.self.inside.core.history in
    let fine = c.in_ok-write_batch.ensures.working in (
      subst (λ n. IsHeld c.self.inside.core.history n c.self.inside.need (left_at c.self.inside.queues) c.write_batch.new.batch) (sym size)
          (subst (λ (b : List Entry). IsHeld c.self.inside.core.history (length c.self.inside.core.history) c.self.inside.need (left_at c.self.inside.queues) b) (sym c.in_ok-write_batch.ensures.ok)
          (held_flushed c.self.inside.core.history c.self.inside.mark c.self.inside.need (left_at c.self.inside.queues) c.self.inside.batch c.self.invariant.0)),
      λ good tells. subst (StandsFor (g.D.Disk.content c.write_batch.new.journal.disk))
          (batch_completes c.self.inside.core.history c.self.inside.mark c.self.inside.need (left_at c.self.inside.queues) c.self.inside.batch c.self.invariant.0 ∙ ap written (sym front))
          (c.in_ok-write_batch.ensures.stands tells (written (up_to c.self.inside.mark c.self.inside.core.history)) (c.self.invariant.1 fine tells)),
    )

pub returns-clause-stands : goal.returns-clause-stands
returns-clause-stands g c =
    subst (λ (v : StoreView g.row.D.Denot). g.D.Disk.tells → StandsFor (g.D.Disk.content c.write_batch.new.journal.disk) (written v.history)) c.self.view_is
    (λ tells. subst (StandsFor (g.D.Disk.content c.write_batch.new.journal.disk))
    (batch_completes c.self.inside.core.history c.self.inside.mark c.self.inside.need (left_at c.self.inside.queues) c.self.inside.batch c.self.invariant.0)
    (c.in_ok-write_batch.ensures.stands tells (written (up_to c.self.inside.mark c.self.inside.core.history)) (c.self.invariant.1 c.in_ok-write_batch.ensures.working tells)))

pub returns-clause-any_moment : goal.returns-clause-any_moment
returns-clause-any_moment g c =
    subst (λ (v : StoreView g.row.D.Denot). g.D.Disk.tells → v.failed ≡ false → (list : List Entry) → StandsFor (g.D.Disk.content v.disk) list →
    LeavesOnly g.D.Disk.moment g.D.Disk.image_since v.disk c.write_batch.new.journal.disk (λ x. StandsFor x list ⊎ StandsFor x (written v.history))) c.self.view_is
    (λ tells fine. flush_moment g.D.Disk.content g.D.Disk.moment g.D.Disk.image_since c.self.inside.journal.disk c.write_batch.new.journal.disk c.self.inside.core.history c.self.inside.mark c.self.inside.need (left_at c.self.inside.queues)
    c.self.inside.batch c.self.invariant.0 (c.self.invariant.1 fine tells) (c.in_ok-write_batch.ensures.any_moment tells fine))
