use Rattle.std.proofs.Common.{◌≡◌, ◌∙◌, ◌⊎◌, ◌++◌, ◌∷◌, List, Bool, length, true, false, sym, ap, refl, subst}
use Rattle.std.proofs.lemmas.List.{length-reverse}
use Rattle.cluster_types.specs.declared.entry.Entry.{Entry}
use Rattle.cluster_types.specs.declared.entry.Entry.TheVariants.{Input}
use Rattle.cluster_defs.specs.Histories.{decide_all}
use Rattle.cluster_defs.specs.Lives.{sendings_to}
use Rattle.cluster_core.specs.Steps.{kept_from}
use Rattle.disk_model.specs.Crashes.{LeavesOnly}
use Rattle.task_journal.specs.Journal.{StandsFor}
use Rattle.cluster_store.specs.Held.{IsHeld}
use Rattle.cluster_store.specs.Queues.{left_at}
use Rattle.cluster_store.specs.Stores.{StoreView, told, up_to, written, IsTaken, IsRefused}
use Rattle.cluster_store.proofs.Serving.{Taken, served_held, refused_for, all_kept, never_long, holds_all, held_written, serve_moment}
use Rattle.cluster_store.proofs.store.Store.serve.Goals as goal

pub returns-in-Err-clause-why : goal.returns-in-Err-clause-why
returns-in-Err-clause-why g c =
    let fine : c.args.self.now.failed ≡ false = sym c.failed.ensures.is ∙ c.if-failed.false in
    subst (λ (b : Bool). IsRefused b c.args.self.now.mark c.args.self.now.limits (decide_all (Input c.args.input ∷ c.args.self.now.history)) c.in-Err.error) (sym fine)
    (subst (λ (v : StoreView g.row.D.Denot). IsRefused false v.mark v.limits (decide_all (Input c.args.input ∷ v.history)) c.in-Err.error) c.self.view_is
    (refused_for c.self.inside.mark c.self.inside.core.limits (decide_all (Input c.args.input ∷ c.self.inside.core.history))
    (c.self.inside.batch ++ kept_from (length c.self.inside.core.history) (decide_all (Input c.args.input ∷ c.self.inside.core.history))) c.in-Err.error
    (all_kept c.self.inside.core.history c.self.inside.mark c.self.inside.need (left_at c.self.inside.queues) c.self.inside.batch c.args.input c.self.invariant.0) c.in-Err.ensures.why))

pub invariant_of-self-in-Ok-write_batch : goal.invariant_of-self-in-Ok-write_batch
invariant_of-self-in-Ok-write_batch g c =
    let taken : Taken c.self.inside.core.history c.self.inside.need c.self.inside.batch c.args.input c.take_step.new.core.history c.as_slice.result.now (length c.history.result.now) c.need_after-self-inside.result c.take_step.new.batch = record {
      history = c.in-Ok.ensures.history;
      allowed = c.in-Ok.ensures.allowed;
      kept_are = c.as_slice.ensures ∙ c.in-Ok.ensures.kept;
      size_is = sym (length-reverse c.history.result.now) ∙ ap length c.history.ensures.is;
      need_is = c.need_after-self-inside.ensures;
      batch_is = c.in-Ok.ensures.batch;
    } in
    let held = served_held c.self.inside.core.history c.self.inside.mark c.self.inside.need (left_at c.self.inside.queues) c.self.inside.batch c.args.input c.take_step.new.core.history c.as_slice.result.now (length c.history.result.now)
    c.need_after-self-inside.result c.take_step.new.batch c.self.invariant.0 (λ x. subst (λ (v : StoreView g.row.D.Denot). told v x ≡ length (sendings_to v.history x)) (sym c.self.view_is) (c.requires.calm x)) taken in
    let size : length c.history.result.now ≡ length c.take_step.new.core.history = sym (length-reverse c.history.result.now) ∙ ap length c.history.ensures.is in (
      held_written c.take_step.new.core.history c.self.inside.mark c.need_after-self-inside.result (length c.history.result.now) (left_at c.self.inside.queues) c.take_step.new.batch c.write_batch.new.batch held.0 size c.in-Ok-write_batch.ensures.ok,
      λ fine tells. holds_all (g.D.Disk.content c.write_batch.new.journal.disk) c.self.inside.core.history c.take_step.new.core.history c.self.inside.mark c.need_after-self-inside.result (length c.history.result.now) (left_at c.self.inside.queues)
          c.take_step.new.batch held.0 held.1 size
          (c.in-Ok-write_batch.ensures.stands tells (written (up_to c.self.inside.mark c.self.inside.core.history)) (c.self.invariant.1 c.in-Ok-write_batch.ensures.working tells)),
    )

pub invariant_of-self-in-Err-write_batch : goal.invariant_of-self-in-Err-write_batch
invariant_of-self-in-Err-write_batch g c =
    let taken : Taken c.self.inside.core.history c.self.inside.need c.self.inside.batch c.args.input c.take_step.new.core.history c.as_slice.result.now (length c.history.result.now) c.need_after-self-inside.result c.take_step.new.batch = record {
      history = c.in-Ok.ensures.history;
      allowed = c.in-Ok.ensures.allowed;
      kept_are = c.as_slice.ensures ∙ c.in-Ok.ensures.kept;
      size_is = sym (length-reverse c.history.result.now) ∙ ap length c.history.ensures.is;
      need_is = c.need_after-self-inside.ensures;
      batch_is = c.in-Ok.ensures.batch;
    } in
    let held = served_held c.self.inside.core.history c.self.inside.mark c.self.inside.need (left_at c.self.inside.queues) c.self.inside.batch c.args.input c.take_step.new.core.history c.as_slice.result.now (length c.history.result.now)
    c.need_after-self-inside.result c.take_step.new.batch c.self.invariant.0 (λ x. subst (λ (v : StoreView g.row.D.Denot). told v x ≡ length (sendings_to v.history x)) (sym c.self.view_is) (c.requires.calm x)) taken in (
      subst (λ (b : List Entry). IsHeld c.take_step.new.core.history c.self.inside.mark c.need_after-self-inside.result (left_at c.self.inside.queues) b) (sym c.in-Err-write_batch.ensures.err) held.0,
      λ fine tells. absurd (let no : true ≡ false = sym c.in-Err-write_batch.ensures.failed ∙ fine in cc),
    )

pub returns-in-Ok-write_batch-clause-taken : goal.returns-in-Ok-write_batch-clause-taken
returns-in-Ok-write_batch-clause-taken g c =
    let fine : c.args.self.now.failed ≡ false = sym c.failed.ensures.is ∙ c.if-failed.false in
    subst (λ (v : StoreView g.row.D.Denot). (v.failed ≡ false) → IsTaken v.failed v.mark v.limits (decide_all (Input c.args.input ∷ v.history))) c.self.view_is
    (λ is. (is, c.in-Ok.ensures.within, never_long c.self.inside.core.history c.self.inside.mark c.self.inside.need (left_at c.self.inside.queues) c.self.inside.batch c.args.input c.self.invariant.0 c.in-Ok.ensures.short)) fine

pub returns-in-Ok-write_batch-clause-any_moment : goal.returns-in-Ok-write_batch-clause-any_moment
returns-in-Ok-write_batch-clause-any_moment g c =
    let taken : Taken c.self.inside.core.history c.self.inside.need c.self.inside.batch c.args.input c.take_step.new.core.history c.as_slice.result.now (length c.history.result.now) c.need_after-self-inside.result c.take_step.new.batch = record {
      history = c.in-Ok.ensures.history;
      allowed = c.in-Ok.ensures.allowed;
      kept_are = c.as_slice.ensures ∙ c.in-Ok.ensures.kept;
      size_is = sym (length-reverse c.history.result.now) ∙ ap length c.history.ensures.is;
      need_is = c.need_after-self-inside.ensures;
      batch_is = c.in-Ok.ensures.batch;
    } in
    let held = served_held c.self.inside.core.history c.self.inside.mark c.self.inside.need (left_at c.self.inside.queues) c.self.inside.batch c.args.input c.take_step.new.core.history c.as_slice.result.now (length c.history.result.now)
    c.need_after-self-inside.result c.take_step.new.batch c.self.invariant.0 (λ x. subst (λ (v : StoreView g.row.D.Denot). told v x ≡ length (sendings_to v.history x)) (sym c.self.view_is) (c.requires.calm x)) taken in
    subst (λ (v : StoreView g.row.D.Denot). g.D.Disk.tells → v.failed ≡ false → LeavesOnly g.D.Disk.moment g.D.Disk.image_since v.disk c.write_batch.new.journal.disk
    (λ x. StandsFor x (written (up_to v.mark v.history)) ⊎ StandsFor x (written (decide_all (Input c.args.input ∷ v.history))))) c.self.view_is
    (λ tells fine. serve_moment g.D.Disk.content g.D.Disk.moment g.D.Disk.image_since c.self.inside.journal.disk c.write_batch.new.journal.disk c.self.inside.core.history c.take_step.new.core.history c.args.input c.self.inside.mark c.need_after-self-inside.result
    (left_at c.self.inside.queues) c.take_step.new.batch held.0 held.1 c.in-Ok.ensures.history (c.self.invariant.1 fine tells) (c.in-Ok-write_batch.ensures.any_moment tells fine))

pub returns-in-Err-write_batch-clause-why : goal.returns-in-Err-write_batch-clause-why
returns-in-Err-write_batch-clause-why g c =
    let fine : c.args.self.now.failed ≡ false = sym c.failed.ensures.is ∙ c.if-failed.false in
    subst (λ (v : StoreView g.row.D.Denot). (v.failed ≡ false) → IsTaken v.failed v.mark v.limits (decide_all (Input c.args.input ∷ v.history))) c.self.view_is
    (λ is. (is, c.in-Ok.ensures.within, never_long c.self.inside.core.history c.self.inside.mark c.self.inside.need (left_at c.self.inside.queues) c.self.inside.batch c.args.input c.self.invariant.0 c.in-Ok.ensures.short)) fine

pub returns-in-Err-write_batch-clause-any_moment : goal.returns-in-Err-write_batch-clause-any_moment
returns-in-Err-write_batch-clause-any_moment g c =
    let taken : Taken c.self.inside.core.history c.self.inside.need c.self.inside.batch c.args.input c.take_step.new.core.history c.as_slice.result.now (length c.history.result.now) c.need_after-self-inside.result c.take_step.new.batch = record {
      history = c.in-Ok.ensures.history;
      allowed = c.in-Ok.ensures.allowed;
      kept_are = c.as_slice.ensures ∙ c.in-Ok.ensures.kept;
      size_is = sym (length-reverse c.history.result.now) ∙ ap length c.history.ensures.is;
      need_is = c.need_after-self-inside.ensures;
      batch_is = c.in-Ok.ensures.batch;
    } in
    let held = served_held c.self.inside.core.history c.self.inside.mark c.self.inside.need (left_at c.self.inside.queues) c.self.inside.batch c.args.input c.take_step.new.core.history c.as_slice.result.now (length c.history.result.now)
    c.need_after-self-inside.result c.take_step.new.batch c.self.invariant.0 (λ x. subst (λ (v : StoreView g.row.D.Denot). told v x ≡ length (sendings_to v.history x)) (sym c.self.view_is) (c.requires.calm x)) taken in
    subst (λ (v : StoreView g.row.D.Denot). g.D.Disk.tells → v.failed ≡ false → LeavesOnly g.D.Disk.moment g.D.Disk.image_since v.disk c.write_batch.new.journal.disk
    (λ x. StandsFor x (written (up_to v.mark v.history)) ⊎ StandsFor x (written (decide_all (Input c.args.input ∷ v.history))))) c.self.view_is
    (λ tells fine. serve_moment g.D.Disk.content g.D.Disk.moment g.D.Disk.image_since c.self.inside.journal.disk c.write_batch.new.journal.disk c.self.inside.core.history c.take_step.new.core.history c.args.input c.self.inside.mark c.need_after-self-inside.result
    (left_at c.self.inside.queues) c.take_step.new.batch held.0 held.1 c.in-Ok.ensures.history (c.self.invariant.1 fine tells) (c.in-Err-write_batch.ensures.any_moment tells fine))
