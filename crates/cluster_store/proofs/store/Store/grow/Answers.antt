use Rattle.std.proofs.Common.{◌≡◌, ◌∙◌, ◌-◌, ◌++◌, ◌∷◌, ◌≤◌, ◌^◌, List, All, length, false, sym, ap, refl, subst}
use Rattle.std.proofs.lemmas.List.{length-reverse}
use Rattle.cluster_types.specs.declared.entry.Entry.{Entry}
use Rattle.cluster_types.specs.declared.entry.Entry.TheVariants.{Input}
use Rattle.cluster_defs.specs.Histories.{History, decide_all}
use Rattle.cluster_defs.specs.Lives.{told_after, sendings_to}
use Rattle.cluster_defs.specs.Outs.{outs_on}
use Rattle.record_codec.specs.Records.{spellings}
use Rattle.record_codec.specs.Spelling.{IsWithinLimits}
use Rattle.task_journal.specs.Journal.{StandsFor}
use Rattle.cluster_store.specs.declared.waiting.Waiting.{Waiting}
use Rattle.cluster_store.specs.Queues.{left_at, waits}
use Rattle.cluster_store.specs.Stores.{StoreView, Becomes, told, up_to, IsRefused, IsTaken, written}
use Rattle.cluster_store.specs.Held.{IsHeld}
use Rattle.cluster_store.proofs.Fits.{step_fits}
use Rattle.cluster_store.proofs.Remade.{plan_keeps}
use Rattle.cluster_store.proofs.Holding.{Done, grown, held_after, held_same, all_behind, refused_memory}
use Rattle.cluster_store.proofs.store.Store.grow.Goals as goal

pub take_memory-requires : goal.take_memory-requires
take_memory-requires g c =
    subst (All IsWithinLimits) (sym (plan_keeps c.plan.new.self c.in_ok-plan.plan c.self.inside.core.history c.args.input c.in_ok-plan.ensures.ok c.plan.ensures.same c.in_ok-plan.ensures.input))
    (step_fits c.self.inside.core.history c.args.input c.requires.fits)

pub returns-in-Err-clause-err : goal.returns-in-Err-clause-err
returns-in-Err-clause-err g c =
    let old = c.self.inside.core.history in
    let new : StoreView g.row.D.Denot = record {
      disk = c.self.inside.journal.disk;
      history = c.plan.new.self.history;
      limits = c.plan.new.self.limits;
      mark = c.self.inside.mark;
      lines = c.take_memory.new.queues;
      failed = c.self.inside.journal.failed;
      fulls = c.self.inside.fulls;
    } in
    subst (λ (v : StoreView g.row.D.Denot). Becomes v v.history (told v) v.fulls new) c.self.view_is (record {
      disk = refl;
      history_is = c.plan.ensures.same;
      limits = c.plan.ensures.limits;
      mark = refl;
      taken_are = λ x. ap (λ (h : History). length (sendings_to h x) - length (left_at c.take_memory.new.queues x)) c.plan.ensures.same
          ∙ ap (λ (ws : List Waiting). length (sendings_to old x) - length ws) (c.take_memory.ensures.left x);
      failed = refl;
      fulls_are = refl;
    })

pub returns-in-Err-clause-why : goal.returns-in-Err-clause-why
returns-in-Err-clause-why g c =
    let behind = all_behind c.plan.new.self c.in_ok-plan.plan c.self.inside.core.history c.self.inside.mark c.self.inside.need (left_at c.self.inside.queues) c.self.inside.batch c.args.input c.self.invariant.0 c.in_ok-plan.ensures.ok c.plan.ensures.same c.in_ok-plan.ensures.input in
    subst (λ (v : StoreView g.row.D.Denot). IsRefused false v.mark v.limits (decide_all (Input c.args.input ∷ v.history)) c.in-Err.error) c.self.view_is
    (refused_memory c.self.inside.mark c.self.inside.core.limits (decide_all (Input c.args.input ∷ c.self.inside.core.history)) (c.self.inside.batch ++ c.in_ok-plan.plan.kept) c.in-Err.error behind c.in_ok-plan.ensures.fits c.in-Err.ensures.long c.in-Err.ensures.error)

pub invariant_of-self-in-Err : goal.invariant_of-self-in-Err
invariant_of-self-in-Err g c =
    let old = c.self.inside.core.history in
    let held = held_same old c.self.inside.mark c.self.inside.need (left_at c.self.inside.queues) (left_at c.take_memory.new.queues) c.self.inside.batch c.take_memory.new.batch c.self.invariant.0 c.take_memory.ensures.left c.in-Err.ensures.same in (
      subst (λ (h : History). IsHeld h c.self.inside.mark c.self.inside.need (left_at c.take_memory.new.queues) c.take_memory.new.batch) (sym c.plan.ensures.same) held,
      λ fine tells. subst (λ (h : History). StandsFor (g.D.Disk.content c.self.inside.journal.disk) (written (up_to c.self.inside.mark h))) (sym c.plan.ensures.same) (c.self.invariant.1 fine tells),
    )

pub invariant_of-self-2 : goal.invariant_of-self-2
invariant_of-self-2 g c =
    let old = c.self.inside.core.history in
    let done : Done c.plan.new.self c.in_ok-plan.plan c.self.inside.core.history c.self.inside.need (left_at c.self.inside.queues) c.self.inside.batch c.args.input c.apply-outs.new.self.history c.apply-outs.result.outs c.as_slice.result.now
    (length c.history.result.now) c.need_after-self-inside.result (left_at c.push_all.new.self) c.take_memory.new.batch = record {
      plan = c.in_ok-plan.ensures.ok;
      same = c.plan.ensures.same;
      is = c.in_ok-plan.ensures.input;
      calm = λ opens x. subst (λ (v : StoreView g.row.D.Denot). told v x ≡ length (sendings_to v.history x)) (sym c.self.view_is) (c.requires.calm opens x);
      history = c.apply-outs.ensures.history;
      outs_are = c.apply-outs.ensures.outs;
      kept_are = c.as_slice.ensures ∙ c.apply-outs.ensures.kept;
      size_is = sym (length-reverse c.history.result.now) ∙ ap length c.history.ensures.is;
      need_is = c.need_after-self-inside.ensures;
      left_is = λ x. c.push_all.ensures x ∙ ap (λ (ws : List Waiting). ws ++ waits c.need_after-self-inside.result (outs_on x c.apply-outs.result.outs)) (c.take_memory.ensures.left x);
      batch_is = c.in-Ok.ensures.batch;
    } in
    let step_is = grown c.plan.new.self c.in_ok-plan.plan c.self.inside.core.history c.self.inside.mark c.self.inside.need (left_at c.self.inside.queues) c.self.inside.batch c.args.input c.apply-outs.new.self.history c.apply-outs.result.outs
    c.as_slice.result.now (length c.history.result.now) c.need_after-self-inside.result (left_at c.push_all.new.self) c.take_memory.new.batch c.self.invariant.0 done in
    let step = held_after c.self.inside.core.history c.self.inside.mark c.self.inside.need (left_at c.self.inside.queues) c.self.inside.batch c.args.input c.apply-outs.new.self.history c.need_after-self-inside.result (left_at c.push_all.new.self)
    c.take_memory.new.batch c.self.invariant.0 step_is in
    (step.0, λ fine tells. subst (λ (h : History). StandsFor (g.D.Disk.content c.self.inside.journal.disk) (written h)) (sym step.2) (c.self.invariant.1 fine tells))

pub returns-clause-ok : goal.returns-clause-ok
returns-clause-ok g c =
    let old = c.self.inside.core.history in
    let done : Done c.plan.new.self c.in_ok-plan.plan c.self.inside.core.history c.self.inside.need (left_at c.self.inside.queues) c.self.inside.batch c.args.input c.apply-outs.new.self.history c.apply-outs.result.outs c.as_slice.result.now
    (length c.history.result.now) c.need_after-self-inside.result (left_at c.push_all.new.self) c.take_memory.new.batch = record {
      plan = c.in_ok-plan.ensures.ok;
      same = c.plan.ensures.same;
      is = c.in_ok-plan.ensures.input;
      calm = λ opens x. subst (λ (v : StoreView g.row.D.Denot). told v x ≡ length (sendings_to v.history x)) (sym c.self.view_is) (c.requires.calm opens x);
      history = c.apply-outs.ensures.history;
      outs_are = c.apply-outs.ensures.outs;
      kept_are = c.as_slice.ensures ∙ c.apply-outs.ensures.kept;
      size_is = sym (length-reverse c.history.result.now) ∙ ap length c.history.ensures.is;
      need_is = c.need_after-self-inside.ensures;
      left_is = λ x. c.push_all.ensures x ∙ ap (λ (ws : List Waiting). ws ++ waits c.need_after-self-inside.result (outs_on x c.apply-outs.result.outs)) (c.take_memory.ensures.left x);
      batch_is = c.in-Ok.ensures.batch;
    } in
    let step_is = grown c.plan.new.self c.in_ok-plan.plan c.self.inside.core.history c.self.inside.mark c.self.inside.need (left_at c.self.inside.queues) c.self.inside.batch c.args.input c.apply-outs.new.self.history c.apply-outs.result.outs
    c.as_slice.result.now (length c.history.result.now) c.need_after-self-inside.result (left_at c.push_all.new.self) c.take_memory.new.batch c.self.invariant.0 done in
    let step = held_after c.self.inside.core.history c.self.inside.mark c.self.inside.need (left_at c.self.inside.queues) c.self.inside.batch c.args.input c.apply-outs.new.self.history c.need_after-self-inside.result (left_at c.push_all.new.self)
    c.take_memory.new.batch c.self.invariant.0 step_is in
    let new : StoreView g.row.D.Denot = record {
      disk = c.self.inside.journal.disk;
      history = c.apply-outs.new.self.history;
      limits = c.apply-outs.new.self.limits;
      mark = c.self.inside.mark;
      lines = c.push_all.new.self;
      failed = c.self.inside.journal.failed;
      fulls = c.self.inside.fulls;
    } in
    subst (λ (v : StoreView g.row.D.Denot). Becomes v (decide_all (Input c.args.input ∷ v.history)) (told_after (Input c.args.input) (told v)) v.fulls new) c.self.view_is (record {
      disk = refl;
      history_is = step_is.history;
      limits = c.apply-outs.ensures.limits ∙ c.plan.ensures.limits;
      mark = refl;
      taken_are = step.1;
      failed = refl;
      fulls_are = refl;
    })

pub returns-clause-taken : goal.returns-clause-taken
returns-clause-taken g c =
    let behind = all_behind c.plan.new.self c.in_ok-plan.plan c.self.inside.core.history c.self.inside.mark c.self.inside.need (left_at c.self.inside.queues) c.self.inside.batch c.args.input c.self.invariant.0 c.in_ok-plan.ensures.ok c.plan.ensures.same c.in_ok-plan.ensures.input in
    subst (λ (v : StoreView g.row.D.Denot). IsTaken false v.mark v.limits (decide_all (Input c.args.input ∷ v.history))) c.self.view_is
    (refl, c.in_ok-plan.ensures.fits, λ long. c.in-Ok.ensures.short (subst (λ (es : List Entry). 2 ^ 32 ≤ length (spellings es)) (sym behind) long))
