use Rattle.std.proofs.Common.{◌≡◌, ◌∙◌, List, length, sym, ap, subst}
use Rattle.std.proofs.lemmas.List.{length-reverse}
use Rattle.cluster_types.specs.declared.entry.Entry.{Entry}
use Rattle.task_journal.specs.Journal.{StandsFor}
use Rattle.cluster_store.specs.Held.{IsHeld}
use Rattle.cluster_store.specs.Queues.{left_at}
use Rattle.cluster_store.specs.Stores.{up_to, written}
use Rattle.cluster_store.proofs.Holding.{held_first}
use Rattle.cluster_store.proofs.Stepping.{whole_front}
use Rattle.cluster_store.proofs.store.Store.over.Goals as goal

pub invariant_of-result : goal.invariant_of-result
invariant_of-result g c =
    let history = c.args.core.history in
    let size : length c.history.result.now ≡ length c.args.core.history = sym (length-reverse c.history.result.now) ∙ ap length c.history.ensures.is in
    let front : up_to (length c.history.result.now) c.args.core.history ≡ c.args.core.history = ap (λ n. up_to n c.args.core.history) size ∙ whole_front c.args.core.history in (
      subst (λ n. IsHeld c.args.core.history n n (left_at c.new.result) c.in-Ok.batch) (sym size)
          (subst (λ (b : List Entry). IsHeld c.args.core.history (length c.args.core.history) (length c.args.core.history) (left_at c.new.result) b) (sym c.in-Ok.ensures)
          (held_first c.args.core.history (left_at c.new.result) c.history.ensures.legal c.history.ensures.rests c.new.ensures)),
      λ fine tells. subst (StandsFor (g.D.Disk.content c.args.journal.disk)) (ap written (sym front)) (c.requires tells),
    )
