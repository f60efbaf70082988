use Rattle.std.proofs.Common.{◌≡◌, ◌∙◌, sym, ap, refl, subst, drop}
use Rattle.cluster_defs.specs.Lives.{sendings_to}
use Rattle.cluster_store.specs.declared.taken.Taken.{Taken}
use Rattle.cluster_store.specs.Queues.{left_at, handed, released, after, is_none_left}
use Rattle.cluster_store.specs.Stores.{StoreView, Becomes, told, told_by, answer, is_live, next_to}
use Rattle.cluster_store.specs.Held.{told_of}
use Rattle.cluster_store.proofs.Holding.{held_taken}
use Rattle.cluster_store.proofs.Taking.{answers, get_first, told_taken}
use Rattle.cluster_store.proofs.store.Store.take_out.Goals as goal

pub invariant_of-self : goal.invariant_of-self
invariant_of-self g c = (
  held_taken c.self.inside.core.history c.self.inside.mark c.self.inside.need c.args.conn (left_at c.self.inside.queues) (left_at c.hand_out.new.self) c.self.inside.batch c.self.invariant.0 c.hand_out.ensures.left,
  c.self.invariant.1,
)

pub returns-clause-answer : goal.returns-clause-answer
returns-clause-answer g c =
    let h = c.self.inside.core.history in
    let mark = c.self.inside.mark in
    let ws = left_at c.self.inside.queues c.args.conn in
    let n = told_of (left_at c.self.inside.queues) c.self.inside.core.history c.args.conn in
    subst (λ (v : StoreView g.row.D.Denot). c.hand_out.result ≡ answer (is_live v.history c.args.conn) v.mark (next_to v c.args.conn)) c.self.view_is
    (c.hand_out.ensures.taken
    ∙ ap (λ b. handed b (is_none_left (after c.self.inside.mark (left_at c.self.inside.queues c.args.conn))) (released c.self.inside.mark (left_at c.self.inside.queues c.args.conn))) (c.is_live-live.ensures ∙ ap (λ (v : StoreView g.row.D.Denot). is_live v.history c.args.conn) (sym c.self.view_is))
    ∙ sym (answers (is_live c.self.inside.core.history c.args.conn) c.self.inside.mark (left_at c.self.inside.queues c.args.conn)
    (drop (told_of (left_at c.self.inside.queues) c.self.inside.core.history c.args.conn) (sendings_to c.self.inside.core.history c.args.conn)) (c.self.invariant.0.waiting.same c.args.conn))
    ∙ ap (answer (is_live c.self.inside.core.history c.args.conn) c.self.inside.mark)
    (sym (get_first (sendings_to c.self.inside.core.history c.args.conn) (told_of (left_at c.self.inside.queues) c.self.inside.core.history c.args.conn))))

pub returns-clause-told : goal.returns-clause-told
returns-clause-told g c =
    let new : StoreView g.row.D.Denot = record {
      disk = c.self.inside.journal.disk;
      history = c.self.inside.core.history;
      limits = c.self.inside.core.limits;
      mark = c.self.inside.mark;
      lines = c.hand_out.new.self;
      failed = c.self.inside.journal.failed;
      fulls = c.self.inside.fulls;
    } in
    subst (λ (v : StoreView g.row.D.Denot). Becomes v v.history (told_by c.hand_out.result c.args.conn (told v)) v.fulls new) c.self.view_is (record {
      disk = refl;
      history_is = refl;
      limits = refl;
      mark = refl;
      taken_are = λ x.
          told_taken c.self.inside.core.history c.self.inside.mark c.self.inside.need c.args.conn (left_at c.self.inside.queues) (left_at c.hand_out.new.self) c.is_live-live.result
          (is_none_left (after c.self.inside.mark (left_at c.self.inside.queues c.args.conn))) c.self.invariant.0.waiting c.hand_out.ensures.left x
          ∙ ap (λ (t : Taken). told_by t c.args.conn (told_of (left_at c.self.inside.queues) c.self.inside.core.history) x) (sym c.hand_out.ensures.taken);
      failed = refl;
      fulls_are = refl;
    })
