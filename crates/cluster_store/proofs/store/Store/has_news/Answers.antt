use Rattle.std.proofs.Common.{◌≡◌, ◌∙◌, sym, ap, subst, drop}
use Rattle.cluster_defs.specs.Lives.{sendings_to}
use Rattle.cluster_store.specs.Queues.{left_at, handed, is_news, released, after, is_none_left}
use Rattle.cluster_store.specs.Stores.{StoreView, answer, is_live, next_to}
use Rattle.cluster_store.specs.Held.{told_of}
use Rattle.cluster_store.proofs.Taking.{answers, get_first}
use Rattle.cluster_store.proofs.store.Store.has_news.Goals as goal

pub returns : goal.returns
returns g c =
    subst (λ (v : StoreView g.row.D.Denot). c.has_news.result ≡ is_news (answer (is_live v.history c.args.conn) v.mark (next_to v c.args.conn))) c.self.view_is
    (c.has_news.ensures
    ∙ ap (λ b. is_news (handed b (is_none_left (after c.self.inside.mark (left_at c.self.inside.queues c.args.conn))) (released c.self.inside.mark (left_at c.self.inside.queues c.args.conn)))) (c.is_live.ensures ∙ ap (λ (v : StoreView g.row.D.Denot). is_live v.history c.args.conn) (sym c.self.view_is))
    ∙ ap is_news (sym (answers (is_live c.self.inside.core.history c.args.conn) c.self.inside.mark (left_at c.self.inside.queues c.args.conn)
    (drop (told_of (left_at c.self.inside.queues) c.self.inside.core.history c.args.conn) (sendings_to c.self.inside.core.history c.args.conn)) (c.self.invariant.0.waiting.same c.args.conn))
    ∙ ap (answer (is_live c.self.inside.core.history c.args.conn) c.self.inside.mark)
    (sym (get_first (sendings_to c.self.inside.core.history c.args.conn) (told_of (left_at c.self.inside.queues) c.self.inside.core.history c.args.conn)))))
