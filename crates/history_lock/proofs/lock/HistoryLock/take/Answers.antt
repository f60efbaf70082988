use Rattle.std.proofs.Common.{rules, Some, ap, sym, ◌∙◌, ◌∷◌}
use Rattle.atomic_table.specs.Table.{rest}
use Rattle.history_lock.proofs.Sharing.{allows_take}
use Rattle.history_lock.proofs.lock.HistoryLock.take.Goals as goal

pub compare_exchange-requires : goal.compare_exchange-requires
compare_exchange-requires g c = (search rules, search rules, allows_take g.T.Keeps.content g.T.Keeps.step g.T.Keeps.loan _ _ _ _ c.args.self.now.sized.1 c.requires.ready)

pub exchange-requires : goal.exchange-requires
exchange-requires g c = let t = c.compare_exchange.ensures.2.0 c.if-compare_exchange-eq0.true in
    (c.compare_exchange.ensures.0 ∙ c.requires.lock, (Some t.0, ap (λ m. m.1) t.1.is ∙ ap (λ l. (0, Some t.0) ∷ rest l) (sym (ap (λ m. m.1) t.1.is))))
