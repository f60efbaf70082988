use Rattle.std.proofs.Common.{rules, arith, ap, ◌∙◌}
use Rattle.history_lock.proofs.Sharing.{allows_join, allows_merge}
use Rattle.history_lock.proofs.Holding.{empty, joined}
use Rattle.history_lock.proofs.lock.HistoryLock.join.Goals as goal

pub join_seat-requires : goal.join_seat-requires
join_seat-requires g c = let p = c.args.pass.now in let o = c.args.other in let t = g.T.Keeps.content in
    (search rules, search rules, empty t g.T.Keeps.step g.T.Keeps.loan o.seat.me o.slots c.requires.idle.1, search rules, allows_join t g.T.Keeps.step g.T.Keeps.loan _ p.seat.id p.seat.me.0 o.seat.id o.seat.me.0 c.requires.idle.0 p.unspent c.requires.idle.1 o.unspent c.requires.empty)

pub load-requires : goal.load-requires
load-requires g c = let p = c.args.pass.now in let t = g.T.Keeps.content in let is = c.join_seat.ensures.2 in
    (search rules, search rules, allows_merge t g.T.Keeps.step g.T.Keeps.loan _ _ _ _ c.args.self.now.sized.1 (ap (λ m. m.0.view.has_turn) is ∙ c.requires.idle.0, ap (λ m. m.0.view.spent) is ∙ p.unspent, ap (λ m. m.1) is ∙ empty t g.T.Keeps.step g.T.Keeps.loan p.seat.me p.slots c.requires.idle.0))

pub invariant_of-pass : goal.invariant_of-pass
invariant_of-pass g c = let p = c.args.pass.now in let o = c.args.other in let t = g.T.Keeps.content in
    let h = joined t g.T.Keeps.step g.T.Keeps.loan p.seat.me o.seat.me.0 c.join_seat.new.seat.me c.load.new.seat.me p.slots c.requires.idle.0 p.stand p.ascends c.join_seat.ensures.2 c.load.ensures.2 in
    record { slots = h.slots; unspent = h.unspent; lasting = omega (arith, h.shared, p.lasting); stand = h.stand; ascends = h.ascends }
