use Rattle.std.proofs.Common.{arith, refl}
use Rattle.history_lock.proofs.Holding.{taking}
use Rattle.history_lock.proofs.lock.HistoryLock.enter.Goals as goal

pub invariant_of-pass : goal.invariant_of-pass
invariant_of-pass g c = let p = c.loop.pass in
    let h = taking g.T.Keeps.content g.T.Keeps.step g.T.Keeps.loan p.seat.me.0.view.share p.seat.me c.take.new.seat.me c.take.result (record { shared = refl; slots = p.slots; unspent = p.unspent; stand = p.stand; ascends = p.ascends }) c.take.ensures.took in
    record { slots = h.slots; unspent = h.unspent; lasting = omega (arith, h.shared, p.lasting); stand = h.stand; ascends = h.ascends }
