use Rattle.std.proofs.Common.{arith}
use Rattle.history_lock.proofs.Sharing.{allows_start, first_lasts}
use Rattle.history_lock.proofs.Holding.{starting}
use Rattle.history_lock.proofs.lock.HistoryLock.new.Goals as goal

pub new-requires : goal.new-requires
new-requires g c = rw (c.push_reserved.ensures.items, c.in_ok-slots.ensures.items, c.of-key.ensures) (allows_start g.T.Keeps.content g.T.Keeps.step g.T.Keeps.loan c.args.value)

pub invariant_of-result-in-Ok : goal.invariant_of-result-in-Ok
invariant_of-result-in-Ok g c = let h = starting g.T.Keeps.content g.T.Keeps.step g.T.Keeps.loan c.of-key.result.value c.in-Ok.seat.me c.in-Ok.ensures.ok.4 in
    let room = first_lasts c.args.passes c.requires.1 in
    record { slots = h.slots; unspent = h.unspent; lasting = omega (arith, h.shared, room); stand = h.stand; ascends = h.ascends }
