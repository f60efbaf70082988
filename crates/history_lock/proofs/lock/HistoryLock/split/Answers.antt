use Rattle.std.proofs.Common.{rules, arith}
use Rattle.history_lock.proofs.Sharing.{allows_split, half_lasts}
use Rattle.history_lock.proofs.Holding.{splitting_kept, splitting_given}
use Rattle.history_lock.proofs.lock.HistoryLock.split.Goals as goal

pub split_seat-seat-requires : goal.split_seat-seat-requires
split_seat-seat-requires g c = let p = c.args.pass.now in (search rules, search rules, allows_split g.T.Keeps.content g.T.Keeps.step g.T.Keeps.loan _ p.seat.id p.seat.me.0 c.requires.idle p.unspent (half_lasts p.room c.args.room p.seat.me.0.view.share (omega arith) p.lasting).2)

pub invariant_of-pass : goal.invariant_of-pass
invariant_of-pass g c = let p = c.args.pass.now in
    let h = splitting_kept g.T.Keeps.content g.T.Keeps.step g.T.Keeps.loan p.seat.me c.split_seat-seat.new.seat.me p.slots p.unspent p.stand p.ascends c.split_seat-seat.ensures.2 in
    let room = half_lasts p.room c.args.room p.seat.me.0.view.share (omega arith) p.lasting in
    record { slots = h.slots; unspent = h.unspent; lasting = omega (arith, h.shared, room.0); stand = h.stand; ascends = h.ascends }

pub invariant_of-result : goal.invariant_of-result
invariant_of-result g c = let p = c.args.pass.now in
    let h = splitting_given g.T.Keeps.content g.T.Keeps.step g.T.Keeps.loan p.seat.me.0 c.split_seat-seat.result.me c.split_seat-seat.ensures.4 in
    let room = half_lasts p.room c.args.room p.seat.me.0.view.share (omega arith) p.lasting in
    record { slots = h.slots; unspent = h.unspent; lasting = omega (arith, h.shared, room.1); stand = h.stand; ascends = h.ascends }
