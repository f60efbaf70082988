use Rattle.std.proofs.Common.{◌+◌, ◌<◌, ◌^◌, reverse, arith}
use Rattle.controller_desk.proofs.Taking.{set_opened}
use Rattle.run_book.proofs.Saying.{said_open}
use Rattle.run_book.proofs.opening.open_store.Goals as goal

pub returns-in-Ok-clause-set : goal.returns-in-Ok-clause-set
returns-in-Ok-clause-set g c =
    let entries : c.in-Ok.store.limits.entries + 1 < 2 ^ 32 = rw c.in-Ok.ensures.limits (rw c.book_config.ensures (omega arith)) in
    let bytes : c.in-Ok.store.limits.bytes < 2 ^ 32 = rw c.in-Ok.ensures.limits (rw c.book_config.ensures (omega arith)) in
    (set_opened c.in-Ok.store (reverse c.in-Ok.ensures.history.list) 0 _ _ _ c.in-Ok.ensures.history.is c.in-Ok.ensures.mark entries bytes).0

pub returns-in-Ok-clause-fresh : goal.returns-in-Ok-clause-fresh
returns-in-Ok-clause-fresh g c =
    let entries : c.in-Ok.store.limits.entries + 1 < 2 ^ 32 = rw c.in-Ok.ensures.limits (rw c.book_config.ensures (omega arith)) in
    let bytes : c.in-Ok.store.limits.bytes < 2 ^ 32 = rw c.in-Ok.ensures.limits (rw c.book_config.ensures (omega arith)) in
    ((set_opened c.in-Ok.store (reverse c.in-Ok.ensures.history.list) 0 _ _ _ c.in-Ok.ensures.history.is c.in-Ok.ensures.mark entries bytes).1, c.in-Ok.ensures.fresh.2)

pub returns-in-Ok-clause-said : goal.returns-in-Ok-clause-said
returns-in-Ok-clause-said g c = ∣ said_open c.in-Ok.store.history (reverse c.in-Ok.ensures.history.list) 0 _ _ _ c.in-Ok.ensures.history.is ∣₁
