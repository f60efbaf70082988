use Rattle.std.proofs.Common.{◌+◌, ◌<◌, ◌^◌, reverse, arith}
use Rattle.controller_desk.proofs.Taking.{set_opened}
use Rattle.serve_tests.proofs.controller.new_desk.Goals as goal

pub new-requires-4-clause-set : goal.new-requires-4-clause-set
new-requires-4-clause-set g c =
    let entries : c.in-Ok.store.limits.entries + 1 < 2 ^ 32 = rw c.in-Ok.ensures.limits (omega arith) in
    let bytes : c.in-Ok.store.limits.bytes < 2 ^ 32 = rw c.in-Ok.ensures.limits (omega arith) in
    (set_opened c.in-Ok.store (reverse c.in-Ok.ensures.history.list) 0 _ _ _ c.in-Ok.ensures.history.is c.in-Ok.ensures.mark entries bytes).0

pub new-requires-4-clause-fresh : goal.new-requires-4-clause-fresh
new-requires-4-clause-fresh g c =
    let entries : c.in-Ok.store.limits.entries + 1 < 2 ^ 32 = rw c.in-Ok.ensures.limits (omega arith) in
    let bytes : c.in-Ok.store.limits.bytes < 2 ^ 32 = rw c.in-Ok.ensures.limits (omega arith) in
    (set_opened c.in-Ok.store (reverse c.in-Ok.ensures.history.list) 0 _ _ _ c.in-Ok.ensures.history.is c.in-Ok.ensures.mark entries bytes).1
