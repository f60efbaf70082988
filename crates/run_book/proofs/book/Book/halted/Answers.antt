use Rattle.std.proofs.Common.{refl}
use Rattle.controller_desk.proofs.Extending.{may_go, same_on}
use Rattle.run_book.proofs.book.Book.halted.Goals as goal

pub leave-requires-clause-step : goal.leave-requires-clause-step
leave-requires-clause-step g c =
    record { newest = c.enter-book.result; starts = c.enter-book.ensures.newest; next = same_on g.D.Disk.faults c.enter-book.result.store.value c.enter-book.result.store.value refl }

pub leave-requires-clause-loan : goal.leave-requires-clause-loan
leave-requires-clause-loan g c = may_go _ _ c.enter-book.result c.enter-book.ensures.newest
