use Rattle.std.proofs.Common.{sym, subst, ap}
use Rattle.history_lock.specs.History.{Extends}
use Rattle.history_lock.proofs.Growing.{extends_self}
use Rattle.controller_desk.specs.Contents.{content_of}
use Rattle.controller_desk.proofs.Extending.{may_go, same_on}
use Rattle.run_book.proofs.book.Book.note.Goals as goal

pub leave-requires-clause-later : goal.leave-requires-clause-later
leave-requires-clause-later g c =
    subst (λ v. Extends v.seen (content_of g.D.Disk.faults c.note.new.self.store.value)) (sym c.enter-book.ensures.known)
    (subst (λ s. Extends (content_of g.D.Disk.faults c.enter-book.result.store.value) (content_of g.D.Disk.faults s.value)) (sym c.note.ensures) (extends_self _))

pub leave-requires-clause-step : goal.leave-requires-clause-step
leave-requires-clause-step g c =
    record { newest = c.enter-book.result; starts = c.enter-book.ensures.newest; next = same_on g.D.Disk.faults c.enter-book.result.store.value c.note.new.self.store.value (ap (λ s. s.value) c.note.ensures) }

pub leave-requires-clause-loan : goal.leave-requires-clause-loan
leave-requires-clause-loan g c = may_go _ _ c.enter-book.result c.enter-book.ensures.newest
